use Rattle.std.proofs.Common.{◌≡◌, ◌<◌, ◌≤◌, [], length, get_or, subst, sym, ap, ◌∙◌, arith, refl, inl, inr, length-set, get_or-set_other, get_or-set_same}
use Rattle.std.specs.Prelude.{set, unsigned_abs}
use Rattle.std.proofs.lemmas.Bool.{cases_eq}
use Rattle.poly_core.specs.Combination.{Sequence}
use Rattle.poly_core.proofs.RhoLemmas.{accepted_small, degree_small, degree_positive, rho_tiny}
use Rattle.poly_core.proofs.PowerLemmas.{first_row, low_length, low_tiny, rho_after}
use Rattle.poly_core.proofs.power.rows_of.Goals as goal

pub loop-k-init : goal.loop-k-init
loop-k-init c = record { row = first_row c.args.n; rows = λ i lt. absurd (omega arith); len = refl }

pub bounds-rows-k : goal.bounds-rows-k
bounds-rows-k c = omega (arith, accepted_small c.args.n c.requires.accepted, c.from-k-end.ensures)

pub next_power-row-requires-clause-some : goal.next_power-row-requires-clause-some
next_power-row-requires-clause-some c = omega (arith, ap length c.requires.low, low_length c.args.n, degree_positive c.args.n)

pub next_power-row-requires-clause-few : goal.next_power-row-requires-clause-few
next_power-row-requires-clause-few c = omega (arith, ap length c.requires.low, low_length c.args.n, degree_small c.args.n)

pub next_power-row-requires-clause-row : goal.next_power-row-requires-clause-row
next_power-row-requires-clause-row c =
    λ j. subst (λ (f : Sequence). unsigned_abs (f j) ≤ 1) (sym c.loop-k.invariant.row) (rho_tiny c.args.n c.loop-k.k j)

pub next_power-row-requires-clause-low : goal.next_power-row-requires-clause-low
next_power-row-requires-clause-low c =
    λ j lt. rw c.requires.low (low_tiny c.args.n j (omega (arith, ap length c.requires.low, low_length c.args.n)))

pub loop-k-preserved : goal.loop-k-preserved
loop-k-preserved c =
    let inv = c.loop-k.invariant in
    let k = c.loop-k.k in
    let n = c.args.n in
    let in_rows : k < length c.loop-k.rows = omega (arith, accepted_small n c.requires.accepted, c.from-k-end.ensures, inv.len) in
    record {
      row = rho_after n k c.loop-k.row c.next_power-row.result c.args.low.now c.requires.low inv.row c.next_power-row.ensures.value c.next_power-row.ensures.rest;
      rows = λ i lt. elim (cases_eq i k) [
        | inl e ↦
            let same : get_or (set c.loop-k.rows k c.loop-k.row) i [] ≡ c.loop-k.row = rw e (get_or-set_same _ _ _ _ in_rows) in
            rw (same, e) inv.row
        | inr ne ↦ rw get_or-set_other (inv.rows i (omega arith))
      ];
      len = length-set _ _ _ ∙ inv.len;
    }
