use Rattle.std.proofs.Common.{◌≡◌, ◌<◌, ◌∙◌, ℕ, List, Bool, not, ap, sym, arith, slice_index, slice_set}
use Rattle.std.specs.Prelude.{is_some}
use Rattle.std.specs.List.{list_all}
use Rattle.comb_laws.specs.Paths.{labels}
use Rattle.comb_run.specs.Entries.{entry_at}
use Rattle.comb_run.proofs.PartLemmas.{labels_fail}
use Rattle.comb_run.proofs.vector.CombVector.is_first.Goals as goal

pub returns-then-has : goal.returns-then-has
returns-then-has g c =
    let x = c.args.path.now.items in
    let end = ap (λ (xs : List ℕ). slice_index xs c.args.k) c.as_slice.ensures.value in
    let low : c.loop-label.label < slice_index x c.args.k = omega (arith, end) in
    sym (labels_fail (λ m. not (is_some (entry_at c.args.strands.now c.args.self.now (slice_set x c.args.k m)))) (slice_index x c.args.k) c.loop-label.label low
    (ap (λ (y : List ℕ). not (is_some (entry_at c.args.strands.now c.args.self.now y))) (sym c.with_label.ensures) ∙ ap (λ (b : Bool). not b) (sym c.has.ensures ∙ c.if-has.true)))

pub returns : goal.returns
returns g c =
    let x = c.args.path.now.items in
    let end = ap (λ (xs : List ℕ). slice_index xs c.args.k) c.as_slice.ensures.value in
    let same : slice_index x c.args.k ≡ c.loop-label.label = omega (arith, end) in
    sym (ap (λ (n : ℕ). list_all (λ m. not (is_some (entry_at c.args.strands.now c.args.self.now (slice_set x c.args.k m)))) (labels n)) same ∙ c.loop-label.invariant)
