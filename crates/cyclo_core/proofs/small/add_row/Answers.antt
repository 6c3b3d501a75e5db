use Rattle.std.proofs.Common.{rules, ◌≡◌, ◌+◌, ◌*◌, ◌^◌, ◌≤◌, arith, ap, sym, ◌∙◌, refl, subst, inl, inr}
use Rattle.std.specs.Prelude.{◌+ℤ◌, unsigned_abs, pos}
use Rattle.std.proofs.lemmas.Bool.{cases_eq}
use Rattle.std.proofs.Math.Nat.{le_refl}
use Rattle.poly_core.specs.Table.{at}
use Rattle.cyclo_core.specs.Convolution.{row_term, weighed}
use Rattle.cyclo_core.specs.Sums.{int_sum}
use Rattle.cyclo_core.proofs.SmallLemmas.{none_yet, one_more, here_fits, same_bound, row_none, row_cut}
use Rattle.cyclo_core.proofs.small.add_row.Goals as goal

pub loop-b-init : goal.loop-b-init
loop-b-init c = record {
  value = λ r. none_yet (weighed c.args.c.now r) (row_term (at c.args.x.now c.args.a) (at c.args.y.now) r c.args.a);
  done = λ k. let room = c.requires.room k in omega (arith, room);
  ahead = λ k h. c.requires.room k;
  past = λ k h. refl;
  len = search rules;
}

pub loop-b-preserved : goal.loop-b-preserved
loop-b-preserved c = record {
  value = λ r. c.add_at.ensures.value r ∙ one_more _ (weighed c.args.c.now r) _ (row_term (at c.args.x.now c.args.a) (at c.args.y.now) r c.args.a) c.loop-b.b (c.loop-b.invariant.value r) refl;
  done = λ k. elim (cases_eq k (c.args.a + c.loop-b.b)) [
    | inl e ↦ subst (λ i. unsigned_abs (at c.add_at.new.c i) ≤ (c.args.a + 1) * 2 ^ 52) (sym e) (here_fits (at c.add_at.new.c (c.args.a + c.loop-b.b)) (at c.loop-b.c (c.args.a + c.loop-b.b)) c.args.a c.add_at.ensures.here (c.loop-b.invariant.ahead (c.args.a + c.loop-b.b) (le_refl _)))
    | inr ne ↦ same_bound _ _ _ (c.add_at.ensures.other k ne) (c.loop-b.invariant.done k)
  ];
  ahead = λ k h. same_bound _ _ _ (c.add_at.ensures.other k (omega (arith, h))) (c.loop-b.invariant.ahead k (omega (arith, h)));
  past = λ k h. c.add_at.ensures.other k (omega (arith, h)) ∙ c.loop-b.invariant.past k (omega (arith, h));
  len = search rules;
}

pub returns-clause-value : goal.returns-clause-value
returns-clause-value c =
    let at_end : c.loop-b.b ≡ c.args.end = search rules in
    λ r. c.loop-b.invariant.value r ∙ ap (λ z. weighed c.args.c.now r +ℤ z)
    (ap (λ n. int_sum n (row_term (at c.args.x.now c.args.a) (at c.args.y.now) r c.args.a)) at_end ∙ row_cut c.args.end c.args.a (at c.args.x.now) (at c.args.y.now) r c.requires.few c.requires.ends)

pub returns-then-x-a-eq0-clause-value : goal.returns-then-x-a-eq0-clause-value
returns-then-x-a-eq0-clause-value c =
    let nothing : at c.args.x.now c.args.a ≡ pos 0 = search rules in
    λ r. row_none (at c.args.x.now) (at c.args.y.now) r c.args.a (weighed c.args.c.now r) nothing
