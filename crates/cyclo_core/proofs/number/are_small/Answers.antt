use Rattle.std.proofs.Common.{◌≡◌, ◌≤◌, ◌<◌, ◌^◌, ◌-◌, ℕ, false, sym, ◌∙◌, arith, rules}
use Rattle.std.specs.Prelude.{unsigned_abs}
use Rattle.std.proofs.lemmas.Bool.Decides.{nat_tests}
use Rattle.poly_core.specs.Table.{at}
use Rattle.cyclo_core.proofs.GivenLemmas.{large_at, small_under, same_test}
use Rattle.cyclo_core.proofs.number.are_small.Goals as goal

pub returns-then-not-is_small : goal.returns-then-not-is_small
returns-then-not-is_small c =
    let large : c.is_small.result ≡ false = first_of (search rules, grind (arith, nat_tests)) in
    sym (large_at c.args.nums.now c.args.den.now c.loop-j.j (omega arith) (λ h. let yes = c.is_small.ensures.1 h in cc))

pub returns : goal.returns
returns c =
    let all : (j : ℕ) → j < 16 → unsigned_abs (at c.args.nums.now j) ≤ 2 ^ 127 - 1 = λ j lt. c.loop-j.invariant j (omega arith) in
    same_test c.is_small-2.result _ c.is_small-2.ensures ∙ sym (small_under c.args.nums.now c.args.den.now all)
