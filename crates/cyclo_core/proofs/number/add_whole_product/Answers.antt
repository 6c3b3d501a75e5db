use Rattle.std.proofs.Common.{rules, ◌≡◌, ◌≤◌, ◌^◌, ℕ}
use Rattle.std.specs.Prelude.{unsigned_abs}
use Rattle.poly_core.specs.Table.{at}
use Rattle.cyclo_core.proofs.NumberLemmas.{number_over_one, past_members}
use Rattle.cyclo_core.proofs.WholeLemmas.{IsAddedTo, added_given, added_member}
use Rattle.cyclo_core.proofs.number.add_whole_product.Goals as goal

over_one : (c : goal.After-add_all) → c.sum.inside.denominator ≡ 1
over_one c = search rules

is_added : (c : goal.After-add_all) → IsAddedTo c.args.powers.now c.sum.inside.numerators c.x.inside.numerators c.y.inside.numerators c.in-Some.product c.add_all.new.x
is_added c =
    let member = rw (← c.sum.view_is) at c.requires in
    let is = c.in-Some.ensures in
    let room : (j : ℕ) → unsigned_abs (at c.sum.inside.numerators j) ≤ 2 ^ 126 = search rules in
    record {
      full = search rules;
      filled = search rules;
      fits = is.fits;
      value = is.value;
      rest = is.rest;
      small = is.small;
      room = room;
      past = past_members c.args.powers.now _ member;
      sum = c.add_all.ensures.value;
    }

pub invariant_of-sum : goal.invariant_of-sum
invariant_of-sum c = number_over_one c.add_all.new.x c.sum.inside.denominator (over_one c) c.add_all.ensures.small

pub returns-clause-value : goal.returns-clause-value
returns-clause-value c = λ h.
    rw (← c.sum.view_is, ← c.x.view_is, ← c.y.view_is)
    (added_given c.args.powers.now c.sum.inside.denominator c.x.inside.denominator c.y.inside.denominator _ _ _ _ _ (over_one c) (search rules) (search rules) (is_added c))

pub returns-clause-member : goal.returns-clause-member
returns-clause-member c = added_member c.args.powers.now c.sum.inside.denominator _ _ _ _ _ (over_one c) (is_added c)
