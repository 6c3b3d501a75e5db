use Rattle.std.proofs.Common.{ℕ, subst}
use Rattle.ring_laws.specs.Stated.{Gives, product3_at}
use Rattle.category_images.specs.Answers.{symbols_of_root}
use Rattle.category_images.proofs.mirrored.inverse_twist.Goals as goal

pub returns-clause-stated : goal.returns-clause-stated
returns-clause-stated c =
    let symbols = symbols_of_root c.args.from.now in
    let given = rw (c.ring.ensures, c.r_at.ensures.value, c.r_at-2.ensures.value, c.twist.ensures.value, c.draft-draft.ensures.draft) at c.product3.ensures.value in
    let dual = rw (c.rules.ensures, c.draft-draft.ensures.draft) at c.dual-dual.ensures.value in
    subst (λ (x : ℕ). Gives c.product3.result (product3_at symbols.ring (symbols.r c.args.a x 0) (symbols.r x c.args.a 0) (symbols.twist x))) dual given
