use Rattle.std.proofs.Common.{◌≡◌, ◌+◌, ◌++◌, ◌∙◌, ℕ, Option, ap, sym, subst, arith}
use Rattle.std.proofs.lemmas.Result.{err_from_is_err_and}
use Rattle.outcome_report.specs.Parts.{IsTop, part_text}
use Rattle.outcome_report.proofs.ShapeLemmas.{left_below, node_more, right_below, right_refused}
use Rattle.outcome_report.proofs.shape_line.+extend_part.Goals as goal

pub extend_part-requires : goal.extend_part-requires
extend_part-requires t c =
    let below = left_below c.args.shape.now c.in-Some.k c.args.top c.left.result c.in-Some.is c.left.ensures c.requires in
    (omega (arith, below.0, c.decreases), below.1)

pub extend_part-requires-2 : goal.extend_part-requires-2
extend_part-requires-2 t c =
    let below = right_below c.args.shape.now c.in-Some.k c.args.top c.right.result c.in-Some.is c.right.ensures c.requires in
    (omega (arith, below.0, c.decreases), below.1)

pub returns-in_err-extend_part-2 : goal.returns-in_err-extend_part-2
returns-in_err-extend_part-2 t c =
    let p = err_from_is_err_and c.from_residual-in_err-extend_part-2.result c.from_residual-in_err-extend_part-2.ensures.1 in
    rw (p.1)
    (right_refused c.args.out.now.items c.push.new.self.items c.extend_part.new.out.items c.push-2.new.self.items c.extend_part-2.new.out.items (part_text c.args.shape.now c.left.result c.from.result)
    c.in_ok-push.ensures.items c.in_ok-extend_part.ensures c.in_ok-push-2.ensures.items c.in_err-extend_part-2.ensures)

pub returns : goal.returns
returns t c =
    let shape = c.args.shape.now in
    let k = c.in-Some.k in
    let a = c.push.new.self.items in
    let b = c.extend_part.new.out.items in
    let mid = c.push-2.new.self.items in
    let d = c.extend_part-2.new.out.items in
    let more : c.from-2.result + 1 ≡ k + 1 = omega (arith, c.from-2.ensures) in
    node_more shape k c.args.strand (subst (IsTop shape) c.in-Some.is c.requires) c.args.out.now.items a b mid d c.push-3.new.self.items
    c.in_ok-push.ensures.items
    (c.in_ok-extend_part.ensures ∙ (λ j. a ++ part_text shape (c.left.ensures j) (c.from.ensures j)))
    c.in_ok-push-2.ensures.items
    (c.in_ok-extend_part-2.ensures ∙ (λ j. mid ++ part_text shape (c.right.ensures j) (more j)))
    c.in_ok-push-3.ensures.items
    ∙ ap (λ (o : Option ℕ). c.args.out.now.items ++ part_text shape o c.args.strand) (sym c.in-Some.is)
