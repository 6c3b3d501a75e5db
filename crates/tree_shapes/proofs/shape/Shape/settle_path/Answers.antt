use Rattle.std.proofs.Common.{subst}
use Rattle.tree_shapes.specs.Links.{AreLinks, rows_of}
use Rattle.tree_shapes.proofs.SettleLinks.{Settled, first_gaps, last_gaps, first_chain, last_chain, room_first, room_last, settled}
use Rattle.tree_shapes.proofs.shape.Shape.settle_path.Goals as goal

pub follow-requires-clause-chain : goal.follow-requires-clause-chain
follow-requires-clause-chain c =
    let rows = rows_of c.self.inside.left c.self.inside.right c.self.inside.parent in
    let n = c.self.inside.leaves in
    let few = c.self.invariant.few in
    let t = c.args.self.now in
    let is = subst (AreLinks n rows) c.self.view_is c.self.invariant.links in
    let k = c.args.k in
    let some = c.requires.some in
    let gap = c.requires.gap in
    (first_gaps n few rows t is k some gap, first_chain n few rows t is k some gap, room_first n few rows t is k some gap c.new-path.result.items c.new-path.ensures)

pub follow-requires-2-clause-chain : goal.follow-requires-2-clause-chain
follow-requires-2-clause-chain c =
    let rows = rows_of c.self.inside.left c.self.inside.right c.self.inside.parent in
    let n = c.self.inside.leaves in
    let few = c.self.invariant.few in
    let t = c.args.self.now in
    let is = subst (AreLinks n rows) c.self.view_is c.self.invariant.links in
    let k = c.args.k in
    let some = c.requires.some in
    let gap = c.requires.gap in
    let first = c.follow.ensures (first_gaps n few rows t is k some gap) (first_chain n few rows t is k some gap) in (
      last_gaps n few rows t is k some gap,
      last_chain n few rows t is k some gap,
      room_last n few rows t is k some gap c.new-path.result.items c.new-path.ensures c.follow.new.path.items first,
    )

-- what the calls have appended
walked : (c : goal.After-follow-2) → Settled c.args.self.now c.args.k c.follow-2.new.path.items
walked c =
    let rows = rows_of c.self.inside.left c.self.inside.right c.self.inside.parent in
    let n = c.self.inside.leaves in
    let few = c.self.invariant.few in
    let t = c.args.self.now in
    let is = subst (AreLinks n rows) c.self.view_is c.self.invariant.links in
    let k = c.args.k in
    let some = c.requires.some in
    let gap = c.requires.gap in
    settled n few rows t is k some gap c.new-path.result.items c.new-path.ensures c.follow.new.path.items
    (c.follow.ensures (first_gaps n few rows t is k some gap) (first_chain n few rows t is k some gap))
    c.follow-2.new.path.items (c.follow-2.ensures (last_gaps n few rows t is k some gap) (last_chain n few rows t is k some gap))

pub returns-clause-value : goal.returns-clause-value
returns-clause-value c = let w = walked c in w.value

pub returns-clause-settles : goal.returns-clause-settles
returns-clause-settles c = let w = walked c in w.settles

pub returns-clause-few : goal.returns-clause-few
returns-clause-few c = let w = walked c in w.few
