use Rattle.std.proofs.Common.{subst, sym, arith}
use Rattle.tree_shapes.specs.Outlines.{raise_at}
use Rattle.tree_shapes.specs.Links.{AreLinks, rows_of}
use Rattle.tree_shapes.proofs.RaiseLinks.{is_top, ready_right, done_right, ready_left, done_left, shape_of, outline_is}
use Rattle.tree_shapes.proofs.shape.Shape.raise.Goals as goal

pub returns-then-p-eq0 : goal.returns-then-p-eq0
returns-then-p-eq0 c =
    let rows = rows_of c.self.inside.left c.self.inside.right c.self.inside.parent in
    let is = subst (AreLinks c.self.inside.leaves rows) c.self.view_is c.self.invariant.links in
    sym (is_top c.self.inside.leaves c.self.invariant.few rows c.args.self.now is c.args.k c.requires.some c.requires.gap c.if-p-eq0.true)

pub turn_right-requires-clause-ready : goal.turn_right-requires-clause-ready
turn_right-requires-clause-ready c =
    let rows = rows_of c.self.inside.left c.self.inside.right c.self.inside.parent in
    let is = subst (AreLinks c.self.inside.leaves rows) c.self.view_is c.self.invariant.links in
    ready_right c.self.inside.leaves c.self.invariant.few rows c.args.self.now is c.args.k c.requires.some c.requires.gap c.if-k-p.true

pub invariant_of-self : goal.invariant_of-self
invariant_of-self c =
    let rows = rows_of c.self.inside.left c.self.inside.right c.self.inside.parent in
    let new = rows_of c.turn_right.new.left c.turn_right.new.right c.turn_right.new.parent in
    let is = subst (AreLinks c.self.inside.leaves rows) c.self.view_is c.self.invariant.links in
    shape_of c.self.inside.leaves new (raise_at c.args.k c.args.self.now 0) c.self.invariant.some c.self.invariant.few
    (done_right c.self.inside.leaves c.self.invariant.few rows c.args.self.now is c.args.k c.requires.some c.requires.gap c.if-k-p.true new c.turn_right.ensures)

pub returns-then-k-p : goal.returns-then-k-p
returns-then-k-p c =
    let rows = rows_of c.self.inside.left c.self.inside.right c.self.inside.parent in
    let new = rows_of c.turn_right.new.left c.turn_right.new.right c.turn_right.new.parent in
    let is = subst (AreLinks c.self.inside.leaves rows) c.self.view_is c.self.invariant.links in
    outline_is c.self.inside.leaves new (raise_at c.args.k c.args.self.now 0)
    (done_right c.self.inside.leaves c.self.invariant.few rows c.args.self.now is c.args.k c.requires.some c.requires.gap c.if-k-p.true new c.turn_right.ensures)

pub turn_left-requires-clause-ready : goal.turn_left-requires-clause-ready
turn_left-requires-clause-ready c =
    let rows = rows_of c.self.inside.left c.self.inside.right c.self.inside.parent in
    let is = subst (AreLinks c.self.inside.leaves rows) c.self.view_is c.self.invariant.links in
    ready_left c.self.inside.leaves c.self.invariant.few rows c.args.self.now is c.args.k c.requires.some c.requires.gap (omega (arith, c.if-p-eq0.false)) c.if-k-p.false

pub invariant_of-self-else-k-p : goal.invariant_of-self-else-k-p
invariant_of-self-else-k-p c =
    let rows = rows_of c.self.inside.left c.self.inside.right c.self.inside.parent in
    let new = rows_of c.turn_left.new.left c.turn_left.new.right c.turn_left.new.parent in
    let is = subst (AreLinks c.self.inside.leaves rows) c.self.view_is c.self.invariant.links in
    shape_of c.self.inside.leaves new (raise_at c.args.k c.args.self.now 0) c.self.invariant.some c.self.invariant.few
    (done_left c.self.inside.leaves c.self.invariant.few rows c.args.self.now is c.args.k c.requires.some c.requires.gap (omega (arith, c.if-p-eq0.false)) c.if-k-p.false new c.turn_left.ensures)

pub returns-else-k-p : goal.returns-else-k-p
returns-else-k-p c =
    let rows = rows_of c.self.inside.left c.self.inside.right c.self.inside.parent in
    let new = rows_of c.turn_left.new.left c.turn_left.new.right c.turn_left.new.parent in
    let is = subst (AreLinks c.self.inside.leaves rows) c.self.view_is c.self.invariant.links in
    outline_is c.self.inside.leaves new (raise_at c.args.k c.args.self.now 0)
    (done_left c.self.inside.leaves c.self.invariant.few rows c.args.self.now is c.args.k c.requires.some c.requires.gap (omega (arith, c.if-p-eq0.false)) c.if-k-p.false new c.turn_left.ensures)
