use Rattle.std.proofs.Common.{◌≡◌, ◌+◌, ◌<◌, [], ◌++◌, length, slice_index, sym, ap, ◌∙◌, arith}
use Rattle.std.proofs.lemmas.List.{append-nil}
use Rattle.tree_shapes.specs.declared.limits.TheConstants.{SETTLE_LIMIT, STRAND_LIMIT}
use Rattle.tree_shapes.proofs.ChainLemmas.{goes_on, chain_ends, room_left, moved_on}
use Rattle.tree_shapes.proofs.shape.follow.Goals as goal

pub push-requires : goal.push-requires
push-requires c =
    let h = c.loop-gap.invariant c.requires.chain.0 c.requires.chain.1 in
    let on = goes_on (slice_index c.args.row.now) c.loop-gap.gap h.0 (λ e. omega (arith, e, c.loop-gap-test.true)) h.1 in
    let room : length c.loop-gap.path.items < SETTLE_LIMIT = room_left c.loop-gap.path.items c.args.path.now.items h.0 c.requires.chain.0 on.rest c.loop-gap.gap SETTLE_LIMIT on.is h.2 c.requires.chain.2 in
    (omega arith, room)

pub bounds-row-gap : goal.bounds-row-gap
bounds-row-gap c =
    let h = c.loop-gap.invariant c.requires.chain.0 c.requires.chain.1 in
    let on = goes_on (slice_index c.args.row.now) c.loop-gap.gap h.0 (λ e. omega (arith, e, c.loop-gap-test.true)) h.1 in
    let low : c.loop-gap.gap < STRAND_LIMIT = on.low in
    omega (arith, c.requires.long)

pub loop-gap-smaller : goal.loop-gap-smaller
loop-gap-smaller c =
    let h = c.loop-gap.invariant c.requires.chain.0 c.requires.chain.1 in
    let on = goes_on (slice_index c.args.row.now) c.loop-gap.gap h.0 (λ e. omega (arith, e, c.loop-gap-test.true)) h.1 in
    let room : length c.loop-gap.path.items < SETTLE_LIMIT = room_left c.loop-gap.path.items c.args.path.now.items h.0 c.requires.chain.0 on.rest c.loop-gap.gap SETTLE_LIMIT on.is h.2 c.requires.chain.2 in
    let longer : length c.push.new.self.items ≡ length c.loop-gap.path.items + 1 = c.push.ensures.len in
    omega arith

pub loop-gap-preserved : goal.loop-gap-preserved
loop-gap-preserved c gaps chain =
    let h = c.loop-gap.invariant gaps chain in
    let on = goes_on (slice_index c.args.row.now) c.loop-gap.gap h.0 (λ e. omega (arith, e, c.loop-gap-test.true)) h.1 in
    (on.rest, on.chain, moved_on c.loop-gap.path.items c.push.new.self.items c.args.path.now.items gaps h.0 on.rest c.loop-gap.gap c.push.ensures.items on.is h.2)

pub returns : goal.returns
returns c gaps chain =
    let h = c.loop-gap.invariant gaps chain in
    let none : h.0 ≡ [] = chain_ends (slice_index c.args.row.now) c.loop-gap.gap h.0 (omega (arith, c.loop-gap-test.false)) h.1 in
    sym (append-nil c.loop-gap.path.items) ∙ (ap (λ xs. c.loop-gap.path.items ++ xs) (sym none) ∙ h.2)
