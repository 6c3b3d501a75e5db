use Rattle.std.proofs.Common.{◌≡◌, ◌<◌, ◌-◌, arith, sym, ap, ◌∙◌}
use Rattle.std.proofs.lemmas.Result.{err_from_is_err_and}
use Rattle.std.proofs.lemmas.List.{length_push}
use Rattle.std.proofs.lemmas.List.Elements.{All-push}
use Rattle.fusion_rules.specs.Fusion.{Fusion}
use Rattle.symbol_table.specs.Draft.{given}
use Rattle.derive_symbols.proofs.WalkLemmas.{stuck_fills, one_more, walk_stops, walk_ends}
use Rattle.derive_symbols.proofs.walk.+derive_more.Goals as goal

pub returns-then-not-goes_on : goal.returns-then-not-goes_on
returns-then-not-goes_on g t c =
    stuck_fills (g.R.StarRing.ring c.args.draft.now.ring) g.R.StarRing.held (given c.args.draft.now) (tt {0}) c.args.symbol c.args.more c.args.index c.args.derived.now
    (rw (c.rules.ensures, c.as_slice.ensures.value) at (sym c.goes_on.ensures ∙ c.if-not-goes_on.true))

pub derive_more-requires : goal.derive_more-requires
derive_more-requires g t c =
    let few : c.loop-t.t < c.args.draft.now.rules.count = omega (arith, c.count-t-end.ensures.count, ap (λ (r : Fusion). r.count) c.rules-2.ensures) in
    λ κs lives. (
      omega arith,
      (
        lives.0,
        (
          lives.1,
          (
            rw c.with.ensures (omega (arith, length_push c.args.index c.loop-t.t)),
            rw c.with.ensures (All-push (λ x. x < c.args.draft.now.rules.count) c.args.index c.loop-t.t c.requires.labels few),
          ),
        ),
      ),
    )

pub returns-in_err-derive_more : goal.returns-in_err-derive_more
returns-in_err-derive_more g t c =
    let few : c.loop-t.t < c.args.draft.now.rules.count = omega (arith, c.count-t-end.ensures.count, ap (λ (r : Fusion). r.count) c.rules-2.ensures) in
    let p = err_from_is_err_and c.from_residual.result c.from_residual.ensures.1 in
    rw (p.1, p.2)
    (walk_stops (g.R.StarRing.ring c.args.draft.now.ring) g.R.StarRing.held (given c.args.draft.now) c.args.symbol c.args.more c.args.index c.args.derived.now c.loop-t.t c.loop-t.derived _
    c.if-more-eq0.false few c.loop-t.invariant (rw c.with.ensures at c.in_err-derive_more.ensures))

pub loop-t-preserved : goal.loop-t-preserved
loop-t-preserved g t c =
    let few : c.loop-t.t < c.args.draft.now.rules.count = omega (arith, c.count-t-end.ensures.count, ap (λ (r : Fusion). r.count) c.rules-2.ensures) in
    one_more (g.R.StarRing.ring c.args.draft.now.ring) g.R.StarRing.held (given c.args.draft.now) c.args.symbol (c.args.more - 1) c.args.index c.args.derived.now (tt {0}) c.loop-t.t c.loop-t.derived c.derive_more.new.derived
    few c.loop-t.invariant (rw c.with.ensures at c.in_ok-derive_more.ensures)

pub returns : goal.returns
returns g t c =
    let all : c.loop-t.t ≡ c.args.draft.now.rules.count = omega (arith, c.count-t-end.ensures.count, ap (λ (r : Fusion). r.count) c.rules-2.ensures) in
    walk_ends (g.R.StarRing.ring c.args.draft.now.ring) g.R.StarRing.held (given c.args.draft.now) (tt {0}) c.args.symbol c.args.more c.args.index c.args.derived.now c.loop-t.t c.loop-t.derived
    c.if-more-eq0.false all c.loop-t.invariant
