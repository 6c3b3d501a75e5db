use Rattle.std.proofs.Common.{◌+◌, get_or, drop, ap, sym, subst, ◌∙◌}
use Rattle.std.specs.List.{AllByRecursion}
use Rattle.std.proofs.lemmas.List.{drop_all}
use Rattle.word_runs.specs.Told.{IsGap}
use Rattle.word_runs.specs.Runs.{raises_of}
use Rattle.word_runs.specs.Lives.{lives_of}
use Rattle.word_runs.proofs.EachLemmas.{next_item}
use Rattle.word_runs.proofs.TurnLemmas.{Pairs, path_gaps, all_pairs, raised_pairs, raised_left}
use Rattle.word_runs.proofs.turn.settle.Goals as goal

pub loop-gap-init : goal.loop-gap-init
loop-gap-init g c =
    let e = g.E.Engine.told c.args.engine.now in
    let shapes = g.met.E.Engine.shapes c.args.engine.now in
    let live = lives_of (g.E.Engine.seen c.args.engine.now) c.args.live.now in
    let path = sym (c.as_slice-gap-items.ensures.value ∙ c.in_ok-path.ensures) in
    record {
      of = c.requires.of;
      alike = λ m h. h;
      gaps = subst (AllByRecursion (IsGap e)) path (path_gaps e shapes c.args.k live c.requires.gap);
      pair = subst (λ p. Pairs e shapes c.args.k p live) path (all_pairs e shapes c.args.k c.requires.alike.1.shape live c.requires.gap c.requires.alike.1.same);
      left = ap (λ p. raises_of e c.args.turn p live) (sym path);
    }

pub raise-requires-clause-alike : goal.raise-requires-clause-alike
raise-requires-clause-alike g c = (c.requires.alike.0, c.loop-gap.invariant.alike c.requires.alike.0 c.requires.alike.1)

pub raise-requires-clause-gap : goal.raise-requires-clause-gap
raise-requires-clause-gap g c =
    (subst (AllByRecursion (IsGap (g.E.Engine.told c.args.engine.now))) (next_item c.as_slice-gap-items.result.now c.loop-gap.gap-index 0 c.loop-gap-test.true) c.loop-gap.invariant.gaps).0

pub loop-gap-preserved : goal.loop-gap-preserved
loop-gap-preserved g c =
    let e = g.E.Engine.told c.args.engine.now in
    let shapes = g.met.E.Engine.shapes c.args.engine.now in
    let path = c.as_slice-gap-items.result.now in
    let i = c.loop-gap.gap-index in
    let next = next_item path i 0 c.loop-gap-test.true in
    let old = lives_of (g.E.Engine.seen c.args.engine.now) c.loop-gap.live in
    let new = lives_of (g.E.Engine.seen c.args.engine.now) c.raise.new.live in
    record {
      of = c.in_ok-raise.ensures.of;
      alike = λ m h. c.in_ok-raise.ensures.alike m (c.loop-gap.invariant.alike m h);
      gaps = (subst (AllByRecursion (IsGap e)) next c.loop-gap.invariant.gaps).1;
      pair = raised_pairs e shapes c.args.k c.args.turn (get_or path i 0) (drop (i + 1) path) old new c.in_ok-raise.ensures.stated (subst (λ p. Pairs e shapes c.args.k p old) next c.loop-gap.invariant.pair);
      left = raised_left e shapes c.args.k c.args.turn (get_or path i 0) (drop (i + 1) path) old new _ c.in_ok-raise.ensures.stated (ap (λ p. raises_of e c.args.turn p old) (sym next) ∙ c.loop-gap.invariant.left);
    }

pub returns-clause-pair : goal.returns-clause-pair
returns-clause-pair g c =
    let e = g.E.Engine.told c.args.engine.now in
    let shapes = g.met.E.Engine.shapes c.args.engine.now in
    subst (λ p. Pairs e shapes c.args.k p (lives_of (g.E.Engine.seen c.args.engine.now) c.loop-gap.live)) (drop_all c.loop-gap.gap-index c.as_slice-gap-items.result.now c.loop-gap-test.false) c.loop-gap.invariant.pair
