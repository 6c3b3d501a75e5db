use Rattle.std.proofs.Common.{◌<◌, ◌∙◌, ap, sym, subst, length, Err, arith}
use Rattle.std.proofs.lemmas.Result.{err_from_is_err_and}
use Rattle.std.proofs.lemmas.List.{length-map}
use Rattle.word_runs.specs.Told.{IsAllowed}
use Rattle.word_runs.specs.Runs.{Live, step_word}
use Rattle.word_runs.specs.Lives.{live_of, lives_of, test_of, IsTestBelow}
use Rattle.word_runs.specs.declared.live.LiveWord.{LiveWord}
use Rattle.word_runs.specs.declared.fault.StepFault.TheVariants.{TooLarge}
use Rattle.word_runs.proofs.EachLemmas.{err_same, all_at, all_set, same_at, same_rest, each_more, each_fails, get_map}
use Rattle.word_runs.proofs.live.step_all.Goals as goal

pub step_one-requires-clause-allowed : goal.step_one-requires-clause-allowed
step_one-requires-clause-allowed g c =
    let e = g.E.Engine.told c.args.engine.now in
    let seen = g.E.Engine.seen c.args.engine.now in
    let there = sym (same_at c.loop-word.live c.args.live.now c.loop-word.word-index c.word-item.result c.loop-word.invariant.left) in
    subst (λ (l : LiveWord g.row.E-State.Denot). IsAllowed e c.args.step (e.shape (seen l.state))) there
    (all_at (λ (l : Live g.E.Engine.Seen). IsAllowed e c.args.step (e.shape l.state)) (live_of seen) c.args.live.now c.loop-word.word-index c.word-item.result c.loop-word-test.true c.requires.allowed)

pub step_one-requires-clause-place : goal.step_one-requires-clause-place
step_one-requires-clause-place g c =
    let seen = g.E.Engine.seen c.args.engine.now in
    let there = sym (same_at c.loop-word.live c.args.live.now c.loop-word.word-index c.word-item.result c.loop-word.invariant.left) in
    subst (λ (l : LiveWord g.row.E-State.Denot). IsTestBelow (length l.word.items) (test_of c.args.test)) there
    (all_at (λ (l : Live g.E.Engine.Seen). IsTestBelow (length l.word) (test_of c.args.test)) (live_of seen) c.args.live.now c.loop-word.word-index c.word-item.result c.loop-word-test.true c.requires.place)

pub returns-in_err-step_one-clause-too_large : goal.returns-in_err-step_one-clause-too_large
returns-in_err-step_one-clause-too_large g c e =
    let seen = g.E.Engine.seen c.args.engine.now in
    let h = step_word (g.E.Engine.told c.args.engine.now) (test_of c.args.test) c.args.step in
    let p = err_from_is_err_and c.from_residual.result c.from_residual.ensures.1 in
    let fails = c.in_err-step_one.ensures.too_large (ap Err (err_same c.from_residual.result c.in_err-step_one.field-0.0 TooLarge (p.1 ∙ ap Err p.2) e)) in
    each_fails h (lives_of seen c.args.live.now) c.loop-word.word-index (live_of seen c.word-item.result) (simp length-map c.loop-word-test.true)
    (ap h (get_map (live_of seen) c.args.live.now c.loop-word.word-index c.word-item.result ∙ ap (live_of seen) (sym (same_at c.loop-word.live c.args.live.now c.loop-word.word-index c.word-item.result c.loop-word.invariant.left))) ∙ fails)

pub loop-word-preserved : goal.loop-word-preserved
loop-word-preserved g c =
    let seen = g.E.Engine.seen c.args.engine.now in
    let h = step_word (g.E.Engine.told c.args.engine.now) (test_of c.args.test) c.args.step in
    let long : c.loop-word.word-index < length c.loop-word.live = omega arith in
    record {
      stepped = each_more (live_of seen) h c.args.live.now c.loop-word.live c.loop-word.word-index
          _ c.step_one.new.live c.loop-word-test.true long c.loop-word.invariant.left c.word-item.is (ap h (ap (live_of seen) c.word-item.is) ∙ c.in_ok-step_one.ensures.value) c.loop-word.invariant.stepped;
      of = all_set (λ (l : LiveWord g.row.E-State.Denot). g.E.Engine.Of c.args.engine.now l.state) c.loop-word.live c.loop-word.word-index c.step_one.new.live c.in_ok-step_one.ensures.of c.loop-word.invariant.of;
      left = same_rest c.loop-word.live c.args.live.now c.loop-word.word-index c.step_one.new.live c.loop-word.invariant.left;
    }
