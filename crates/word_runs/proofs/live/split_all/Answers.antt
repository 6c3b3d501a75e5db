use Rattle.std.proofs.Common.{◌≡◌, ◌<◌, ◌∙◌, true, ap, sym, length, Err}
use Rattle.std.proofs.lemmas.Result.{err_from_is_err_and}
use Rattle.std.proofs.lemmas.List.{length-map}
use Rattle.word_runs.specs.Runs.{Live, split_word}
use Rattle.word_runs.specs.Lives.{live_of, lives_of}
use Rattle.word_runs.specs.declared.fault.StepFault.TheVariants.{TooLarge}
use Rattle.word_runs.proofs.EachLemmas.{all_item, err_same, get_map}
use Rattle.word_runs.proofs.SplitLemmas.{split_more, split_fails}
use Rattle.word_runs.proofs.live.split_all.Goals as goal

pub split_one-requires-clause-pair : goal.split_one-requires-clause-pair
split_one-requires-clause-pair g c =
    let e = g.E.Engine.told c.args.engine.now in
    all_item (λ (l : Live g.E.Engine.Seen). e.is_pair c.args.k (e.shape l.state) ≡ true) (live_of (g.E.Engine.seen c.args.engine.now)) c.args.live.now c.loop-word.word-index c.word-item.result c.loop-word-test.true c.word-item.is c.requires.pair

pub split_one-requires-clause-place : goal.split_one-requires-clause-place
split_one-requires-clause-place g c =
    all_item (λ (l : Live g.E.Engine.Seen). c.args.place < length l.word) (live_of (g.E.Engine.seen c.args.engine.now)) c.args.live.now c.loop-word.word-index c.word-item.result c.loop-word-test.true c.word-item.is c.requires.place

pub returns-in_err-split_one-clause-too_large : goal.returns-in_err-split_one-clause-too_large
returns-in_err-split_one-clause-too_large g c e =
    let seen = g.E.Engine.seen c.args.engine.now in
    let told = g.E.Engine.told c.args.engine.now in
    let h = split_word told c.args.k c.args.place in
    let p = err_from_is_err_and c.from_residual.result c.from_residual.ensures.1 in
    let fails = c.in_err-split_one.ensures.too_large (ap Err (err_same c.from_residual.result c.in_err-split_one.field-0.0 TooLarge (p.1 ∙ ap Err p.2) e)) in
    split_fails told c.args.k c.args.place (lives_of seen c.args.live.now) c.loop-word.word-index (live_of seen c.word-item.result) (simp length-map c.loop-word-test.true)
    (ap h (get_map (live_of seen) c.args.live.now c.loop-word.word-index c.word-item.result ∙ ap (live_of seen) (sym c.word-item.is)) ∙ fails)

pub loop-word-preserved : goal.loop-word-preserved
loop-word-preserved g c =
    let seen = g.E.Engine.seen c.args.engine.now in
    let value = c.in_ok-split_one.ensures.value in
    record {
      value = split_more (g.E.Engine.told c.args.engine.now) c.args.k c.args.place (live_of seen) c.args.live.now c.loop-word.word-index c.word-item.result
          (lives_of seen c.loop-word.next.items) (lives_of seen c.split_one.new.next.items) value.0 c.loop-word-test.true c.word-item.is c.loop-word.invariant.value value.1 value.2;
      of = c.in_ok-split_one.ensures.of;
    }
