use Rattle.std.proofs.Common.{◌+◌, get_or, drop, refl, ap, sym, ◌∙◌, arith}
use Rattle.program_text.specs.declared.letter.Letter.TheVariants.{Crossing}
use Rattle.program_text.specs.declared.plan.Sign.TheVariants.{Plus}
use Rattle.word_runs.specs.Runs.{run_of}
use Rattle.word_runs.specs.Lives.{lives_of, IsFit}
use Rattle.word_runs.proofs.EachLemmas.{all_get, next_item}
use Rattle.word_runs.proofs.RunLemmas.{turn_more}
use Rattle.word_runs.proofs.run.run_turns.Goals as goal

pub loop-letter-init : goal.loop-letter-init
loop-letter-init g c = record { turn = refl; of = c.requires.of; alike = λ m h. h; left = refl }

pub run_turn-requires-clause-alike : goal.run_turn-requires-clause-alike
run_turn-requires-clause-alike g c =
    let m = c.requires.alike.0 in
    let fit = all_get (IsFit (g.E.Engine.told c.args.engine.now) m) c.args.letters.now c.loop-letter.letter-index (Crossing 0 Plus) c.loop-letter-test.true c.requires.alike.2 in
    (m, c.loop-letter.invariant.alike m c.requires.alike.1, fit)

pub loop-letter-preserved : goal.loop-letter-preserved
loop-letter-preserved g c =
    let e = g.E.Engine.told c.args.engine.now in
    let seen = g.E.Engine.seen c.args.engine.now in
    let i = c.loop-letter.letter-index in
    let letter = get_or c.args.letters.now i (Crossing 0 Plus) in
    let rest = drop (i + 1) c.args.letters.now in
    let turn = c.loop-letter.turn in
    let old = lives_of seen c.loop-letter.live.items in
    let new = lives_of seen c.run_turn.new.live.items in
    let next = next_item c.args.letters.now i (Crossing 0 Plus) c.loop-letter-test.true in
    record {
      turn = omega (arith, c.loop-letter.invariant.turn);
      of = c.in_ok-run_turn.ensures.of;
      alike = λ m h. c.in_ok-run_turn.ensures.alike m (c.loop-letter.invariant.alike m h);
      left = turn_more e turn letter rest old new _ c.in_ok-run_turn.ensures.stated (ap (λ ls. run_of e turn ls old) (sym next) ∙ c.loop-letter.invariant.left);
    }
