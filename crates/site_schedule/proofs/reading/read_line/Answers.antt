use Rattle.std.proofs.Common.{◌≡◌, ◌<◌, ◌-◌, ◌+◌, ℕ, List, [], drop, map, length, ap, sym, subst, ◌∙◌, arith}
use Rattle.std.specs.Prelude.{Err}
use Rattle.std.proofs.lemmas.Result.{err_from_is_err_and}
use Rattle.line_text.specs.Text.{words_of}
use Rattle.program_text.specs.Program.{program_of}
use Rattle.site_schedule.specs.Answers.{Fails}
use Rattle.site_schedule.specs.Reading.{Word, turn_on, turns_on}
use Rattle.site_schedule.proofs.BehindLemmas.{fails_on, no_word, told_at_err, turn_longer, word_behind, words_next, words_on}
use Rattle.site_schedule.proofs.reading.read_line.Goals as goal

pub returns-in_err-read_turn-clause-turns : goal.returns-in_err-read_turn-clause-turns
returns-in_err-read_turn-clause-turns c =
    let p = err_from_is_err_and c.from_residual.result c.from_residual.ensures.1 in
    let program = program_of c.args.plan.now in
    let words = words_of c.args.line.now.text.now in
    told_at_err _ c.from_residual.result c.in_err-read_turn.field-0.0 _ (p.1 ∙ ap Err p.2)
    (subst (Fails c.in_err-read_turn.field-0.0)
    (sym (words_on program c.loop-name.progress.turns.items words c.loop-name.place c.in-Some.name.now (sym c.in-Some.ensures)) ∙ c.loop-name.invariant.turns)
    (fails_on c.in_err-read_turn.field-0.0 (turn_on program c.loop-name.progress.turns.items c.in-Some.name.now)
    (λ (next : List ℕ). turns_on program next (map Word (drop (c.loop-name.place + 1) words))) c.in_err-read_turn.ensures.turn))

pub loop-name-smaller : goal.loop-name-smaller
loop-name-smaller c =
    let words = words_of c.args.line.now.text.now in
    let low = (word_behind words c.loop-name.place c.in-Some.name.now (sym c.in-Some.ensures)).1 in
    let less : length words - (c.loop-name.place + 1) < length words - c.loop-name.place = omega (arith, low) in less

pub loop-name-preserved : goal.loop-name-preserved
loop-name-preserved c =
    let program = program_of c.args.plan.now in
    let words = words_of c.args.line.now.text.now in
    let longer = turn_longer program c.loop-name.progress.turns.items c.read_turn.new.progress.turns.items c.in-Some.name.now c.in_ok-read_turn.ensures.turn in
    record {
      turns = words_next program c.loop-name.progress.turns.items c.read_turn.new.progress.turns.items words c.loop-name.place c.in-Some.name.now (sym c.in-Some.ensures) c.in_ok-read_turn.ensures.turn
          ∙ c.loop-name.invariant.turns;
      behind = c.in_ok-read_turn.ensures.behind;
      few = (let few = c.loop-name.invariant.few in omega (arith, longer, few));
    }

pub returns-clause-turns : goal.returns-clause-turns
returns-clause-turns c =
    let program = program_of c.args.plan.now in
    let words = words_of c.args.line.now.text.now in
    let none : drop c.loop-name.place words ≡ [] = no_word words c.loop-name.place (sym c.in_default.ensures) in
    sym c.loop-name.invariant.turns ∙ ap (λ (l : List (List ℕ)). turns_on program c.loop-name.progress.turns.items (map Word l)) none
