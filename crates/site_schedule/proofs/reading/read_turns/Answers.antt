use Rattle.std.proofs.Common.{ℕ, List, map, Option, ap, sym, subst, ◌∙◌, Ok}
use Rattle.std.specs.Prelude.{Err}
use Rattle.std.proofs.lemmas.Result.{err_from_is_err_and}
use Rattle.line_text.specs.Text.{FindsNext, words_of}
use Rattle.line_text.specs.declared.line.Line.{Line}
use Rattle.program_text.specs.Program.{program_of}
use Rattle.site_schedule.specs.Answers.{Fails}
use Rattle.site_schedule.specs.Reading.{Word, said_in, turns_on}
use Rattle.site_schedule.proofs.BehindLemmas.{fails_on, line_next, line_on, told_at_err}
use Rattle.site_schedule.proofs.reading.read_turns.Goals as goal

pub loop-line-preserved : goal.loop-line-preserved
loop-line-preserved c =
    let found = subst (λ (o : Option Line). FindsNext (Ok o) c.loop-line.lines c.next_line.new.self) c.in-Some.is c.in_ok-line.ensures in record {
      turns = line_next (program_of c.args.plan.now) c.loop-line.progress.turns.items c.read_line.new.progress.turns.items c.in-Some.line.number c.in-Some.line.text.now
          c.loop-line.lines.ahead c.next_line.new.self.ahead found.0 c.in_ok-read_line.ensures.turns
          ∙ c.loop-line.invariant.turns;
      behind = c.in_ok-read_line.ensures.behind;
    }

pub returns-in_err-read_line-clause-turns : goal.returns-in_err-read_line-clause-turns
returns-in_err-read_line-clause-turns c =
    let found = subst (λ (o : Option Line). FindsNext (Ok o) c.loop-line.lines c.next_line.new.self) c.in-Some.is c.in_ok-line.ensures in
    let p = err_from_is_err_and c.from_residual-in_err-read_line.result c.from_residual-in_err-read_line.ensures.1 in
    let program = program_of c.args.plan.now in
    told_at_err _ c.from_residual-in_err-read_line.result c.in_err-read_line.field-0.0 _ (p.1 ∙ ap Err p.2)
    (subst (Fails c.in_err-read_line.field-0.0)
    (sym (line_on program c.loop-line.progress.turns.items c.in-Some.line.number c.in-Some.line.text.now c.loop-line.lines.ahead c.next_line.new.self.ahead found.0) ∙ c.loop-line.invariant.turns)
    (fails_on c.in_err-read_line.field-0.0 (turns_on program c.loop-line.progress.turns.items (map Word (words_of c.in-Some.line.text.now)))
    (λ (next : List ℕ). turns_on program next (said_in c.next_line.new.self.ahead)) c.in_err-read_line.ensures.turns))
