use Rattle.std.proofs.Common.{get_or, map, arith}
use Rattle.std.proofs.lemmas.Result.{err_from_is_err_and}
use Rattle.line_text.proofs.WritingLemmas.{still_in_front}
use Rattle.program_text.specs.declared.plan.Command.TheVariants.{Braid}
use Rattle.program_text.specs.declared.plan.Sign.TheVariants.{Plus}
use Rattle.program_text.specs.Program.{outcome_of}
use Rattle.program_text.proofs.WrittenLemmas.{command_more, place_more, place_fits, outcomes_few}
use Rattle.program_text.proofs.program_writing.extend_commands.Goals as goal

pub returns-in_err-extend_command-clause-text : goal.returns-in_err-extend_command-clause-text
returns-in_err-extend_command-clause-text c =
    let p = err_from_is_err_and c.from_residual.result c.from_residual.ensures.1 in
    rw (p.1) (still_in_front c.args.out.now.items _ c.loop-command.out.items c.extend_command.new.out.items c.loop-command.invariant.text c.in_err-extend_command.ensures)

pub overflow_add-next : goal.overflow_add-next
overflow_add-next c =
    let few = outcomes_few (get_or c.args.commands.now c.loop-command.command-index (Braid 0 Plus)) in
    let fits = place_fits c.args.commands.now c.loop-command.command-index c.loop-command-test.true in
    omega (arith, c.outcomes-next.ensures, c.loop-command.invariant.place)

pub loop-command-preserved : goal.loop-command-preserved
loop-command-preserved c = record {
  text = command_more c.args.names.now (map outcome_of c.args.outcomes.now) c.args.place c.loop-command.next c.args.commands.now _ c.loop-command.command-index c.args.out.now.items c.loop-command.out.items c.extend_command.new.out.items
      (omega arith) c.loop-command.invariant.place c.loop-command.invariant.text c.in_ok-extend_command.ensures;
  place =
      let more = place_more c.args.commands.now (Braid 0 Plus) c.loop-command.command-index c.loop-command-test.true in
      omega (arith, c.outcomes-next.ensures, c.loop-command.invariant.place);
}
