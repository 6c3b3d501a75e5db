use Rattle.std.proofs.Common.{◌≤◌, length, subst, sym}
use Rattle.program_text.specs.Program.{Program}
use Rattle.program_text.specs.WellFormed.{commands_in}
use Rattle.program_text.specs.declared.form.TheConstants.{COMMAND_LIMIT}
use Rattle.category_maker.proofs.RoundLemmas.{commands_few}
use Rattle.category_maker.proofs.program.program_text.Goals as goal

pub write_program-requires-clause-commands : goal.write_program-requires-clause-commands
write_program-requires-clause-commands c = subst (λ (p : Program). length (commands_in p.sites) ≤ COMMAND_LIMIT) (sym c.in_ok-plan.ensures) (commands_few c.args.n)
