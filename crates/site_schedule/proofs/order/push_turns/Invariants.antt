use Rattle.std.proofs.Common.{◌≡◌, ◌++◌, length, drop}
use Rattle.run_laws.specs.Turns.{times}
use Rattle.site_schedule.proofs.order.push_turns.Given as goal

abbrev pub invariant-loop-command : goal.invariant-loop-command
invariant-loop-command l = l.turns.items ++ times (length (drop l._command-index l.commands)) l.number ≡ l.fn.turns.items ++ times (length l.commands) l.number
