use Rattle.std.proofs.Common.{◌≡◌, ◌++◌, ◌-◌, length, take}
use Rattle.line_text.specs.Spelling.{spelled}
use Rattle.category_maker.specs.MadeSchedule.{turn_lines}
use Rattle.category_maker.proofs.schedule.write_rounds.Given as goal

abbrev pub invariant-loop-round : goal.invariant-loop-round
invariant-loop-round l = record {
  text : l.text.items ++ spelled (turn_lines (l.rounds - l._round)) ≡ l.fn.text.items ++ spelled (turn_lines l.rounds);
  front : take (length l.fn.text.items) l.text.items ≡ l.fn.text.items;
}
