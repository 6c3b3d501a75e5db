use Rattle.std.proofs.Common.{◌≡◌, ◌++◌, length, take, drop}
use Rattle.line_text.specs.Writing.{spaced_on}
use Rattle.category_text.proofs.writing.write_names.Given as goal

abbrev pub invariant-loop-label : goal.invariant-loop-label
invariant-loop-label l = record {
  text : l.text.items ++ spaced_on (drop l.label l.names) ≡ l.fn.text.items ++ spaced_on l.names;
  front : take (length l.fn.text.items) l.text.items ≡ l.fn.text.items;
}
