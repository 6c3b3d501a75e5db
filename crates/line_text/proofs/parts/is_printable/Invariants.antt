use Rattle.std.proofs.Common.{◌≡◌, drop}
use Rattle.line_text.specs.Text.{all_printable}
use Rattle.line_text.proofs.parts.is_printable.Given as goal

abbrev pub invariant-loop-byte : goal.invariant-loop-byte
invariant-loop-byte l = all_printable (drop l.byte-index l.line) ≡ all_printable l.line
