use Rattle.std.proofs.Common.{◌≡◌, ◌+◌, drop}
use Rattle.program_text.specs.Trees.{run_length}
use Rattle.program_text.proofs.pieces.run_length.Given as goal

abbrev pub invariant-loop-i : goal.invariant-loop-i
invariant-loop-i l = l.i + run_length (drop l.i l.text) ≡ run_length l.text
