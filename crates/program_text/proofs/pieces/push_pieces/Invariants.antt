use Rattle.std.proofs.Common.{◌≡◌, length}
use Rattle.program_text.specs.Trees.{pieces_onto, runs_of}
use Rattle.program_text.proofs.pieces.push_pieces.Given as goal

abbrev pub invariant-loop-run : goal.invariant-loop-run
invariant-loop-run l = pieces_onto l.names l.pieces.items (runs_of l.rest) ≡ pieces_onto l.names l.fn.pieces.items (runs_of l.word)

abbrev pub decreases-loop-run : goal.decreases-loop-run
decreases-loop-run l = length l.rest
