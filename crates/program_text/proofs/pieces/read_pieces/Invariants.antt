use Rattle.std.proofs.Common.{◌≡◌, ◌-◌, [], length, drop}
use Rattle.std.specs.List.{flat_map}
use Rattle.line_text.specs.Text.{words_of}
use Rattle.program_text.specs.Trees.{pieces_onto, runs_of}
use Rattle.program_text.proofs.pieces.read_pieces.Given as goal

abbrev pub invariant-loop-word : goal.invariant-loop-word
invariant-loop-word l =
    pieces_onto l.names l.pieces.items (flat_map runs_of (drop l.place (words_of l.line.text.now))) ≡ pieces_onto l.names [] (flat_map runs_of (drop 1 (words_of l.line.text.now)))

abbrev pub decreases-loop-word : goal.decreases-loop-word
decreases-loop-word l = length (words_of l.line.text.now) - l.place
