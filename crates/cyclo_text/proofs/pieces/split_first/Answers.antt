use Rattle.std.proofs.Common.{arith}
use Rattle.cyclo_text.proofs.PieceLemmas.{piece_ends, piece_last}
use Rattle.cyclo_text.proofs.pieces.split_first.Goals as goal

pub returns-then-byte-separator : goal.returns-then-byte-separator
returns-then-byte-separator c = piece_ends c.args.separator c.args.word.now c.loop-at.at c.loop-at.invariant (omega arith) (omega arith)

pub returns : goal.returns
returns c = piece_last c.args.separator c.args.word.now (λ k below. c.loop-at.invariant k (omega arith))
