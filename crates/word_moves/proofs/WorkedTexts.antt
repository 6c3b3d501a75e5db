-- Worked values of moves texts.
use Rattle.std.proofs.Common.{◌≡◌, [], ◌∷◌, refl, codes}
use Rattle.std.specs.Prelude.{Ok, Err}
use Rattle.line_text.specs.declared.fault.LineCause.TheVariants.{NotAscii}
use Rattle.program_text.specs.declared.plan.Sign.TheVariants.{Plus, Minus}
use Rattle.word_moves.specs.declared.fault.MovesCause.TheVariants.{Line, Header, Command, Place}
use Rattle.word_moves.specs.declared.moves.BraidMove.TheVariants.{Cancel, Insert, Far, Yb}
use Rattle.word_moves.specs.Reading.{moves_of}

all_moves : moves_of (codes "# x\n moves  1\n\ncancel 1\ninsert 20 3 +\n# y\n insert 0 0 - \nfar 4\nyb 999999999") ≡ Ok (Cancel 1 ∷ Insert 20 3 Plus ∷ Insert 0 0 Minus ∷ Far 4 ∷ Yb 999999999 ∷ [])
unfolding moves_of
all_moves = refl

no_moves : moves_of (codes "moves 1\n") ≡ Ok []
unfolding moves_of
no_moves = refl

other_version : moves_of (codes "moves 2\nfar 1\n") ≡ Err (record { line = 1; cause = Header })
unfolding moves_of
other_version = refl

three_words : moves_of (codes "moves 1 1\n") ≡ Err (record { line = 1; cause = Header })
unfolding moves_of
three_words = refl

no_header : moves_of (codes "\n# c\n") ≡ Err (record { line = 3; cause = Header })
unfolding moves_of
no_header = refl

other_word : moves_of (codes "moves 1\nfar 1\nmove 1\nfar\n") ≡ Err (record { line = 3; cause = Command })
unfolding moves_of
other_word = refl

too_few : moves_of (codes "moves 1\nfar\n") ≡ Err (record { line = 2; cause = Command })
unfolding moves_of
too_few = refl

too_many : moves_of (codes "moves 1\nyb x 2\n") ≡ Err (record { line = 2; cause = Command })
unfolding moves_of
too_many = refl

no_sign : moves_of (codes "moves 1\ninsert 1 2\n") ≡ Err (record { line = 2; cause = Command })
unfolding moves_of
no_sign = refl

other_sign : moves_of (codes "moves 1\ninsert x 2 ++\n") ≡ Err (record { line = 2; cause = Command })
unfolding moves_of
other_sign = refl

leading_zero : moves_of (codes "moves 1\ncancel 01\n") ≡ Err (record { line = 2; cause = Place })
unfolding moves_of
leading_zero = refl

ten_digits : moves_of (codes "moves 1\ncancel 1000000000\n") ≡ Err (record { line = 2; cause = Place })
unfolding moves_of
ten_digits = refl

gap_no_number : moves_of (codes "moves 1\n#\ninsert 1 -2 +\n") ≡ Err (record { line = 3; cause = Place })
unfolding moves_of
gap_no_number = refl

not_ascii : moves_of (codes "moves 1\nfar 1\n\t\nfar\n") ≡ Err (record { line = 3; cause = Line NotAscii })
unfolding moves_of
not_ascii = refl
