-- Moves of braid letters.
use Rattle.std.specs.Prelude.{ℕ, ◌+◌, ◌-◌, List, [], ◌∷◌, ◌++◌, Bool, true, false, not, ◌&&◌, ◌||◌, ◌==◌, nat_lt, nat_le, length, take, drop, if◌then◌else◌, Option, Some, None, option_map}
use Rattle.std.specs.List.{filter}
use Rattle.program_text.specs.Letters.{letters}
use Rattle.program_text.specs.Program.{Program}
use Rattle.program_text.specs.WellFormed.{commands_in}
use Rattle.program_text.specs.declared.letter.Letter.{Letter}
use Rattle.program_text.specs.declared.letter.Letter.TheVariants.{Crossing, Charge, Tested, Still}
use Rattle.program_text.specs.declared.plan.Sign.{Sign}
use Rattle.program_text.specs.declared.plan.Sign.TheVariants.{Plus, Minus}
use Rattle.word_moves.specs.declared.moves.BraidMove.{BraidMove}
use Rattle.word_moves.specs.declared.moves.BraidMove.TheVariants.{Cancel, Insert, Far, Yb}

-- the sign of a braid's inverse
abbrev pub opposite : Sign → Sign
opposite Plus = Minus
opposite Minus = Plus

abbrev pub same_sign : Sign → Sign → Bool
same_sign Plus Plus = true
same_sign Plus Minus = false
same_sign Minus Plus = false
same_sign Minus Minus = true

-- whether a letter is a raise
abbrev pub is_still : Letter → Bool
is_still (Crossing k sign) = false
is_still (Charge k place) = false
is_still (Tested k sign place label) = false
is_still (Still k) = true

-- letters without the raises
abbrev pub moving : List Letter → List Letter
moving ls = filter (λ l. not (is_still l)) ls

-- The letters of a program without its raises, in the order of the text.
abbrev pub moving_letters : Program → List Letter
moving_letters p = moving (letters 0 (commands_in p.sites))

abbrev pub same_letter : Letter → Letter → Bool
same_letter (Crossing i s) (Crossing j t) = i == j && same_sign s t
same_letter (Charge i p) (Charge j q) = i == j && p == q
same_letter (Tested i s p a) (Tested j t q b) = (i == j && same_sign s t) && (p == q && a == b)
same_letter (Still i) (Still j) = i == j
same_letter a b = false

-- whether two letters are a braid and its inverse
abbrev pub are_inverse : Letter → Letter → Bool
are_inverse (Crossing i s) (Crossing j t) = i == j && same_sign t (opposite s)
are_inverse a b = false

-- whether two letters are braids at gaps with another one between them
abbrev pub are_far : Letter → Letter → Bool
are_far (Crossing i s) (Crossing j t) = nat_lt (i + 1) j || nat_lt (j + 1) i
are_far a b = false

-- whether two letters are braids of one sign at neighbouring gaps
abbrev pub are_neighbours : Letter → Letter → Bool
are_neighbours (Crossing i s) (Crossing j t) = same_sign s t && (j == i + 1 || i == j + 1)
are_neighbours a b = false

-- letters without the two in front, which are a braid and its inverse
abbrev pub cancelled : List Letter → Option (List Letter)
cancelled [] = None
cancelled (a ∷ []) = None
cancelled (a ∷ b ∷ rest) = if are_inverse a b then Some rest else None

-- letters with a braid of a sign and its inverse in front, at a gap of n strands
abbrev pub inserted : ℕ → ℕ → Sign → List Letter → Option (List Letter)
inserted n k s rest = if nat_le 1 k && nat_lt k n then Some (Crossing k s ∷ Crossing k (opposite s) ∷ rest) else None

-- letters of which the two in front, which are far, change places
abbrev pub exchanged : List Letter → Option (List Letter)
exchanged [] = None
exchanged (a ∷ []) = None
exchanged (a ∷ b ∷ rest) = if are_far a b then Some (b ∷ a ∷ rest) else None

-- letters of which the three in front, a b a for neighbours a and b, become b a b
abbrev pub turned : List Letter → Option (List Letter)
turned [] = None
turned (a ∷ []) = None
turned (a ∷ b ∷ []) = None
turned (a ∷ b ∷ c ∷ rest) = if are_neighbours a b && same_letter c a then Some (b ∷ a ∷ b ∷ rest) else None

-- what a move makes of the letters from its place on, on n strands; none where it isn't possible
abbrev pub front_of : ℕ → BraidMove → List Letter → Option (List Letter)
front_of n (Cancel place) ls = cancelled ls
front_of n (Insert place k s) ls = inserted n k s ls
front_of n (Far place) ls = exchanged ls
front_of n (Yb place) ls = turned ls

-- the place of a move, counted from 1
abbrev pub place_of : BraidMove → ℕ
place_of (Cancel place) = place
place_of (Insert place k s) = place
place_of (Far place) = place
place_of (Yb place) = place

-- a change of the letters behind so many, which stay
abbrev pub behind : ℕ → (List Letter → Option (List Letter)) → List Letter → Option (List Letter)
behind at change ls = option_map (λ rest. take at ls ++ rest) (change (drop at ls))

-- A move at its place, which is from 1 to the number of letters plus one.
abbrev pub moved : ℕ → BraidMove → List Letter → Option (List Letter)
moved n m ls = if nat_le 1 (place_of m) && nat_le (place_of m) (length ls + 1) then behind (place_of m - 1) (front_of n m) ls else None

-- letters, where a move was possible
abbrev pub where_possible : Bool → List Letter → Option (List Letter)
where_possible possible ls = if possible then Some ls else None
