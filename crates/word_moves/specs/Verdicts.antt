-- What a list of moves makes of the letters of a program, and whether these are then another's.
use Rattle.std.specs.Prelude.{◌≡◌, ◌↔◌, ℕ, ◌+◌, List, [], ◌∷◌, Bool, false, ◌&&◌, ◌==◌, if◌then◌else◌, Option, Some, None, Result, Ok, Err}
use Rattle.tree_shapes.specs.Labelled.{Labelled, Strand, Joined, size}
use Rattle.program_text.specs.Program.{Program}
use Rattle.program_text.specs.WellFormed.{IsProgram}
use Rattle.program_text.specs.declared.letter.Letter.{Letter}
use Rattle.word_moves.specs.declared.moves.BraidMove.{BraidMove}
use Rattle.word_moves.specs.declared.moves.Verdict.{Verdict}
use Rattle.word_moves.specs.declared.moves.Verdict.TheVariants.{Linked, StartDiffers, NoMove, EndDiffers}
use Rattle.word_moves.specs.Moves.{moved, moving_letters, same_letter}

-- A program that is well formed over some category.
pub record IsWellFormed (p : Program) : Type 0 where
  pub fuse : ℕ → ℕ → ℕ → Bool
  pub count : ℕ
  pub program : IsProgram fuse count p

-- what is made of moved letters, or what there is without any
abbrev pub on_moved : {A : Type 0} → A → Option (List Letter) → (List Letter → A) → A
on_moved none None f = none
on_moved none (Some ls) f = f ls

-- moves one after another; none where one of them isn't possible
abbrev pub moved_by : ℕ → List BraidMove → List Letter → Option (List Letter)
moved_by n [] ls = Some ls
moved_by n (m ∷ ms) ls = on_moved None (moved n m ls) (λ next. moved_by n ms next)

-- Two lists of letters are linked where moves lead from the one to the other.
abbrev pub AreLinked : ℕ → List Letter → List Letter → Type 0
AreLinked n ls end = (moves : List BraidMove) × (moved_by n moves ls ≡ Some end)

-- moves one after another, of which the first has this number; or the number of the first that isn't possible
abbrev pub moves_made : ℕ → ℕ → List BraidMove → List Letter → Result (List Letter) ℕ
moves_made n number [] ls = Ok ls
moves_made n number (m ∷ ms) ls = on_moved (Err number) (moved n m ls) (λ next. moves_made n (number + 1) ms next)

-- what so many moves leave, or the number of the one that isn't possible
abbrev pub made_until : Option ℕ → List Letter → Result (List Letter) ℕ
made_until None ls = Ok ls
made_until (Some number) ls = Err number

-- whether two trees are the same, with their labels
abbrev pub same_tree : Labelled → Labelled → Bool
same_tree (Strand a) (Strand b) = a == b
same_tree (Strand a) (Joined l r q) = false
same_tree (Joined l r q) (Strand b) = false
same_tree (Joined l r q) (Joined l' r' q') = q == q' && (same_tree l l' && same_tree r r')

-- the first place at which letters differ, where the first ones have this place; a missing letter differs
abbrev pub first_different : ℕ → List Letter → List Letter → Option ℕ
first_different place [] [] = None
first_different place [] (b ∷ right) = Some place
first_different place (a ∷ left) [] = Some place
first_different place (a ∷ left) (b ∷ right) = if same_letter a b then first_different (place + 1) left right else Some place

abbrev pub verdict_at : Option ℕ → Verdict
verdict_at None = Linked
verdict_at (Some place) = EndDiffers place

abbrev pub verdict_by : Result (List Letter) ℕ → List Letter → Verdict
verdict_by (Ok ls) end = verdict_at (first_different 1 ls end)
verdict_by (Err number) end = NoMove number

-- The verdict on two programs and a list of moves.
abbrev pub verdict_of : Program → Program → List BraidMove → Verdict
verdict_of p q moves = if same_tree p.start q.start then verdict_by (moves_made (size p.start) 1 moves (moving_letters p)) (moving_letters q) else StartDiffers

-- The verdict is that programs are linked exactly where they have one start tree and the moves lead from the letters of the
-- one to those of the other.
abbrev pub LinkedIsMoved : Type 0
LinkedIsMoved =
    (p q : Program) (moves : List BraidMove)
    → (verdict_of p q moves ≡ Linked) ↔ ((p.start ≡ q.start) × (moved_by (size p.start) moves (moving_letters p) ≡ Some (moving_letters q)))
