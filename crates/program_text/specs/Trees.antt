-- Trees in texts: a label, or `(`, a tree, a tree, `)`, `:` and a label.
use Rattle.std.specs.Prelude.{◌≡◌, ℕ, zero, suc, ◌+◌, List, [], ◌∷◌, ◌++◌, Bool, false, ◌&&◌, ◌==◌, length, codes, if◌then◌else◌, Option, Some, None, option_and_then, unwrap_or, Result, Ok, Err}
use Rattle.std.specs.List.{onto_first}
use Rattle.std.specs.Str.{bytes_eq}
use Rattle.fusion_rules.specs.Names.{is_name_byte, all_name_bytes, label_of}
use Rattle.tree_shapes.specs.Labelled.{Labelled, Strand, Joined}
use Rattle.program_text.specs.declared.fault.ProgramCause.{ProgramCause}
use Rattle.program_text.specs.declared.fault.ProgramCause.TheVariants as cause
use Rattle.program_text.specs.declared.piece.Piece.{Piece}
use Rattle.program_text.specs.declared.piece.Piece.TheVariants.{Open, Close, Colon, Label}
use Rattle.program_text.specs.Steps.{◌>>=◌}

-- Pieces.

abbrev pub begins_label : List ℕ → Bool
begins_label [] = false
begins_label (c ∷ cs) = is_name_byte c

-- what stands alone in a word: the longest runs of letters, digits and `_`, and each other byte
abbrev pub runs_of : List ℕ → List (List ℕ)
runs_of [] = []
runs_of (c ∷ cs) = if is_name_byte c && begins_label cs then onto_first c (runs_of cs) else (c ∷ []) ∷ runs_of cs

-- how many letters, digits and `_` stand in front
abbrev pub run_length : List ℕ → ℕ
run_length [] = 0
run_length (c ∷ cs) = if is_name_byte c then run_length cs + 1 else 0

-- how long the run in front is: each byte that is none of these stands alone
abbrev pub run_end : List ℕ → ℕ
run_end text = if run_length text == 0 then 1 else run_length text

-- the label of a run; one that isn't named has the number of all names, which is no label
abbrev pub number_of : List (List ℕ) → List ℕ → ℕ
number_of names run = unwrap_or (label_of names run) (length names)

abbrev pub piece_of : List (List ℕ) → List ℕ → Result Piece ProgramCause
piece_of names run =
    if bytes_eq run (codes "(") then Ok Open else (if bytes_eq run (codes ")") then Ok Close else (if bytes_eq run (codes ":") then Ok Colon
    else (if all_name_bytes run then Ok (Label (number_of names run)) else Err cause.Start)))

-- the pieces of runs, behind those that were read
abbrev pub pieces_onto : List (List ℕ) → List Piece → List (List ℕ) → Result (List Piece) ProgramCause
pieces_onto names before [] = Ok before
pieces_onto names before (run ∷ runs) = do
  piece ← piece_of names run
  pieces_onto names (before ++ piece ∷ []) runs

-- Trees of pieces.

-- what stands behind both children
abbrev pub closed : Labelled → Labelled → List Piece → Option (Labelled × List Piece)
closed l r (Close ∷ Colon ∷ Label q ∷ rest) = Some (Joined l r q, rest)
closed l r _ = None

-- the tree at the front, and the pieces behind it; at most so deep
abbrev pub tree_at : ℕ → List Piece → Option (Labelled × List Piece)
tree_at zero pieces = None
tree_at (suc n) [] = None
tree_at (suc n) (Label a ∷ rest) = Some (Strand a, rest)
tree_at (suc n) (Open ∷ rest) = option_and_then (λ l. option_and_then (λ r. closed l.0 r.0 r.1) (tree_at n l.1)) (tree_at n rest)
tree_at (suc n) (Close ∷ rest) = None
tree_at (suc n) (Colon ∷ rest) = None

abbrev pub alone : Option (Labelled × List Piece) → Result Labelled ProgramCause
alone None = Err cause.Start
alone (Some (t, [])) = Ok t
alone (Some (t, piece ∷ rest)) = Err cause.Start

-- the tree that pieces are; no tree is deeper than it has pieces
abbrev pub tree_of : List Piece → Result Labelled ProgramCause
tree_of pieces = alone (tree_at (length pieces) pieces)

-- That this is the grammar.

-- the pieces of a tree
abbrev pub tree_pieces : Labelled → List Piece
tree_pieces (Strand a) = Label a ∷ []
tree_pieces (Joined l r q) = Open ∷ (tree_pieces l ++ (tree_pieces r ++ (Close ∷ Colon ∷ Label q ∷ [])))

-- the pieces of each tree are this tree
abbrev pub TreeAgain : Type 0
TreeAgain = (t : Labelled) → tree_of (tree_pieces t) ≡ Ok t

-- pieces that are a tree are its pieces
abbrev pub TreeExact : Type 0
TreeExact = (pieces : List Piece) (t : Labelled) → tree_of pieces ≡ Ok t → pieces ≡ tree_pieces t
