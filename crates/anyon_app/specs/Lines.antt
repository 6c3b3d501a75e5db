-- The lines that are written.
use Rattle.std.specs.Prelude.{ℕ, List, [], ◌∷◌, ◌++◌, codes}
use Rattle.line_text.specs.Spelling.{spaced}
use Rattle.anyon_app.specs.Replies.{Reply, refused, limited}

-- one line of words
abbrev pub line_of : List (List ℕ) → List ℕ
line_of words = spaced words ++ 10 ∷ []

-- the one line of a refusal
abbrev pub refusal_of : List (List ℕ) → Reply
refusal_of words = refused (line_of (codes "refused" ∷ words))

-- the one line of a limit
abbrev pub limit_of : List (List ℕ) → Reply
limit_of words = limited (line_of (codes "limit" ∷ words))
