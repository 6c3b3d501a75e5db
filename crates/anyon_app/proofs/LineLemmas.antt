-- Words make lines.
use Rattle.std.proofs.Common.{◌≡◌, ℕ, List, [], ◌∷◌, ◌++◌, append_assoc, codes, ap, sym, ◌∙◌}
use Rattle.line_text.specs.Writing.{spaced_on}
use Rattle.line_text.proofs.WritingLemmas.{spaced-cons}
use Rattle.anyon_app.specs.Lines.{line_of}

-- a first word, the words after it and an end are a line
pub line_is : (first : List ℕ) (others : List (List ℕ)) → (first ++ spaced_on others) ++ 10 ∷ [] ≡ line_of (first ∷ others)
line_is first others = ap (λ l. l ++ 10 ∷ []) (sym (spaced-cons first others))

-- words, another word, labels and an end are a line
pub begun_line : (begun word : List ℕ) (labels : List (List ℕ)) → (((begun ++ 32 ∷ []) ++ word) ++ spaced_on labels) ++ 10 ∷ [] ≡ line_of (begun ∷ word ∷ labels)
begun_line begun word labels =
    let parts : (((begun ++ 32 ∷ []) ++ word) ++ spaced_on labels) ++ 10 ∷ [] ≡ (begun ++ (32 ∷ (word ++ spaced_on labels))) ++ 10 ∷ [] = simp (append_assoc) in
    parts ∙ line_is begun (word ∷ labels)

-- two words that are written as one piece
pub limit_line : (others : List (List ℕ)) → line_of (codes "limit overflow" ∷ others) ≡ line_of (codes "limit" ∷ codes "overflow" ∷ others)
limit_line others =
    ap (λ l. l ++ 10 ∷ []) (spaced-cons (codes "limit overflow") others)
    ∙ ap (λ l. (codes "limit" ++ 32 ∷ l) ++ 10 ∷ []) (sym (spaced-cons (codes "overflow") others))

-- the words of a place behind those of its command
pub place_line_is : (command word : List ℕ) (labels : List (List ℕ))
    → ((((codes "limit overflow " ++ command) ++ 32 ∷ []) ++ word) ++ spaced_on labels) ++ 10 ∷ [] ≡ line_of (codes "limit" ∷ codes "overflow" ∷ command ∷ word ∷ labels)
place_line_is command word labels =
    begun_line (codes "limit overflow " ++ command) word labels
    ∙ ap (λ l. l ++ 10 ∷ []) (spaced-cons (codes "limit overflow " ++ command) (word ∷ labels) ∙ append_assoc (codes "limit overflow ") command (spaced_on (word ∷ labels)))
    ∙ ap (λ l. l ++ 10 ∷ []) (sym (spaced-cons (codes "limit") (codes "overflow" ∷ command ∷ word ∷ labels)))
