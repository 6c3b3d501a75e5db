-- The start line, part by part.
use Rattle.std.proofs.Common.{◌≡◌, ℕ, ◌<◌, List, [], ◌∷◌, ◌++◌, length, refl, sym, ap, ◌∙◌, arith, append_assoc, codes}
use Rattle.std.proofs.lemmas.List.{append-nil}
use Rattle.line_text.specs.Spelling.{spaced, spelled}
use Rattle.line_text.specs.Writing.{spaced_on}
use Rattle.line_text.proofs.WritingLemmas.{spaced-cons, spaced_on-append, spelled-append}
use Rattle.fusion_rules.specs.Names.{name_of}
use Rattle.tree_shapes.specs.Labelled.{Labelled, Strand, Joined}
use Rattle.program_text.specs.Canonical.{opened, closed, tree_words}

-- The words of a tree, spelled.

spaced_on-closed : (w : List ℕ) (ws : List (List ℕ)) (tail : List ℕ) → spaced_on (closed (w ∷ ws) tail) ≡ 32 ∷ (spaced (w ∷ ws) ++ tail)
spaced_on-closed w [] tail = ap (λ l. 32 ∷ l) (append-nil (w ++ tail))
spaced_on-closed w (v ∷ ws) tail = ap (λ l. 32 ∷ (w ++ l)) (spaced_on-closed v ws tail) ∙ ap (λ l. 32 ∷ l) (sym (append_assoc w (32 ∷ spaced (v ∷ ws)) tail))

pub some_words : (names : List (List ℕ)) (t : Labelled) → 0 < length (tree_words names t)
some_words names (Strand a) = omega arith
some_words names (Joined l r q) = by_words (tree_words names l) (some_words names l)
  where
    by_words : (xs : List (List ℕ)) → 0 < length xs → 0 < length (opened xs ++ closed (tree_words names r) (41 ∷ 58 ∷ name_of names q))
    by_words [] some = absurd (omega arith)
    by_words (x ∷ xs) some = omega arith

pub node_text : (names : List (List ℕ)) (l r : Labelled) (q : ℕ)
    → spaced (tree_words names (Joined l r q)) ≡ 40 ∷ (spaced (tree_words names l) ++ 32 ∷ (spaced (tree_words names r) ++ 41 ∷ 58 ∷ name_of names q))
node_text names l r q = by_words (tree_words names l) (tree_words names r) (some_words names l) (some_words names r)
  where
    by_words : (xs ys : List (List ℕ)) → 0 < length xs → 0 < length ys
        → spaced (opened xs ++ closed ys (41 ∷ 58 ∷ name_of names q)) ≡ 40 ∷ (spaced xs ++ 32 ∷ (spaced ys ++ 41 ∷ 58 ∷ name_of names q))
    by_words [] ys some_xs some_ys = absurd (omega arith)
    by_words (x ∷ xs) [] some_xs some_ys = absurd (omega arith)
    by_words (x ∷ xs) (y ∷ ys) some_xs some_ys =
        let tail : List ℕ = 41 ∷ 58 ∷ name_of names q in
        let right : List ℕ = 32 ∷ (spaced (y ∷ ys) ++ tail) in
        spaced-cons (40 ∷ x) (xs ++ closed (y ∷ ys) tail)
        ∙ ap (λ t. 40 ∷ (x ++ t)) (spaced_on-append xs (closed (y ∷ ys) tail) ∙ ap (λ t. spaced_on xs ++ t) (spaced_on-closed y ys tail))
        ∙ ap (λ t. 40 ∷ t) (sym (append_assoc x (spaced_on xs) right) ∙ ap (λ t. t ++ right) (sym (spaced-cons x xs)))

pub node_more : (names : List (List ℕ)) (l r : Labelled) (q : ℕ) (old a b c d e new : List ℕ) → a ≡ old ++ 40 ∷ [] → b ≡ a ++ spaced (tree_words names l) → c ≡ b ++ 32 ∷ [] → d ≡ c ++ spaced (tree_words names r)
    → e ≡ d ++ 41 ∷ 58 ∷ [] → new ≡ e ++ name_of names q → new ≡ old ++ spaced (tree_words names (Joined l r q))
node_more names l r q old a b c d e new opens left space right closes named =
    let tail : List ℕ = name_of names q in
    let lt : List ℕ = spaced (tree_words names l) in
    let rt : List ℕ = spaced (tree_words names r) in
    named ∙ ap (λ t. t ++ tail) closes ∙ append_assoc d (41 ∷ 58 ∷ []) tail
    ∙ ap (λ t. t ++ 41 ∷ 58 ∷ tail) right ∙ append_assoc c rt (41 ∷ 58 ∷ tail)
    ∙ ap (λ t. t ++ (rt ++ 41 ∷ 58 ∷ tail)) space ∙ append_assoc b (32 ∷ []) (rt ++ 41 ∷ 58 ∷ tail)
    ∙ ap (λ t. t ++ 32 ∷ (rt ++ 41 ∷ 58 ∷ tail)) left ∙ append_assoc a lt (32 ∷ (rt ++ 41 ∷ 58 ∷ tail))
    ∙ ap (λ t. t ++ (lt ++ 32 ∷ (rt ++ 41 ∷ 58 ∷ tail))) opens ∙ append_assoc old (40 ∷ []) (lt ++ 32 ∷ (rt ++ 41 ∷ 58 ∷ tail))
    ∙ ap (λ t. old ++ t) (sym (node_text names l r q))

start_text : (names : List (List ℕ)) (t : Labelled) → spaced (codes "start" ∷ tree_words names t) ≡ codes "start " ++ spaced (tree_words names t)
start_text names t = by_words (tree_words names t) (some_words names t)
  where
    by_words : (ws : List (List ℕ)) → 0 < length ws → spaced (codes "start" ∷ ws) ≡ codes "start " ++ spaced ws
    by_words [] some = absurd (omega arith)
    by_words (w ∷ ws) some = refl

pub start_more : (names : List (List ℕ)) (t : Labelled) (old one two new : List ℕ) → one ≡ old ++ codes "start " → two ≡ one ++ spaced (tree_words names t) → new ≡ two ++ 10 ∷ [] → new ≡ old ++ spelled ((codes "start" ∷ tree_words names t) ∷ [])
start_more names t old one two new a b c =
    c ∙ ap (λ l. l ++ 10 ∷ []) (b ∙ ap (λ l. l ++ spaced (tree_words names t)) a ∙ append_assoc old (codes "start ") (spaced (tree_words names t)) ∙ ap (λ l. old ++ l) (sym (start_text names t)))
    ∙ append_assoc old (spaced (codes "start" ∷ tree_words names t)) (10 ∷ [])

-- Lines, one behind the other.

pub lines_more : (ls ms : List (List (List ℕ))) (old mid new : List ℕ) → mid ≡ old ++ spelled ls → new ≡ mid ++ spelled ms → new ≡ old ++ spelled (ls ++ ms)
lines_more ls ms old mid new a b = b ∙ ap (λ t. t ++ spelled ms) a ∙ append_assoc old (spelled ls) (spelled ms) ∙ ap (λ t. old ++ t) (sym (spelled-append ls ms))
