-- Words and lines, one behind the other.
use Rattle.std.proofs.Common.{◌≡◌, ℕ, suc, ◌+◌, ◌<◌, List, [], ◌∷◌, ◌++◌, length, map, get_or, take, drop, refl, sym, ap, ◌∙◌, arith, append_assoc}
use Rattle.std.proofs.Math.Seq.{take-suc, take-append_seam}
use Rattle.std.proofs.lemmas.List.{append-nil, get_or-map, length-map, take-append-drop}
use Rattle.line_text.specs.Spelling.{spaced, spelled}
use Rattle.line_text.specs.Writing.{spaced_on}

pub spaced-cons : (word : List ℕ) (words : List (List ℕ)) → spaced (word ∷ words) ≡ word ++ spaced_on words
spaced-cons word [] = sym (append-nil word)
spaced-cons word (next ∷ words) = ap (λ l. word ++ 32 ∷ l) (spaced-cons next words)

pub spaced_on-append : (xs ys : List (List ℕ)) → spaced_on (xs ++ ys) ≡ spaced_on xs ++ spaced_on ys
spaced_on-append [] ys = refl
spaced_on-append (x ∷ xs) ys = ap (λ l. 32 ∷ (x ++ l)) (spaced_on-append xs ys) ∙ ap (λ l. 32 ∷ l) (sym (append_assoc x (spaced_on xs) (spaced_on ys)))

pub spelled-append : (ls ms : List (List (List ℕ))) → spelled (ls ++ ms) ≡ spelled ls ++ spelled ms
spelled-append [] ms = refl
spelled-append (l ∷ ls) ms = ap (λ t. spaced l ++ 10 ∷ t) (spelled-append ls ms) ∙ sym (append_assoc (spaced l) (10 ∷ spelled ls) (spelled ms))

-- one word more
pub words_more : {X : Type 0} (f : X → List ℕ) (xs : List X) (d : X) (i : ℕ) (old mid new : List ℕ) → i < length xs → mid ≡ old ++ spaced_on (take i (map f xs)) → new ≡ mid ++ 32 ∷ f (get_or xs i d) → new ≡ old ++ spaced_on (take (i + 1) (map f xs))
words_more f xs d i old mid new within before now =
    let words = map f xs in
    let word = f (get_or xs i d) in
    let same : get_or words i [] ≡ word = get_or-map f xs i d [] within in
    let one_more : suc i ≡ i + 1 = omega arith in
    let inside : i < length words = omega (arith, length-map xs f) in
    let taken : take (i + 1) words ≡ take i words ++ word ∷ [] = ap (λ n. take n words) (sym one_more) ∙ take-suc words i [] inside ∙ ap (λ w. take i words ++ w ∷ []) same in
    now ∙ ap (λ t. t ++ 32 ∷ word) before ∙ append_assoc old (spaced_on (take i words)) (32 ∷ word)
    ∙ ap (λ t. old ++ t) (ap (λ t. spaced_on (take i words) ++ t) (sym (append-nil (32 ∷ word))) ∙ sym (spaced_on-append (take i words) (word ∷ [])) ∙ ap spaced_on (sym taken))

-- the line of some words
pub line_more : (first : List ℕ) (others : List (List ℕ)) (old one two new : List ℕ) → one ≡ old ++ first → two ≡ one ++ spaced_on others → new ≡ two ++ 10 ∷ [] → new ≡ old ++ spelled ((first ∷ others) ∷ [])
line_more first others old one two new a b c =
    c ∙ ap (λ t. t ++ 10 ∷ []) (b ∙ ap (λ t. t ++ spaced_on others) a ∙ append_assoc old first (spaced_on others) ∙ ap (λ t. old ++ t) (sym (spaced-cons first others))) ∙ append_assoc old (spaced (first ∷ others)) (10 ∷ [])

-- what stands in front of some text does so in what has that in front
pub in_front : (old mid new : List ℕ) → take (length old) mid ≡ old → take (length mid) new ≡ mid → take (length old) new ≡ old
in_front old mid new first kept =
    let inner : mid ≡ old ++ drop (length old) mid = sym (take-append-drop (length old) mid) ∙ ap (λ t. t ++ drop (length old) mid) first in
    let whole : new ≡ old ++ (drop (length old) mid ++ drop (length mid) new) =
    sym (take-append-drop (length mid) new) ∙ ap (λ t. t ++ drop (length mid) new) (kept ∙ inner) ∙ append_assoc old (drop (length old) mid) (drop (length mid) new) in
    ap (take (length old)) whole ∙ take-append_seam old (drop (length old) mid ++ drop (length mid) new)

-- so also where more of it was refused behind a part that was written
pub still_in_front : (old text mid new : List ℕ) → mid ≡ old ++ text → take (length mid) new ≡ mid → take (length old) new ≡ old
still_in_front old text mid new begun kept = in_front old mid new (ap (take (length old)) begun ∙ take-append_seam old text) kept

-- and where more was written
pub front_more : (old mid text new : List ℕ) → take (length old) mid ≡ old → new ≡ mid ++ text → take (length old) new ≡ old
front_more old mid text new first more = in_front old mid new first (ap (take (length mid)) more ∙ take-append_seam mid text)
