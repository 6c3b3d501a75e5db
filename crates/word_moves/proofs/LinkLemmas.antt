-- The verdict and what moves lead to.
use Rattle.std.proofs.Common.{◌≡◌, ◌≢◌, ◌⊎◌, ℕ, ◌+◌, Bool, true, false, inl, inr, List, [], ◌∷◌, Option, Some, None, refl, ap, sym, ◌∙◌, Result, Ok}
use Rattle.std.specs.Prelude.{Err, ◌&&◌, ◌==◌, if◌then◌else◌}
use Rattle.std.proofs.lemmas.Bool.Decides.{eqb_tells}
use Rattle.tree_shapes.specs.Labelled.{Labelled, Strand, Joined, size}
use Rattle.program_text.specs.declared.letter.Letter.{Letter}
use Rattle.program_text.specs.declared.letter.Letter.TheVariants.{Crossing, Charge, Tested, Still}
use Rattle.program_text.specs.declared.plan.Sign.{Sign}
use Rattle.program_text.specs.declared.plan.Sign.TheVariants.{Plus, Minus}
use Rattle.word_moves.specs.declared.moves.BraidMove.{BraidMove}
use Rattle.word_moves.specs.declared.moves.Verdict.{Verdict}
use Rattle.word_moves.specs.declared.moves.Verdict.TheVariants.{Linked, StartDiffers}
use Rattle.word_moves.specs.Moves.{moved, moving_letters, same_letter, same_sign}
use Rattle.word_moves.specs.Verdicts.{LinkedIsMoved, first_different, moved_by, moves_made, on_moved, same_tree, verdict_at, verdict_by}

pub never : false ≡ true → ⊥
never e = cc

pub both : (a b : Bool) → (a && b) ≡ true → (a ≡ true) × (b ≡ true)
both true b e = (refl, e)
both false b e = absurd (never e)

pub number_is : (a b : ℕ) → (a == b) ≡ true → a ≡ b
number_is a b e = by (eqb_tells a b)
  where
    by : (((a == b) ≡ true) × (a ≡ b)) ⊎ (((a == b) ≡ false) × (a ≢ b)) → a ≡ b
    by (inl h) = h.1
    by (inr h) = absurd (never (sym h.0 ∙ e))

number_same : (a : ℕ) → (a == a) ≡ true
number_same a = by (eqb_tells a a)
  where
    by : (((a == a) ≡ true) × (a ≡ a)) ⊎ (((a == a) ≡ false) × (a ≢ a)) → (a == a) ≡ true
    by (inl h) = h.0
    by (inr h) = absurd (h.1 refl)

pub both_true : (a b : Bool) → a ≡ true → b ≡ true → (a && b) ≡ true
both_true a b ea eb = ap (λ (x : Bool). x && b) ea ∙ eb

pub sign_is : (s t : Sign) → same_sign s t ≡ true → s ≡ t
sign_is Plus Plus e = refl
sign_is Plus Minus e = absurd (never e)
sign_is Minus Plus e = absurd (never e)
sign_is Minus Minus e = refl

sign_same : (s : Sign) → same_sign s s ≡ true
sign_same Plus = refl
sign_same Minus = refl

-- letters that aren't told apart are the same
pub letter_is : (a b : Letter) → same_letter a b ≡ true → a ≡ b
letter_is (Crossing i s) (Crossing j t) e =
    let h = both (i == j) (same_sign s t) e in
    ap (λ k. Crossing k s) (number_is i j h.0) ∙ ap (λ u. Crossing j u) (sign_is s t h.1)
letter_is (Charge i p) (Charge j q) e =
    let h = both (i == j) (p == q) e in
    ap (λ k. Charge k p) (number_is i j h.0) ∙ ap (λ k. Charge j k) (number_is p q h.1)
letter_is (Tested i s p a) (Tested j t q b) e =
    let h = both (i == j && same_sign s t) (p == q && a == b) e in
    let front = both (i == j) (same_sign s t) h.0 in
    let back = both (p == q) (a == b) h.1 in
    ap (λ k. Tested k s p a) (number_is i j front.0) ∙ ap (λ u. Tested j u p a) (sign_is s t front.1) ∙ ap (λ k. Tested j t k a) (number_is p q back.0) ∙ ap (λ k. Tested j t q k) (number_is a b back.1)
letter_is (Still i) (Still j) e = ap (λ k. Still k) (number_is i j e)
letter_is a b e = absurd (never e)

letter_same : (a : Letter) → same_letter a a ≡ true
letter_same (Crossing i s) = both_true (i == i) (same_sign s s) (number_same i) (sign_same s)
letter_same (Charge i p) = both_true (i == i) (p == p) (number_same i) (number_same p)
letter_same (Tested i s p a) =
    both_true (i == i && same_sign s s) (p == p && a == a) (both_true (i == i) (same_sign s s) (number_same i) (sign_same s)) (both_true (p == p) (a == a) (number_same p) (number_same a))
letter_same (Still i) = number_same i

some_not : {A : Type 0} {x : A} → ◌≡◌ {A = Option A} (Some x) None → ⊥
some_not e = cc

different_by : (b : Bool) (later : Option ℕ) (n : ℕ) → (if b then later else Some n) ≡ None → (b ≡ true) × (later ≡ None)
different_by true later n e = (refl, e)
different_by false later n e = absurd (some_not e)

-- letters that differ nowhere are the same
end_is : (n : ℕ) (left right : List Letter) → first_different n left right ≡ None → left ≡ right
end_is n [] [] e = refl
end_is n [] (b ∷ right) e = absurd (some_not e)
end_is n (a ∷ left) [] e = absurd (some_not e)
end_is n (a ∷ left) (b ∷ right) e =
    let h = different_by (same_letter a b) (first_different (n + 1) left right) n e in
    ap (λ l. l ∷ left) (letter_is a b h.0) ∙ ap (λ l. b ∷ l) (end_is (n + 1) left right h.1)

end_same : (n : ℕ) (ls : List Letter) → first_different n ls ls ≡ None
end_same n [] = refl
end_same n (a ∷ ls) = ap (λ (b : Bool). if b then first_different (n + 1) ls ls else Some n) (letter_same a) ∙ end_same (n + 1) ls

tree_is : (s t : Labelled) → same_tree s t ≡ true → s ≡ t
tree_is (Strand a) (Strand b) e = ap Strand (number_is a b e)
tree_is (Strand a) (Joined l r q) e = absurd (never e)
tree_is (Joined l r q) (Strand b) e = absurd (never e)
tree_is (Joined l r q) (Joined l' r' q') e =
    let h = both (q == q') (same_tree l l' && same_tree r r') e in
    let trees = both (same_tree l l') (same_tree r r') h.1 in
    ap (λ k. Joined l r k) (number_is q q' h.0) ∙ ap (λ t. Joined t r q') (tree_is l l' trees.0) ∙ ap (λ t. Joined l' t q') (tree_is r r' trees.1)

tree_same : (t : Labelled) → same_tree t t ≡ true
tree_same (Strand a) = number_same a
tree_same (Joined l r q) = both_true (q == q) (same_tree l l && same_tree r r) (number_same q) (both_true (same_tree l l) (same_tree r r) (tree_same l) (tree_same r))

-- moves that are counted lead where they lead
abbrev as_moved : Result (List Letter) ℕ → Option (List Letter)
as_moved (Ok ls) = Some ls
as_moved (Err number) = None

made_moved : (n k : ℕ) (ms : List BraidMove) (ls : List Letter) → moved_by n ms ls ≡ as_moved (moves_made n k ms ls)
made_moved n k [] ls = refl
made_moved n k (m ∷ ms) ls = by (moved n m ls) (made_moved n (k + 1) ms)
  where
    by : (o : Option (List Letter)) → ((next : List Letter) → moved_by n ms next ≡ as_moved (moves_made n (k + 1) ms next))
        → on_moved None o (λ next. moved_by n ms next) ≡ as_moved (on_moved (Err k) o (λ next. moves_made n (k + 1) ms next))
    by None more = refl
    by (Some next) more = more next

some_same : {A : Type 0} {x y : A} → ◌≡◌ {A = Option A} (Some x) (Some y) → x ≡ y
some_same e = cc

none_some : {A : Type 0} {x : A} → ◌≡◌ {A = Option A} None (Some x) → ⊥
none_some e = cc

linked_end : (o : Option ℕ) → verdict_at o ≡ Linked → o ≡ None
linked_end None e = refl
linked_end (Some place) e = absurd (cc)

linked_made : (r : Result (List Letter) ℕ) (end : List Letter) → verdict_by r end ≡ Linked → as_moved r ≡ Some end
linked_made (Ok ls) end e = ap Some (end_is 1 ls end (linked_end (first_different 1 ls end) e))
linked_made (Err number) end e = absurd (cc)

made_linked : (r : Result (List Letter) ℕ) (end : List Letter) → as_moved r ≡ Some end → verdict_by r end ≡ Linked
made_linked (Ok ls) end e = ap (λ (l : List Letter). verdict_at (first_different 1 l end)) (some_same e) ∙ ap verdict_at (end_same 1 end)
made_linked (Err number) end e = absurd (none_some e)

start_linked : (b : Bool) (v : Verdict) → (if b then v else StartDiffers) ≡ Linked → (b ≡ true) × (v ≡ Linked)
start_linked true v e = (refl, e)
start_linked false v e = absurd (cc)

pub linked_is_moved : LinkedIsMoved
linked_is_moved p q moves =
    let n = size p.start in
    let made = moves_made n 1 moves (moving_letters p) in
    let verdict = verdict_by made (moving_letters q) in (
      λ e.
          (let h = start_linked (same_tree p.start q.start) verdict e in
          (tree_is p.start q.start h.0, made_moved n 1 moves (moving_letters p) ∙ linked_made made (moving_letters q) h.1)),
      λ h.
          (let same : same_tree p.start q.start ≡ true = ap (same_tree p.start) (sym h.0) ∙ tree_same p.start in
          ap (λ (b : Bool). if b then verdict else StartDiffers) same
          ∙ made_linked made (moving_letters q) (sym (made_moved n 1 moves (moving_letters p)) ∙ h.1)),
    )
