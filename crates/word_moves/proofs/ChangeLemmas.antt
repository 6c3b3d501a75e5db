-- A move on a page, and among all letters.
use Rattle.std.proofs.Common.{◌≡◌, ◌⊎◌, inl, inr, ℕ, suc, ◌+◌, ◌-◌, ◌<◌, ◌≤◌, Bool, true, false, List, [], ◌∷◌, ◌++◌, length, get_or, take, drop, Option, Some, None, refl, ap, sym, ◌∙◌, add-one, arith, append_assoc, length-drop}
use Rattle.std.specs.Prelude.{◌&&◌, nat_le, nat_lt, option_map, if◌then◌else◌}
use Rattle.std.proofs.Math.ListN.{set}
use Rattle.std.proofs.Math.Seq.{drop-append-add, take-append-add}
use Rattle.std.proofs.lemmas.Bool.Decides.{nat_tests}
use Rattle.std.proofs.lemmas.List.{append-nil, drop-append-le, take-append-le}
use Rattle.program_text.specs.declared.letter.Letter.{Letter}
use Rattle.program_text.specs.declared.letter.Letter.TheVariants.{Crossing}
use Rattle.word_moves.specs.declared.moves.BraidMove.{BraidMove}
use Rattle.word_moves.specs.declared.moves.BraidMove.TheVariants.{Cancel, Insert, Far, Yb}
use Rattle.word_moves.proofs.LinkLemmas.{both_true}
use Rattle.word_moves.proofs.PageLemmas.{Page, page_is, parts, set_parts, spot_within}
use Rattle.word_moves.specs.Moves.{are_far, are_inverse, are_neighbours, behind, front_of, moved, opposite, place_of, same_letter, where_possible}
use Rattle.word_moves.specs.Pages.{IsSpot, flat, page_at}

if_local : (b : Bool) (l more : List Letter) → (if b then Some (l ++ more) else None) ≡ option_map (λ k. k ++ more) (if b then Some l else None)
if_local true l more = refl
if_local false l more = refl

-- a move looks at three letters at most
front_local : (n : ℕ) (m : BraidMove) (rest more : List Letter) → 3 ≤ length rest → front_of n m (rest ++ more) ≡ option_map (λ l. l ++ more) (front_of n m rest)
front_local n m [] more low = absurd (omega arith)
front_local n m (a ∷ []) more low = absurd (omega arith)
front_local n m (a ∷ b ∷ []) more low = absurd (omega arith)
front_local n (Cancel p) (a ∷ b ∷ c ∷ rest) more low = if_local (are_inverse a b) (c ∷ rest) more
front_local n (Insert p k s) (a ∷ b ∷ c ∷ rest) more low = if_local (nat_le 1 k && nat_lt k n) (Crossing k s ∷ Crossing k (opposite s) ∷ a ∷ b ∷ c ∷ rest) more
front_local n (Far p) (a ∷ b ∷ c ∷ rest) more low = if_local (are_far a b) (b ∷ a ∷ c ∷ rest) more
front_local n (Yb p) (a ∷ b ∷ c ∷ rest) more low = if_local (are_neighbours a b && same_letter c a) (b ∷ a ∷ b ∷ rest) more

-- letters before and behind stay as they are
onto_both : (first more : List Letter) (o : Option (List Letter)) → option_map (λ rest. first ++ rest) (option_map (λ l. l ++ more) o) ≡ option_map (λ l. l ++ more) (option_map (λ rest. first ++ rest) o)
onto_both first more None = refl
onto_both first more (Some rest) = ap Some (sym (append_assoc first rest more))

onto_two : (first next : List Letter) (o : Option (List Letter)) → option_map (λ rest. (first ++ next) ++ rest) o ≡ option_map (λ l. first ++ l) (option_map (λ rest. next ++ rest) o)
onto_two first next None = refl
onto_two first next (Some rest) = ap Some (append_assoc first next rest)

onto_nothing : (o : Option (List Letter)) → o ≡ option_map (λ l. l ++ []) o
onto_nothing None = refl
onto_nothing (Some l) = ap Some (sym (append-nil l))

before_more : (n : ℕ) (m : BraidMove) (page more : List Letter) (at : ℕ) → (at + 3 ≤ length page) ⊎ (more ≡ [])
    → behind at (front_of n m) (page ++ more) ≡ option_map (λ l. l ++ more) (behind at (front_of n m) page)
before_more n m page more at (inl low) =
    ap (λ l. option_map (λ rest. l ++ rest) (front_of n m (drop at (page ++ more)))) (take-append-le at page more (omega arith))
    ∙ ap (λ l. option_map (λ rest. take at page ++ rest) (front_of n m l)) (drop-append-le at page more (omega arith))
    ∙ ap (option_map (λ rest. take at page ++ rest)) (front_local n m (drop at page) more (let e = length-drop at page in omega (arith, e, low)))
    ∙ onto_both (take at page) more (front_of n m (drop at page))
before_more n m page more at (inr none) =
    ap (λ l. behind at (front_of n m) (page ++ l)) none ∙ ap (behind at (front_of n m)) (append-nil page) ∙ onto_nothing (behind at (front_of n m) page)
    ∙ ap (λ (k : List Letter). option_map (λ l. l ++ k) (behind at (front_of n m) page)) (sym none)

behind_first : (n : ℕ) (m : BraidMove) (first page : List Letter) (at : ℕ) → behind (length first + at) (front_of n m) (first ++ page) ≡ option_map (λ l. first ++ l) (behind at (front_of n m) page)
behind_first n m first page at =
    ap (λ l. option_map (λ rest. l ++ rest) (front_of n m (drop (length first + at) (first ++ page)))) (take-append-add first page at)
    ∙ ap (λ l. option_map (λ rest. (first ++ take at page) ++ rest) (front_of n m l)) (drop-append-add first page at)
    ∙ onto_two first (take at page) (front_of n m (drop at page))

onto_possible : (first more new : List Letter) (b : Bool) → option_map (λ l. first ++ l) (option_map (λ l. l ++ more) (where_possible b new)) ≡ where_possible b (first ++ (new ++ more))
onto_possible first more new true = refl
onto_possible first more new false = refl

-- a move on a page is one among all letters
pub moved_among : (n : ℕ) (m : BraidMove) (first page more new : List Letter) (at : ℕ) (possible : Bool) → (at + 3 ≤ length page) ⊎ (more ≡ []) → behind at (front_of n m) page ≡ where_possible possible new
    → behind (length first + at) (front_of n m) (first ++ (page ++ more)) ≡ where_possible possible (first ++ (new ++ more))
moved_among n m first page more new at possible enough e =
    behind_first n m first (page ++ more) at ∙ ap (option_map (λ l. first ++ l)) (before_more n m page more at enough ∙ ap (option_map (λ l. l ++ more)) e) ∙ onto_possible first more new possible

pub moved_at : (n : ℕ) (m : BraidMove) (pages : List Page) (i at : ℕ) (old new : Page) (possible : Bool) → i < length pages → old ≡ get_or pages i old
    → (at + 3 ≤ length (page_at i pages)) ⊎ (flat (drop (i + 1) pages) ≡ []) → behind at (front_of n m) old.items ≡ where_possible possible new.items
    → behind (length (flat (take i pages)) + at) (front_of n m) (flat pages) ≡ where_possible possible (flat (set pages i new))
moved_at n m pages i at old new possible low is enough e =
    let first = flat (take i pages) in
    let here = page_is pages i old low is in
    ap (behind (length first + at) (front_of n m)) (parts pages i ∙ ap (λ l. first ++ (l ++ flat (drop (suc i) pages))) here)
    ∙ moved_among n m first old.items (flat (drop (suc i) pages)) new.items at possible (by enough) e ∙ ap (where_possible possible) (sym (set_parts pages i new low))
  where
    by : (at + 3 ≤ length (page_at i pages)) ⊎ (flat (drop (i + 1) pages) ≡ []) → (at + 3 ≤ length old.items) ⊎ (flat (drop (suc i) pages) ≡ [])
    by (inl many) = inl (rw (page_is pages i old low is) at many)
    by (inr none) = inr (rw add-one at none)

-- a move at a place where letters stand
moved_is : (n : ℕ) (m : BraidMove) (ls new : List Letter) (possible : Bool) → 0 < place_of m → place_of m ≤ length ls + 1 → behind (place_of m - 1) (front_of n m) ls ≡ where_possible possible new
    → moved n m ls ≡ where_possible possible new
moved_is n m ls new possible first last e =
    let low : nat_le 1 (place_of m) ≡ true = grind (arith, nat_tests) in
    let high : nat_le (place_of m) (length ls + 1) ≡ true = grind (arith, nat_tests) in
    ap (λ (b : Bool). if b then behind (place_of m - 1) (front_of n m) ls else None) (both_true (nat_le 1 (place_of m)) (nat_le (place_of m) (length ls + 1)) low high) ∙ e

-- pages before a move, with its letters on one of them, with that changed, and behind it
pub moved_by_pages : (n : ℕ) (m : BraidMove) (ls : List Letter) (start gathered changed settled : List Page) (place number at : ℕ) (possible : Bool) → flat start ≡ ls → place ≡ place_of m → 0 < place
    → IsSpot number at (place - 1) start → flat gathered ≡ flat start → take number gathered ≡ take number start
    → behind (length (flat (take number gathered)) + at) (front_of n m) (flat gathered) ≡ where_possible possible (flat changed) → flat settled ≡ flat changed
    → moved n m ls ≡ where_possible possible (flat settled)
moved_by_pages n m ls start gathered changed settled place number at possible view is some spot same before e kept =
    let here : length (flat (take number gathered)) + at ≡ place_of m - 1 = ap (λ (pages : List Page). length (flat pages) + at) before ∙ spot.place ∙ ap (λ k. k - 1) is in
    let within = spot_within start number at spot.within in
    let all = ap length view in
    let place_is = spot.place in
    moved_is n m ls (flat settled) possible (omega arith) (omega arith)
    (ap (λ k. behind k (front_of n m) ls) (sym here) ∙ ap (behind (length (flat (take number gathered)) + at) (front_of n m)) (sym (same ∙ view)) ∙ e ∙ ap (where_possible possible) (sym kept))
