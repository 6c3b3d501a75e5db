-- Moves at a place, in place.
use Rattle.std.proofs.Common.{◌≡◌, ℕ, zero, suc, ◌+◌, ◌<◌, ◌≤◌, Bool, true, false, List, [], ◌∷◌, ◌++◌, length, get_or, take, drop, drop-cons, Option, Some, None, refl, ap, sym, ◌∙◌, arith, length-drop}
use Rattle.std.specs.Prelude.{◌&&◌, option_map, if◌then◌else◌}
use Rattle.std.specs.List.{remove}
use Rattle.std.proofs.Math.ListN.{set}
use Rattle.program_text.specs.declared.letter.Letter.{Letter}
use Rattle.word_moves.specs.Moves.{are_far, are_inverse, are_neighbours, behind, cancelled, exchanged, same_letter, turned}

-- the letters at a place
two_cells : (ls : List Letter) (at : ℕ) (d : Letter) → at + 2 ≤ length ls → drop at ls ≡ get_or ls at d ∷ get_or ls (at + 1) d ∷ drop (suc (suc at)) ls
two_cells ls at d low =
    drop-cons ls at d (omega arith) ∙ ap (λ l. get_or ls at d ∷ l) (drop-cons ls (suc at) d (omega arith))
    ∙ ap (λ (n : ℕ). get_or ls at d ∷ get_or ls n d ∷ drop (suc (suc at)) ls) (let e : suc at ≡ at + 1 = omega arith in e)

three_cells : (ls : List Letter) (at : ℕ) (d : Letter) → at + 3 ≤ length ls → drop at ls ≡ get_or ls at d ∷ get_or ls (at + 1) d ∷ get_or ls (at + 2) d ∷ drop (suc (suc (suc at))) ls
three_cells ls at d low =
    two_cells ls at d (omega arith) ∙ ap (λ l. get_or ls at d ∷ get_or ls (at + 1) d ∷ l) (drop-cons ls (suc (suc at)) d (omega arith))
    ∙ ap (λ (n : ℕ). get_or ls at d ∷ get_or ls (at + 1) d ∷ get_or ls n d ∷ drop (suc (suc (suc at))) ls) (let e : suc (suc at) ≡ at + 2 = omega arith in e)

two_here : (ls : List Letter) (at : ℕ) (a b : Letter) → at + 2 ≤ length ls → a ≡ get_or ls at a → b ≡ get_or ls (at + 1) b → drop at ls ≡ a ∷ b ∷ drop (suc (suc at)) ls
two_here ls at a b low first second =
    drop-cons ls at a (omega arith) ∙ ap (λ (x : Letter). x ∷ drop (suc at) ls) (sym first)
    ∙ ap (λ l. a ∷ l) (drop-cons ls (suc at) b (omega arith) ∙ ap (λ (n : ℕ). get_or ls n b ∷ drop (suc (suc at)) ls) (let e : suc at ≡ at + 1 = omega arith in e) ∙ ap (λ (x : Letter). x ∷ drop (suc (suc at)) ls) (sym second))

three_here : (ls : List Letter) (at : ℕ) (a b d : Letter) → at + 3 ≤ length ls → a ≡ get_or ls at a → b ≡ get_or ls (at + 1) b → d ≡ get_or ls (at + 2) d
    → drop at ls ≡ a ∷ b ∷ d ∷ drop (suc (suc (suc at))) ls
three_here ls at a b d low first second third =
    two_here ls at a b (omega arith) first second
    ∙ ap (λ l. a ∷ b ∷ l)
    (drop-cons ls (suc (suc at)) d (omega arith) ∙ ap (λ (n : ℕ). get_or ls n d ∷ drop (suc (suc (suc at))) ls) (let e : suc (suc at) ≡ at + 2 = omega arith in e)
    ∙ ap (λ (x : Letter). x ∷ drop (suc (suc (suc at))) ls) (sym third))

-- a change is of what stands at the place
changed : (change : List Letter → Option (List Letter)) (ls front : List Letter) (at : ℕ) (new : Option (List Letter)) → drop at ls ≡ front → change front ≡ new → behind at change ls ≡ option_map (λ rest. take at ls ++ rest) new
changed change ls front at new here e = ap (λ l. option_map (λ rest. take at ls ++ rest) (change l)) here ∙ ap (option_map (λ rest. take at ls ++ rest)) e

-- too few letters
few_behind : (ls : List Letter) (at n : ℕ) → length ls < at + n → 0 < n → length (drop at ls) < n
few_behind ls at n short some = (let e = length-drop at ls in omega arith)

none_of_two : (change : List Letter → Option (List Letter)) → change [] ≡ None → ((a : Letter) → change (a ∷ []) ≡ None) → (rest : List Letter) → length rest < 2 → change rest ≡ None
none_of_two change none one [] low = none
none_of_two change none one (a ∷ []) low = one a
none_of_two change none one (a ∷ b ∷ rest) low = absurd (omega arith)

pub cancel_short : (ls : List Letter) (at : ℕ) → length ls < at + 2 → behind at cancelled ls ≡ None
cancel_short ls at low = changed cancelled ls (drop at ls) at None refl (none_of_two cancelled refl (λ a. refl) (drop at ls) (few_behind ls at 2 low (omega arith)))

pub exchange_short : (ls : List Letter) (at : ℕ) → length ls < at + 2 → behind at exchanged ls ≡ None
exchange_short ls at low = changed exchanged ls (drop at ls) at None refl (none_of_two exchanged refl (λ a. refl) (drop at ls) (few_behind ls at 2 low (omega arith)))

none_of_three : (rest : List Letter) → length rest < 3 → turned rest ≡ None
none_of_three [] low = refl
none_of_three (a ∷ []) low = refl
none_of_three (a ∷ b ∷ []) low = refl
none_of_three (a ∷ b ∷ c ∷ rest) low = absurd (omega arith)

pub turn_short : (ls : List Letter) (at : ℕ) → length ls < at + 3 → behind at turned ls ≡ None
turn_short ls at low = changed turned ls (drop at ls) at None refl (none_of_three (drop at ls) (few_behind ls at 3 low (omega arith)))

-- other letters
pub cancel_not : (ls : List Letter) (at : ℕ) (d : Letter) → at + 2 ≤ length ls → are_inverse (get_or ls at d) (get_or ls (at + 1) d) ≡ false → behind at cancelled ls ≡ None
cancel_not ls at d low e = changed cancelled ls _ at None (two_cells ls at d low) (ap (λ (b : Bool). if b then Some (drop (suc (suc at)) ls) else None) e)

pub exchange_not : (ls : List Letter) (at : ℕ) (d : Letter) → at + 2 ≤ length ls → are_far (get_or ls at d) (get_or ls (at + 1) d) ≡ false → behind at exchanged ls ≡ None
exchange_not ls at d low e =
    changed exchanged ls _ at None (two_cells ls at d low)
    (ap (λ (b : Bool). if b then Some (get_or ls (at + 1) d ∷ get_or ls at d ∷ drop (suc (suc at)) ls) else None) e)

pub turn_not : (ls : List Letter) (at : ℕ) (d : Letter) → at + 3 ≤ length ls → (are_neighbours (get_or ls at d) (get_or ls (at + 1) d) && same_letter (get_or ls (at + 2) d) (get_or ls at d)) ≡ false → behind at turned ls ≡ None
turn_not ls at d low e =
    changed turned ls _ at None (three_cells ls at d low)
    (ap (λ (b : Bool). if b then Some (get_or ls (at + 1) d ∷ get_or ls at d ∷ get_or ls (at + 1) d ∷ drop (suc (suc (suc at))) ls) else None) e)

-- letters taken out and set
removed : (ls : List Letter) (at : ℕ) → take at ls ++ drop (suc (suc at)) ls ≡ remove (remove ls at) at
removed [] zero = refl
removed [] (suc at) = refl
removed (a ∷ ls) zero = refl
removed (a ∷ ls) (suc at) = ap (λ l. a ∷ l) (removed ls at)

two_set : (ls : List Letter) (at : ℕ) (x y : Letter) → suc at < length ls → take at ls ++ x ∷ y ∷ drop (suc (suc at)) ls ≡ set (set ls at x) (suc at) y
two_set [] at x y low = absurd (omega arith)
two_set (a ∷ []) zero x y low = absurd (omega arith)
two_set (a ∷ b ∷ ls) zero x y low = refl
two_set (a ∷ ls) (suc at) x y low = ap (λ l. a ∷ l) (two_set ls at x y (omega arith))

three_set : (ls : List Letter) (at : ℕ) (x y z : Letter) → suc (suc at) < length ls → take at ls ++ x ∷ y ∷ z ∷ drop (suc (suc (suc at))) ls ≡ set (set (set ls at x) (suc at) y) (suc (suc at)) z
three_set [] at x y z low = absurd (omega arith)
three_set (a ∷ []) zero x y z low = absurd (omega arith)
three_set (a ∷ b ∷ []) zero x y z low = absurd (omega arith)
three_set (a ∷ b ∷ c ∷ ls) zero x y z low = refl
three_set (a ∷ ls) (suc at) x y z low = ap (λ l. a ∷ l) (three_set ls at x y z (omega arith))

pub cancel_is : (ls : List Letter) (at : ℕ) (d : Letter) → at + 2 ≤ length ls → are_inverse (get_or ls at d) (get_or ls (at + 1) d) ≡ true → behind at cancelled ls ≡ Some (remove (remove ls at) at)
cancel_is ls at d low e =
    changed cancelled ls _ at (Some (drop (suc (suc at)) ls)) (two_cells ls at d low) (ap (λ (b : Bool). if b then Some (drop (suc (suc at)) ls) else None) e)
    ∙ ap Some (removed ls at)

pub exchange_is : (ls : List Letter) (at : ℕ) (a b : Letter) → at + 2 ≤ length ls → a ≡ get_or ls at a → b ≡ get_or ls (at + 1) b → are_far a b ≡ true
    → behind at exchanged ls ≡ Some (set (set ls at b) (at + 1) a)
exchange_is ls at a b low first second e =
    let new = Some (b ∷ a ∷ drop (suc (suc at)) ls) in
    changed exchanged ls _ at new (two_here ls at a b low first second) (ap (λ (t : Bool). if t then new else None) e) ∙ ap Some (two_set ls at b a (omega arith))
    ∙ ap (λ (n : ℕ). Some (set (set ls at b) n a)) (let e : suc at ≡ at + 1 = omega arith in e)

pub turn_is : (ls : List Letter) (at : ℕ) (a b d : Letter) → at + 3 ≤ length ls → a ≡ get_or ls at a → b ≡ get_or ls (at + 1) b → d ≡ get_or ls (at + 2) d → are_neighbours a b ≡ true
    → same_letter d a ≡ true → behind at turned ls ≡ Some (set (set (set ls at b) (at + 1) a) (at + 2) b)
turn_is ls at a b d low first second third near same =
    let new = Some (b ∷ a ∷ b ∷ drop (suc (suc (suc at))) ls) in
    changed turned ls _ at new (three_here ls at a b d low first second third)
    (ap (λ (t : Bool). if t && same_letter d a then new else None) near ∙ ap (λ (t : Bool). if t then new else None) same) ∙ ap Some (three_set ls at b a b (omega arith))
    ∙ ap (λ (n : ℕ). Some (set (set (set ls at b) n a) (suc (suc at)) b)) (let e : suc at ≡ at + 1 = omega arith in e)
    ∙ ap (λ (n : ℕ). Some (set (set (set ls at b) (at + 1) a) n b)) (let e : suc (suc at) ≡ at + 2 = omega arith in e)
