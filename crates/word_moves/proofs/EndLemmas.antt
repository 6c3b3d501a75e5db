-- Letters that are compared from a place on.
use Rattle.std.proofs.Common.{◌≡◌, ℕ, zero, suc, ◌<◌, ◌≤◌, List, [], ◌∷◌, length, drop, Some, refl, ap, sym, ◌∙◌, arith}
use Rattle.std.proofs.Math.ListN.{drop_of_length-le}
use Rattle.program_text.specs.declared.letter.Letter.{Letter}
use Rattle.word_moves.specs.Verdicts.{first_different}

nothing_left : (at : ℕ) → [] ≡ drop {A = Letter} at []
nothing_left at = sym (drop_of_length-le [] (omega arith))

pub left_longer : (left right : List Letter) (at n : ℕ) → at < length left → length right ≤ at → first_different n (drop at left) (drop at right) ≡ Some n
left_longer [] right at n some none = absurd (omega arith)
left_longer (a ∷ left) [] zero n some none = refl
left_longer (a ∷ left) [] (suc at) n some none = ap (λ l. first_different n (drop at left) l) (nothing_left at) ∙ left_longer left [] at n (omega arith) (omega arith)
left_longer (a ∷ left) (b ∷ right) zero n some none = absurd (omega arith)
left_longer (a ∷ left) (b ∷ right) (suc at) n some none = left_longer left right at n (omega arith) (omega arith)

pub right_longer : (left right : List Letter) (at n : ℕ) → length left ≤ at → at < length right → first_different n (drop at left) (drop at right) ≡ Some n
right_longer left [] at n none some = absurd (omega arith)
right_longer [] (b ∷ right) zero n none some = refl
right_longer [] (b ∷ right) (suc at) n none some = ap (λ l. first_different n l (drop at right)) (nothing_left at) ∙ right_longer [] right at n (omega arith) (omega arith)
right_longer (a ∷ left) (b ∷ right) zero n none some = absurd (omega arith)
right_longer (a ∷ left) (b ∷ right) (suc at) n none some = right_longer left right at n (omega arith) (omega arith)
