-- How long a canonical spelling is at most.
use Rattle.std.proofs.Common.{◌≡◌, ℕ, suc, ◌+◌, ◌*◌, ◌-◌, ◌^◌, ◌≤◌, Bool, true, false, List, [], ◌∷◌, length, length-append, sym, subst, arith, inl, inr}
use Rattle.std.specs.Prelude.{ℤ, pos, negsuc, map, nat_eq, unsigned_abs, if◌then◌else◌, IsTrue}
use Rattle.std.specs.Fmt.{decimal, signed_decimal}
use Rattle.std.specs.List.{join_with_byte}
use Rattle.std.proofs.lemmas.Bool.{cases_lt}
use Rattle.std.proofs.lemmas.Fmt.{length-decimal-le_wide}
use Rattle.poly_core.specs.Table.{at, past_end}
use Rattle.cyclo_core.specs.Ratio.{Ratio, is_held, magnitude}
use Rattle.cyclo_core.proofs.NumberLemmas.{both_fit}
use Rattle.cyclo_text.specs.NumberWords.{comma, slash, trimmed, spelled_number}
use Rattle.cyclo_text.proofs.TrimLemmas.{at-trimmed, length-trimmed}

digits_short : (n : ℕ) → n ≤ 2 ^ 127 - 1 → length (decimal n) ≤ 39
digits_short n small = length-decimal-le_wide 39 n (omega arith) (omega arith) (omega arith)

part_short : (z : ℤ) → unsigned_abs z ≤ 2 ^ 127 - 1 → length (signed_decimal z) ≤ 40
part_short (pos n) small = omega (arith, digits_short n small)
part_short (negsuc n) small = omega (arith, digits_short (suc n) small)

parts_short : (z : ℤ) (zs : List ℤ) → ((j : ℕ) → unsigned_abs (at (z ∷ zs) j) ≤ 2 ^ 127 - 1) → length (join_with_byte comma (map signed_decimal (z ∷ zs))) ≤ 41 * length zs + 40
parts_short z [] small = omega (arith, part_short z (small 0))
parts_short z (y ∷ ys) small =
    let rest = parts_short y ys (λ j. small (suc j)) in
    let first = part_short z (small 0) in
    let both = length-append (signed_decimal z) (comma ∷ join_with_byte comma (map signed_decimal (y ∷ ys))) in
    omega (arith, rest, first, both)

some_parts : (zs : List ℤ) → length zs ≤ 16 → ((j : ℕ) → unsigned_abs (at zs j) ≤ 2 ^ 127 - 1) → length (join_with_byte comma (map signed_decimal zs)) ≤ 655
some_parts [] few small = omega arith
some_parts (z ∷ zs) few small = omega (arith, parts_short z zs small)

under_short : (b : Bool) (d : ℕ) → d ≤ 2 ^ 127 - 1 → length (if b then [] else slash ∷ decimal d) ≤ 40
under_short true d small = omega arith
under_short false d small = omega (arith, digits_short d small)

pub spelled_short : (x : Ratio) → IsTrue (is_held x) → length x.numerators ≡ 16 → length (spelled_number x) ≤ 695
unfolding is_held spelled_number
spelled_short x held full =
    let fit = (both_fit 16 (magnitude x) x.denominator).0 held in
    let over = fit.over in
    let zs = trimmed x.numerators in
    let small : (j : ℕ) → unsigned_abs (at zs j) ≤ 2 ^ 127 - 1 = λ j. subst (λ z. unsigned_abs z ≤ 2 ^ 127 - 1) (sym (at-trimmed x.numerators j)) (elim (cases_lt j 16) [
      | inl lt ↦ over j lt
      | inr le ↦ subst (λ z. unsigned_abs z ≤ 2 ^ 127 - 1) (sym (past_end x.numerators j (omega arith))) (omega arith)
    ]) in
    let few = length-trimmed x.numerators 16 (omega arith) (λ j le. past_end x.numerators j (omega arith)) in
    let parts = some_parts zs few small in
    let under = under_short (nat_eq x.denominator 1) x.denominator fit.under in
    let whole = length-append (join_with_byte comma (map signed_decimal zs)) (if nat_eq x.denominator 1 then [] else slash ∷ decimal x.denominator) in
    omega (arith, parts, under, whole)
