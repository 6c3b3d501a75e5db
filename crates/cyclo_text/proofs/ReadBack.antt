-- What is written is read again.
use Rattle.std.proofs.Common.{◌≡◌, ◌≢◌, ℕ, zero, suc, ◌+◌, ◌/◌, ◌%◌, ◌^◌, ◌<◌, ◌≤◌, Bool, true, false, ◌&&◌, ◌||◌, List, [], ◌∷◌, ◌++◌, length, All, refl, sym, ap, ap₂, ◌∙◌, subst, arith, inl, inr}
use Rattle.std.specs.Prelude.{ℤ, pos, negsuc, neg_ℤ, map, unsigned_abs, IsTrue, nat_le, nat_eq, ◌==◌, Some, Ok, Err, if◌then◌else◌}
use Rattle.std.specs.Fmt.{decimal, signed_decimal}
use Rattle.std.specs.List.{join_with_byte, list_all}
use Rattle.std.specs.Str.{all_ascii_digits, bytes_eq}
use Rattle.std.specs.Str.Parse.{digits_value}
use Rattle.std.proofs.lemmas.Bool.{cases_lt, cases_eq}
use Rattle.std.proofs.lemmas.Bool.Decides.{nat_tests}
use Rattle.std.proofs.lemmas.Fmt.{decimal_by_steps_wide, decimal_digit, decimal_is_IsNumeral_wide}
use Rattle.std.proofs.lemmas.List.Elements.{All-nil, All-cons, All-append}
use Rattle.std.proofs.lemmas.List.Splits.{slice_split_none, slice_split_at}
use Rattle.poly_core.specs.Combination.{pointwise}
use Rattle.poly_core.specs.Gcd.{totient}
use Rattle.poly_core.specs.Rho.{is_accepted, degree}
use Rattle.poly_core.specs.Table.{at}
use Rattle.poly_core.proofs.RhoLemmas.{totient_is, degree_positive, degree_small}
use Rattle.cyclo_core.specs.CycloLaws.{same_ratio_is}
use Rattle.cyclo_core.specs.Ratio.{Ratio, most, reduced, is_held, magnitude, coefficient, under, ring_at}
use Rattle.cyclo_core.proofs.NumberLemmas.{past_members, filled_is, coefficient_is, coefficient_past, both_fit}
use Rattle.cyclo_text.specs.NumberWords.{comma, slash, pieces, is_positive, is_natural, is_part, is_minus, digits_of, signed_by, part_value, part_fits, value_of, number_over, halves_of, number_of, trimmed, spelled_number}
use Rattle.cyclo_text.specs.declared.fault.NumberWord.TheVariants.{ZeroDenominator}
use Rattle.ring_laws.specs.Whole.{int_equal}
use Rattle.cyclo_text.proofs.DigitLemmas.{natural_digits, positive_digits}
use Rattle.cyclo_text.proofs.ReadLemmas.{number_of-halves, number_over-spelled, value_of-fits}
use Rattle.cyclo_text.proofs.TrimLemmas.{at-trimmed, length-trimmed, spelled-whole, spelled-over}

-- ---- digits
digits_push : (ds : List ℕ) (d : ℕ) → d < 10 → all_ascii_digits ds ≡ true → all_ascii_digits (ds ++ (48 + d) ∷ []) ≡ true
digits_push [] d small all = grind (arith, nat_tests)
digits_push (c ∷ cs) d small all = grind (arith, nat_tests, digits_push cs d small)

positive_push : (ds : List ℕ) (d : ℕ) → d < 10 → is_positive ds ≡ true → is_positive (ds ++ (48 + d) ∷ []) ≡ true
positive_push [] d small is = cc
positive_push (c ∷ cs) d small is = grind (arith, nat_tests, digits_push cs d small)

positive_decimal : (n : ℕ) → 0 < n → n < 10 ^ 64 → is_positive (decimal n) ≡ true
positive_decimal n some fits = decimal_by_steps_wide (λ n ds. 0 < n → is_positive ds ≡ true) one more n fits some
  where
    one : (n : ℕ) → n < 10 → 0 < n → is_positive ((48 + n) ∷ []) ≡ true
    one n small some = grind (arith, nat_tests)

    more : (n : ℕ) (ds : List ℕ) → 10 ≤ n → (0 < n / 10 → is_positive ds ≡ true) → 0 < n → is_positive (ds ++ (48 + n % 10) ∷ []) ≡ true
    more n ds large so_far some = positive_push ds (n % 10) (omega arith) (so_far (omega arith))

natural_of : (ds : List ℕ) → is_positive ds ≡ true → is_natural ds ≡ true
unfolding is_natural
natural_of ds is = by_test (bytes_eq ds (48 ∷ []))
  where
    by_test : (b : Bool) → (b || is_positive ds) ≡ true
    by_test true = refl
    by_test false = is

zero_natural : is_natural (48 ∷ []) ≡ true
unfolding is_natural
zero_natural = refl

natural_decimal : (n : ℕ) → n < 10 ^ 64 → is_natural (decimal n) ≡ true
natural_decimal zero fits = ap is_natural (decimal_digit 0 (omega arith)) ∙ zero_natural
natural_decimal (suc n) fits = natural_of (decimal (suc n)) (positive_decimal (suc n) (omega arith) fits)

decimal_value : (n : ℕ) → n < 10 ^ 64 → digits_value 10 (decimal n) ≡ n
decimal_value n fits = (decimal_is_IsNumeral_wide n fits).1

-- digits have no sign
unsigned_digits : (ds : List ℕ) → all_ascii_digits ds ≡ true → (is_minus ds ≡ false) × (digits_of ds ≡ ds)
unsigned_digits [] all = (refl, refl)
unsigned_digits (c ∷ cs) all =
    let plain : (c == 45) ≡ false = grind (arith, nat_tests) in
    (plain, ap (λ (b : Bool). if b then cs else c ∷ cs) plain)

part_of : (z : ℤ) → unsigned_abs z ≤ most → is_part (signed_decimal z) ≡ true
unfolding is_part
part_of (pos n) fits =
    let natural = natural_decimal n (omega arith) in
    let plain = unsigned_digits (decimal n) (natural_digits (decimal n) natural) in
    ap₂ (λ (b : Bool) (ds : List ℕ). if b then is_positive ds else is_natural ds) plain.0 plain.1 ∙ natural
part_of (negsuc n) fits = positive_decimal (suc n) (omega arith) (omega arith)

value_back : (z : ℤ) → unsigned_abs z ≤ most → part_value (signed_decimal z) ≡ z
unfolding part_value
value_back (pos n) fits =
    let plain = unsigned_digits (decimal n) (natural_digits (decimal n) (natural_decimal n (omega arith))) in
    ap₂ (λ (b : Bool) (ds : List ℕ). signed_by b (digits_value 10 ds)) plain.0 plain.1 ∙ ap pos (decimal_value n (omega arith))
value_back (negsuc n) fits = ap (λ m. neg_ℤ (pos m)) (decimal_value (suc n) (omega arith))

fits_back : (z : ℤ) → unsigned_abs z ≤ most → part_fits (signed_decimal z) ≡ true
fits_back z fits = ap (λ v. nat_le (unsigned_abs v) most) (value_back z fits) ∙ small (unsigned_abs z) fits
  where
    small : (n : ℕ) → n ≤ most → nat_le n most ≡ true
    small n h = grind (arith, nat_tests)

-- ---- separators
abbrev Lacks : ℕ → List ℕ → Type 0
Lacks at bs = All (λ b. (b == at) ≡ false) bs

digits_lack : (at : ℕ) → at < 48 → (ds : List ℕ) → all_ascii_digits ds ≡ true → Lacks at ds
digits_lack at low [] all = All-nil (λ b. (b == at) ≡ false)
digits_lack at low (c ∷ cs) all =
    All-cons (λ b. (b == at) ≡ false) c cs (grind (arith, nat_tests)) (digits_lack at low cs (grind (arith, nat_tests)))

part_lacks : (at : ℕ) → at < 48 → at ≢ 45 → (z : ℤ) → unsigned_abs z ≤ most → Lacks at (signed_decimal z)
part_lacks at low other (pos n) fits = digits_lack at low (decimal n) (natural_digits (decimal n) (natural_decimal n (omega arith)))
part_lacks at low other (negsuc n) fits =
    All-cons (λ b. (b == at) ≡ false) 45 (decimal (suc n)) (grind (arith, nat_tests)) (digits_lack at low (decimal (suc n)) (positive_digits (decimal (suc n)) (positive_decimal (suc n) (omega arith) (omega arith))))

abbrev Small : List ℤ → Type 0
Small zs = (j : ℕ) → unsigned_abs (at zs j) ≤ most

abbrev text_of : List ℤ → List ℕ
text_of zs = join_with_byte comma (map signed_decimal zs)

-- the parts come back from between the commas
parts_back : (z : ℤ) (zs : List ℤ) → Small (z ∷ zs) → pieces comma (text_of (z ∷ zs)) ≡ map signed_decimal (z ∷ zs)
parts_back z [] small = slice_split_none (λ b. b == comma) (signed_decimal z) (part_lacks comma (omega arith) (λ e. omega arith) z (small 0))
parts_back z (y ∷ ys) small =
    slice_split_at (λ b. b == comma) (signed_decimal z) comma (text_of (y ∷ ys)) (part_lacks comma (omega arith) (λ e. omega arith) z (small 0)) refl
    ∙ ap (λ l. signed_decimal z ∷ l) (parts_back y ys (λ j. small (suc j)))

-- there is no `/` in the parts
text_lacks : (zs : List ℤ) → Small zs → Lacks slash (text_of zs)
text_lacks [] small = All-nil (λ b. (b == slash) ≡ false)
text_lacks (z ∷ []) small = part_lacks slash (omega arith) (λ e. omega arith) z (small 0)
text_lacks (z ∷ y ∷ ys) small =
    All-append (λ b. (b == slash) ≡ false) (signed_decimal z) (comma ∷ text_of (y ∷ ys)) (part_lacks slash (omega arith) (λ e. omega arith) z (small 0))
    (All-cons (λ b. (b == slash) ≡ false) comma (text_of (y ∷ ys)) refl (text_lacks (y ∷ ys) (λ j. small (suc j))))

all_parts : (zs : List ℤ) → Small zs → list_all is_part (map signed_decimal zs) ≡ true
all_parts [] small = refl
all_parts (z ∷ zs) small = ap (λ b. b && list_all is_part (map signed_decimal zs)) (part_of z (small 0)) ∙ all_parts zs (λ j. small (suc j))

all_fit : (zs : List ℤ) → Small zs → list_all part_fits (map signed_decimal zs) ≡ true
all_fit [] small = refl
all_fit (z ∷ zs) small = ap (λ b. b && list_all part_fits (map signed_decimal zs)) (fits_back z (small 0)) ∙ all_fit zs (λ j. small (suc j))

values_back : (zs : List ℤ) → Small zs → map part_value (map signed_decimal zs) ≡ zs
values_back [] small = refl
values_back (z ∷ zs) small = ap₂ ◌∷◌ (value_back z (small 0)) (values_back zs (λ j. small (suc j)))

length_parts : (zs : List ℤ) → length (map signed_decimal zs) ≡ length zs
length_parts [] = refl
length_parts (z ∷ zs) = ap suc (length_parts zs)

-- ---- the halves
halves_whole : (text : List ℕ) → Lacks slash text → halves_of (pieces slash text) ≡ Some (text, 49 ∷ [])
unfolding halves_of
halves_whole text none = ap halves_of (slice_split_none (λ b. b == slash) text none)

halves_over : (text under : List ℕ) → Lacks slash text → Lacks slash under → halves_of (pieces slash (text ++ slash ∷ under)) ≡ Some (text, under)
unfolding halves_of
halves_over text under none more =
    ap halves_of (slice_split_at (λ b. b == slash) text slash under none refl ∙ ap (λ l. text ∷ l) (slice_split_none (λ b. b == slash) under more))

word_back : (root : ℕ) (x : Ratio) → Small (trimmed x.numerators) → x.denominator ≤ most
    → number_of root (spelled_number x) ≡ number_over root (pieces comma (text_of (trimmed x.numerators))) (decimal x.denominator)
word_back root x small bounded =
    let zs = trimmed x.numerators in
    let none = text_lacks zs small in
    elim (cases_eq x.denominator 1) [
      | inl one ↦
          ap (number_of root) (spelled-whole x one) ∙ number_of-halves root (text_of zs) (text_of zs) (49 ∷ []) (halves_whole (text_of zs) none)
          ∙ ap (number_over root (pieces comma (text_of zs))) (sym (ap decimal one ∙ decimal_digit 1 (omega arith)))
      | inr ne ↦
          let under = digits_lack slash (omega arith) (decimal x.denominator) (natural_digits (decimal x.denominator) (natural_decimal x.denominator (omega arith))) in
          ap (number_of root) (spelled-over x ne) ∙ number_of-halves root _ (text_of zs) (decimal x.denominator) (halves_over (text_of zs) (decimal x.denominator) none under)
    ]

trimmed_some : (xs : List ℤ) → 0 < length xs → (z : ℤ) × (zs : List ℤ) × (trimmed xs ≡ z ∷ zs)
unfolding trimmed
trimmed_some [] some = absurd (omega arith)
trimmed_some (x ∷ xs) some = by_test (list_all (λ z. int_equal z (pos 0)) xs)
  where
    by_test : (b : Bool) → (z : ℤ) × (zs : List ℤ) × ((if b then x ∷ [] else x ∷ trimmed xs) ≡ z ∷ zs)
    by_test true = (x, [], refl)
    by_test false = (x, trimmed xs, refl)

small_at : (root : ℕ) (x : Ratio) → ((j : ℕ) → j < 16 → magnitude x j ≤ most) → ((j : ℕ) → degree root ≤ j → at x.numerators j ≡ pos 0) → (j : ℕ) → unsigned_abs (at (trimmed x.numerators) j) ≤ most
small_at root x over past j =
    subst (λ z. unsigned_abs z ≤ most) (sym (at-trimmed x.numerators j))
    (elim (cases_lt j 16) [
      | inl lt ↦ over j lt
      | inr le ↦ subst (λ z. unsigned_abs z ≤ most) (sym (past j (omega (arith, degree_small root)))) (omega arith)
    ])

pub number_back : (root : ℕ) (x : Ratio) → IsTrue (is_accepted root) → IsTrue ((ring_at root).member x) → IsTrue (is_held x) → 0 < x.denominator → length x.numerators ≡ 16
    → number_of root (spelled_number x) ≡ Ok x
unfolding is_held
number_back root x accepted member held positive full =
    let fit = (both_fit 16 (magnitude x) x.denominator).0 held in
    let over = fit.over in
    let bounded = fit.under in
    let d : ℕ = x.denominator in
    let zs = trimmed x.numerators in
    let same : at zs ≡ at x.numerators = pointwise (at-trimmed x.numerators) in
    let past = past_members root x member in
    let some = degree_positive root in
    let count = totient_is root accepted in
    let small : Small zs = λ j. small_at root x over past j in
    let text : pieces comma (text_of zs) ≡ map signed_decimal zs =
    let shape = trimmed_some x.numerators (omega (arith, full)) in
    subst (λ (l : List ℤ). Small l → pieces comma (text_of l) ≡ map signed_decimal l) (sym shape.2) (parts_back shape.0 shape.1) small in
    let short = length-trimmed x.numerators (degree root) some past in
    let few : length (map signed_decimal zs) ≤ totient root = omega (arith, length_parts zs, short, count) in
    let value : digits_value 10 (decimal d) ≡ d = decimal_value d (omega (arith, bounded)) in
    let other : nat_eq d 0 ≡ false = grind (arith, nat_tests) in
    let form : x ≡ reduced (coefficient root x) (under x) = (same_ratio_is x _).0 member in
    let top : at x.numerators ≡ coefficient root x = filled_is root x.numerators (coefficient root x) (λ j lt. sym (coefficient_is root x j lt)) past (coefficient_past root x) in
    let bottom : d ≡ under x = omega arith in
    word_back root x small bounded
    ∙ ap (λ l. number_over root l (decimal d)) text
    ∙ number_over-spelled root (map signed_decimal zs) (decimal d) (all_parts zs small) (natural_decimal d (omega (arith, bounded)))
    ∙ ap (value_of root (map signed_decimal zs)) value
    ∙ value_of-fits root (map signed_decimal zs) d few (all_fit zs small) bounded
    ∙ ap (λ (b : Bool). if b then Err ZeroDenominator else Ok (reduced (at (map part_value (map signed_decimal zs))) d)) other
    ∙ ap (λ (l : List ℤ). Ok (reduced (at l) d)) (values_back zs small)
    ∙ ap Ok (ap₂ reduced (same ∙ top) bottom ∙ sym form)
