-- The parts that are written, and how they are joined.
use Rattle.std.proofs.Common.{◌≡◌, ◌≢◌, ℕ, zero, suc, ◌+◌, ◌-◌, ◌<◌, ◌≤◌, Bool, true, false, ◌&&◌, List, [], ◌∷◌, ◌++◌, length, take, refl, sym, ap, ◌∙◌, arith, inl, inr, append_assoc, append-nil}
use Rattle.std.specs.Prelude.{◌⊎◌, ℤ, pos, map, nat_eq, if◌then◌else◌}
use Rattle.std.specs.Fmt.{decimal, signed_decimal}
use Rattle.std.proofs.lemmas.Bool.Decides.{nat_tests}
use Rattle.cyclo_core.specs.Ratio.{Ratio}
use Rattle.std.specs.List.{join_with_byte}
use Rattle.std.proofs.lemmas.List.{take_more}
use Rattle.ring_laws.specs.Whole.{int_equal}
use Rattle.ring_laws.specs.WholeLaws.{int_equal_is}
use Rattle.poly_core.specs.Table.{at}
use Rattle.cyclo_text.specs.NumberWords.{comma, slash, all_zero, trimmed, spelled_number}

pub is_zero_part : (z : ℤ) → z ≡ pos 0 → int_equal z (pos 0) ≡ true
is_zero_part z e = (int_equal_is z (pos 0)).1 e

pub all_zero_is : (xs : List ℤ) → ((j : ℕ) → at xs j ≡ pos 0) → all_zero xs ≡ true
all_zero_is [] h = refl
all_zero_is (x ∷ xs) h = ap (λ b. b && all_zero xs) (is_zero_part x (h 0)) ∙ all_zero_is xs (λ j. h (suc j))

all_zero_at : (xs : List ℤ) → all_zero xs ≡ true → (j : ℕ) → at xs j ≡ pos 0
all_zero_at [] h j = refl
all_zero_at (x ∷ xs) h zero = by_test (int_equal x (pos 0)) refl h
  where
    by_test : (b : Bool) → int_equal x (pos 0) ≡ b → (b && all_zero xs) ≡ true → x ≡ pos 0
    by_test true e h = (int_equal_is x (pos 0)).0 e
    by_test false e h = cc
all_zero_at (x ∷ xs) h (suc j) = all_zero_at xs (rest (int_equal x (pos 0)) h) j
  where
    rest : (b : Bool) → (b && all_zero xs) ≡ true → all_zero xs ≡ true
    rest true h = h
    rest false h = cc

some_left : (xs : List ℤ) (k : ℕ) → at xs k ≢ pos 0 → all_zero xs ≡ false
some_left xs k ne = by_test (all_zero xs) refl
  where
    by_test : (b : Bool) → all_zero xs ≡ b → b ≡ false
    by_test true e = absurd (ne (all_zero_at xs e k))
    by_test false e = refl

-- the parts up to place k, where it is the last that isn't zero, or the first
pub trimmed_take : (xs : List ℤ) (k : ℕ) → k < length xs → ((j : ℕ) → k < j → at xs j ≡ pos 0) → (k ≡ 0) ⊎ (at xs k ≢ pos 0) → take (suc k) xs ≡ trimmed xs
unfolding trimmed
trimmed_take [] k lt past last = absurd (omega arith)
trimmed_take (x ∷ xs) zero lt past last =
    let none = all_zero_is xs (λ j. past (suc j) (omega arith)) in
    rw none refl
trimmed_take (x ∷ xs) (suc k) lt past (inl e) = absurd (omega arith)
trimmed_take (x ∷ xs) (suc k) lt past (inr ne) =
    let some = some_left xs k ne in
    rw some (ap (λ ys. x ∷ ys) (trimmed_take xs k (omega arith) (λ j more. past (suc j) (omega arith)) (inr ne)))

at-trimmed_by : (x : ℤ) (xs : List ℤ) (b : Bool) → ((j : ℕ) → at (trimmed xs) j ≡ at xs j) → all_zero xs ≡ b → (j : ℕ) → at (if b then x ∷ [] else x ∷ trimmed xs) j ≡ at (x ∷ xs) j
at-trimmed_by x xs true more e zero = refl
at-trimmed_by x xs true more e (suc j) = sym (all_zero_at xs e j)
at-trimmed_by x xs false more e zero = refl
at-trimmed_by x xs false more e (suc j) = more j

pub at-trimmed : (xs : List ℤ) (j : ℕ) → at (trimmed xs) j ≡ at xs j
unfolding trimmed
at-trimmed [] j = refl
at-trimmed (x ∷ xs) j = at-trimmed_by x xs (all_zero xs) (at-trimmed xs) refl j

pub trimmed_count : (xs : List ℤ) (k : ℕ) → length xs ≡ 16 → 0 < k → k ≤ 16 → ((j : ℕ) → k ≤ j → at xs j ≡ pos 0) → (k ≡ 1) ⊎ (at xs (k - 1) ≢ pos 0) → take k xs ≡ trimmed xs
trimmed_count xs zero full some few past last = absurd (omega arith)
trimmed_count xs (suc k) full some few past (inl one) = trimmed_take xs k (omega arith) (λ j more. past j (omega arith)) (inl (omega arith))
trimmed_count xs (suc k) full some few past (inr ne) =
    let same : suc k - 1 ≡ k = omega arith in
    trimmed_take xs k (omega arith) (λ j more. past j (omega arith)) (inr (λ e. ne (ap (at xs) same ∙ e)))

pub length-trimmed : (xs : List ℤ) (n : ℕ) → 0 < n → ((j : ℕ) → n ≤ j → at xs j ≡ pos 0) → length (trimmed xs) ≤ n
unfolding trimmed
length-trimmed [] n some past = omega arith
length-trimmed (x ∷ xs) zero some past = absurd (omega arith)
length-trimmed (x ∷ xs) (suc zero) some past =
    let none = all_zero_is xs (λ j. past (suc j) (omega arith)) in
    rw none (omega arith)
length-trimmed (x ∷ xs) (suc (suc n)) some past =
    let more = length-trimmed xs (suc n) (omega arith) (λ j le. past (suc j) (omega arith)) in
    by_test (all_zero xs) more
  where
    by_test : (b : Bool) → length (trimmed xs) ≤ suc n → length (if b then x ∷ [] else x ∷ trimmed xs) ≤ suc (suc n)
    by_test true le = omega arith
    by_test false le = omega arith

-- one more piece behind others
pub join-push : (c : ℕ) (x : List ℕ) (xs : List (List ℕ)) (y : List ℕ) → join_with_byte c ((x ∷ xs) ++ y ∷ []) ≡ (join_with_byte c (x ∷ xs) ++ c ∷ []) ++ y
join-push c x [] y = sym (append_assoc x (c ∷ []) y)
join-push c x (z ∷ zs) y =
    ap (λ l. x ++ (c ∷ l)) (join-push c z zs y)
    ∙ regroup x (join_with_byte c (z ∷ zs)) (c ∷ []) y
  where
    regroup : (x m n y : List ℕ) → x ++ (c ∷ ((m ++ n) ++ y)) ≡ ((x ++ (c ∷ m)) ++ n) ++ y
    regroup x m n y = sym (ap (λ l. l ++ y) (append_assoc x (c ∷ m) n) ∙ append_assoc x (c ∷ (m ++ n)) y)

map-push : (xs : List ℤ) (y : ℤ) → map signed_decimal (xs ++ y ∷ []) ≡ map signed_decimal xs ++ signed_decimal y ∷ []
map-push [] y = refl
map-push (x ∷ xs) y = ap (λ l. signed_decimal x ∷ l) (map-push xs y)

-- the text of one part more
pub text-more : (xs : List ℤ) (j : ℕ) → 0 < j → j < length xs
    → join_with_byte comma (map signed_decimal (take (j + 1) xs)) ≡ (join_with_byte comma (map signed_decimal (take j xs)) ++ comma ∷ []) ++ signed_decimal (at xs j)
text-more [] j some lt = absurd (omega arith)
text-more (x ∷ xs) zero some lt = absurd (omega arith)
text-more (x ∷ xs) (suc j) some lt =
    ap (λ l. join_with_byte comma (map signed_decimal l)) (take_more (x ∷ xs) (suc j) (pos 0) lt)
    ∙ ap (join_with_byte comma) (map-push (take (suc j) (x ∷ xs)) (at xs j))
    ∙ join-push comma (signed_decimal x) (map signed_decimal (take j xs)) (signed_decimal (at xs j))

pub text-one : (xs : List ℤ) → 0 < length xs → signed_decimal (at xs 0) ≡ join_with_byte comma (map signed_decimal (take 1 xs))
text-one [] some = absurd (omega arith)
text-one (x ∷ xs) some = refl

-- a spelling over 1, and over another denominator
pub spelled-whole : (x : Ratio) → x.denominator ≡ 1 → spelled_number x ≡ join_with_byte comma (map signed_decimal (trimmed x.numerators))
unfolding spelled_number
spelled-whole x e =
    let one : nat_eq x.denominator 1 ≡ true = grind (arith, nat_tests) in
    ap (λ (b : Bool). join_with_byte comma (map signed_decimal (trimmed x.numerators)) ++ (if b then [] else slash ∷ decimal x.denominator)) one ∙ append-nil _

pub spelled-over : (x : Ratio) → x.denominator ≢ 1 → spelled_number x ≡ join_with_byte comma (map signed_decimal (trimmed x.numerators)) ++ (slash ∷ decimal x.denominator)
unfolding spelled_number
spelled-over x ne =
    let other : nat_eq x.denominator 1 ≡ false = grind (arith, nat_tests) in
    ap (λ (b : Bool). join_with_byte comma (map signed_decimal (trimmed x.numerators)) ++ (if b then [] else slash ∷ decimal x.denominator)) other
