-- Counting labels: none, and exactly one.
use Rattle.std.proofs.Common.{◌≡◌, ℕ, zero, suc, ◌+◌, ◌<◌, ◌≤◌, Bool, true, false, refl, sym, ap, ◌∙◌, arith, add-one, true≢false}
use Rattle.std.specs.Prelude.{if◌then◌else◌, ◌⊎◌}
use Rattle.std.proofs.Common.{inl, inr}
use Rattle.std.proofs.lemmas.Bool.{cases_lt}
use Rattle.fusion_rules.specs.Check.{count_below}

pub count_more : (test : ℕ → Bool) (n : ℕ) → count_below (n + 1) test ≡ count_below n test + (if test n then 1 else 0)
count_more test n = rw (add-one n) refl

pub count_few : (test : ℕ → Bool) (n : ℕ) → count_below n test ≤ n
count_few test zero = omega arith
count_few test (suc n) = grind (arith, count_few test n)

-- below one more is below, or the last
last : (x n : ℕ) → x < suc n → (x < n) ⊎ (x ≡ n)
last x n h = elim (cases_lt x n) [ inl lt ↦ inl lt | inr ge ↦ inr (omega arith) ]

add_none : (b : Bool) (k m : ℕ) → k + (if b then 1 else 0) ≡ m → b ≡ false → k ≡ m
add_none true k m e f = absurd (true≢false f)
add_none false k m e f = omega arith

-- where none is counted, none passes
pub none_counted : (test : ℕ → Bool) (n : ℕ) → count_below n test ≡ 0 → (x : ℕ) → x < n → test x ≡ false
none_counted test zero e x h = absurd (omega arith)
none_counted test (suc n) e x h = by_test (test n) refl e (λ f. none_counted test n f x)
  where
    by_test : (b : Bool) → test n ≡ b → count_below n test + (if b then 1 else 0) ≡ 0 → (count_below n test ≡ 0 → x < n → test x ≡ false) → test x ≡ false
    by_test true is f before = absurd (omega arith)
    by_test false is f before = elim (last x n h) [ inl lt ↦ before (omega arith) lt | inr eq ↦ ap test eq ∙ is ]

pub count_none : (test : ℕ → Bool) (n : ℕ) → ((x : ℕ) → x < n → test x ≡ false) → count_below n test ≡ 0
count_none test zero none = refl
count_none test (suc n) none = rw (none n (omega arith)) (rw (count_none test n (λ x h. none x (omega arith))) refl)

-- the one label below n that passes
pub record IsOnly (n : ℕ) (test : ℕ → Bool) (b : ℕ) : Type 0 where
  pub label : b < n
  pub passes : test b ≡ true
  pub single : (x : ℕ) → x < n → test x ≡ true → x ≡ b

only_last : (test : ℕ → Bool) (n : ℕ) → test n ≡ true → ((x : ℕ) → x < n → test x ≡ false) → IsOnly (suc n) test n
only_last test n is none = record {
  label = omega arith;
  passes = is;
  single = λ x h pass. elim (last x n h) [ inl lt ↦ absurd (true≢false (sym pass ∙ none x lt)) | inr eq ↦ eq ];
}

only_before : (test : ℕ → Bool) (n b : ℕ) → test n ≡ false → IsOnly n test b → IsOnly (suc n) test b
only_before test n b is only = record {
  label = omega (arith, only.label);
  passes = only.passes;
  single = λ x h pass. elim (last x n h) [ inl lt ↦ only.single x lt pass | inr eq ↦ absurd (true≢false (sym pass ∙ (ap test eq ∙ is))) ];
}

-- where one is counted, exactly one passes
pub one_counted : (test : ℕ → Bool) (n : ℕ) → count_below n test ≡ 1 → (b : ℕ) × IsOnly n test b
one_counted test zero e = absurd (omega arith)
one_counted test (suc n) e = by_test (test n) refl e (one_counted test n)
  where
    by_test : (b : Bool) → test n ≡ b → count_below n test + (if b then 1 else 0) ≡ 1 → (count_below n test ≡ 1 → (x : ℕ) × IsOnly n test x) → (x : ℕ) × IsOnly (suc n) test x
    by_test true is f rest = (n, only_last test n is (none_counted test n (omega arith)))
    by_test false is f rest = let before = rest (omega arith) in (before.0, only_before test n before.0 is before.1)

count_one : (test : ℕ → Bool) (n b : ℕ) → IsOnly n test b → count_below n test ≡ 1
count_one test zero b only = absurd (omega (arith, only.label))
count_one test (suc n) b only = by_test (test n) refl (count_one test n b)
  where
    not_here : (x : ℕ) → x < n → (s : Bool) → test x ≡ s → n ≡ b → test x ≡ false
    not_here x h true pass here = absurd (let same : x ≡ b = only.single x (omega arith) pass in omega arith)
    not_here x h false pass here = pass

    by_test : (t : Bool) → test n ≡ t → (IsOnly n test b → count_below n test ≡ 1) → count_below n test + (if t then 1 else 0) ≡ 1
    by_test true is before =
        let here : n ≡ b = only.single n (omega arith) is in
        let none : count_below n test ≡ 0 = count_none test n (λ x h. not_here x h (test x) refl here) in
        omega arith
    by_test false is before =
        elim (last b n only.label) [
          | inl lt ↦ (let one : count_below n test ≡ 1 = before (record { label = lt; passes = only.passes; single = λ x h pass. only.single x (omega arith) pass }) in omega arith)
          | inr eq ↦ absurd (true≢false (sym only.passes ∙ (ap test eq ∙ is)))
        ]

pub counts_one : (test : ℕ → Bool) (n : ℕ) → ((b : ℕ) × IsOnly n test b) → count_below n test ≡ 1
counts_one test n one = count_one test n one.0 one.1
