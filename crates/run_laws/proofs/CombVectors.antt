-- What holds of comb vectors for every engine.
use Rattle.std.proofs.Common.{◌≡◌, ℕ, zero, ◌+◌, ◌-◌, Bool, true, false, inl, inr, List, [], ◌∷◌, map, length, length-set, refl, ap, sym, subst, ◌∙◌, arith}
use Rattle.std.specs.Prelude.{if◌then◌else◌, ◌&&◌, ◌==◌, nat_lt, IsTrue, slice_set}
use Rattle.std.specs.List.{list_all}
use Rattle.std.proofs.lemmas.Bool.Decides.{nat_tests}
use Rattle.ring_laws.specs.Ring.{RingLaws}
use Rattle.ring_laws.specs.Sums.{total, sum_over}
use Rattle.ring_laws.proofs.SumLemmas as S
use Rattle.symbol_table.specs.Symbols.{Symbols}
use Rattle.comb_laws.specs.Operators.{acted, kernel_of, path_weight, strand, strands_after, term_at}
use Rattle.comb_laws.specs.Paths.{Path, Vector, goes_on, is_path, labels, ways, paths}
use Rattle.comb_laws.specs.Words.{comb_acts}
use Rattle.comb_laws.specs.declared.operator.Operator.{Operator}
use Rattle.comb_laws.specs.declared.operator.Operator.TheVariants.{Exchange, Project}
use Rattle.comb_laws.proofs.PathFacts.{and_true, nat_lt_true}
use Rattle.run_laws.specs.Combs.{comb_nought, comb_weight, IsCombVector, AreCombVectors, CombsCommuteFar, ExchangesLeaveSome}
use Rattle.run_laws.specs.Meaning.{IsIn}
use Rattle.run_laws.proofs.DistinctLemmas.{in_map}
use Rattle.run_laws.proofs.OrderLemmas.{in_flat, in_labels}

all_in : {A : Type 0} (test : A → Bool) (x : A) (xs : List A) → list_all test xs ≡ true → IsIn x xs → test x ≡ true
all_in test x [] h there = absurd there
all_in test x (y ∷ xs) h (inl same) = ap test same ∙ (and_true (test y) (list_all test xs) h).0
all_in test x (y ∷ xs) h (inr there) = all_in test x xs (and_true (test y) (list_all test xs) h).1 there

in_all : {A : Type 0} (test : A → Bool) → ((x : A) → test x ≡ true) → (xs : List A) → list_all test xs ≡ true
in_all test h [] = refl
in_all test h (x ∷ xs) = S.and_yes (test x) (list_all test xs) (h x) (in_all test h xs)

module _ {E : Type 0} (c : Symbols E) where
  -- every path is one of the paths
  in_ways : (p : ℕ) (ss xs : List ℕ) → goes_on c p ss xs ≡ true → IsIn xs (ways c p ss)
  in_ways p [] [] h = inl refl
  in_ways p [] (x ∷ xs) h = absurd (cc)
  in_ways p (s ∷ ss) [] h = absurd (cc)
  in_ways p (s ∷ ss) (x ∷ xs) h =
      let parts = and_true (nat_lt x c.count) (c.fuse p s x && goes_on c x ss xs) h in
      let fuses = and_true (c.fuse p s x) (goes_on c x ss xs) parts.1 in
      in_flat (λ y. if c.fuse p s y then map (λ ys. y ∷ ys) (ways c y ss) else []) (x ∷ xs) x (labels c.count) (in_labels c.count x (nat_lt_true x c.count parts.0))
      (rw fuses.0 (in_map (λ ys. x ∷ ys) xs (ways c x ss) (in_ways x ss xs fuses.1)))

  in_paths : (strands : List ℕ) (x : Path) → is_path c strands x ≡ true → IsIn x (paths c strands)
  in_paths strands [] h = absurd (cc)
  in_paths strands (x ∷ xs) h =
      let parts = and_true (x == 0) (goes_on c 0 strands xs) h in
      let unit : x ≡ 0 = grind (arith, nat_tests) in
      subst (λ m. IsIn (m ∷ xs) (paths c strands)) (sym unit) (in_map (λ ys. zero ∷ ys) xs (ways c zero strands) (in_ways 0 strands xs parts.1))

length-after : (o : Operator) (strands : List ℕ) (k : ℕ) → length (strands_after o strands k) ≡ length strands
length-after (Exchange sign) strands k =
    length-set (slice_set strands (k - 1) (strand strands (k + 1))) k (strand strands k) ∙ length-set strands (k - 1) (strand strands (k + 1))
length-after (Project q) strands k = refl

module _ {E : Type 0} (c : Symbols E) (laws : RingLaws c.ring c.held) where
  keeps : (n k : ℕ) (o : Operator) (s : List ℕ × Vector E) → IsCombVector c n s → IsCombVector c n (comb_acts c k o s)
  keeps n k o s is = record {
    strands = length-after o s.0 k ∙ is.strands;
    members = λ x. member (is_path c (strands_after o s.0 k) x) x;
    off = λ x h. S.if_no (is_path c (strands_after o s.0 k) x) _ _ h;
  }
    where
      member : (b : Bool) (x : Path) → IsTrue (c.ring.member (if b then total c.ring c.count (term_at c s.0 k (kernel_of c o) s.1 x) else c.ring.zero))
      member true x = S.total_is laws c.count (term_at c s.0 k (kernel_of c o) s.1 x)
      member false x = laws.zero_is

  -- a comb vector that is zero at paths is zero
  zero_at : (n : ℕ) (s : List ℕ × Vector E) → IsCombVector c n s → comb_nought c s ≡ true → (x : Path) → s.1 x ≡ c.ring.zero
  zero_at n s is h x = by (is_path c s.0 x) refl
    where
      by : (b : Bool) → is_path c s.0 x ≡ b → s.1 x ≡ c.ring.zero
      by true there = (laws.is_zero_is (s.1 x) (is.members x)).0 (all_in (λ y. c.held.is_zero (s.1 y)) x (paths c s.0) h (in_paths c s.0 x there))
      by false none = is.off x none

  zero_tells : (x : E) → x ≡ c.ring.zero → c.held.is_zero x ≡ true
  zero_tells x h = subst (λ y. c.held.is_zero y ≡ true) (sym h) ((laws.is_zero_is c.ring.zero laws.zero_is).1 refl)

  acted_zero : (strands after : List ℕ) (k : ℕ) (o : Operator) (v : Vector E) → ((x : Path) → v x ≡ c.ring.zero) → (x : Path) → acted c strands after k (kernel_of c o) v x ≡ c.ring.zero
  acted_zero strands after k o v none x = by (is_path c after x)
    where
      by : (b : Bool) → (if b then total c.ring c.count (term_at c strands k (kernel_of c o) v x) else c.ring.zero) ≡ c.ring.zero
      by true = S.total_none laws c.count (term_at c strands k (kernel_of c o) v x) (λ t low. ap (c.ring.product _) (none (slice_set x k t)) ∙ laws.product-zero _)
      by false = refl

  nothing : (n k : ℕ) (o : Operator) (s : List ℕ × Vector E) → IsCombVector c n s → comb_nought c s ≡ true → comb_nought c (comb_acts c k o s) ≡ true
  nothing n k o s is h =
      in_all (λ x. c.held.is_zero ((comb_acts c k o s).1 x)) (λ x. zero_tells ((comb_acts c k o s).1 x) (acted_zero s.0 (strands_after o s.0 k) k o s.1 (zero_at n s is h) x)) (paths c (strands_after o s.0 k))

  sum_none : (f : Path → E) → ((x : Path) → f x ≡ c.ring.zero) → (xs : List Path) → sum_over c.ring f xs ≡ c.ring.zero
  sum_none f none [] = refl
  sum_none f none (x ∷ xs) = (λ i. c.ring.sum (none x i) (sum_none f none xs i)) ∙ laws.sum-zero c.ring.zero laws.zero_is

  weightless : (n : ℕ) (s : List ℕ × Vector E) → IsCombVector c n s → comb_nought c s ≡ true → c.held.is_zero (comb_weight c s) ≡ true
  weightless n s is h =
      zero_tells (comb_weight c s) (sum_none (λ x. c.ring.product (path_weight c s.0 x) (c.ring.product (s.1 x) (c.ring.conjugate (s.1 x))))
      (λ x. ap (c.ring.product (path_weight c s.0 x)) (ap (λ y. c.ring.product y (c.ring.conjugate (s.1 x))) (zero_at n s is h x) ∙ S.zero-product laws (c.ring.conjugate (s.1 x)))
      ∙ laws.product-zero (path_weight c s.0 x))
      (paths c s.0))

  pub are_comb_vectors : AreCombVectors c
  are_comb_vectors = record { keeps = keeps; nothing = nothing; weightless = weightless; rows = λ strands v commands. refl }

  pub combs_commute_far : CombsCommuteFar c
  combs_commute_far far n = record {
    keeps = λ k o s low high is. keeps n k o s is;
    far = λ i j first second s low apart high is. far s.0 s.1 i j first second low apart (let long : length s.0 ≡ n = is.strands in omega arith);
  }

  pub exchanges_leave_some : ExchangesLeaveSome c
  exchanges_leave_some n k sign back s is undone some = by (comb_nought c (comb_acts c k (Exchange sign) s)) refl
    where
      by : (b : Bool) → comb_nought c (comb_acts c k (Exchange sign) s) ≡ b → comb_nought c (comb_acts c k (Exchange sign) s) ≡ false
      by true none =
          absurd (let off : comb_nought c s ≡ true = ap (comb_nought c) (sym undone) ∙ nothing n k (Exchange back) (comb_acts c k (Exchange sign) s) (keeps n k (Exchange sign) s is) none in cc)
      by false is = is
