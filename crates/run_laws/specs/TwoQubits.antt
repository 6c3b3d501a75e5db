-- An engine that meets all that is asked of one, and moves. It has four strands and two qubits, in a product state: the
-- first is seen at gap 1 and the second at gap 3. An exchange at one of these gaps turns its qubit over, and a measurement
-- there keeps one of its two amplitudes; an exchange at gap 2 exchanges the qubits. One gap at a time is a pair.
use Rattle.std.proofs.Common.{◌≡◌, ℕ, zero, suc, ◌+◌, ◌*◌, ◌<◌, Bool, true, false, inl, inr, List, [], ◌∷◌, map, Some, refl, ap, sym, subst, ◌∙◌, arith}
use Rattle.std.specs.Prelude.{◌==◌, ◌&&◌, ◌||◌, if◌then◌else◌}
use Rattle.std.specs.List.{AllByRecursion}
use Rattle.std.specs.List.Sorted.{IsStrictlySortedBy}
use Rattle.std.specs.Ordering.{nat_cmp}
use Rattle.std.proofs.lemmas.Bool.Decides.{eqb_tells}
use Rattle.ring_laws.proofs.StatedLemmas.{some_inj}
use Rattle.comb_laws.specs.Words.{Acts}
use Rattle.comb_laws.specs.declared.operator.Operator.{Operator}
use Rattle.comb_laws.specs.declared.operator.Operator.TheVariants as operator
use Rattle.word_runs.specs.Told.{Told, IsGap, AreShapes, after_step, after_raises}
use Rattle.word_runs.specs.declared.engine.Step.{Step}
use Rattle.word_runs.specs.declared.engine.Step.TheVariants.{Raise, Exchange}
use Rattle.run_laws.specs.Meaning.{IsIn, AreDistinct, ArePartsOf, IsFaithful, IsExact}
use Rattle.run_laws.specs.Rows.{HasRisingParts, IsWeighing}
use Rattle.run_laws.specs.Schedules.{CommuteFar}

-- The amplitudes of the charges 0 and 1.
pub record Qubit : Type 0 where
  pub none : ℕ
  pub one : ℕ

pub record Two : Type 0 where
  pub first : Qubit
  pub second : Qubit

abbrev kept : ℕ → Qubit → Qubit
kept zero q = record { none = q.none; one = 0 }
kept (suc zero) q = record { none = 0; one = q.one }
kept (suc (suc c)) q = record { none = 0; one = 0 }

abbrev on_qubit : Operator → Qubit → Qubit
on_qubit (operator.Exchange sign) q = record { none = q.one; one = q.none }
on_qubit (operator.Project c) q = kept c q

abbrev between : Operator → Two → Two
between (operator.Exchange sign) v = record { first = v.second; second = v.first }
between (operator.Project c) v = record { first = kept c v.first; second = v.second }

abbrev pub two_acts : Acts Two
two_acts zero o v = v
two_acts (suc zero) o v = record { first = on_qubit o v.first; second = v.second }
two_acts (suc (suc zero)) o v = between o v
two_acts (suc (suc (suc k))) o v = record { first = v.first; second = on_qubit o v.second }

abbrev empty : Qubit → Bool
empty q = (q.none == 0) && (q.one == 0)

abbrev pub two_nought : Two → Bool
two_nought v = empty v.first || empty v.second

-- The gap that is a pair, and the vector.
pub record Pair : Type 0 where
  pub gap : ℕ
  pub vector : Two

abbrev pub stands : Pair → Two → Type 0
stands s v = s.vector ≡ v

abbrev stepped : Step → Pair → Pair
stepped (Raise k) s = record { gap = k; vector = s.vector }
stepped (Exchange k sign) s = record { gap = s.gap; vector = two_acts k (operator.Exchange sign) s.vector }

-- a part, unless its vector is zero
abbrev unless : Bool → ℕ → ℕ → Two → List (ℕ × Pair) → List (ℕ × Pair)
unless b q t v rest = if b then rest else (q, record { gap = t; vector = v }) ∷ rest

abbrev parts_by : Bool → Bool → ℕ → Two → Two → List (ℕ × Pair)
parts_by x y t a b = unless x 0 t a (unless y 1 t b [])

abbrev parts_of : ℕ → Pair → List (ℕ × Pair)
parts_of k s =
    let a = two_acts k (operator.Project 0) s.vector in
    let b = two_acts k (operator.Project 1) s.vector in
    parts_by (two_nought a) (two_nought b) s.gap a b

abbrev pub two_told : Told Pair ℕ
two_told = record {
  strands = 4;
  shape = λ s. s.gap;
  turned = λ k t. k;
  path = λ k t. if k == t then [] else k ∷ [];
  is_pair = λ k t. k == t;
  stepped = λ step s. Some (stepped step s);
  parts = λ k s. Some (parts_of k s);
  entries = λ s. 1;
}

same : (k : ℕ) → (k == k) ≡ true
same k = elim (eqb_tells k k) [ inl y ↦ y.0 | inr n ↦ absurd (n.1 refl) ]

shape_after : (step : Step) (s s' : Pair) → Some (stepped step s) ≡ Some s' → s'.gap ≡ after_step two_told step s.gap
shape_after (Raise k) s s' h = sym (ap (λ (x : Pair). x.gap) (some_inj (stepped (Raise k) s) s' h))
shape_after (Exchange k sign) s s' h = sym (ap (λ (x : Pair). x.gap) (some_inj (stepped (Exchange k sign) s) s' h))

shape_parts : (x y : Bool) (t : ℕ) (a b : Two) → AllByRecursion (λ (part : ℕ × Pair). part.1.gap ≡ t) (parts_by x y t a b)
shape_parts true true t a b = tt
shape_parts true false t a b = (refl, tt)
shape_parts false true t a b = (refl, tt)
shape_parts false false t a b = (refl, (refl, tt))

pub two_shapes : AreShapes two_told
two_shapes = record {
  steps = λ step s s' h. shape_after step s s' h;
  parts = λ k s ps h.
      subst (AllByRecursion (λ (part : ℕ × Pair). part.1.gap ≡ s.gap)) (some_inj (parts_of k s) ps h)
      (shape_parts (two_nought (two_acts k (operator.Project 0) s.vector)) (two_nought (two_acts k (operator.Project 1) s.vector)) s.gap
      (two_acts k (operator.Project 0) s.vector) (two_acts k (operator.Project 1) s.vector));
  gaps = λ k t gap. gaps (k == t) k gap;
  pair = λ k t gap. pair (k == t) k t refl;
}
  where
    gaps : (b : Bool) (k : ℕ) → IsGap two_told k → AllByRecursion (IsGap two_told) (if b then [] else k ∷ [])
    gaps true k gap = tt
    gaps false k gap = (gap, tt)

    pair : (b : Bool) (k t : ℕ) → (k == t) ≡ b → (k == after_raises two_told (if b then [] else k ∷ []) t) ≡ true
    pair true k t h = h
    pair false k t h = same k

rising_by : (x y : Bool) (t : ℕ) (a b : Two) → IsStrictlySortedBy nat_cmp (map (λ (part : ℕ × Pair). part.0) (parts_by x y t a b))
unfolding IsStrictlySortedBy
rising_by true true t a b = tt
rising_by true false t a b = (tt, tt)
rising_by false true t a b = (tt, tt)
rising_by false false t a b = ((refl, tt), (tt, tt))

pub two_rising : HasRisingParts two_told
two_rising k s ps h =
    subst (λ (qs : List (ℕ × Pair)). IsStrictlySortedBy nat_cmp (map (λ (part : ℕ × Pair). part.0) qs)) (some_inj (parts_of k s) ps h)
    (rising_by (two_nought (two_acts k (operator.Project 0) s.vector)) (two_nought (two_acts k (operator.Project 1) s.vector)) s.gap
    (two_acts k (operator.Project 0) s.vector) (two_acts k (operator.Project 1) s.vector))

both : (a b c d : Bool) → (a ≡ true → c ≡ true) → (b ≡ true → d ≡ true) → (a || b) ≡ true → (c || d) ≡ true
both true b c d f g h = rw (f refl) refl
both false b true d f g h = refl
both false b false d f g h = g h

swap_and : (a b : Bool) → (a && b) ≡ (b && a)
swap_and true true = refl
swap_and true false = refl
swap_and false true = refl
swap_and false false = refl

swap_or : (a b : Bool) → (a || b) ≡ (b || a)
swap_or true true = refl
swap_or true false = refl
swap_or false true = refl
swap_or false false = refl

first_and : (a b : Bool) → (a && b) ≡ true → (a && true) ≡ true
first_and true b h = refl
first_and false b h = absurd (cc)

second_and : (a b : Bool) → (a && b) ≡ true → b ≡ true
second_and true b h = h
second_and false b h = absurd (cc)

kept_empty : (c : ℕ) (q : Qubit) → empty q ≡ true → empty (kept c q) ≡ true
kept_empty zero q h = first_and (q.none == 0) (q.one == 0) h
kept_empty (suc zero) q h = second_and (q.none == 0) (q.one == 0) h
kept_empty (suc (suc c)) q h = refl

qubit_empty : (o : Operator) (q : Qubit) → empty q ≡ true → empty (on_qubit o q) ≡ true
qubit_empty (operator.Exchange sign) q h = swap_and (q.one == 0) (q.none == 0) ∙ h
qubit_empty (operator.Project c) q h = kept_empty c q h

between_nought : (o : Operator) (v : Two) → two_nought v ≡ true → two_nought (between o v) ≡ true
between_nought (operator.Exchange sign) v h = swap_or (empty v.second) (empty v.first) ∙ h
between_nought (operator.Project c) v h = both (empty v.first) (empty v.second) (empty (kept c v.first)) (empty v.second) (kept_empty c v.first) (λ e. e) h

act_nought : (k : ℕ) (o : Operator) (v : Two) → two_nought v ≡ true → two_nought (two_acts k o v) ≡ true
act_nought zero o v h = h
act_nought (suc zero) o v h = both (empty v.first) (empty v.second) (empty (on_qubit o v.first)) (empty v.second) (qubit_empty o v.first) (λ e. e) h
act_nought (suc (suc zero)) o v h = between_nought o v h
act_nought (suc (suc (suc k))) o v h = both (empty v.first) (empty v.second) (empty v.first) (empty (on_qubit o v.second)) (λ e. e) (qubit_empty o v.second) h

exchange_same : (k : ℕ) (sign : _) (v : Two) → two_nought (two_acts k (operator.Exchange sign) v) ≡ two_nought v
exchange_same zero sign v = refl
exchange_same (suc zero) sign v = ap (λ b. b || empty v.second) (swap_and (v.first.one == 0) (v.first.none == 0))
exchange_same (suc (suc zero)) sign v = swap_or (empty v.second) (empty v.first)
exchange_same (suc (suc (suc k))) sign v = ap (λ b. empty v.first || b) (swap_and (v.second.one == 0) (v.second.none == 0))

module _ (project : ℕ → Two) (t : ℕ) where
  sound_by : (x y : Bool) → AllByRecursion (λ part. (part.0 < 2) × stands part.1 (project part.0)) (parts_by x y t (project 0) (project 1))
  sound_by true true = tt
  sound_by true false = ((omega arith, refl), tt)
  sound_by false true = ((omega arith, refl), tt)
  sound_by false false = ((omega arith, refl), ((omega arith, refl), tt))

  complete_by : (x y : Bool) (q : ℕ) → two_nought (project 0) ≡ x → two_nought (project 1) ≡ y → q < 2 → two_nought (project q) ≡ false
      → IsIn q (map (λ part. part.0) (parts_by x y t (project 0) (project 1)))
  complete_by true y zero is is' low some = absurd (cc)
  complete_by false y zero is is' low some = inl refl
  complete_by x true (suc zero) is is' low some = absurd (cc)
  complete_by true false (suc zero) is is' low some = inl refl
  complete_by false false (suc zero) is is' low some = inr (inl refl)
  complete_by x y (suc (suc q)) is is' low some = absurd (omega arith)

  distinct_by : (x y : Bool) → AreDistinct (map (λ part. part.0) (parts_by x y t (project 0) (project 1)))
  distinct_by true true = tt
  distinct_by true false = (tt, tt)
  distinct_by false true = (tt, tt)
  distinct_by false false = (((λ e. absurd (omega arith)), tt), (tt, tt))

  some_by : (x y : Bool) → two_nought (project 0) ≡ x → two_nought (project 1) ≡ y
      → AllByRecursion (λ part. two_nought (project part.0) ≡ false) (parts_by x y t (project 0) (project 1))
  some_by true true is is' = tt
  some_by true false is is' = (is', tt)
  some_by false true is is' = (is, tt)
  some_by false false is is' = (is, (is', tt))

  parts_are : ArePartsOf 2 project two_nought stands (parts_by (two_nought (project 0)) (two_nought (project 1)) t (project 0) (project 1))
  parts_are = record {
    sound = sound_by (two_nought (project 0)) (two_nought (project 1));
    complete = λ q low some. complete_by (two_nought (project 0)) (two_nought (project 1)) q refl refl low some;
    distinct = distinct_by (two_nought (project 0)) (two_nought (project 1));
  }

pub two_faithful : IsFaithful two_told 2 two_acts (λ v. Unit {0}) two_nought stands
two_faithful = record {
  keeps = λ k o v gap good. tt;
  nothing = λ k o v gap good h. act_nought k o v h;
  raise = λ k s s' v gap good is h. ap (λ (x : Pair). x.vector) (sym (some_inj (stepped (Raise k) s) s' is)) ∙ h;
  exchange = λ k sign s s' v gap good pair is h.
      ap (λ (x : Pair). x.vector) (sym (some_inj (stepped (Exchange k sign) s) s' is)) ∙ ap (two_acts k (operator.Exchange sign)) h;
  parts = λ k s ps v gap good pair is h.
      subst (ArePartsOf 2 (λ q. two_acts k (operator.Project q) v) two_nought stands) (some_inj (parts_of k s) ps is)
      (subst (λ w. ArePartsOf 2 (λ q. two_acts k (operator.Project q) w) two_nought stands (parts_of k s)) h (parts_are (λ q. two_acts k (operator.Project q) s.vector) s.gap));
}

pub two_exact : IsExact two_told two_acts (λ v. Unit {0}) two_nought stands
two_exact = record {
  exchange = λ k sign v gap good some. exchange_same k sign v ∙ some;
  parts = λ k s ps v gap good pair is h some.
      subst (AllByRecursion (λ (part : ℕ × Pair). two_nought (two_acts k (operator.Project part.0) v) ≡ false)) (some_inj (parts_of k s) ps is)
      (subst (λ w. AllByRecursion (λ (part : ℕ × Pair). two_nought (two_acts k (operator.Project part.0) w) ≡ false) (parts_of k s)) h
      (some_by (λ q. two_acts k (operator.Project q) s.vector) s.gap (two_nought (two_acts k (operator.Project 0) s.vector)) (two_nought (two_acts k (operator.Project 1) s.vector)) refl refl));
}

pub two_far : CommuteFar 4 two_acts (λ v. Unit {0})
two_far = record { keeps = λ k o v low high good. tt; far = λ i j first second v low apart high good. far i j first second v low apart high }
  where
    far : (i j : ℕ) (first second : Operator) (v : Two) → 0 < i → i + 1 < j → j < 4 → two_acts j second (two_acts i first v) ≡ two_acts i first (two_acts j second v)
    far zero j first second v low apart high = absurd (omega arith)
    far (suc zero) zero first second v low apart high = absurd (omega arith)
    far (suc zero) (suc zero) first second v low apart high = absurd (omega arith)
    far (suc zero) (suc (suc zero)) first second v low apart high = absurd (omega arith)
    far (suc zero) (suc (suc (suc j))) first second v low apart high = refl
    far (suc (suc i)) j first second v low apart high = absurd (omega arith)

-- the product of the sums of both qubits' amplitudes
abbrev pub two_weight : Two → ℕ
two_weight v = (v.first.none + v.first.one) * (v.second.none + v.second.one)

is_zero : (a : ℕ) → (a == 0) ≡ true → a ≡ 0
is_zero a h = elim (eqb_tells a 0) [ inl y ↦ y.1 | inr n ↦ absurd (let off = n.0 in cc) ]

empty_sum : (q : Qubit) → empty q ≡ true → q.none + q.one ≡ 0
empty_sum q h =
    let a : q.none ≡ 0 = is_zero q.none (second_and true (q.none == 0) (sym (true_first (q.none == 0)) ∙ first_and (q.none == 0) (q.one == 0) h)) in
    let b : q.one ≡ 0 = is_zero q.one (second_and (q.none == 0) (q.one == 0) h) in
    omega arith
  where
    true_first : (x : Bool) → (x && true) ≡ x
    true_first true = refl
    true_first false = refl

nought_weight : (v : Two) → two_nought v ≡ true → two_weight v ≡ 0
nought_weight v h = by (empty v.first) refl h
  where
    by : (b : Bool) → empty v.first ≡ b → (b || empty v.second) ≡ true → two_weight v ≡ 0
    by true is rest = let a = empty_sum v.first is in rw a (omega arith)
    by false is rest = let a = empty_sum v.second rest in rw a (omega arith)

pub two_weighing : IsWeighing (λ v. Unit {0}) two_nought stands (λ (s : Pair). Some (two_weight s.vector)) two_weight (λ x. x == 0)
two_weighing = record {
  weighs = λ s v x good h is. sym (some_inj (two_weight s.vector) x is) ∙ ap two_weight h;
  nothing = λ v good h. ap (λ n. n == 0) (nought_weight v h);
}
