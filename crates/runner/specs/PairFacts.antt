-- What an exchange and a split at a pair leave stands for the comb braid and the comb projections.
use Rattle.std.proofs.Common.{◌≡◌, ℕ, zero, suc, ◌+◌, ◌-◌, ◌<◌, Bool, true, false, List, [], ◌∷◌, ◌++◌, map, refl, ap, sym, ◌∙◌, subst, arith}
use Rattle.std.specs.Prelude.{if◌then◌else◌, slice_index, ◌==◌, ◌&&◌, nat_lt}
use Rattle.std.specs.List.{AllByRecursion, filter}
use Rattle.tree_shapes.specs.Settling.{is_pair_at}
use Rattle.program_text.specs.Form.{is_gap}
use Rattle.comb_laws.proofs.PathFacts.{and_true}
use Rattle.ring_laws.proofs.SumLemmas as S
use Rattle.std.proofs.lemmas.Bool.Decides.{nat_tests}
use Rattle.ring_laws.specs.Ring.{RingLaws}
use Rattle.symbol_table.specs.Symbols.{Symbols}
use Rattle.tree_shapes.specs.Outlines.{Outline, size}
use Rattle.program_text.specs.declared.plan.Sign.{Sign}
use Rattle.word_runs.proofs.EachLemmas.{all_append, all_map}
use Rattle.comb_laws.specs.Operators.{exchange_by, swapped}
use Rattle.comb_laws.specs.Paths.{Path, Vector, is_path, labels, paths}
use Rattle.comb_laws.specs.Words.{comb_acts}
use Rattle.comb_laws.specs.declared.operator.Operator.TheVariants as operator
use Rattle.path_laws.proofs.ActLemmas.{length-swapped}
use Rattle.run_laws.specs.Combs.{comb_nought}
use Rattle.run_laws.specs.Meaning.{AreDistinct, ArePartsOf}
use Rattle.run_laws.proofs.DistinctLemmas.{in_map}
use Rattle.run_laws.proofs.OrderLemmas.{in_filter, in_labels}
use Rattle.amp_store.specs.Amplitudes.{AreAmplitudes}
use Rattle.amp_store.proofs.AmongLemmas.{all_pass}
use Rattle.amp_store.proofs.CopyLemmas.{amplitudes_part}
use Rattle.amp_store.proofs.OrderLemmas.{filter_all}
use Rattle.recouple.specs.States.{State, IsStateOf, comb}
use Rattle.recouple.proofs.PairLemmas.{IsPair, pair_there}
use Rattle.braid_act.specs.Exchanges.{exchange_at, exchanged}
use Rattle.braid_act.proofs.BraidLemmas.{braid_is}
use Rattle.braid_act.proofs.MapLemmas.{are_amplitudes}
use Rattle.braid_act.proofs.StateLemmas as B
use Rattle.braid_act.proofs.SymbolLemmas.{kept}
use Rattle.charge_project.specs.Splits.{any_left, part_at, parts_below}
use Rattle.charge_project.proofs.ProjectLemmas.{part_of, project_is}
use Rattle.runner.specs.Meaning.{AreLawful, StandsFor}

-- what a pair of the engine is
pub record IsPairOf (n k : ℕ) (t : Outline) : Type 0 where
  pub low : 0 < k
  pub high : k < n
  pub pair : is_pair_at t k ≡ true

pub pair_of : (n k : ℕ) (t : Outline) → size t ≡ n → (is_gap n k && (if size t == n then is_pair_at t k else true)) ≡ true → IsPairOf n k t
pair_of n k t long h =
    let parts = and_true (is_gap n k) (if size t == n then is_pair_at t k else true) h in
    let gap = and_true (nat_lt 0 k) (nat_lt k n) parts.0 in
    record {
      low = less_is 0 k gap.0;
      high = less_is k n gap.1;
      pair = sym (S.if_yes (size t == n) (is_pair_at t k) true (S.test_true (size t) n long)) ∙ parts.1;
    }
  where
    less_is : (a b : ℕ) → nat_lt a b ≡ true → a < b
    less_is a b e = grind (arith, nat_tests)

-- the labels below n
pub labels_low : (n : ℕ) → AllByRecursion (λ q. q < n) (labels n)
labels_low zero = tt
labels_low (suc n) = all_append (λ q. q < suc n) (labels n) (n ∷ []) (all_map (λ q. q < n) (λ q. q < suc n) (labels n) (λ q low. omega arith) (labels_low n)) (omega arith, tt)

apart_last : (n : ℕ) (xs : List ℕ) → AreDistinct xs → AllByRecursion (λ q. q < n) xs → AreDistinct (xs ++ n ∷ [])
apart_last n [] d low = (tt, tt)
apart_last n (x ∷ xs) d low =
    let below : x < n = low.0 in
    (all_append (λ y. x ≡ y → ⊥) xs (n ∷ []) d.0 ((λ e. omega (arith, e)), tt), apart_last n xs d.1 low.1)

labels_apart : (n : ℕ) → AreDistinct (labels n)
labels_apart zero = tt
labels_apart (suc n) = apart_last n (labels n) (labels_apart n) (labels_low n)

distinct_filter : {A : Type 0} (test : A → Bool) (xs : List A) → AreDistinct xs → AreDistinct (filter test xs)
distinct_filter test [] d = tt
distinct_filter {A} test (x ∷ xs) d = pick (test x) (distinct_filter test xs d.1)
  where
    pick : (b : Bool) → AreDistinct (filter test xs) → AreDistinct (if b then x ∷ filter test xs else filter test xs)
    pick true rest = (filter_all (λ y. x ≡ y → ⊥) test xs d.0, rest)
    pick false rest = rest

-- the names of those that pass a test
pub names_kept : {A : Type 0} (f : ℕ → A) (test : ℕ × A → Bool) (qs : List ℕ) → map (λ (p : ℕ × A). p.0) (filter test (map (λ q. (q, f q)) qs)) ≡ filter (λ q. test (q, f q)) qs
names_kept f test [] = refl
names_kept {A} f test (q ∷ qs) = pick (test (q, f q)) (names_kept f test qs)
  where
    pick : (b : Bool) → map (λ (p : ℕ × A). p.0) (filter test (map (λ r. (r, f r)) qs)) ≡ filter (λ r. test (r, f r)) qs
        → map (λ (p : ℕ × A). p.0) (if b then (q, f q) ∷ filter test (map (λ r. (r, f r)) qs) else filter test (map (λ r. (r, f r)) qs)) ≡ (if b then q ∷ filter (λ r. test (r, f r)) qs else filter (λ r. test (r, f r)) qs)
    pick true rest = ap (λ l. q ∷ l) rest
    pick false rest = rest

each_named : {A : Type 0} (P : ℕ × A → Type 0) (f : ℕ → A) (n : ℕ) (qs : List ℕ) → AllByRecursion (λ q. q < n) qs → ((q : ℕ) → q < n → P (q, f q)) → AllByRecursion P (map (λ q. (q, f q)) qs)
each_named P f n [] low h = tt
each_named P f n (q ∷ qs) low h = (h q low.0, each_named P f n qs low.1 h)

none_left : {A : Type 0} (xs : List A) → any_left xs ≡ false → xs ≡ []
none_left [] h = refl
none_left (x ∷ xs) h = absurd (cc)

module _ {E : Type 0} (c : Symbols E) (laws : RingLaws c.ring c.held) (lawful : AreLawful c) (n k : ℕ) (s : State E) (v : List ℕ × Vector E) (stands : StandsFor c n s v) (pair : IsPairOf n k s.shape) where
  abbrev is : IsStateOf c s
  is = stands.of.of

  inside : k < size s.shape
  inside = let high : k < n = pair.high in omega (arith, is.leaves, stands.of.long)

  at : IsPair s.shape k
  at = pair_there s.shape k pair.low inside pair.pair

  -- an exchange leaves no number zero
  exchanged_order : (sign : Sign) → AreAmplitudes c.held (State.amps (exchanged c sign k s))
  exchanged_order sign =
      are_amplitudes (λ (e : List ℕ × E). c.ring.product (exchange_at c sign s.strands k e.0) e.1) s.amps stands.amps
      (λ i e there.
      let has = B.has_entry c s is stands.amps k pair.low inside at i e there in
      let back : (k + 1) - 1 ≡ k = omega arith in
      (λ j. c.held.is_zero (c.ring.product (exchange_by c sign (slice_index s.strands (k - 1)) (slice_index s.strands (back j)) (slice_index e.0 (k - 1))) e.1))
      ∙ kept c laws lawful.proper lawful.weighted sign (slice_index s.strands (k - 1)) (slice_index s.strands k) (slice_index e.0 (k - 1)) e.1 has.fuses has.member has.some)

  -- an exchange is the exchange of the vector
  pub exchange_means : (sign : Sign) → StandsFor c n (exchanged c sign k s) (comb_acts c k (operator.Exchange sign) v)
  exchange_means sign = record {
    of = record { of = B.of_after c laws lawful.proper sign s is k pair.low inside at; long = length-swapped s.strands k ∙ stands.of.long };
    amps = exchanged_order sign;
    is =
        ap (comb_acts c k (operator.Exchange sign)) stands.is
        ∙ (λ j. (swapped s.strands k, sym (braid_is c laws lawful.proper lawful.equations sign s is stands.amps k pair.low inside at (exchanged_order sign)) j));
  }

  abbrev project : ℕ → List ℕ × Vector E
  project q = comb_acts c k (operator.Project q) v

  -- a part is the projection
  pub part_means : (q : ℕ) → StandsFor c n (part_at k s q) (comb_acts c k (operator.Project q) v)
  part_means q = record {
    of = record { of = part_of c laws lawful.proper lawful.equations s is stands.amps k pair.low inside at q; long = stands.of.long };
    amps = amplitudes_part (λ (e : List ℕ × E). slice_index e.0 (k - 1) == q) c.held s.amps stands.amps;
    is =
        ap (comb_acts c k (operator.Project q)) stands.is
        ∙ (λ j. (s.strands, sym (project_is c laws lawful.proper lawful.equations s is stands.amps k pair.low inside at q) j));
  }

  either_zero : (b : Bool) → (if b then c.ring.zero else c.ring.zero) ≡ c.ring.zero
  either_zero true = refl
  either_zero false = refl

  zero_is_zero : c.held.is_zero c.ring.zero ≡ true
  zero_is_zero = (laws.is_zero_is c.ring.zero laws.zero_is).1 refl

  -- a charge without a part has the projection zero
  nothing_left : (q : ℕ) → State.amps (part_at k s q) ≡ [] → comb_nought c (comb_acts c k (operator.Project q) v) ≡ true
  nothing_left q none =
      ap (comb_nought c) (StandsFor.is (part_means q))
      ∙ all_pass (λ (x : Path). c.held.is_zero (comb c (part_at k s q) x)) (paths c s.strands)
      (λ x. ap c.held.is_zero (ap (λ es. comb c (record { strands = s.strands; shape = s.shape; amps = es }) x) none ∙ either_zero (is_path c s.strands x)) ∙ zero_is_zero)

  some_left : (q : ℕ) → comb_nought c (comb_acts c k (operator.Project q) v) ≡ false → any_left (State.amps (part_at k s q)) ≡ true
  some_left q some = pick (any_left (State.amps (part_at k s q))) refl
    where
      pick : (b : Bool) → any_left (State.amps (part_at k s q)) ≡ b → any_left (State.amps (part_at k s q)) ≡ true
      pick true h = h
      pick false h = absurd (let off : comb_nought c (comb_acts c k (operator.Project q) v) ≡ true = nothing_left q (none_left _ h) in let clash : true ≡ false = sym off ∙ some in cc)

  -- the parts are the projections
  pub parts_mean : ArePartsOf c.count (λ q. comb_acts c k (operator.Project q) v) (comb_nought c) (StandsFor c n) (parts_below k s c.count)
  parts_mean =
      let any = λ (p : ℕ × State E). any_left p.1.amps in
      let made = map (λ q. (q, part_at k s q)) (labels c.count) in
      record {
        sound =
            filter_all (λ (part : ℕ × State E). (part.0 < c.count) × StandsFor c n part.1 (comb_acts c k (operator.Project part.0) v)) any made
            (each_named (λ (part : ℕ × State E). (part.0 < c.count) × StandsFor c n part.1 (comb_acts c k (operator.Project part.0) v)) (part_at k s) c.count (labels c.count) (labels_low c.count) (λ q low. (low, part_means q)));
        complete = λ q low some.
            in_map (λ (p : ℕ × State E). p.0) (q, part_at k s q) (filter any made)
            (in_filter any (q, part_at k s q) made (in_map (λ r. (r, part_at k s r)) q (labels c.count) (in_labels c.count q low)) (some_left q some));
        distinct = subst AreDistinct (sym (names_kept (part_at k s) any (labels c.count))) (distinct_filter (λ q. any (q, part_at k s q)) (labels c.count) (labels_apart c.count));
      }
