-- The factor of the first strand is one along every path.
use mathlib.Core.Path.{fun_ext}
use Rattle.std.proofs.Common.{◌≡◌, ℕ, Bool, true, false, List, [], ◌∷◌, map, refl, ap, ◌∙◌}
use Rattle.std.specs.Prelude.{if◌then◌else◌, not}
use Rattle.std.specs.List.{AllByRecursion, flat_map, filter}
use Rattle.ring_laws.specs.Ring.{Ring, RingLaws}
use Rattle.ring_laws.specs.Sums.{sum_over}
use Rattle.symbol_table.specs.Symbols.{Symbols}
use Rattle.tree_shapes.specs.Labelled.{leaves}
use Rattle.program_text.specs.Letters.{measurements, letters}
use Rattle.program_text.specs.declared.plan.Command.{Command}
use Rattle.comb_laws.specs.Paths.{Path, Vector, labels, ways, paths}
use Rattle.comb_laws.specs.Operators.{weights_along, path_weight, weight}
use Rattle.comb_laws.specs.Amplitudes.{own_vector}
use Rattle.comb_laws.specs.Words.{word_state, comb_acts}
use Rattle.comb_laws.specs.Plans.{words, rows_from}
use Rattle.comb_laws.specs.Inner.{inner_path_weight, inner_weight}
use Rattle.comb_laws.specs.Laws.{StartsAtOwnPath, FirstFactorIsOne, OutcomesAreInner}
use Rattle.comb_laws.proofs.PathFacts.{along_append}
use Rattle.comb_laws.proofs.UnitLemmas.{IsUnital}

-- what holds of the items of each list holds of those of all
all_flat : {A B : Type 0} (P : B → Type 0) (f : A → List B) → ((a : A) → AllByRecursion P (f a)) → (xs : List A) → AllByRecursion P (flat_map f xs)
all_flat P f each [] = tt
all_flat P f each (x ∷ xs) = along_append P (f x) (flat_map f xs) (each x) (all_flat P f each xs)

all_map : {A B : Type 0} (P : B → Type 0) (f : A → B) → ((a : A) → P (f a)) → (xs : List A) → AllByRecursion P (map f xs)
all_map P f each [] = tt
all_map P f each (x ∷ xs) = (each x, all_map P f each xs)

-- sums of equal terms
sum_over_same : {A E : Type 0} (r : Ring E) (f g : A → E) (xs : List A) → AllByRecursion (λ x. f x ≡ g x) xs → sum_over r f xs ≡ sum_over r g xs
sum_over_same r f g [] same = refl
sum_over_same r f g (x ∷ xs) same = λ j. r.sum (same.0 j) (sum_over_same r f g xs same.1 j)

module _ {E : Type 0} (c : Symbols E) (laws : RingLaws c.ring c.held) (unital : IsUnital c) where
  abbrev SamePathWeight : List ℕ → Path → Type 0
  SamePathWeight strands x = path_weight c strands x ≡ inner_path_weight c strands x

  first_is_one : (s y : ℕ) → c.fuse 0 s y ≡ true → c.ring.product c.ring.one (c.w 0 s y) ≡ c.ring.one
  first_is_one s y is = ap (c.ring.product c.ring.one) (unital.weight s y is) ∙ laws.product-one c.ring.one laws.one_is

  ways_same : (s : ℕ) (ss : List ℕ) → AllByRecursion (λ xs. SamePathWeight (s ∷ ss) (0 ∷ xs)) (ways c 0 (s ∷ ss))
  ways_same s ss =
      all_flat (λ xs. SamePathWeight (s ∷ ss) (0 ∷ xs)) (λ y. if c.fuse 0 s y then map (λ ys. y ∷ ys) (ways c y ss) else [])
      (λ y. pick y (c.fuse 0 s y) refl) (labels c.count)
    where
      pick : (y : ℕ) (b : Bool) → c.fuse 0 s y ≡ b → AllByRecursion (λ xs. SamePathWeight (s ∷ ss) (0 ∷ xs)) (if b then map (λ ys. y ∷ ys) (ways c y ss) else [])
      pick y true is = all_map (λ xs. SamePathWeight (s ∷ ss) (0 ∷ xs)) (λ ys. y ∷ ys) (λ ys. ap (λ b. weights_along c b y ss ys) (first_is_one s y is)) (ways c y ss)
      pick y false is = tt

  put_unit : (P : Path → Type 0) (xs : List Path) → AllByRecursion (λ ys. P (0 ∷ ys)) xs → AllByRecursion P (map (λ ys. 0 ∷ ys) xs)
  put_unit P [] all = tt
  put_unit P (x ∷ xs) all = (all.0, put_unit P xs all.1)

  paths_same : (strands : List ℕ) → AllByRecursion (SamePathWeight strands) (paths c strands)
  paths_same [] = (refl, tt)
  paths_same (s ∷ ss) = put_unit (SamePathWeight (s ∷ ss)) (ways c 0 (s ∷ ss)) (ways_same s ss)

  all_terms : (strands : List ℕ) (v : Vector E) (xs : List Path) → AllByRecursion (SamePathWeight strands) xs
      → AllByRecursion (λ x. c.ring.product (path_weight c strands x) (c.ring.product (v x) (c.ring.conjugate (v x))) ≡ c.ring.product (inner_path_weight c strands x) (c.ring.product (v x) (c.ring.conjugate (v x)))) xs
  all_terms strands v [] all = tt
  all_terms strands v (x ∷ xs) all = (ap (λ y. c.ring.product y (c.ring.product (v x) (c.ring.conjugate (v x)))) all.0, all_terms strands v xs all.1)

  pub first_factor : FirstFactorIsOne c
  first_factor strands v = sum_over_same c.ring _ _ (paths c strands) (all_terms strands v (paths c strands) (paths_same strands))

  -- rows by any weight
  abbrev rows_by : (List ℕ → Vector E → E) → List ℕ → Vector E → List Command → List (List ℕ × E)
  rows_by weigh strands v commands =
      filter (λ row. not (c.held.is_zero row.1))
      (map (λ word. (word, weigh (end word).0 (end word).1)) (words c.count (measurements commands)))
    where
      end : List ℕ → List ℕ × Vector E
      end word = word_state (comb_acts c) word (letters 0 commands) (strands, v)

  pub outcomes_same : StartsAtOwnPath c → OutcomesAreInner c
  outcomes_same own tree commands is =
      let same : (λ (s : List ℕ) (v : Vector E). weight c s v) ≡ (λ s v. inner_weight c s v) = fun_ext (λ s. fun_ext (λ v. first_factor s v)) in
      ap (λ (v : Vector E). record { total = weight c (leaves tree) v; rows = rows_from c (leaves tree) v commands }) (own tree is)
      ∙ (λ j. record { total = same j (leaves tree) (own_vector c.ring tree); rows = rows_by (same j) (leaves tree) (own_vector c.ring tree) commands })
