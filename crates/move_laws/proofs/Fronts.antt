-- What a move may make of letters: one of four things, behind letters that stay.
use Rattle.std.proofs.Common.{◌≡◌, ℕ, ◌+◌, ◌-◌, ◌<◌, Bool, true, false, inl, inr, List, [], ◌∷◌, ◌++◌, take, drop, Option, Some, None, refl, sym, subst, ◌∙◌, arith}
use Rattle.std.specs.Prelude.{◌⊎◌, ◌&&◌, ◌||◌, ◌==◌, if◌then◌else◌, nat_le, nat_lt, option_map}
use Rattle.std.proofs.lemmas.Bool.Decides.{nat_tests}
use Rattle.std.proofs.lemmas.List.{take-append-drop}
use Rattle.std.proofs.lemmas.Option.{cond_some, same_Some}
use Rattle.program_text.specs.declared.letter.Letter.{Letter}
use Rattle.program_text.specs.declared.letter.Letter.TheVariants.{Crossing}
use Rattle.program_text.specs.declared.plan.Sign.{Sign}
use Rattle.program_text.specs.declared.plan.Sign.TheVariants.{Plus, Minus}
use Rattle.comb_laws.proofs.PathFacts.{and_true, nat_lt_true}
use Rattle.word_moves.specs.Moves.{are_neighbours, cancelled, exchanged, front_of, inserted, moved, opposite, place_of, same_letter, same_sign, turned}
use Rattle.word_moves.specs.Verdicts.{AreLinked, moved_by, on_moved}
use Rattle.word_moves.specs.declared.moves.BraidMove.{BraidMove}
use Rattle.word_moves.specs.declared.moves.BraidMove.TheVariants.{Cancel, Insert, Far, Yb}

-- A relation that holds of letters and what each kind of move over n strands makes of them at their front.
pub record HoldsOfFronts (n : ℕ) (Q : List Letter → List Letter → Type 0) : Type 0 where
  pub cancel : (i : ℕ) (s : Sign) (rest : List Letter) → Q (Crossing i s ∷ Crossing i (opposite s) ∷ rest) rest
  pub insert : (k : ℕ) (s : Sign) (rest : List Letter) → 0 < k → k < n → Q rest (Crossing k s ∷ Crossing k (opposite s) ∷ rest)
  pub far : (i j : ℕ) (s t : Sign) (rest : List Letter) → (i + 1 < j) ⊎ (j + 1 < i)
      → Q (Crossing i s ∷ Crossing j t ∷ rest) (Crossing j t ∷ Crossing i s ∷ rest)
  pub yb : (i j : ℕ) (s : Sign) (rest : List Letter) → (j ≡ i + 1) ⊎ (i ≡ j + 1)
      → Q (Crossing i s ∷ Crossing j s ∷ Crossing i s ∷ rest) (Crossing j s ∷ Crossing i s ∷ Crossing j s ∷ rest)

signs_same : (s t : Sign) → same_sign s t ≡ true → s ≡ t
signs_same Plus Plus h = refl
signs_same Plus Minus h = absurd (cc)
signs_same Minus Plus h = absurd (cc)
signs_same Minus Minus h = refl

same_gap : (i j : ℕ) → (i == j) ≡ true → i ≡ j
same_gap i j h = grind (arith, nat_tests)

apart : (i j : ℕ) → (nat_lt (i + 1) j || nat_lt (j + 1) i) ≡ true → (i + 1 < j) ⊎ (j + 1 < i)
apart i j h = by (nat_lt (i + 1) j) (nat_lt (j + 1) i) refl refl h
  where
    by : (a b : Bool) → nat_lt (i + 1) j ≡ a → nat_lt (j + 1) i ≡ b → (a || b) ≡ true → (i + 1 < j) ⊎ (j + 1 < i)
    by true b low other either = inl (nat_lt_true (i + 1) j low)
    by false b low other either = inr (nat_lt_true (j + 1) i (let yes : nat_lt (j + 1) i ≡ true = cc in yes))

neighbours : (i j : ℕ) → (j == i + 1 || i == j + 1) ≡ true → (j ≡ i + 1) ⊎ (i ≡ j + 1)
neighbours i j h = by (j == i + 1) (i == j + 1) refl refl h
  where
    by : (a b : Bool) → (j == i + 1) ≡ a → (i == j + 1) ≡ b → (a || b) ≡ true → (j ≡ i + 1) ⊎ (i ≡ j + 1)
    by true b up down either = inl (same_gap j (i + 1) up)
    by false b up down either = inr (same_gap i (j + 1) (let yes : (i == j + 1) ≡ true = cc in yes))

between : (k n : ℕ) → (nat_le 1 k && nat_lt k n) ≡ true → (0 < k) × (k < n)
between k n h =
    let parts = and_true (nat_le 1 k) (nat_lt k n) h in
    let low : nat_le 1 k ≡ true = parts.0 in
    let high : nat_lt k n ≡ true = parts.1 in
    (grind (arith, nat_tests), grind (arith, nat_tests))

module _ (n : ℕ) (Q : List Letter → List Letter → Type 0) (holds : HoldsOfFronts n Q) where
  cancelled_holds : (ls ls' : List Letter) → cancelled ls ≡ Some ls' → Q ls ls'
  cancelled_holds (Crossing i s ∷ Crossing j t ∷ rest) ls' h =
      let yes = cond_some (i == j && same_sign t (opposite s)) rest ls' h in
      let parts = and_true (i == j) (same_sign t (opposite s)) yes.0 in
      let gap = same_gap i j parts.0 in
      let sign = signs_same t (opposite s) parts.1 in
      let at : Q (Crossing i s ∷ Crossing j t ∷ rest) rest =
      subst (λ (x : List Letter). Q x rest) (λ m. Crossing i s ∷ Crossing (gap m) (sym sign m) ∷ rest) (holds.cancel i s rest) in
      subst (λ (x : List Letter). Q (Crossing i s ∷ Crossing j t ∷ rest) x) yes.1 at
  cancelled_holds (a ∷ b ∷ rest) ls' h = absurd (cc)
  cancelled_holds (a ∷ []) ls' h = absurd (cc)
  cancelled_holds [] ls' h = absurd (cc)

  inserted_holds : (k : ℕ) (sign : Sign) (ls ls' : List Letter) → inserted n k sign ls ≡ Some ls' → Q ls ls'
  inserted_holds k sign ls ls' h =
      let yes = cond_some (nat_le 1 k && nat_lt k n) (Crossing k sign ∷ Crossing k (opposite sign) ∷ ls) ls' h in
      let gap = between k n yes.0 in
      subst (λ (x : List Letter). Q ls x) yes.1 (holds.insert k sign ls gap.0 gap.1)

  exchanged_holds : (ls ls' : List Letter) → exchanged ls ≡ Some ls' → Q ls ls'
  exchanged_holds (Crossing i s ∷ Crossing j t ∷ rest) ls' h =
      let yes = cond_some (nat_lt (i + 1) j || nat_lt (j + 1) i) (Crossing j t ∷ Crossing i s ∷ rest) ls' h in
      subst (λ (x : List Letter). Q (Crossing i s ∷ Crossing j t ∷ rest) x) yes.1 (holds.far i j s t rest (apart i j yes.0))
  exchanged_holds (a ∷ b ∷ rest) ls' h = absurd (cc)
  exchanged_holds (a ∷ []) ls' h = absurd (cc)
  exchanged_holds [] ls' h = absurd (cc)

  turned_holds : (ls ls' : List Letter) → turned ls ≡ Some ls' → Q ls ls'
  turned_holds (Crossing i s ∷ Crossing j t ∷ Crossing k u ∷ rest) ls' h =
      let beside = same_sign s t && (j == i + 1 || i == j + 1) in
      let again = k == i && same_sign u s in
      let yes = cond_some (beside && again) (Crossing j t ∷ Crossing i s ∷ Crossing j t ∷ rest) ls' h in
      let parts = and_true beside again yes.0 in
      let first = and_true (same_sign s t) (j == i + 1 || i == j + 1) parts.0 in
      let last = and_true (k == i) (same_sign u s) parts.1 in
      let second = signs_same s t first.0 in
      let third = sym (signs_same u s last.1) in
      let gap = sym (same_gap k i last.0) in
      let at : Q (Crossing i s ∷ Crossing j t ∷ Crossing k u ∷ rest) (Crossing j s ∷ Crossing i s ∷ Crossing j s ∷ rest) =
      subst (λ (x : List Letter). Q x (Crossing j s ∷ Crossing i s ∷ Crossing j s ∷ rest))
      (λ m. Crossing i s ∷ Crossing j (second m) ∷ Crossing (gap m) (third m) ∷ rest) (holds.yb i j s rest (neighbours i j first.1)) in
      subst (λ (x : List Letter). Q (Crossing i s ∷ Crossing j t ∷ Crossing k u ∷ rest) x)
      ((λ m. Crossing j (second m) ∷ Crossing i s ∷ Crossing j (second m) ∷ rest) ∙ yes.1) at
  turned_holds (a ∷ b ∷ c ∷ rest) ls' h =
      let told = and_true (are_neighbours a b) (same_letter c a) (cond_some (are_neighbours a b && same_letter c a) (b ∷ a ∷ b ∷ rest) ls' h).0 in
      let beside : are_neighbours a b ≡ true = told.0 in
      let again : same_letter c a ≡ true = told.1 in
      absurd (cc)
  turned_holds (a ∷ b ∷ []) ls' h = absurd (cc)
  turned_holds (a ∷ []) ls' h = absurd (cc)
  turned_holds [] ls' h = absurd (cc)

  pub front_holds : (move : BraidMove) (ls ls' : List Letter) → front_of n move ls ≡ Some ls' → Q ls ls'
  front_holds (Cancel place) ls ls' h = cancelled_holds ls ls' h
  front_holds (Insert place k sign) ls ls' h = inserted_holds k sign ls ls' h
  front_holds (Far place) ls ls' h = exchanged_holds ls ls' h
  front_holds (Yb place) ls ls' h = turned_holds ls ls' h

some_if : (b : Bool) (o : Option (List Letter)) (y : List Letter) → (if b then o else None) ≡ Some y → o ≡ Some y
some_if true o y h = h
some_if false o y h = absurd (cc)

some_of : (g : List Letter → List Letter) (o : Option (List Letter)) (y : List Letter) → option_map g o ≡ Some y → (x : List Letter) × (o ≡ Some x) × (g x ≡ y)
some_of g None y h = absurd (cc)
some_of g (Some x) y h = (x, refl, cc)

-- A move leaves the letters before its place.
pub moved_holds : (n : ℕ) (P : List Letter → List Letter → Type 0) (move : BraidMove)
    → ((before rest rest' : List Letter) → front_of n move rest ≡ Some rest' → P (before ++ rest) (before ++ rest'))
    → (ls ls' : List Letter) → moved n move ls ≡ Some ls' → P ls ls'
moved_holds n P move each ls ls' h =
    let before = take (place_of move - 1) ls in
    let behind = drop (place_of move - 1) ls in
    let made = some_of (λ rest. take (place_of move - 1) ls ++ rest) (front_of n move (drop (place_of move - 1) ls)) ls' (some_if _ _ ls' h) in
    subst (λ (x : List Letter). P ls x) made.2
    (subst (λ (x : List Letter). P x (take (place_of move - 1) ls ++ made.0)) (take-append-drop (place_of move - 1) ls) (each before behind made.0 made.1))

made_by : (o : Option (List Letter)) (f : List Letter → Option (List Letter)) (y : List Letter) → on_moved None o f ≡ Some y → (x : List Letter) × (o ≡ Some x) × (f x ≡ Some y)
made_by None f y h = absurd (cc)
made_by (Some x) f y h = (x, refl, h)

-- A relation that holds of equal letters, and of letters and what moves behind a first one make of them.
pub linked_holds : (n : ℕ) (P : List Letter → List Letter → Type 0) → ((ls : List Letter) → P ls ls)
    → ((move : BraidMove) (ls next ls' : List Letter) → moved n move ls ≡ Some next → P next ls' → P ls ls')
    → (ls ls' : List Letter) → AreLinked n ls ls' → P ls ls'
linked_holds n P none each ls ls' linked = by linked.0 ls linked.1
  where
    by : (moves : List BraidMove) (ls : List Letter) → moved_by n moves ls ≡ Some ls' → P ls ls'
    by [] ls made = subst (λ (x : List Letter). P ls x) (same_Some ls ls' made) (none ls)
    by (move ∷ moves) ls made =
        let step = made_by (moved n move ls) (λ next. moved_by n moves next) ls' made in
        each move ls step.0 ls' step.1 (by moves step.0 step.2)
