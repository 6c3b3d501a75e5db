-- The laws of a product: each equation is the product of those of both.
use Rattle.std.proofs.Common.{◌≡◌, ℕ, ◌*◌, ◌<◌, Bool, true, false, ◌&&◌, ◌||◌, ◌==◌, [], ◌∷◌, List, length, refl, ap, ap₂, sym, ◌∙◌, arith}
use Rattle.std.specs.Prelude.{◌/◌, ◌%◌, ◌≢◌, All, slice_index, if◌then◌else◌}
use Rattle.std.proofs.Math.Nat.{zero-div, zero-mod}
use Rattle.std.proofs.lemmas.Nat.{mod_below}
use Rattle.std.proofs.lemmas.Bool.Decides.{nat_tests}
use Rattle.std.proofs.lemmas.List.Elements.{All-from_recursion}
use Rattle.ring_laws.specs.Ring.{Ring, Held, RingLaws}
use Rattle.ring_laws.specs.Sums.{total}
use Rattle.ring_laws.proofs.SumLemmas.{total_same, zero-product, and_yes}
use Rattle.fusion_rules.specs.Check.{RulesPass, dual_of}
use Rattle.symbol_table.specs.Symbols.{Symbols, f_admissible}
use Rattle.symbol_table.specs.Laws.{Holds, Same, LawHolds, IsLawful, where_so, identity_at, pentagon_says, hexagon_says, laws_of}
use Rattle.symbol_table.specs.AllLabels.{mark}
use Rattle.symbol_table.specs.declared.law.Law.{Law}
use Rattle.symbol_table.specs.declared.law.Law.TheVariants.{UnitF, UnitR, UnitW, RealW, InverseW, NormR, DeriveH, DeriveS, InverseF, InverseH, Rigid, Pentagon, HexagonOne, HexagonTwo, UnitTwist, Twist, UnitLoop, LoopSum, LoopF}
use Rattle.symbol_table.proofs.LawLemmas.{obeys, all_of}
use Rattle.symbol_table.proofs.RuleLemmas.{both}
use Rattle.image_laws.specs.Products.{product_of}
use Rattle.image_laws.proofs.Factors.{IsFactor, over}
use Rattle.image_laws.proofs.PairLemmas.{first_low, pair_test, and_four, and_eight, or_each, first_unit, second_unit, pair_total, cross, cross_three, cross_four, both_if, both_one}
use Rattle.image_laws.proofs.ProductRules.{pairs_pass, first_dual, second_dual}

-- a law of some indices alone
where_holds : {E : Type 0} (r : Ring E) (so : Bool) (left right : E) → (so ≡ true → left ≡ right) → Holds r (where_so so (Same left right))
where_holds r true left right h = h refl
where_holds r false left right h = tt

-- the only vertex of an index
lone : (p : Bool) → (p && true) ≡ true → p ≡ true
lone true h = refl
lone false h = h

-- the four vertices of an index
four : (p q r s : Bool) → (p && (q && (r && (s && true)))) ≡ true → (p ≡ true) × (q ≡ true) × (r ≡ true) × (s ≡ true)
four p q r s h =
    let one = both p (q && (r && (s && true))) h in
    let two = both q (r && (s && true)) one.1 in
    let three = both r (s && true) two.1 in
    (one.0, two.0, three.0, lone s three.1)

-- each label of an index is below the count
low_at : (n : ℕ) (i : List ℕ) (k : ℕ) → k < length i → All (λ t. t < n) i → slice_index i k < n
low_at n i k within below = below k 0 within

same_test : (a b : ℕ) → (a == b) ≡ (b == a)
same_test a b = grind (arith, nat_tests)

module _ {E : Type 0} (c other : Symbols E) {H : Held E} (laws : RingLaws c.ring H) (one : IsFactor c) (two : IsFactor (over c other)) where
  abbrev d : Symbols E
  d = over c other

  abbrev p : Symbols E
  p = product_of c other

  abbrev M : ℕ
  M = c.count

  abbrev K : ℕ
  K = other.count

  abbrev x : E → E → E
  x = c.ring.product

  abbrev zero : E
  zero = c.ring.zero

  abbrev unit : E
  unit = c.ring.one

  pub rules_pass : RulesPass p.count p.fuse
  rules_pass = pairs_pass M K c.fuse other.fuse two.unit.some one.lawful.rules two.lawful.rules

  -- a pair of symbols is admissible where both are
  pub admissible : (a b m k e f : ℕ)
      → f_admissible p.fuse a b m k e f
      ≡ (f_admissible c.fuse (a / K) (b / K) (m / K) (k / K) (e / K) (f / K) && f_admissible other.fuse (a % K) (b % K) (m % K) (k % K) (e % K) (f % K))
  admissible a b m k e f =
      and_eight
      (c.fuse (a / K) (b / K) (e / K)) (other.fuse (a % K) (b % K) (e % K))
      (c.fuse (e / K) (m / K) (k / K)) (other.fuse (e % K) (m % K) (k % K))
      (c.fuse (b / K) (m / K) (f / K)) (other.fuse (b % K) (m % K) (f % K))
      (c.fuse (a / K) (f / K) (k / K)) (other.fuse (a % K) (f % K) (k % K))

  pub parts : (a b m k e f : ℕ) → f_admissible p.fuse a b m k e f ≡ true
      → (f_admissible c.fuse (a / K) (b / K) (m / K) (k / K) (e / K) (f / K) ≡ true) × (f_admissible other.fuse (a % K) (b % K) (m % K) (k % K) (e % K) (f % K) ≡ true)
  parts a b m k e f on = both _ _ (sym (admissible a b m k e f) ∙ on)

  two_parts : (a b e : ℕ) → p.fuse a b e ≡ true → (c.fuse (a / K) (b / K) (e / K) ≡ true) × (other.fuse (a % K) (b % K) (e % K) ≡ true)
  two_parts a b e on = both _ _ on

  -- a symbol with a unit
  unit_f : LawHolds p UnitF
  unit_f i long below on =
      let a = slice_index i 0 in
      let b = slice_index i 1 in
      let m = slice_index i 2 in
      let k = slice_index i 3 in
      let e = slice_index i 4 in
      let f = slice_index i 5 in
      where_holds c.ring (a == 0 || (b == 0 || m == 0)) _ _ (λ so.
      let vertices = four (p.fuse a b e) (p.fuse e m k) (p.fuse b m f) (p.fuse a f k) on in
      let all = parts a b m k e f (and_yes _ _ vertices.0 (and_yes _ _ vertices.1 (and_yes _ _ vertices.2 vertices.3))) in
      both_one laws _ _
      (one.unit.f (a / K) (b / K) (m / K) (k / K) (e / K) (f / K) all.0
      (or_each (a == 0) (b == 0 || m == 0) _ _ (first_unit K a) (or_each (b == 0) (m == 0) _ _ (first_unit K b) (first_unit K m)) so))
      (two.unit.f (a % K) (b % K) (m % K) (k % K) (e % K) (f % K) all.1
      (or_each (a == 0) (b == 0 || m == 0) _ _ (second_unit K a) (or_each (b == 0) (m == 0) _ _ (second_unit K b) (second_unit K m)) so)))

  -- the same for a symbol of a vertex
  unit_vertex : (s t : ℕ → ℕ → ℕ → E)
      → ((a b e : ℕ) → c.fuse a b e ≡ true → (a == 0 || b == 0) ≡ true → s a b e ≡ unit)
      → ((a b e : ℕ) → other.fuse a b e ≡ true → (a == 0 || b == 0) ≡ true → t a b e ≡ unit)
      → (a b e : ℕ) → p.fuse a b e ≡ true → (a == 0 || b == 0) ≡ true → x (s (a / K) (b / K) (e / K)) (t (a % K) (b % K) (e % K)) ≡ unit
  unit_vertex s t first second a b e on so =
      let all = two_parts a b e on in
      both_one laws _ _
      (first (a / K) (b / K) (e / K) all.0 (or_each (a == 0) (b == 0) _ _ (first_unit K a) (first_unit K b) so))
      (second (a % K) (b % K) (e % K) all.1 (or_each (a == 0) (b == 0) _ _ (second_unit K a) (second_unit K b) so))

  unit_r : LawHolds p UnitR
  unit_r i long below on = where_holds c.ring _ _ _ (unit_vertex c.r other.r one.unit.r two.unit.r (slice_index i 0) (slice_index i 1) (slice_index i 2) (lone _ on))

  unit_w : LawHolds p UnitW
  unit_w i long below on = where_holds c.ring _ _ _ (unit_vertex c.w other.w one.unit.w two.unit.w (slice_index i 0) (slice_index i 1) (slice_index i 2) (lone _ on))

  -- the weights
  real_w : (a b e : ℕ) → c.ring.conjugate (p.w a b e) ≡ p.w a b e
  real_w a b e =
      laws.conjugate-product _ _ ∙ ap₂ x (one.weighted.real (a / K) (b / K) (e / K)) (two.weighted.real (a % K) (b % K) (e % K))

  inverse_w : (a b e : ℕ) → p.fuse a b e ≡ true → x (p.w a b e) (p.v a b e) ≡ unit
  inverse_w a b e on =
      let all = two_parts a b e on in
      cross laws _ _ _ _ ∙ both_one laws _ _ (one.weighted.inverse (a / K) (b / K) (e / K) all.0) (two.weighted.inverse (a % K) (b % K) (e % K) all.1)

  norm_r : (a b e : ℕ) → x (x (p.r a b e) (c.ring.conjugate (p.r a b e))) (p.w b a e) ≡ p.w a b e
  norm_r a b e =
      ap (λ y. x (x (p.r a b e) y) (p.w b a e)) (laws.conjugate-product _ _)
      ∙ (cross_three laws _ _ _ _ _ _ ∙ ap₂ x (one.weighted.norm_r (a / K) (b / K) (e / K)) (two.weighted.norm_r (a % K) (b % K) (e % K)))

  -- a sum over pairs of products
  sum_of_pairs : (f : ℕ → E) (g h : ℕ → E) → ((e : ℕ) → f e ≡ x (g (e / K)) (h (e % K))) → total c.ring (M * K) f ≡ x (total c.ring M g) (total c.ring K h)
  sum_of_pairs f g h each = total_same laws (M * K) f (λ e. x (g (e / K)) (h (e % K))) (λ e _. each e) ∙ pair_total laws M K g h

  -- the identity at pairs
  identity_of : (e g : ℕ) (s t : Bool) → s ≡ true → t ≡ true → x (mark c (g / K == e / K && s)) (mark c (g % K == e % K && t)) ≡ identity_at p e g
  identity_of e g s t s_on t_on =
      both_if laws (g / K == e / K && s) (g % K == e % K && t) unit unit
      ∙ (ap (λ y. if (g / K == e / K && s) && (g % K == e % K && t) then y else zero) (both_one laws unit unit refl refl)
      ∙ ap (mark c) (and_four (g / K == e / K) s (g % K == e % K) t ∙ (ap₂ (λ u v. u && v) (sym (pair_test K g e)) (and_yes s t s_on t_on) ∙ (and_true (g == e) ∙ same_test g e))))
    where
      and_true : (b : Bool) → (b && true) ≡ b
      and_true true = refl
      and_true false = refl

  inverse_f : (a b m k e g : ℕ) → p.fuse a b g ≡ true → p.fuse g m k ≡ true → total c.ring (M * K) (λ f. x (p.f a b m k e f) (p.h a b m k f g)) ≡ identity_at p e g
  inverse_f a b m k e g abg gmk =
      let left = two_parts a b g abg in
      let right = two_parts g m k gmk in
      sum_of_pairs _
      (λ f. x (c.f (a / K) (b / K) (m / K) (k / K) (e / K) f) (c.h (a / K) (b / K) (m / K) (k / K) f (g / K)))
      (λ f. x (other.f (a % K) (b % K) (m % K) (k % K) (e % K) f) (other.h (a % K) (b % K) (m % K) (k % K) f (g % K)))
      (λ f. cross laws _ _ _ _)
      ∙ (ap₂ x (one.equations.inverse_f (a / K) (b / K) (m / K) (k / K) (e / K) (g / K)) (two.equations.inverse_f (a % K) (b % K) (m % K) (k % K) (e % K) (g % K))
      ∙ identity_of e g _ _ (and_yes _ _ left.0 right.0) (and_yes _ _ left.1 right.1))

  inverse_h : (a b m k f g : ℕ) → p.fuse b m g ≡ true → p.fuse a g k ≡ true → total c.ring (M * K) (λ e. x (p.h a b m k f e) (p.f a b m k e g)) ≡ identity_at p f g
  inverse_h a b m k f g bmg agk =
      let left = two_parts b m g bmg in
      let right = two_parts a g k agk in
      sum_of_pairs _
      (λ e. x (c.h (a / K) (b / K) (m / K) (k / K) (f / K) e) (c.f (a / K) (b / K) (m / K) (k / K) e (g / K)))
      (λ e. x (other.h (a % K) (b % K) (m % K) (k % K) (f % K) e) (other.f (a % K) (b % K) (m % K) (k % K) e (g % K)))
      (λ e. cross laws _ _ _ _)
      ∙ (ap₂ x (one.equations.inverse_h (a / K) (b / K) (m / K) (k / K) (f / K) (g / K)) (two.equations.inverse_h (a % K) (b % K) (m % K) (k % K) (f % K) (g % K))
      ∙ identity_of f g _ _ (and_yes _ _ left.0 right.0) (and_yes _ _ left.1 right.1))

  pub pentagon : (q l m r u y z f g : ℕ) → Holds c.ring (pentagon_says p q l m r u y z f g)
  pentagon q l m r u y z f g =
      cross laws _ _ _ _
      ∙ (ap₂ x (one.equations.pentagon (q / K) (l / K) (m / K) (r / K) (u / K) (y / K) (z / K) (f / K) (g / K))
      (two.equations.pentagon (q % K) (l % K) (m % K) (r % K) (u % K) (y % K) (z % K) (f % K) (g % K))
      ∙ sym (sum_of_pairs _
      (λ e. x (x (c.f (q / K) (l / K) (m / K) (y / K) (u / K) e) (c.f (q / K) e (r / K) (z / K) (y / K) (g / K))) (c.f (l / K) (m / K) (r / K) (g / K) e (f / K)))
      (λ e. x (x (other.f (q % K) (l % K) (m % K) (y % K) (u % K) e) (other.f (q % K) e (r % K) (z % K) (y % K) (g % K))) (other.f (l % K) (m % K) (r % K) (g % K) e (f % K)))
      (λ e. cross_three laws _ _ _ _ _ _)))

  -- a hexagon of the exchanges of both
  hexagon : (s t : ℕ → ℕ → ℕ → E) → ((a b m k e f : ℕ) → Holds c.ring (hexagon_says c s a b m k e f)) → ((a b m k e f : ℕ) → Holds c.ring (hexagon_says d t a b m k e f))
      → (a b m k e f : ℕ) → Holds c.ring (hexagon_says p (λ a b e. x (s (a / K) (b / K) (e / K)) (t (a % K) (b % K) (e % K))) a b m k e f)
  hexagon s t first second a b m k e f =
      cross_three laws _ _ _ _ _ _
      ∙ (ap₂ x (first (a / K) (b / K) (m / K) (k / K) (e / K) (f / K)) (second (a % K) (b % K) (m % K) (k % K) (e % K) (f % K))
      ∙ sym (sum_of_pairs _
      (λ g. x (x (c.f (a / K) (b / K) (m / K) (k / K) (e / K) g) (s (a / K) g (k / K))) (c.f (b / K) (m / K) (a / K) (k / K) g (f / K)))
      (λ g. x (x (other.f (a % K) (b % K) (m % K) (k % K) (e % K) g) (t (a % K) g (k % K))) (other.f (b % K) (m % K) (a % K) (k % K) g (f % K)))
      (λ g. cross_three laws _ _ _ _ _ _)))

  -- Twists and loop values of both, at their labels.
  unit_mark : (s t : ℕ → E) → s 0 ≡ unit → t 0 ≡ unit → (a : ℕ) → (a == 0) ≡ true → x (s (a / K)) (t (a % K)) ≡ unit
  unit_mark s t first second a is =
      both_one laws _ _ (ap s (is_zero (a / K) (first_unit K a is)) ∙ first) (ap t (is_zero (a % K) (second_unit K a is)) ∙ second)
    where
      is_zero : (n : ℕ) → (n == 0) ≡ true → n ≡ 0
      is_zero n e = grind (arith, nat_tests)

  -- the laws of twists and loop values of both, at their labels
  twist_at : (s : Symbols E) → IsFactor s → (a b e : ℕ) → s.fuse a b e ≡ true
      → s.ring.product (s.ring.product (s.ring.product (s.r a b e) (s.r b a e)) (s.twist a)) (s.twist b) ≡ s.twist e
  twist_at s is a b e on =
      let low = is.proper.labels a b e on in
      obeys s is.lawful Twist is.second (a ∷ b ∷ e ∷ []) refl
      (All-from_recursion (λ t. t < s.count) (a ∷ b ∷ e ∷ []) (low.0, (low.1, (low.2, tt)))) (rw on refl)

  unit_twist_at : (s : Symbols E) → IsFactor s → s.twist 0 ≡ s.ring.one
  unit_twist_at s is =
      obeys s is.lawful UnitTwist is.second (0 ∷ []) refl (All-from_recursion (λ t. t < s.count) (0 ∷ []) (is.unit.some, tt)) refl

  unit_loop_at : (s : Symbols E) → IsFactor s → s.loop_value 0 ≡ s.ring.one
  unit_loop_at s is =
      obeys s is.lawful UnitLoop is.second (0 ∷ []) refl (All-from_recursion (λ t. t < s.count) (0 ∷ []) (is.unit.some, tt)) refl

  loop_sum_at : (s : Symbols E) → IsFactor s → (a b : ℕ) → a < s.count → b < s.count
      → s.ring.product (s.loop_value a) (s.loop_value b) ≡ total s.ring s.count (λ k. if s.fuse a b k then s.loop_value k else s.ring.zero)
  loop_sum_at s is a b la lb =
      obeys s is.lawful LoopSum is.second (a ∷ b ∷ []) refl (All-from_recursion (λ t. t < s.count) (a ∷ b ∷ []) (la, (lb, tt))) refl

  loop_f_at : (s : Symbols E) → IsFactor s → (a : ℕ) → a < s.count
      → s.ring.product (s.ring.product (s.ring.product (s.loop_value a) (s.loop_value a)) (s.f a (dual_of s.count s.fuse a) a a 0 0)) (s.h a (dual_of s.count s.fuse a) a a 0 0) ≡ s.ring.one
  loop_f_at s is a la =
      obeys s is.lawful LoopF is.second (a ∷ []) refl (All-from_recursion (λ t. t < s.count) (a ∷ []) (la, tt)) refl

  twist : (a b e : ℕ) → p.fuse a b e ≡ true → x (x (x (p.r a b e) (p.r b a e)) (p.twist a)) (p.twist b) ≡ p.twist e
  twist a b e on =
      let all = two_parts a b e on in
      cross_four laws _ _ _ _ _ _ _ _ ∙ ap₂ x (twist_at c one (a / K) (b / K) (e / K) all.0) (twist_at d two (a % K) (b % K) (e % K) all.1)

  loop_sum : (a b : ℕ) → a < M * K → b < M * K → x (p.loop_value a) (p.loop_value b) ≡ total c.ring (M * K) (λ k. if p.fuse a b k then p.loop_value k else zero)
  loop_sum a b la lb =
      let some = two.unit.some in
      cross laws _ _ _ _
      ∙ (ap₂ x (loop_sum_at c one (a / K) (b / K) (first_low M K a some la) (first_low M K b some lb)) (loop_sum_at d two (a % K) (b % K) (mod_below a K some) (mod_below b K some))
      ∙ sym (sum_of_pairs _
      (λ k. if c.fuse (a / K) (b / K) k then c.loop_value k else zero)
      (λ k. if other.fuse (a % K) (b % K) k then other.loop_value k else zero)
      (λ k. sym (both_if laws (c.fuse (a / K) (b / K) (k / K)) (other.fuse (a % K) (b % K) (k % K)) (c.loop_value (k / K)) (other.loop_value (k % K))))))

  loop_f : (a : ℕ) → a < M * K
      → x (x (x (p.loop_value a) (p.loop_value a)) (p.f a (dual_of p.count p.fuse a) a a 0 0)) (p.h a (dual_of p.count p.fuse a) a a 0 0) ≡ unit
  loop_f a la =
      let some = two.unit.some in
      let dual = dual_of p.count p.fuse a in
      let i : dual / K ≡ dual_of M c.fuse (a / K) = first_dual M K c.fuse other.fuse some one.lawful.rules two.lawful.rules a la in
      let j : dual % K ≡ dual_of K other.fuse (a % K) = second_dual M K c.fuse other.fuse some one.lawful.rules two.lawful.rules a la in
      cross_four laws _ _ _ _ _ _ _ _
      ∙ both_one laws _ _
      (ap₂ (λ (b z : ℕ). x (x (x (c.loop_value (a / K)) (c.loop_value (a / K))) (c.f (a / K) b (a / K) (a / K) z z)) (c.h (a / K) b (a / K) (a / K) z z)) i (zero-div K)
      ∙ loop_f_at c one (a / K) (first_low M K a some la))
      (ap₂ (λ (b z : ℕ). x (x (x (other.loop_value (a % K)) (other.loop_value (a % K))) (other.f (a % K) b (a % K) (a % K) z z)) (other.h (a % K) b (a % K) (a % K) z z)) j (zero-mod K)
      ∙ loop_f_at d two (a % K) (mod_below a K some))

  -- a value with an inverse isn't zero
  not_zero : (u v w : E) → x (x u v) w ≡ unit → v ≢ zero
  not_zero u v w inverse none =
      laws.one_apart (sym inverse ∙ (ap (λ y. x (x u y) w) none ∙ (ap (λ y. x y w) (laws.product-zero u) ∙ zero-product laws w)))

  -- every law
  every : (law : Law) → LawHolds p law
  every UnitF = unit_f
  every UnitR = unit_r
  every UnitW = unit_w
  every RealW = λ i long below on. real_w (slice_index i 0) (slice_index i 1) (slice_index i 2)
  every InverseW = λ i long below on. inverse_w (slice_index i 0) (slice_index i 1) (slice_index i 2) (lone _ on)
  every NormR = λ i long below on. norm_r (slice_index i 0) (slice_index i 1) (slice_index i 2)
  every DeriveH = λ i long below on. tt
  every DeriveS = λ i long below on. tt
  every InverseF = λ i long below on.
      let all = four _ _ _ _ on in
      inverse_f (slice_index i 0) (slice_index i 1) (slice_index i 2) (slice_index i 3) (slice_index i 4) (slice_index i 5) all.2 all.3
  every InverseH = λ i long below on.
      let all = four _ _ _ _ on in
      inverse_h (slice_index i 0) (slice_index i 1) (slice_index i 2) (slice_index i 3) (slice_index i 4) (slice_index i 5) all.2 all.3
  every Rigid = λ i long below on. not_zero _ _ _ (loop_f (slice_index i 0) (low_at (M * K) i 0 (omega arith) below))
  every Pentagon = λ i long below on.
      pentagon (slice_index i 0) (slice_index i 1) (slice_index i 2) (slice_index i 3) (slice_index i 4) (slice_index i 5) (slice_index i 6) (slice_index i 7) (slice_index i 8)
  every HexagonOne = λ i long below on.
      hexagon c.r other.r one.equations.hexagon_one two.equations.hexagon_one (slice_index i 0) (slice_index i 1) (slice_index i 2) (slice_index i 3) (slice_index i 4) (slice_index i 5)
  every HexagonTwo = λ i long below on.
      hexagon c.s other.s one.equations.hexagon_two two.equations.hexagon_two (slice_index i 0) (slice_index i 1) (slice_index i 2) (slice_index i 3) (slice_index i 4) (slice_index i 5)
  every UnitTwist = λ i long below on. where_holds c.ring _ _ _ (unit_mark c.twist other.twist (unit_twist_at c one) (unit_twist_at d two) (slice_index i 0))
  every Twist = λ i long below on. twist (slice_index i 0) (slice_index i 1) (slice_index i 2) (lone _ on)
  every UnitLoop = λ i long below on. where_holds c.ring _ _ _ (unit_mark c.loop_value other.loop_value (unit_loop_at c one) (unit_loop_at d two) (slice_index i 0))
  every LoopSum = λ i long below on.
      loop_sum (slice_index i 0) (slice_index i 1) (low_at (M * K) i 0 (omega arith) below) (low_at (M * K) i 1 (omega arith) below)
  every LoopF = λ i long below on. loop_f (slice_index i 0) (low_at (M * K) i 0 (omega arith) below)

  -- so the product is lawful
  pub is_lawful : IsLawful p
  is_lawful = record {
    rules = rules_pass;
    laws = all_of (LawHolds p) every (laws_of p.version);
  }
