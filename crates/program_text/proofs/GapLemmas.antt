-- The least gap whose node isn't admissible.
use Rattle.std.proofs.Common.{◌≡◌, ℕ, ◌+◌, ◌<◌, ◌≤◌, Bool, true, false, ◌&&◌, ◌==◌, refl, ◌∙◌, arith, if◌then◌else◌, Option, Some, None}
use Rattle.std.specs.Option.{option_or}
use Rattle.std.proofs.lemmas.Bool.Decides.{nat_tests}
use Rattle.tree_shapes.specs.Labelled.{Labelled, Strand, Joined, label, size, is_admissible}
use Rattle.program_text.specs.Gaps.{gap_unless, bad_gap, is_good_at, IsFirstBad}
use Rattle.program_text.proofs.WordLemmas.{both}

module _ (fuse : ℕ → ℕ → ℕ → Bool) where
  -- what is left of a part with no bad gap on the left
  by_parts : (left right : Option ℕ) (fits : Bool) (gap : ℕ) → option_or left (option_or (gap_unless fits gap) right) ≡ None → (left ≡ None) × (fits ≡ true) × (right ≡ None)
  by_parts (Some g) right fits gap e = absurd (cc)
  by_parts None right false gap e = absurd (cc)
  by_parts None right true gap e = (refl, refl, e)

  -- no gap is bad in an admissible tree
  pub none_good : (t : Labelled) (i : ℕ) → bad_gap fuse t i ≡ None → is_admissible fuse t ≡ true
  none_good (Strand a) i e = refl
  none_good (Joined l r q) i e =
      let parts = by_parts (bad_gap fuse l i) (bad_gap fuse r (i + size l)) (fuse (label l) (label r) q) (i + size l) e in
      rw (parts.1, none_good l i parts.0, none_good r (i + size l) parts.2) refl

  pub good_none : (t : Labelled) (i : ℕ) → is_admissible fuse t ≡ true → bad_gap fuse t i ≡ None
  good_none (Strand a) i e = refl
  good_none (Joined l r q) i e =
      let top = both (fuse (label l) (label r) q) (is_admissible fuse l && is_admissible fuse r) e in
      let children = both (is_admissible fuse l) (is_admissible fuse r) top.1 in
      rw (good_none l i children.0, top.0, good_none r (i + size l) children.1) refl

  pub some : (t : Labelled) → 1 ≤ size t
  some (Strand a) = omega arith
  some (Joined l r q) = omega (arith, some l, some r)

  -- no node stands outside
  before : (t : Labelled) (i k : ℕ) → k ≤ i → is_good_at fuse t i k ≡ true
  before (Strand a) i k low = refl
  before (Joined l r q) i k low =
      let other : (k == i + size l) ≡ false = (let s = some l in grind (arith, nat_tests)) in
      rw (other, before l i k low, before r (i + size l) k (omega arith)) refl

  behind : (t : Labelled) (i k : ℕ) → i + size t ≤ k → is_good_at fuse t i k ≡ true
  behind (Strand a) i k high = refl
  behind (Joined l r q) i k high =
      let other : (k == i + size l) ≡ false = (let s = some r in grind (arith, nat_tests)) in
      rw (other, behind l i k (omega arith), behind r (i + size l) k (omega arith)) refl

  -- where no gap is bad, every node is good
  pub all_good : (t : Labelled) (i k : ℕ) → bad_gap fuse t i ≡ None → is_good_at fuse t i k ≡ true
  all_good (Strand a) i k e = refl
  all_good (Joined l r q) i k e =
      let parts = by_parts (bad_gap fuse l i) (bad_gap fuse r (i + size l)) (fuse (label l) (label r) q) (i + size l) e in
      at (k == i + size l) (fuse (label l) (label r) q) parts.1 (all_good l i k parts.0) (all_good r (i + size l) k parts.2)
    where
      at : (here top : Bool) → top ≡ true → is_good_at fuse l i k ≡ true → is_good_at fuse r (i + size l) k ≡ true
          → (if here then top else is_good_at fuse l i k && is_good_at fuse r (i + size l) k) ≡ true
      at true top e f g = e
      at false top e f g = rw (f, g) refl

  -- A bad gap: it lies inside, its node isn't good, and each at a lesser gap is.
  pub record IsFirst (t : Labelled) (i gap : ℕ) : Type 0 where
    pub low : i < gap
    pub high : gap < i + size t
    pub bad : is_good_at fuse t i gap ≡ false
    pub least : (k : ℕ) → k < gap → is_good_at fuse t i k ≡ true

  pub first_is : (t : Labelled) (i gap : ℕ) → bad_gap fuse t i ≡ Some gap → IsFirst t i gap
  first_is (Strand a) i gap e = absurd (cc)
  first_is (Joined l r q) i gap e = by_left (bad_gap fuse l i) (bad_gap fuse r (i + size l)) refl refl e (λ g f. first_is l i g f) (λ g f. first_is r (i + size l) g f)
    where
      on_left : IsFirst l i gap → IsFirst (Joined l r q) i gap
      on_left h = record {
        low = h.low;
        high = omega (arith, h.high);
        bad =
            let other : (gap == i + size l) ≡ false = (let x = h.high in grind (arith, nat_tests)) in
            rw (other, h.bad) refl;
        least = λ k small.
            let other : (k == i + size l) ≡ false = (let x = h.high in grind (arith, nat_tests)) in
            let high = h.high in
            rw (other, h.least k small, before r (i + size l) k (omega arith)) refl;
      }

      here : bad_gap fuse l i ≡ None → fuse (label l) (label r) q ≡ false → i + size l ≡ gap → IsFirst (Joined l r q) i gap
      here none bad same =
          let s = some l in
          let u = some r in
          record {
            low = omega arith;
            high = omega arith;
            bad = let is : (gap == i + size l) ≡ true = grind (arith, nat_tests) in rw (is, bad) refl;
            least = λ k small.
                let other : (k == i + size l) ≡ false = grind (arith, nat_tests) in
                rw (other, all_good l i k none, before r (i + size l) k (omega arith)) refl;
          }

      least_right : (k : ℕ) → bad_gap fuse l i ≡ None → fuse (label l) (label r) q ≡ true → is_good_at fuse r (i + size l) k ≡ true → is_good_at fuse (Joined l r q) i k ≡ true
      least_right k none good right = at (k == i + size l)
        where
          at : (b : Bool) → (if b then fuse (label l) (label r) q else is_good_at fuse l i k && is_good_at fuse r (i + size l) k) ≡ true
          at true = good
          at false = rw (all_good l i k none, right) refl

      on_right : bad_gap fuse l i ≡ None → fuse (label l) (label r) q ≡ true → IsFirst r (i + size l) gap → IsFirst (Joined l r q) i gap
      on_right none good h = record {
        low = omega (arith, h.low);
        high = omega (arith, h.high);
        bad =
            let low = h.low in
            let other : (gap == i + size l) ≡ false = grind (arith, nat_tests) in
            rw (other, behind l i gap (omega arith), h.bad) refl;
        least = λ k small. least_right k none good (h.least k small);
      }

      by_left : (left right : Option ℕ) → bad_gap fuse l i ≡ left → bad_gap fuse r (i + size l) ≡ right
          → option_or left (option_or (gap_unless (fuse (label l) (label r) q) (i + size l)) right) ≡ Some gap
          → ((g : ℕ) → bad_gap fuse l i ≡ Some g → IsFirst l i g) → ((g : ℕ) → bad_gap fuse r (i + size l) ≡ Some g → IsFirst r (i + size l) g)
          → IsFirst (Joined l r q) i gap
      by_left (Some g) right f h e below above = on_left (below gap (f ∙ e))
      by_left None right f h e below above = by_top (fuse (label l) (label r) q) refl e
        where
          by_top : (fits : Bool) → fuse (label l) (label r) q ≡ fits → option_or (gap_unless fits (i + size l)) right ≡ Some gap → IsFirst (Joined l r q) i gap
          by_top false bad e = here f bad (let same : i + size l ≡ gap = cc in same)
          by_top true good e = on_right f good (above gap (h ∙ e))

  pub first_bad : (t : Labelled) (gap : ℕ) → bad_gap fuse t 0 ≡ Some gap → IsFirstBad fuse t gap
  first_bad t gap e = let h = first_is t 0 gap e in record { bad = h.bad; least = h.least }
