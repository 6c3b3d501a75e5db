-- What the evaluation of a weight gives is the weight.
use Rattle.std.proofs.Common.{◌≡◌, ℕ, Bool, true, false, List, [], ◌∷◌, Option, Some, refl, ap, sym, ◌∙◌}
use Rattle.std.specs.Prelude.{if◌then◌else◌, IsTrue}
use Rattle.ring_laws.specs.Ring.{Ring, RingLaws}
use Rattle.ring_laws.specs.Stated.{◌>>=◌, product_at, sum_at, conjugate_at}
use Rattle.ring_laws.proofs.SumLemmas.{zero-product, zero-sum, sum_over_is}
use Rattle.ring_laws.proofs.StatedLemmas.{some_inj, bind_some, sum_given, product_given, conjugate_given, steps_over_total}
use Rattle.symbol_table.specs.Symbols.{Symbols}
use Rattle.comb_laws.specs.Inner.{inner_path_weight, inner_weight}
use Rattle.comb_laws.specs.Operators.{weights_along}
use Rattle.comb_laws.specs.Paths.{Path, Vector, paths}
use Rattle.comb_run.specs.Evaluated.{weights_along_at, path_weight_at, weight_term_at, weight_step, weight_at}

weights_along_value : {E : Type 0} (c : Symbols E) (ss xs : List ℕ) (begun : E) (p : ℕ) (w : E) → weights_along_at c begun p ss xs ≡ Some w → w ≡ weights_along c begun p ss xs
weights_along_value c [] xs begun p w e = sym (some_inj begun w e)
weights_along_value c (s ∷ ss) [] begun p w e = sym (some_inj begun w e)
weights_along_value {E} c (s ∷ ss) (x ∷ xs) begun p w e =
    let first = bind_some (product_at c.ring begun (c.w p s x)) (λ (n : E). weights_along_at c n x ss xs) w e in
    weights_along_value c ss xs first.0 x w first.2
    ∙ ap (λ b. weights_along c b x ss xs) (product_given c.ring begun (c.w p s x) first.0 first.1)

path_weight_value : {E : Type 0} (c : Symbols E) (ss : List ℕ) (x : Path) (w : E) → path_weight_at c ss x ≡ Some w → w ≡ inner_path_weight c ss x
path_weight_value c [] x w e = sym (some_inj c.ring.one w e)
path_weight_value c (s ∷ ss) [] w e = sym (some_inj c.ring.one w e)
path_weight_value c (s ∷ ss) (x ∷ []) w e = sym (some_inj c.ring.one w e)
path_weight_value c (s ∷ ss) (x ∷ y ∷ xs) w e = weights_along_value c ss xs c.ring.one y w e

weight_term_value : {E : Type 0} (r : Ring E) (o : Option E) (k v s w : E) → ((u : E) → o ≡ Some u → u ≡ k) → weight_term_at r o v s ≡ Some w → w ≡ r.sum s (r.product k (r.product v (r.conjugate v)))
weight_term_value {E} r o k v s w gives e =
    let a = bind_some o (λ (ws : E). conjugate_at r v >>= λ t. product_at r v t >>= λ q. product_at r ws q >>= λ m. sum_at r s m) w e in
    let b = bind_some (conjugate_at r v) (λ (t : E). product_at r v t >>= λ q. product_at r a.0 q >>= λ m. sum_at r s m) w a.2 in
    let d = bind_some (product_at r v b.0) (λ (q : E). product_at r a.0 q >>= λ m. sum_at r s m) w b.2 in
    let f = bind_some (product_at r a.0 d.0) (λ (m : E). sum_at r s m) w d.2 in
    let square : d.0 ≡ r.product v (r.conjugate v) = product_given r v b.0 d.0 d.1 ∙ ap (r.product v) (conjugate_given r v b.0 b.1) in
    let term : f.0 ≡ r.product k (r.product v (r.conjugate v)) = product_given r a.0 d.0 f.0 f.1 ∙ (λ j. r.product (gives a.0 a.1 j) (square j)) in
    sum_given r s f.0 w f.2 ∙ ap (r.sum s) term

module _ {E : Type 0} (c : Symbols E) (laws : RingLaws c.ring c.held) where
  -- the term of a path in a weight
  abbrev term : List ℕ → Vector E → Path → E
  term strands v x = c.ring.product (inner_path_weight c strands x) (c.ring.product (v x) (c.ring.conjugate (v x)))

  is_zero_of : (x : E) → IsTrue (c.ring.member x) → c.held.is_zero x ≡ true → x ≡ c.ring.zero
  is_zero_of x m z = (laws.is_zero_is x m).0 z

  term_zero : (strands : List ℕ) (v : Vector E) (x : Path) → v x ≡ c.ring.zero → term strands v x ≡ c.ring.zero
  term_zero strands v x e =
      ap (λ y. c.ring.product (inner_path_weight c strands x) (c.ring.product y (c.ring.conjugate (v x)))) e
      ∙ (ap (c.ring.product (inner_path_weight c strands x)) (zero-product laws (c.ring.conjugate (v x))) ∙ laws.product-zero (inner_path_weight c strands x))

  module _ (strands : List ℕ) (v : Vector E) (members : (x : Path) → IsTrue (c.ring.member (v x))) where
    step_value : (x : Path) (s w : E) → IsTrue (c.ring.member s) → weight_step c strands v x s ≡ Some w → w ≡ c.ring.sum s (term strands v x)
    step_value x s w m e = pick (c.held.is_zero (v x)) refl e
      where
        pick : (z : Bool) → c.held.is_zero (v x) ≡ z → (if z then Some s else weight_term_at c.ring (path_weight_at c strands x) (v x) s) ≡ Some w → w ≡ c.ring.sum s (term strands v x)
        pick true is e =
            sym (some_inj s w e) ∙ (sym (laws.sum-zero s m) ∙ ap (c.ring.sum s) (sym (term_zero strands v x (is_zero_of (v x) (members x) is))))
        pick false is e = weight_term_value c.ring (path_weight_at c strands x) (inner_path_weight c strands x) (v x) s w (path_weight_value c strands x) e

    -- what the weight's evaluation gives is the weight, without the factor of the first strand
    pub weight_value : (w : E) → weight_at c strands v ≡ Some w → w ≡ inner_weight c strands v
    weight_value w e =
        steps_over_total laws (weight_step c strands v) (term strands v) step_value (paths c strands) c.ring.zero w laws.zero_is e
        ∙ zero-sum laws (inner_weight c strands v) (sum_over_is laws (term strands v) (paths c strands))
