-- What a stated evaluation gives is the value of the definition.
use Rattle.std.proofs.Common.{◌≡◌, ℕ, ◌+◌, ◌-◌, Bool, true, false, Option, Some, List, refl, ap, sym, ◌∙◌, slice_index, slice_set, ◌⊎◌, inl, inr}
use Rattle.std.specs.Prelude.{if◌then◌else◌, ◌&&◌, IsTrue}
use Rattle.ring_laws.specs.Ring.{Ring, Held, RingLaws}
use Rattle.ring_laws.specs.Sums.{total}
use Rattle.ring_laws.specs.Stated.{◌>>=◌, product_at, sum_at, product3_at, add_product3_at, steps}
use Rattle.ring_laws.proofs.SumLemmas.{zero-product}
use Rattle.ring_laws.proofs.StatedLemmas.{some_inj, bind_some, sum_given, product_given, steps_all}
use Rattle.symbol_table.specs.Symbols.{Symbols, Given, symbols_of, f_admissible}
use Rattle.comb_laws.specs.Paths.{Path, Vector, is_path}
use Rattle.comb_laws.specs.Operators.{strand, exchange_by, braid_kernel, term_at, acted}
use Rattle.comb_run.specs.Evaluated.{braid_step, braid_kernel_at, term_added_at, acted_step, acted_at}
use Rattle.comb_run.specs.Operations.{kernel_at}
use Rattle.comb_laws.specs.Operators.{kernel_of}
use Rattle.comb_laws.specs.declared.operator.Operator.{Operator}
use Rattle.comb_laws.specs.declared.operator.Operator.TheVariants.{Exchange, Project}
use Rattle.program_text.specs.declared.plan.Sign.{Sign}

-- one more term of a braid's kernel
braid_term_value : {E : Type 0} (r : Ring E) (f x h s v : E) → add_product3_at r s f x h ≡ Some v → v ≡ r.sum s (r.product (r.product f x) h)
braid_term_value {E} r f x h s v e =
    let whole = bind_some (product3_at r f x h) (λ (b : E). sum_at r s b) v e in
    let first = bind_some (product_at r f x) (λ (a : E). product_at r a h) whole.0 whole.1 in
    sum_given r s whole.0 v whole.2
    ∙ ap (r.sum s) (product_given r first.0 h whole.0 first.2 ∙ ap (λ a. r.product a h) (product_given r f x first.0 first.1))

-- one more term, a kernel times an old value
term_added_value : {E : Type 0} (r : Ring E) (o : Option E) (k old s v : E) → ((w : E) → o ≡ Some w → w ≡ k) → term_added_at r o old s ≡ Some v → v ≡ r.sum s (r.product k old)
term_added_value {E} r o k old s v gives e =
    let first = bind_some o (λ (by : E). product_at r by old >>= λ b. sum_at r s b) v e in
    let second = bind_some (product_at r first.0 old) (λ (b : E). sum_at r s b) v first.2 in
    sum_given r s second.0 v second.2
    ∙ ap (r.sum s) (product_given r first.0 old second.0 second.1 ∙ ap (λ a. r.product a old) (gives first.0 first.1))

pub if_no : {A : Type 0} (b : Bool) (x y : A) → b ≡ false → (if b then x else y) ≡ y
if_no b x y e = rw e refl

-- a test of two parts that fails
and_fails : (a b : Bool) → (a && b) ≡ false → (a ≡ false) ⊎ (b ≡ false)
and_fails true b e = inr e
and_fails false b e = inl refl

module _ {E : Type 0} {R : Ring E} {H : Held E} (laws : RingLaws R H) where
  -- a term that adds nothing
  adds_nothing : (s v x : E) → IsTrue (R.member s) → x ≡ R.zero → Some s ≡ Some v → v ≡ R.sum s x
  adds_nothing s v x m none e = sym (some_inj s v e) ∙ (sym (laws.sum-zero s m) ∙ ap (R.sum s) (sym none))

  first_zero : (f x h : E) → f ≡ R.zero → R.product (R.product f x) h ≡ R.zero
  first_zero f x h e = rw (e, zero-product laws x) (zero-product laws h)

  last_zero : (f x h : E) → h ≡ R.zero → R.product (R.product f x) h ≡ R.zero
  last_zero f x h e = rw e (laws.product-zero (R.product f x))

  module _ (g : Given E) where
    abbrev c : Symbols E
    c = symbols_of R H g

    braid_step_by : (sign : Sign) (p a b y t u q : ℕ) (s v : E) (ok : Bool) → (f_admissible g.fuse p a b y t q && f_admissible g.fuse p b a y u q) ≡ ok
        → IsTrue (R.member s)
        → (if ok then add_product3_at R s (c.f p a b y t q) (exchange_by c sign a b q) (c.h p b a y q u) else Some s) ≡ Some v
        → v ≡ R.sum s (R.product (R.product (c.f p a b y t q) (exchange_by c sign a b q)) (c.h p b a y q u))
    braid_step_by sign p a b y t u q s v true is m e = braid_term_value R _ _ _ s v e
    braid_step_by sign p a b y t u q s v false is m e =
        adds_nothing s v _ m
        (elim (and_fails (f_admissible g.fuse p a b y t q) (f_admissible g.fuse p b a y u q) is) [
          | inl nof ↦ first_zero _ _ _ (if_no (f_admissible g.fuse p a b y t q) _ _ nof)
          | inr noh ↦ last_zero _ _ _ (if_no (f_admissible g.fuse p b a y u q) _ _ noh)
        ]) e

    braid_kernel_value : (sign : Sign) (p a b y t u : ℕ) (v : E) → braid_kernel_at c sign p a b y t u ≡ Some v → v ≡ braid_kernel c sign p a b y t u
    braid_kernel_value sign p a b y t u v e =
        steps_all laws (braid_step c sign p a b y t u)
        (λ q. R.product (R.product (c.f p a b y t q) (exchange_by c sign a b q)) (c.h p b a y q u))
        (λ q s w m h. braid_step_by sign p a b y t u q s w (f_admissible g.fuse p a b y t q && f_admissible g.fuse p b a y u q) refl m h)
        g.count v e

    charge_kernel_by : (q p a b y t u : ℕ) (v : E) (ok : Bool) → (f_admissible g.fuse p a b y t q && f_admissible g.fuse p a b y u q) ≡ ok
        → (if ok then product_at R (c.f p a b y t q) (c.h p a b y q u) else Some R.zero) ≡ Some v → v ≡ R.product (c.f p a b y t q) (c.h p a b y q u)
    charge_kernel_by q p a b y t u v true is e = product_given R _ _ v e
    charge_kernel_by q p a b y t u v false is e =
        sym (some_inj R.zero v e)
        ∙ elim (and_fails (f_admissible g.fuse p a b y t q) (f_admissible g.fuse p a b y u q) is) [
          | inl nof ↦ sym (ap (λ x. R.product x (c.h p a b y q u)) (if_no (f_admissible g.fuse p a b y t q) _ _ nof) ∙ zero-product laws _)
          | inr noh ↦ sym (ap (R.product (c.f p a b y t q)) (if_no (f_admissible g.fuse p a b y u q) _ _ noh) ∙ laws.product-zero _)
        ]

    -- what an operator's kernel gives is the kernel
    pub kernel_value : (o : Operator) (p a b y t u : ℕ) (v : E) → kernel_at c o p a b y t u ≡ Some v → v ≡ kernel_of c o p a b y t u
    kernel_value (Exchange sign) p a b y t u v e = braid_kernel_value sign p a b y t u v e
    kernel_value (Project q) p a b y t u v e = charge_kernel_by q p a b y t u v (f_admissible g.fuse p a b y t q && f_admissible g.fuse p a b y u q) refl e

    acted_step_by : (o : Operator) (strands : List ℕ) (k : ℕ) (v : Vector E) → ((x : Path) → IsTrue (R.member (v x))) → (x : Path) (t : ℕ) (s w : E) (z : Bool) → H.is_zero (v (slice_set x k t)) ≡ z → IsTrue (R.member s)
        → (if z then Some s else term_added_at R (kernel_at c o (slice_index x (k - 1)) (strand strands k) (strand strands (k + 1)) (slice_index x (k + 1)) t (slice_index x k)) (v (slice_set x k t)) s) ≡ Some w
        → w ≡ R.sum s (term_at c strands k (kernel_of c o) v x t)
    acted_step_by o strands k v members x t s w true is m e =
        adds_nothing s w _ m (ap (R.product _) ((laws.is_zero_is (v (slice_set x k t)) (members (slice_set x k t))).0 is) ∙ laws.product-zero _) e
    acted_step_by o strands k v members x t s w false is m e =
        term_added_value R _ _ (v (slice_set x k t)) s w (λ by h. kernel_value o _ _ _ _ _ _ by h) e

    acted_by : (o : Operator) (strands after : List ℕ) (k : ℕ) (v : Vector E) → ((x : Path) → IsTrue (R.member (v x))) → (x : Path) (w : E) (b : Bool)
        → (if b then steps (acted_step c strands k (kernel_at c o) v x) 0 g.count R.zero else Some R.zero) ≡ Some w
        → w ≡ (if b then total R g.count (term_at c strands k (kernel_of c o) v x) else R.zero)
    acted_by o strands after k v members x w true e =
        steps_all laws (acted_step c strands k (kernel_at c o) v x) (term_at c strands k (kernel_of c o) v x)
        (λ t s u m h. acted_step_by o strands k v members x t s u (H.is_zero (v (slice_set x k t))) refl m h) g.count w e
    acted_by o strands after k v members x w false e = sym (some_inj R.zero w e)

    -- what an operator's evaluation gives at a path is its value there
    pub acted_value : (o : Operator) (strands after : List ℕ) (k : ℕ) (v : Vector E) → ((x : Path) → IsTrue (R.member (v x))) → (x : Path) (w : E)
        → acted_at c strands after k (kernel_at c o) v x ≡ Some w → w ≡ acted c strands after k (kernel_of c o) v x
    acted_value o strands after k v members x w e = acted_by o strands after k v members x w (is_path c after x) e
