-- A stated evaluation: products, sums and conjugates in a given order, which stops at the first that doesn't fit.
use Rattle.std.specs.Prelude.{◌≡◌, ℕ, zero, suc, ◌+◌, Option, Some, None, if◌then◌else◌, List, [], ◌∷◌, Result, Ok, Err}
use Rattle.ring_laws.specs.Ring.{Ring}

infixl 10 ◌>>=◌
-- what follows a value, and nothing after a stop
abbrev pub ◌>>=◌ : {A B : Type 0} → Option A → (A → Option B) → Option B
None >>= f = None
(Some x) >>= f = f x

-- what a call answers: the value of the evaluation, or an error where it stops
abbrev pub Gives : {A F : Type 0} → Result A F → Option A → Type 0
Gives (Ok v) stated = stated ≡ Some v
Gives (Err e) stated = stated ≡ None

abbrev pub sum_at : {E : Type 0} → Ring E → E → E → Option E
sum_at r x y = if r.sum_fits x y then Some (r.sum x y) else None

abbrev pub product_at : {E : Type 0} → Ring E → E → E → Option E
product_at r x y = if r.product_fits x y then Some (r.product x y) else None

abbrev pub conjugate_at : {E : Type 0} → Ring E → E → Option E
conjugate_at r x = if r.conjugate_fits x then Some (r.conjugate x) else None

-- a product, and then the sum with it
abbrev pub add_product_at : {E : Type 0} → Ring E → E → E → E → Option E
add_product_at r sum x y = do
  product ← product_at r x y
  sum_at r sum product

-- (x y) z
abbrev pub product3_at : {E : Type 0} → Ring E → E → E → E → Option E
product3_at r x y z = do
  first ← product_at r x y
  product_at r first z

-- the sum with (x y) z
abbrev pub add_product3_at : {E : Type 0} → Ring E → E → E → E → E → Option E
add_product3_at r sum x y z = do
  product ← product3_at r x y z
  sum_at r sum product

-- n steps, one for each label from t on, each from what the one before it gave
abbrev pub steps : {A : Type 0} → (ℕ → A → Option A) → ℕ → ℕ → A → Option A
steps step t zero sum = Some sum
steps step t (suc n) sum = do
  next ← step t sum
  steps step (t + 1) n next

-- a step for each item of a list, from the first on
abbrev pub steps_over : {A B : Type 0} → (B → A → Option A) → List B → A → Option A
steps_over step [] sum = Some sum
steps_over step (x ∷ xs) sum = do
  next ← step x sum
  steps_over step xs next
