-- Sequences of whole numbers, and their combinations.
use Rattle.std.proofs.Common.{◌≡◌, ℕ, zero, suc, refl, sym, ap, ap₂, ◌∙◌, arith}
use Rattle.std.specs.Prelude.{ℤ, pos, ◌+ℤ◌, ◌*ℤ◌}
use Rattle.std.proofs.lemmas.Int.{ints}
use Rattle.ring_laws.specs.IntLaws.{mul-add, mul_comm, mul_assoc}

-- whole numbers by their place
abbrev pub Sequence : Type 0
Sequence = ℕ → ℤ

-- place by place
abbrev pub plus : Sequence → Sequence → Sequence
plus f g = λ j. f j +ℤ g j

abbrev pub times : ℤ → Sequence → Sequence
times a f = λ j. a *ℤ f j

abbrev pub nought : Sequence
nought = λ j. pos 0

-- x 0 times v 0, plus x 1 times v 1, and so on to k - 1
abbrev pub comb : ℕ → Sequence → (ℕ → Sequence) → Sequence
comb zero x v = nought
comb (suc k) x v = plus (comb k x v) (times (x k) (v k))

-- a map that keeps sums and multiples
pub record Linear (F : Sequence → Sequence) : Type 0 where
  pub add : (f g : Sequence) → F (plus f g) ≡ plus (F f) (F g)
  pub scale : (a : ℤ) (f : Sequence) → F (times a f) ≡ times a (F f)

pub pointwise : {f g : Sequence} → ((j : ℕ) → f j ≡ g j) → f ≡ g
pointwise h = λ t j. h j t

-- the same combination, of families that agree
pub comb-family : (k : ℕ) (x : Sequence) (v w : ℕ → Sequence) → ((i : ℕ) → v i ≡ w i) → comb k x v ≡ comb k x w
comb-family k x v w h = ap (comb k x) (λ t i. h i t)

times-nought : (f : Sequence) → times (pos 0) f ≡ nought
times-nought f = pointwise (λ j. omega (arith, ints))

pub linear-nought : (F : Sequence → Sequence) → Linear F → F nought ≡ nought
linear-nought F L = ap F (sym (times-nought nought)) ∙ L.scale (pos 0) nought ∙ times-nought (F nought)

pub linear-comb : (F : Sequence → Sequence) → Linear F → (k : ℕ) (x : Sequence) (v : ℕ → Sequence) → F (comb k x v) ≡ comb k x (λ i. F (v i))
linear-comb F L zero x v = linear-nought F L
linear-comb F L (suc k) x v = L.add _ _ ∙ ap₂ plus (linear-comb F L k x v) (L.scale (x k) (v k))

regroup : (p q a b : ℤ) → (p +ℤ q) +ℤ (a +ℤ b) ≡ (p +ℤ a) +ℤ (q +ℤ b)
regroup p q a b = omega (arith, ints)

add-mul : (w u c : ℤ) → (w +ℤ u) *ℤ c ≡ w *ℤ c +ℤ u *ℤ c
add-mul w u c = mul_comm (w +ℤ u) c ∙ mul-add c w u ∙ ap₂ ◌+ℤ◌ (mul_comm c w) (mul_comm c u)

swap_left : (a b c : ℤ) → a *ℤ (b *ℤ c) ≡ b *ℤ (a *ℤ c)
swap_left a b c = sym (mul_assoc a b c) ∙ ap (λ z. z *ℤ c) (mul_comm a b) ∙ mul_assoc b a c

comb-add : (k : ℕ) (v : ℕ → Sequence) (x y : Sequence) → comb k (plus x y) v ≡ plus (comb k x v) (comb k y v)
comb-add zero v x y = pointwise (λ j. omega (arith, ints))
comb-add (suc k) v x y =
    ap₂ plus (comb-add k v x y) (pointwise (λ j. add-mul (x k) (y k) (v k j)))
    ∙ pointwise (λ j. regroup (comb k x v j) (comb k y v j) (x k *ℤ v k j) (y k *ℤ v k j))

comb-scale : (k : ℕ) (v : ℕ → Sequence) (a : ℤ) (x : Sequence) → comb k (times a x) v ≡ times a (comb k x v)
comb-scale zero v a x = pointwise (λ j. omega (arith, ints))
comb-scale (suc k) v a x =
    ap₂ plus (comb-scale k v a x) (pointwise (λ j. mul_assoc a (x k) (v k j)))
    ∙ pointwise (λ j. sym (mul-add a (comb k x v j) (x k *ℤ v k j)))

-- a combination is linear in its coefficients
pub Linear-comb : (k : ℕ) (v : ℕ → Sequence) → Linear (λ x. comb k x v)
Linear-comb k v = record { add = comb-add k v; scale = comb-scale k v }

-- and in its family
pub comb-plus : (k : ℕ) (x : Sequence) (v w : ℕ → Sequence) → comb k x (λ i. plus (v i) (w i)) ≡ plus (comb k x v) (comb k x w)
comb-plus zero x v w = pointwise (λ j. omega (arith, ints))
comb-plus (suc k) x v w =
    ap₂ plus (comb-plus k x v w) (pointwise (λ j. mul-add (x k) (v k j) (w k j)))
    ∙ pointwise (λ j. regroup (comb k x v j) (comb k x w j) (x k *ℤ v k j) (x k *ℤ w k j))

pub comb-times : (k : ℕ) (x : Sequence) (a : ℤ) (v : ℕ → Sequence) → comb k x (λ i. times a (v i)) ≡ times a (comb k x v)
comb-times zero x a v = pointwise (λ j. omega (arith, ints))
comb-times (suc k) x a v =
    ap₂ plus (comb-times k x a v) (pointwise (λ j. swap_left (x k) a (v k j)))
    ∙ pointwise (λ j. sym (mul-add a (comb k x v j) (x k *ℤ v k j)))

comb-nought : (k : ℕ) (x : Sequence) → comb k x (λ _. nought) ≡ nought
comb-nought zero x = refl
comb-nought (suc k) x = ap (λ f. plus f (times (x k) nought)) (comb-nought k x) ∙ pointwise (λ j. omega (arith, ints))

-- two combinations change places
pub comb-exchange : (k m : ℕ) (x y : Sequence) (v : ℕ → ℕ → Sequence) → comb k x (λ a. comb m y (λ b. v a b)) ≡ comb m y (λ b. comb k x (λ a. v a b))
comb-exchange zero m x y v = sym (comb-nought m y)
comb-exchange (suc k) m x y v =
    ap₂ plus (comb-exchange k m x y v) (sym (comb-times m y (x k) (v k)))
    ∙ sym (comb-plus m y (λ b. comb k x (λ a. v a b)) (λ b. times (x k) (v k b)))
