-- Keys before and after a raise.
use Rattle.std.proofs.Common.{◌≡◌, ℕ, ◌+◌, ◌-◌, ◌<◌, List, length, get_or, set, refl, ap, sym, ◌∙◌, inl, inr, arith, length-set, get_or-set_same, get_or-set_other}
use Rattle.std.proofs.lemmas.Grind.{same_number_lists}
use Rattle.std.proofs.lemmas.Bool.Decides.{eqb_tells}
use Rattle.std.proofs.lemmas.List.Elements.{All-set}
use Rattle.recouple.specs.Rotations.{IsKey, IsRotation, before, after}
use Rattle.recouple.specs.declared.rotation.Rotation.{Rotation}

-- two labels moved and moved back
back_at : (x : List ℕ) (k p d t u : ℕ) → k < length x → p < length x → (k ≡ p → ⊥) → d ≡ get_or x k 0 → u ≡ get_or x p 0 → (j : ℕ)
    → get_or (set (set (set (set x p d) k t) k d) p u) j 0 ≡ get_or x j 0
back_at x k p d t u low high apart ed eu j =
    let long1 : length (set x p d) ≡ length x = length-set x p d in
    let long2 : length (set (set x p d) k t) ≡ length x = length-set (set x p d) k t ∙ long1 in
    let long3 : length (set (set (set x p d) k t) k d) ≡ length x = length-set (set (set x p d) k t) k d ∙ long2 in
    elim (eqb_tells j p) [
      | inl at_p ↦
          ap (λ i. get_or (set (set (set (set x p d) k t) k d) p u) i 0) at_p.1
          ∙ (get_or-set_same (set (set (set x p d) k t) k d) p u 0 (omega (arith, long3)) ∙ (eu ∙ ap (λ i. get_or x i 0) (sym at_p.1)))
      | inr off_p ↦ get_or-set_other (set (set (set x p d) k t) k d) p j u 0 off_p.1 ∙ elim (eqb_tells j k) [
        | inl at_k ↦
            ap (λ i. get_or (set (set (set x p d) k t) k d) i 0) at_k.1
            ∙ (get_or-set_same (set (set x p d) k t) k d 0 (omega (arith, long2)) ∙ (ed ∙ ap (λ i. get_or x i 0) (sym at_k.1)))
        | inr off_k ↦ get_or-set_other (set (set x p d) k t) k j d 0 off_k.1 ∙ (get_or-set_other (set x p d) k j t 0 off_k.1 ∙ get_or-set_other x p j d 0 off_p.1)
      ]
    ]

long_back : (x : List ℕ) (k p d t u : ℕ) → length (set (set (set (set x p d) k t) k d) p u) ≡ length x
long_back x k p d t u = length-set (set (set (set x p d) k t) k d) p u ∙ (length-set (set (set x p d) k t) k d ∙ (length-set (set x p d) k t ∙ length-set x p d))

parent_has : (x : List ℕ) (k p d t : ℕ) → p < length x → (k ≡ p → ⊥) → get_or (set (set x p d) k t) p 0 ≡ d
parent_has x k p d t high apart = get_or-set_other (set x p d) k p t 0 (λ e. apart (sym e)) ∙ get_or-set_same x p d 0 high

-- a new key is what follows from its old ones
pub after_before : (n : ℕ) (rotation : Rotation) (x : List ℕ) (t : ℕ) → IsRotation n rotation → n ≡ length x + 1 → after rotation (before rotation x t) (get_or x (rotation.parent - 1) 0) ≡ x
after_before n rotation x t is long =
    let k = rotation.node - 1 in
    let p = rotation.parent - 1 in
    let d = get_or x (rotation.node - 1) 0 in
    let low : rotation.node - 1 < length x = omega (arith, is.node.low, is.node.high) in
    let high : rotation.parent - 1 < length x = omega (arith, is.parent.low, is.parent.high) in
    let apart : (rotation.node - 1 ≡ rotation.parent - 1) → ⊥ = λ e. is.apart (omega (arith, e, is.node.low, is.parent.low)) in
    let u = get_or x (rotation.parent - 1) 0 in
    ap (λ l. set (set (set (set x p d) k t) k l) p u) (parent_has x k p d t high apart)
    ∙ same_number_lists _ _ (long_back x k p d t u) (λ j _. back_at x k p d t u low high apart refl refl j)

pub long_before : (rotation : Rotation) (x : List ℕ) (t : ℕ) → length (before rotation x t) ≡ length x
long_before rotation x t =
    length-set (set x (rotation.parent - 1) (get_or x (rotation.node - 1) 0)) (rotation.node - 1) t ∙ length-set x (rotation.parent - 1) (get_or x (rotation.node - 1) 0)

pub label_before : (n : ℕ) (rotation : Rotation) (x : List ℕ) (t : ℕ) → IsRotation n rotation → n ≡ length x + 1 → get_or (before rotation x t) (rotation.node - 1) 0 ≡ t
label_before n rotation x t is long =
    get_or-set_same (set x (rotation.parent - 1) (get_or x (rotation.node - 1) 0)) (rotation.node - 1) t 0
    (omega (arith, is.node.low, is.node.high, length-set x (rotation.parent - 1) (get_or x (rotation.node - 1) 0)))

-- a new key has a label below the count for each gap
pub after_key : (count n : ℕ) (rotation : Rotation) (x : List ℕ) (u : ℕ) → IsRotation n rotation → IsKey count n x → u < count → IsKey count n (after rotation x u)
after_key count n rotation x u is key low =
    let inner = set x (rotation.node - 1) (get_or x (rotation.parent - 1) 0) in
    let d : get_or x (rotation.parent - 1) 0 < count = key.labels (rotation.parent - 1) 0 (omega (arith, key.long, is.parent.low, is.parent.high)) in
    record {
      long = key.long ∙ ap (λ m. m + 1) (sym (length-set inner (rotation.parent - 1) u ∙ length-set x (rotation.node - 1) (get_or x (rotation.parent - 1) 0)));
      labels = All-set (λ l. l < count) inner (rotation.parent - 1) u low (All-set (λ l. l < count) x (rotation.node - 1) (get_or x (rotation.parent - 1) 0) d key.labels);
    }
