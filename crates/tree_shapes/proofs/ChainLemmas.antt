-- Gaps along a row, and the spines of a tree in its links.
use Rattle.std.proofs.Common.{◌≡◌, ◌≢◌, ℕ, suc, ◌+◌, ◌<◌, ◌≤◌, List, [], ◌∷◌, ◌++◌, length, refl, ap, sym, ◌∙◌, subst, arith}
use Rattle.std.proofs.lemmas.List.{append_assoc, length-append}
use Rattle.tree_shapes.specs.declared.limits.TheConstants.{STRAND_LIMIT}
use Rattle.tree_shapes.specs.Outlines.{Outline, Tip, Branch, size}
use Rattle.tree_shapes.specs.Links.{Rows, link_to, Linked, IsChain}
use Rattle.tree_shapes.specs.Settling.{right_spine, left_spine}
use Rattle.tree_shapes.proofs.ContextLemmas.{size_above}

-- a row of gaps that doesn't end here
pub record Goes (next : ℕ → ℕ) (gap : ℕ) (gaps : List ℕ) : Type 0 where
  pub rest : List ℕ
  pub is : gaps ≡ gap ∷ rest
  pub low : gap < STRAND_LIMIT
  pub chain : IsChain next (next gap) rest

pub goes_on : (next : ℕ → ℕ) (gap : ℕ) (gaps : List ℕ) → gap ≢ 0 → IsChain next gap gaps → Goes next gap gaps
goes_on next gap [] some chain = absurd (some chain)
goes_on next gap (x ∷ xs) some chain = record {
  rest = xs;
  is = ap (λ g. g ∷ xs) (sym chain.0);
  low = omega (arith, chain.0, chain.2);
  chain = subst (λ g. IsChain next (next g) xs) (sym chain.0) chain.3;
}

pub chain_ends : (next : ℕ → ℕ) (gap : ℕ) (gaps : List ℕ) → gap ≡ 0 → IsChain next gap gaps → gaps ≡ []
chain_ends next gap [] none chain = refl
chain_ends next gap (x ∷ xs) none chain = absurd (omega (arith, none, chain.0, chain.1))

-- there is room for one more gap
pub room_left : (path old left gaps rest : List ℕ) (gap n : ℕ) → left ≡ gap ∷ rest → path ++ left ≡ old ++ gaps → length old + length gaps ≤ n → length path < n
room_left path old left gaps rest gap n is both room =
    let one : length left ≡ suc (length rest) = ap length is in
    let same : length path + length left ≡ length old + length gaps = sym (length-append path left) ∙ (ap length both ∙ length-append old gaps) in
    omega arith

pub moved_on : (path new old gaps left rest : List ℕ) (gap : ℕ) → new ≡ path ++ gap ∷ [] → left ≡ gap ∷ rest → path ++ left ≡ old ++ gaps → new ++ rest ≡ old ++ gaps
moved_on path new old gaps left rest gap made is both =
    ap (λ xs. xs ++ rest) made ∙ (append_assoc path (gap ∷ []) rest ∙ (ap (λ xs. path ++ xs) (sym is) ∙ both))

pub right_chain : (t : Outline) (i up : ℕ) (rows : Rows) → i + size t ≤ STRAND_LIMIT → Linked rows t i up → IsChain rows.right (link_to t i) (right_spine t i)
right_chain Tip i up rows room is = refl
right_chain (Branch l r) i up rows room is = (
  refl,
  omega (arith, size_above l),
  omega (arith, size_above r),
  subst (λ g. IsChain rows.right g (right_spine r (i + size l))) (sym is.1) (right_chain r (i + size l) (i + size l) rows (omega arith) is.4),
)

pub left_chain : (t : Outline) (i up : ℕ) (rows : Rows) → i + size t ≤ STRAND_LIMIT → Linked rows t i up → IsChain rows.left (link_to t i) (left_spine t i)
left_chain Tip i up rows room is = refl
left_chain (Branch l r) i up rows room is = (
  refl,
  omega (arith, size_above l),
  omega (arith, size_above r),
  subst (λ g. IsChain rows.left g (left_spine l i)) (sym is.0) (left_chain l i (i + size l) rows (omega (arith, size_above r)) is.3),
)

-- a spine is shorter than its tree
pub right_short : (t : Outline) (i : ℕ) → length (right_spine t i) + 1 ≤ size t
right_short Tip i = omega arith
right_short (Branch l r) i = omega (arith, size_above l, right_short r (i + size l))

pub left_short : (t : Outline) (i : ℕ) → length (left_spine t i) + 1 ≤ size t
left_short Tip i = omega arith
left_short (Branch l r) i = omega (arith, size_above r, left_short l i)
