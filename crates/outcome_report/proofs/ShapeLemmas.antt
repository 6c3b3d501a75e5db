-- The text of a part of a shape, by the gaps of its children.
use Rattle.std.proofs.Common.{◌≡◌, ℕ, ◌+◌, ◌<◌, List, [], ◌∷◌, ◌++◌, Option, Some, sym, ap, subst, refl, ◌∙◌, arith, append_assoc, codes, take, length}
use Rattle.std.specs.Fmt.{decimal}
use Rattle.std.proofs.lemmas.Option.{none-some}
use Rattle.line_text.specs.Spelling.{spelled}
use Rattle.line_text.proofs.WritingLemmas.{still_in_front}
use Rattle.ring_laws.proofs.StatedLemmas.{some_inj}
use Rattle.tree_shapes.specs.Contexts.{Around, fill, place}
use Rattle.tree_shapes.specs.Outlines.{Outline, Tip, Branch, Standing, size, gap_of, node_at, left_gap, right_gap}
use Rattle.tree_shapes.proofs.ContextLemmas.{size_above, place_below}
use Rattle.tree_shapes.proofs.ReaderLemmas.{node_here, node_in, node_left, node_right}
use Rattle.tree_shapes.proofs.SettleLemmas.{HasNode, node_filled, node_there}
use Rattle.recouple.proofs.PairLemmas.{left_gap_is, right_gap_is}
use Rattle.outcome_report.specs.Parts.{IsTop, part_size, part_text}
use Rattle.outcome_report.specs.TreeReport.{shape_text}

-- A part of a shape that has this text and fewer strands than the part around it.
pub record IsPart (t : Outline) (top : Option ℕ) (strand : ℕ) (own : List ℕ) (above : ℕ) : Type 0 where
  pub inside : IsTop t top
  pub text : part_text t top strand ≡ own
  pub less : part_size t top < above

-- what is found at the gap of a node
abbrev IsFound : Outline → Outline → Outline → ℕ → Type 0
IsFound t l r i = (node_at t 0 (i + size l) ≡ record { start = i; tree = Branch l r }) × (0 < i + size l) × (i + size l < size t)

part_by : (t part : Outline) (i strand above : ℕ) → (part ≡ Tip → strand ≡ i + 1) → size part < above → ((l r : Outline) → part ≡ Branch l r → IsFound t l r i)
    → IsPart t (gap_of part i) strand (shape_text part i) above
part_by t Tip i strand above tip less found = record { inside = tt; text = ap decimal (tip refl); less = omega (arith, less) }
part_by t (Branch l r) i strand above tip less found =
    let there = found l r refl in
    record {
      inside = (there.1, there.2);
      text = ap (λ (s : Standing). shape_text s.tree s.start) there.0;
      less = omega (arith, less, ap (λ (s : Standing). size s.tree) there.0);
    }

-- What is read of a node: its children, and its text.
pub record HasChildren (t : Outline) (k : ℕ) : Type 0 where
  pub left_text : List ℕ
  pub right_text : List ℕ
  pub left : IsPart t (left_gap t k) k left_text (part_size t (Some k))
  pub right : IsPart t (right_gap t k) (k + 1) right_text (part_size t (Some k))
  pub text : (strand : ℕ) → part_text t (Some k) strand ≡ 40 ∷ (left_text ++ 32 ∷ (right_text ++ 41 ∷ []))

-- the children of a node in its surroundings
module _ (a : Around) (l r : Outline) (k : ℕ) (at : k ≡ place a 0 + size l) where
  abbrev whole : Outline
  whole = fill a (Branch l r)

  abbrev start : ℕ
  start = place a 0

  left_found : (x y : Outline) → l ≡ Branch x y → IsFound whole x y start
  left_found x y e =
      let sizes : size l ≡ size x + size y = ap size e in
      let below = place_below a (Branch l r) 0 in
      let g : ℕ = start + size x in (
        node_in a (Branch l r) 0 g (omega (arith, size_above x)) (omega (arith, sizes, size_above y, size_above r))
            ∙ (node_left l r start g (omega (arith, sizes, size_above y)) ∙ (ap (λ o. node_at o start g) e ∙ node_here x y start g refl)),
        omega (arith, size_above x),
        omega (arith, sizes, below, size_above y, size_above r),
      )

  right_found : (x y : Outline) → r ≡ Branch x y → IsFound whole x y (start + size l)
  right_found x y e =
      let sizes : size r ≡ size x + size y = ap size e in
      let below = place_below a (Branch l r) 0 in
      let g : ℕ = (start + size l) + size x in (
        node_in a (Branch l r) 0 g (omega (arith, size_above x)) (omega (arith, sizes, size_above y))
            ∙ (node_right l r start g (omega (arith, size_above x)) ∙ (ap (λ o. node_at o (start + size l) g) e ∙ node_here x y (start + size l) g refl)),
        omega (arith, size_above x),
        omega (arith, sizes, below, size_above y),
      )

  abbrev here : HasNode whole 0 k
  here = record { around = a; left = l; right = r; is = refl; gap = at }

  found : node_at whole 0 k ≡ record { start = start; tree = Branch l r }
  found = node_filled a l r k at

  above : part_size whole (Some k) ≡ size l + size r
  above = ap (λ (s : Standing). size s.tree) found

  left_part : IsPart whole (left_gap whole k) k (shape_text l start) (part_size whole (Some k))
  left_part =
      subst (λ g. IsPart whole g k (shape_text l start) (part_size whole (Some k))) (sym (left_gap_is whole k here))
      (part_by whole l start k (part_size whole (Some k)) (λ e. omega (arith, at, ap size e)) (omega (arith, above, size_above r)) left_found)

  right_part : IsPart whole (right_gap whole k) (k + 1) (shape_text r (start + size l)) (part_size whole (Some k))
  right_part =
      subst (λ g. IsPart whole g (k + 1) (shape_text r (start + size l)) (part_size whole (Some k))) (sym (right_gap_is whole k here))
      (part_by whole r (start + size l) (k + 1) (part_size whole (Some k)) (λ e. omega (arith, at)) (omega (arith, above, size_above l)) right_found)

  children_here : HasChildren whole k
  children_here = record {
    left_text = shape_text l start;
    right_text = shape_text r (start + size l);
    left = left_part;
    right = right_part;
    text = λ strand. ap (λ (s : Standing). shape_text s.tree s.start) found;
  }

pub children : (t : Outline) (k : ℕ) → IsTop t (Some k) → HasChildren t k
children t k top =
    let n = node_there t 0 k top.0 (omega (arith, top.1)) in
    subst (λ u. HasChildren u k) (sym n.is) (children_here n.around n.left n.right k n.gap)

-- the text of a node, part by part
pub node_more : (t : Outline) (k strand : ℕ) (top : IsTop t (Some k)) (old a b c d new : List ℕ) → a ≡ old ++ 40 ∷ [] → b ≡ a ++ part_text t (left_gap t k) k → c ≡ b ++ 32 ∷ []
    → d ≡ c ++ part_text t (right_gap t k) (k + 1) → new ≡ d ++ 41 ∷ [] → new ≡ old ++ part_text t (Some k) strand
node_more t k strand top old a b c d new opens left space right closes =
    let h = children t k top in
    let lt = h.left_text in
    let rt = h.right_text in
    closes ∙ ap (λ x. x ++ 41 ∷ []) (right ∙ ap (λ x. c ++ x) h.right.text) ∙ append_assoc c rt (41 ∷ [])
    ∙ ap (λ x. x ++ (rt ++ 41 ∷ [])) space ∙ append_assoc b (32 ∷ []) (rt ++ 41 ∷ [])
    ∙ ap (λ x. x ++ 32 ∷ (rt ++ 41 ∷ [])) (left ∙ ap (λ x. a ++ x) h.left.text) ∙ append_assoc a lt (32 ∷ (rt ++ 41 ∷ []))
    ∙ ap (λ x. x ++ (lt ++ 32 ∷ (rt ++ 41 ∷ []))) opens ∙ append_assoc old (40 ∷ []) (lt ++ 32 ∷ (rt ++ 41 ∷ []))
    ∙ ap (λ x. old ++ x) (sym (h.text strand))

-- the whole shape is the part at its top
pub is_top : (t : Outline) (k : ℕ) → gap_of t 0 ≡ Some k → IsTop t (Some k)
is_top Tip k e = absurd (none-some k e)
is_top (Branch l r) k e = let same = some_inj (0 + size l) k e in (omega (arith, same, size_above l), omega (arith, same, size_above r))

pub top_text : (t : Outline) (k strand : ℕ) → gap_of t 0 ≡ Some k → part_text t (Some k) strand ≡ shape_text t 0
top_text Tip k strand e = absurd (none-some k e)
top_text (Branch l r) k strand e = ap (λ (s : Standing). shape_text s.tree s.start) (node_here l r 0 k (sym (some_inj (0 + size l) k e)))

-- the line of a shape
pub shape_more : (t : Outline) (k : ℕ) (old one two new : List ℕ) → gap_of t 0 ≡ Some k → one ≡ old ++ codes "shape " → two ≡ one ++ part_text t (Some k) 1 → new ≡ two ++ 10 ∷ []
    → new ≡ old ++ spelled ((codes "shape" ∷ shape_text t 0 ∷ []) ∷ [])
shape_more t k old one two new top a b c =
    c ∙ ap (λ x. x ++ 10 ∷ []) (b ∙ ap (λ x. x ++ part_text t (Some k) 1) a ∙ append_assoc old (codes "shape ") (part_text t (Some k) 1) ∙ ap (λ x. old ++ (codes "shape " ++ x)) (top_text t k 1 top))
    ∙ append_assoc old (codes "shape " ++ shape_text t 0) (10 ∷ [])

-- What a call for a child asks for: it has fewer strands, and its gap is one of the shape.
abbrev pub IsBelow : Outline → (top child : Option ℕ) → Type 0
IsBelow t top child = (part_size t child < part_size t top) × IsTop t child

pub left_below : (t : Outline) (k : ℕ) (top child : Option ℕ) → top ≡ Some k → child ≡ left_gap t k → IsTop t top → IsBelow t top child
left_below t k top child is left inside =
    let h = (children t k (subst (IsTop t) is inside)).left in
    subst (λ o. IsBelow t o child) (sym is) (subst (IsBelow t (Some k)) (sym left) (h.less, h.inside))

pub right_below : (t : Outline) (k : ℕ) (top child : Option ℕ) → top ≡ Some k → child ≡ right_gap t k → IsTop t top → IsBelow t top child
right_below t k top child is right inside =
    let h = (children t k (subst (IsTop t) is inside)).right in
    subst (λ o. IsBelow t o child) (sym is) (subst (IsBelow t (Some k)) (sym right) (h.less, h.inside))

-- what stood there stays where the second child is refused
pub right_refused : (old a b c new left : List ℕ) → a ≡ old ++ 40 ∷ [] → b ≡ a ++ left → c ≡ b ++ 32 ∷ [] → take (length c) new ≡ c → take (length old) new ≡ old
right_refused old a b c new left opens first space kept = still_in_front old (40 ∷ []) a new opens (still_in_front a left b new first (still_in_front b (32 ∷ []) c new space kept))
