-- The raises that make a node a pair, read off the links.
use Rattle.std.proofs.Common.{◌≡◌, ℕ, ◌+◌, ◌<◌, ◌≤◌, List, [], ◌++◌, length, refl, ap, sym, ◌∙◌, subst, arith}
use Rattle.std.proofs.lemmas.List.{length-append}
use Rattle.tree_shapes.specs.declared.limits.TheConstants.{SETTLE_LIMIT, STRAND_LIMIT}
use Rattle.tree_shapes.specs.Outlines.{Outline, Branch, size, Standing}
use Rattle.tree_shapes.specs.Contexts.{place}
use Rattle.tree_shapes.specs.Links.{Rows, Linked, AreLinks, IsChain}
use Rattle.tree_shapes.specs.Settling.{Settles, right_spine, left_spine, spines, settle_gaps}
use Rattle.tree_shapes.proofs.ContextLemmas.{size_above, place_below}
use Rattle.tree_shapes.proofs.ChainLemmas.{right_chain, left_chain, right_short, left_short}
use Rattle.tree_shapes.proofs.RaiseLinks.{linked_in}
use Rattle.tree_shapes.proofs.TurnLinks.{up_in}
use Rattle.tree_shapes.proofs.SettleLemmas.{HasNode, node_there, node_filled, settles_from}

-- What the path of raises is.
pub record Settled (t : Outline) (k : ℕ) (gaps : List ℕ) : Type 0 where
  pub value : gaps ≡ settle_gaps t k
  pub settles : Settles k t gaps
  pub few : length gaps + 2 ≤ size t

module _ (n : ℕ) (few : n ≤ STRAND_LIMIT) (rows : Rows) (t : Outline) (is : AreLinks n rows t) (k : ℕ) (some : 0 < k) (gap : k < size t) where
  abbrev node : HasNode t 0 k
  node = node_there t 0 k some (omega arith)

  abbrev start : ℕ
  start = place node.around 0

  abbrev part : Outline
  part = Branch node.left node.right

  inner : start + size part ≤ STRAND_LIMIT
  inner = omega (arith, place_below node.around part 0, ap size node.is, is.leaves)

  linked : Linked rows part start (up_in node.around part 0 0)
  linked = linked_in node.around part 0 0 rows (subst (λ u. Linked rows u 0 0) node.is is.linked)

  abbrev pub first_gaps : List ℕ
  first_gaps = right_spine node.left start

  abbrev pub last_gaps : List ℕ
  last_gaps = left_spine node.right k

  pub first_chain : IsChain rows.right (rows.left k) first_gaps
  first_chain =
      subst (λ g. IsChain rows.right g (right_spine node.left start)) (sym (ap rows.left node.gap ∙ linked.0))
      (right_chain node.left start (start + size node.left) rows (omega (arith, inner)) linked.3)

  pub last_chain : IsChain rows.left (rows.right k) last_gaps
  last_chain =
      subst (λ g. IsChain rows.left (rows.right g) (left_spine node.right g)) (sym node.gap)
      (subst (λ g. IsChain rows.left g (left_spine node.right (start + size node.left))) (sym linked.1)
      (left_chain node.right (start + size node.left) (start + size node.left) rows (omega (arith, inner)) linked.4))

  pub gaps_are : settle_gaps t k ≡ first_gaps ++ last_gaps
  gaps_are =
      ap (λ u. settle_gaps u k) node.is
      ∙ (ap (λ (s : Standing). spines s.tree s.start) (node_filled node.around node.left node.right k node.gap)
      ∙ ap (λ g. right_spine node.left start ++ left_spine node.right g) (sym node.gap))

  pub gaps_settle : Settles k t (first_gaps ++ last_gaps)
  gaps_settle = settles_from node.left node.right node.around start k t refl node.gap node.is

  pub gaps_few : length (first_gaps ++ last_gaps) + 2 ≤ size t
  gaps_few =
      omega (arith, length-append first_gaps last_gaps, right_short node.left start, left_short node.right k, place_below node.around part 0, ap size node.is)

  -- the path of raises, as it is walked
  module _ (none : List ℕ) (begun : none ≡ []) where
    pub room_first : length none + length first_gaps ≤ SETTLE_LIMIT
    room_first = omega (arith, ap length begun, right_short node.left start, size_above node.right, place_below node.around part 0, ap size node.is, is.leaves, few)

    module _ (first : List ℕ) (walked : first ≡ none ++ first_gaps) where
      first_is : first ≡ first_gaps
      first_is = walked ∙ ap (λ xs. xs ++ first_gaps) begun

      pub room_last : length first + length last_gaps ≤ SETTLE_LIMIT
      room_last = omega (arith, ap length first_is, length-append first_gaps last_gaps, gaps_few, is.leaves, few)

      pub settled : (path : List ℕ) → path ≡ first ++ last_gaps → Settled t k path
      settled path done =
          let whole : path ≡ first_gaps ++ last_gaps = done ∙ ap (λ xs. xs ++ last_gaps) first_is in
          record {
            value = whole ∙ sym gaps_are;
            settles = subst (Settles k t) (sym whole) gaps_settle;
            few = subst (λ (gaps : List ℕ). length gaps + 2 ≤ size t) (sym whole) gaps_few;
          }
