-- What recoupling, exchange and split make of what states stand for, and what states weigh.
use Rattle.std.specs.Prelude.{◌≡◌, ℕ, ◌+◌, ◌-◌, ◌<◌, ◌≤◌, ◌==◌, List}
use Rattle.symbol_table.specs.AllLabels.{mark}
use Rattle.symbol_table.specs.Symbols.{Symbols}
use Rattle.tree_shapes.specs.Contexts.{Around, fill, place, on_left, on_right}
use Rattle.tree_shapes.specs.Outlines.{Outline, Tip, Branch, size}
use Rattle.tree_laws.specs.Entries.{AreKeys, comb_of, values}
use Rattle.tree_laws.specs.Operators.{swapped, braided, projected}
use Rattle.tree_laws.specs.Recoupling.{raised_left, raised_right}
use Rattle.tree_laws.specs.Trees.{stands_for}
use Rattle.tree_laws.specs.Weights.{state_weight, weight}

-- the labels at the gaps 1 to n are below the count
abbrev pub AreLow : ℕ → ℕ → (ℕ → ℕ) → Type 0
AreLow count n key = (g : ℕ) → 0 < g → g ≤ n → key g < count

-- Where a node is the left child of its parent, at any depth: if new amplitudes are those of the raise, they stand for
-- what the old ones stood for.
abbrev pub RaisingLeftKeeps : {E : Type 0} → Symbols E → Type 0
RaisingLeftKeeps {E} c =
    (a : Around) (A B C : Outline) (strand x : ℕ → ℕ) (old new : List (List ℕ × E))
    → AreKeys c.count (size (fill a (on_left A B C)) - 1) old → AreKeys c.count (size (fill a (on_right A B C)) - 1) new
    → ((key : ℕ → ℕ) → AreLow c.count (size (fill a (on_right A B C)) - 1) key
    → values c.ring (size (fill a (on_right A B C)) - 1) new key
    ≡ raised_left c A B C (place a 0) strand (values c.ring (size (fill a (on_left A B C)) - 1) old) key)
    → comb_of c (fill a (on_right A B C)) strand new x ≡ comb_of c (fill a (on_left A B C)) strand old x

-- the same of a right child
abbrev pub RaisingRightKeeps : {E : Type 0} → Symbols E → Type 0
RaisingRightKeeps {E} c =
    (a : Around) (A B C : Outline) (strand x : ℕ → ℕ) (old new : List (List ℕ × E))
    → AreKeys c.count (size (fill a (on_right A B C)) - 1) old → AreKeys c.count (size (fill a (on_left A B C)) - 1) new
    → ((key : ℕ → ℕ) → AreLow c.count (size (fill a (on_left A B C)) - 1) key
    → values c.ring (size (fill a (on_left A B C)) - 1) new key
    ≡ raised_right c A B C (place a 0) strand (values c.ring (size (fill a (on_right A B C)) - 1) old) key)
    → comb_of c (fill a (on_left A B C)) strand new x ≡ comb_of c (fill a (on_right A B C)) strand old x

-- a node over two strands
abbrev pub pair : Outline
pair = Branch Tip Tip

-- At a pair, at any depth: each amplitude times the exchange of its label, on the strands swapped, stands for the comb
-- braid of what the amplitudes stood for.
abbrev pub ExchangesAtPair : {E : Type 0} → Symbols E → (ℕ → ℕ → ℕ → E) → Type 0
ExchangesAtPair {E} c exchange =
    (a : Around) (strand x : ℕ → ℕ) (value : (ℕ → ℕ) → E)
    → stands_for c (fill a pair) (swapped (place a 0) strand) (λ key. c.ring.product (exchange (strand (place a 0)) (strand (place a 0 + 1)) (key (place a 0 + 1))) (value key)) x
    ≡ braided c exchange strand (place a 0) (stands_for c (fill a pair) strand value) x

-- At a pair: the amplitudes with one label there stand for the comb projection on it.
abbrev pub SplitsAtPair : {E : Type 0} → Symbols E → Type 0
SplitsAtPair {E} c =
    (a : Around) (strand x : ℕ → ℕ) (value : (ℕ → ℕ) → E) (charge : ℕ)
    → stands_for c (fill a pair) strand (λ key. c.ring.product (mark c (key (place a 0 + 1) == charge)) (value key)) x
    ≡ projected c strand (place a 0) charge (stands_for c (fill a pair) strand value) x

-- The weight of a state is the weight of the vector that it stands for, where the amplitudes are told by the labels at
-- the gaps of the tree.
abbrev pub WeighsAsComb : {E : Type 0} → Symbols E → Type 0
WeighsAsComb {E} c =
    (t : Outline) (strand : ℕ → ℕ) (value : (ℕ → ℕ) → E) → strand 0 < c.count
    → ((a b : ℕ → ℕ) → ((g : ℕ) → 0 < g → g ≤ size t - 1 → a g ≡ b g) → value a ≡ value b)
    → weight c (size t) strand (stands_for c t strand value) ≡ state_weight c t strand value
