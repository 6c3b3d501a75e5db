-- Worked values of outlines, their readers, rotations and settling.
use Rattle.std.specs.Prelude.{◌≡◌, ◌+◌, true, false, Some, None, [], ◌∷◌, refl}
use Rattle.tree_shapes.specs.declared.limits.TheConstants.{KEY_LIMIT, SETTLE_LIMIT, STRAND_LIMIT}
use Rattle.tree_shapes.specs.Labelled.{Strand, Joined}
use Rattle.tree_shapes.specs.Outlines.{Outline, Tip, Branch, left_gap, right_gap, parent_gap, gap_of, raise_at, outline_of, with_labels}
use Rattle.tree_shapes.specs.Settling.{is_pair_at, next_raise, Settles, settle_gaps}

strands : STRAND_LIMIT ≡ 24
strands = refl

-- a node label for each strand after the first, and a raise for each node but one
keys : ((KEY_LIMIT + 1 ≡ STRAND_LIMIT) × (SETTLE_LIMIT + 1 ≡ KEY_LIMIT))
keys = (refl, refl)

abbrev pair : Outline
pair = Branch Tip Tip

-- the left-combed tree of four strands, the right-combed one, and two pairs
abbrev comb : Outline
comb = Branch (Branch pair Tip) Tip

abbrev right_comb : Outline
right_comb = Branch Tip (Branch Tip pair)

abbrev pairs : Outline
pairs = Branch pair pair

-- a node whose children lean to it
abbrev leaning : Outline
leaning = Branch (Branch Tip pair) (Branch pair Tip)

readers : ((gap_of pairs 0 ≡ Some 2) × (left_gap pairs 2 ≡ Some 1) × (right_gap pairs 2 ≡ Some 3) × (parent_gap pairs 3 ≡ Some 2) × (parent_gap pairs 2 ≡ None) × (left_gap pairs 1 ≡ None)
    × (right_gap leaning 1 ≡ Some 2) × (left_gap leaning 5 ≡ Some 4) × (parent_gap leaning 4 ≡ Some 5))
readers = (refl, refl, refl, refl, refl, refl, refl, refl, refl)

-- each child raised over its parent
raised : ((raise_at 1 comb 0 ≡ Branch (Branch Tip pair) Tip) × (raise_at 2 comb 0 ≡ pairs) × (raise_at 3 right_comb 0 ≡ Branch Tip (Branch pair Tip))
    × (raise_at 1 pairs 0 ≡ right_comb) × (raise_at 3 pairs 0 ≡ comb))
raised = (refl, refl, refl, refl, refl)

-- at the top nothing changes
raised_top : raise_at 2 pairs 0 ≡ pairs
raised_top = refl

paired : ((is_pair_at pairs 1 ≡ true) × (is_pair_at pairs 2 ≡ false) × (is_pair_at comb 2 ≡ false) × (next_raise pairs 2 ≡ Some 1) × (next_raise comb 1 ≡ None))
paired = (refl, refl, refl, refl, refl)

-- the left child first, and what comes up in its place; then the right child
settling : ((settle_gaps pairs 2 ≡ 1 ∷ 3 ∷ []) × (settle_gaps pairs 1 ≡ []) × (settle_gaps comb 3 ≡ 2 ∷ []) × (settle_gaps right_comb 1 ≡ 2 ∷ [])
    × (settle_gaps leaning 3 ≡ 1 ∷ 2 ∷ 5 ∷ 4 ∷ []))
settling = (refl, refl, refl, refl, refl)

settled : Settles 3 leaning (1 ∷ 2 ∷ 5 ∷ 4 ∷ [])
settled = (refl, (refl, (refl, (refl, refl))))

-- labels by strand and by gap
labels : with_labels pairs (1 ∷ 2 ∷ 3 ∷ 4 ∷ []) (5 ∷ 6 ∷ 7 ∷ []) ≡ Joined (Joined (Strand 1) (Strand 2) 5) (Joined (Strand 3) (Strand 4) 7) 6
labels = refl

outline : outline_of (Joined (Strand 1) (Joined (Strand 2) (Strand 3) 5) 6) ≡ Branch Tip pair
outline = refl
