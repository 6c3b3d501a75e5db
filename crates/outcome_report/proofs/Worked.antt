-- Worked values of the reports, on the labels `1` and `t` of the Fibonacci category. The expected bytes are those of a
-- program that was written apart from this one.
use Rattle.std.specs.Prelude.{◌≡◌, ℕ, ℤ, List, [], ◌∷◌, codes, pos, negsuc, refl}
use Rattle.std.specs.Fmt.{digits}
use Rattle.cyclo_core.specs.Ratio.{Ratio}
use Rattle.cyclo_text.specs.NumberWords.{spelled_number, trimmed}
use Rattle.tree_shapes.specs.Outlines.{Outline, Tip, Branch}
use Rattle.recouple.specs.States.{State}
use Rattle.outcome_report.specs.Labels.{label_names}
use Rattle.outcome_report.specs.Report.{report_of}
use Rattle.outcome_report.specs.Summary.{summary_of}
use Rattle.outcome_report.specs.TreeReport.{shape_text, tree_report_of}

abbrev names : List (List ℕ)
names = codes "1" ∷ codes "t" ∷ []

-- four parts over one, as the fifth root of unity has them
abbrev fifth : (a b c d : ℤ) → Ratio
fifth a b c d = record { numerators = a ∷ b ∷ c ∷ d ∷ pos 0 ∷ pos 0 ∷ pos 0 ∷ pos 0 ∷ pos 0 ∷ pos 0 ∷ pos 0 ∷ pos 0 ∷ pos 0 ∷ pos 0 ∷ pos 0 ∷ pos 0 ∷ []; denominator = 1 }

abbrev state : Outline → List (List ℕ × Ratio) → State Ratio
state shape amps = record { strands = 1 ∷ 1 ∷ 1 ∷ 1 ∷ []; shape = shape; amps = amps }

-- a number that is no label has no name
no_label : label_names names (1 ∷ 2 ∷ 0 ∷ []) ≡ codes "t" ∷ [] ∷ codes "1" ∷ []
no_label = refl

-- a measurement of the middle pair of ((t t):1 (t t):1):1
two_rows : report_of names (record { total = fifth (pos 2) (pos 0) (pos 1) (pos 1); rows = ((0 ∷ []), fifth (pos 5) (pos 0) (pos 3) (pos 3)) ∷ ((1 ∷ []), fifth (negsuc 2) (pos 0) (negsuc 1) (negsuc 1)) ∷ [] })
    ≡ codes "total 2,0,1,1\noutcome 1 weight 5,0,3,3\noutcome t weight -3,0,-2,-2\n"
unfolding digits spelled_number trimmed
two_rows = refl

-- no outcome at all, and none with a weight
empty_word : report_of names (record { total = fifth (pos 2) (pos 0) (pos 1) (pos 1); rows = ([], fifth (pos 2) (pos 0) (pos 1) (pos 1)) ∷ [] }) ≡ codes "total 2,0,1,1\noutcome weight 2,0,1,1\n"
unfolding digits spelled_number trimmed
empty_word = refl

no_rows : report_of names (record { total = fifth (pos 0) (pos 0) (pos 0) (pos 0); rows = [] }) ≡ codes "total 0\n"
unfolding digits spelled_number trimmed
no_rows = refl

-- a summary with two rows, and one without
summary_of_rows : summary_of 5 2048 512 (record { total = fifth (pos 2) (pos 0) (pos 1) (pos 1); rows = ((0 ∷ []), fifth (pos 5) (pos 0) (pos 3) (pos 3)) ∷ ((1 ∷ []), fifth (negsuc 2) (pos 0) (negsuc 1) (negsuc 1)) ∷ [] })
    ≡ codes "made 5\ncommands 2048\nmeasurements 512\ntotal 2,0,1,1\noutcomes 2\nweight 5,0,3,3\n"
unfolding digits spelled_number trimmed
summary_of_rows = refl

summary_of_none : summary_of 12 3 1 (record { total = fifth (pos 0) (pos 0) (pos 0) (pos 0); rows = [] }) ≡ codes "made 12\ncommands 3\nmeasurements 1\ntotal 0\noutcomes 0\nweight 0\n"
unfolding digits spelled_number trimmed
summary_of_none = refl

-- the live words of the same measurement
abbrev middle : Outline
middle = Branch Tip (Branch (Branch Tip Tip) Tip)

abbrev golden : Ratio
golden = fifth (negsuc 0) (pos 0) (negsuc 0) (negsuc 0)

two_words : tree_report_of names (state middle (((0 ∷ 0 ∷ 1 ∷ []), golden) ∷ []))
    (record { word = 0 ∷ []; state = state middle (((0 ∷ 0 ∷ 1 ∷ []), golden) ∷ []) } ∷ record { word = 1 ∷ []; state = state middle (((0 ∷ 1 ∷ 1 ∷ []), golden) ∷ []) } ∷ [])
    ≡ codes "strands t t t t\nshape (1 ((2 3) 4))\nword 1\namp 1 1 t -1,0,-1,-1\nword t\namp 1 t t -1,0,-1,-1\n"
unfolding digits spelled_number trimmed
two_words = refl

-- the start (t (t (t t):1):t):1
abbrev right_comb : State Ratio
right_comb = state (Branch Tip (Branch Tip (Branch Tip Tip))) (((0 ∷ 1 ∷ 0 ∷ []), fifth (pos 1) (pos 0) (pos 0) (pos 0)) ∷ [])

one_word : tree_report_of names right_comb (record { word = []; state = right_comb } ∷ []) ≡ codes "strands t t t t\nshape (1 (2 (3 4)))\nword\namp 1 t 1 1\n"
unfolding digits spelled_number trimmed
one_word = refl

-- two pairs, and a strand of two digits
two_pairs : shape_text (Branch (Branch Tip Tip) (Branch Tip Tip)) 7 ≡ codes "((8 9) (10 11))"
unfolding digits
two_pairs = refl
