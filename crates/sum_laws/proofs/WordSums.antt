-- The words of outcomes share the weight of a vector: the labels of a word are fixed one after another, in the order in which
-- its outcomes are measured, and those that aren't fixed yet are summed over.
use Rattle.std.proofs.Common.{◌≡◌, ℕ, ◌+◌, ◌<◌, Bool, true, false, inl, inr, List, [], ◌∷◌, ◌++◌, length, Some, None, refl, ap, sym, subst, ◌∙◌, arith, append_assoc, length-append}
use Rattle.std.specs.Prelude.{◌==◌, ◌||◌, IsTrue, if◌then◌else◌, slice_index}
use Rattle.std.proofs.Math.ListN.{get_or-append}
use Rattle.std.proofs.Math.Seq.{get_or-append_seam}
use Rattle.std.proofs.lemmas.Bool.Decides.{eqb_tells}
use Rattle.ring_laws.specs.Ring.{RingLaws}
use Rattle.ring_laws.specs.Sums.{sum_over}
use Rattle.ring_laws.proofs.SumLemmas as S
use Rattle.symbol_table.specs.Symbols.{Symbols}
use Rattle.tree_shapes.specs.Labelled.{leaves, size}
use Rattle.program_text.specs.Letters.{letters, measurements}
use Rattle.program_text.specs.WellFormed.{commands_in}
use Rattle.program_text.specs.declared.letter.Letter.{Letter}
use Rattle.program_text.specs.declared.letter.Letter.TheVariants.{Charge}
use Rattle.program_text.specs.declared.plan.Command.{Command}
use Rattle.program_text.specs.declared.plan.Command.TheVariants.{Braid, Raise, Measure, BraidWhen}
use Rattle.program_text.specs.declared.plan.Sign.{Sign}
use Rattle.comb_laws.specs.Amplitudes.{start_vector}
use Rattle.comb_laws.specs.Paths.{Vector, paths}
use Rattle.comb_laws.specs.Plans.{word_weight, words}
use Rattle.comb_laws.specs.Words.{acted_by, comb_acts, word_state}
use Rattle.comb_laws.specs.declared.operator.Operator.TheVariants.{Exchange, Project}
use Rattle.comb_laws.proofs.PathFacts.{and_true}
use Rattle.comb_laws.proofs.StartLemmas.{length-leaves}
use Rattle.path_laws.specs.Weights.{BraidsKeepWeight, ChargesShareWeight}
use Rattle.path_laws.proofs.ActLemmas.{length-swapped}
use Rattle.run_laws.specs.Combs.{comb_weight}
use Rattle.run_laws.specs.Programs.{ProgramsMayRun}
use Rattle.run_laws.specs.Timely.{is_known, is_timely}
use Rattle.move_laws.specs.Linked.{AreAtGaps}
use Rattle.move_laws.proofs.Counts.{sites_at_gaps}
use Rattle.sum_laws.specs.RowSums.{ProgramsSumToTotal, RowsShareWeight, WordsShareWeight}
use Rattle.sum_laws.proofs.ListSums.{kept_sum, words_by_first}

-- the label right behind those that are fixed
label_behind : (front word : List ℕ) (q p : ℕ) → length front ≡ p → slice_index (front ++ q ∷ word) p ≡ q
label_behind front word q p long = ap (slice_index (front ++ q ∷ word)) (sym long) ∙ get_or-append_seam front q word 0

-- places that are measured are below the next one
known_below : (p r : ℕ) (known : List ℕ) → ((q : ℕ) → is_known known q ≡ true → q < p) → is_known (p ∷ known) r ≡ true → r < p + 1
known_below p r known below h = elim (eqb_tells p r) [
  | inl same ↦ (let e : p ≡ r = same.1 in omega arith)
  | inr other ↦ (let low : r < p = below r (ap (λ b. b || is_known known r) (sym other.0) ∙ h) in omega arith)
]

module _ {E : Type 0} (c : Symbols E) (laws : RingLaws c.ring c.held) where
  abbrev State : Type 0
  State = List ℕ × Vector E

  weight_is : (s : State) → IsTrue (c.ring.member (comb_weight c s))
  weight_is s = S.sum_over_is laws _ (paths c s.0)

  -- an exchange at a gap, where a test passes
  abbrev tested : ℕ → Sign → Bool → State → State
  tested k sign b s = acted_by (comb_acts c) k (if b then Some (Exchange sign) else None) s

  tested_long : (k : ℕ) (sign : Sign) (b : Bool) (s : State) → length (tested k sign b s).0 ≡ length s.0
  tested_long k sign true s = length-swapped s.0 k
  tested_long k sign false s = refl

  -- the sum over the words whose first labels are these
  abbrev sum_behind : List ℕ → ℕ → List Letter → State → E
  sum_behind front m ls s = sum_over c.ring (λ word. comb_weight c (word_state (comb_acts c) (front ++ word) ls s)) (words c.count m)

  module _ (keep : BraidsKeepWeight c) (share : ChargesShareWeight c) where
    tested_keeps : (k : ℕ) (sign : Sign) (b : Bool) (s : State) → 0 < k → k < length s.0 → comb_weight c (tested k sign b s) ≡ comb_weight c s
    tested_keeps k sign true s above below = keep s.0 s.1 sign k above below
    tested_keeps k sign false s above below = refl

    -- Where the labels of all places below p are fixed, the words behind them share the weight.
    words_behind : (cs : List Command) (p n : ℕ) (known front : List ℕ) (s : State)
        → length front ≡ p → length s.0 ≡ n → ((q : ℕ) → is_known known q ≡ true → q < p)
        → AreAtGaps n (letters p cs) → is_timely known (letters p cs) ≡ true
        → sum_behind front (measurements cs) (letters p cs) s ≡ comb_weight c s
    words_behind [] p n known front s long strands below at timely = laws.sum-zero (comb_weight c s) (weight_is s)
    words_behind (Braid k sign ∷ cs) p n known front s long strands below at timely =
        words_behind cs (p + 0) n known front (comb_acts c k (Exchange sign) s)
        (omega (arith, long)) (length-swapped s.0 k ∙ strands) (λ q h. let low = below q h in omega (arith, low)) at.1 timely
        ∙ keep s.0 s.1 sign k at.0.above (let high = at.0.below in omega (arith, high, strands))
    words_behind (Raise k ∷ cs) p n known front s long strands below at timely =
        words_behind cs (p + 0) n known front s (omega (arith, long)) strands (λ q h. let low = below q h in omega (arith, low)) at.1 timely
    words_behind (BraidWhen k sign place label ∷ cs) p n known front s long strands below at timely =
        let parts = and_true (is_known known place) (is_timely known (letters (p + 0) cs)) timely in
        let early : place < p = below place parts.0 in
        let low : place < length front = omega (arith, early, long) in
        let passed : Bool = slice_index front place == label in
        (λ j. sum_over c.ring
        (λ word. comb_weight c (word_state (comb_acts c) (front ++ word) (letters (p + 0) cs) (tested k sign (get_or-append front word 0 place low j == label) s)))
        (words c.count (measurements cs)))
        ∙ (words_behind cs (p + 0) n known front (tested k sign passed s)
        (omega (arith, long)) (tested_long k sign passed s ∙ strands) (λ q h. let lower = below q h in omega (arith, lower)) at.1 parts.1
        ∙ tested_keeps k sign passed s at.0.above (let high = at.0.below in omega (arith, high, strands)))
    words_behind (Measure k ∷ cs) p n known front s long strands below at timely =
        words_by_first laws (λ word. comb_weight c (word_state (comb_acts c) (front ++ word) (Charge k p ∷ letters (p + 1) cs) s)) c.count (measurements cs)
        ∙ (S.total_same laws c.count _ _ (λ q _.
        (λ j. sum_over c.ring
        (λ word. comb_weight c (word_state (comb_acts c) (sym (append_assoc front (q ∷ []) word) j) (letters (p + 1) cs) (comb_acts c k (Project (label_behind front word q p long j)) s)))
        (words c.count (measurements cs)))
        ∙ words_behind cs (p + 1) n (p ∷ known) (front ++ q ∷ []) (comb_acts c k (Project q) s)
        (let more : length (front ++ q ∷ []) ≡ length front + 1 = length-append front (q ∷ []) in omega (arith, more, long)) strands (λ r h. known_below p r known below h) at.1 timely)
        ∙ share s.0 s.1 k at.0.above (let high = at.0.below in omega (arith, high, strands)))

    pub words_share_weight : WordsShareWeight c
    words_share_weight strands v commands plan =
        words_behind commands 0 (length strands) [] [] (strands, v) refl refl (λ q h. absurd (cc)) plan.gaps plan.timely

    pub rows_share_weight : RowsShareWeight c
    rows_share_weight strands v commands plan =
        kept_sum laws (word_weight c strands v (letters 0 commands)) (λ word. weight_is (word_state (comb_acts c) word (letters 0 commands) (strands, v)))
        (words c.count (measurements commands))
        ∙ words_share_weight strands v commands plan

    pub programs_sum_to_total : ProgramsMayRun → ProgramsSumToTotal c
    programs_sum_to_total run p is =
        rows_share_weight (leaves p.start) (start_vector c p.start) (commands_in p.sites) (record {
          gaps = subst (λ n. AreAtGaps n (letters 0 (commands_in p.sites))) (sym (length-leaves p.start)) (sites_at_gaps (size p.start) p.sites is.sites);
          timely = (let may = run c.fuse c.count p is in ap (λ cs. is_timely [] (letters 0 cs)) (sym may.text) ∙ may.timely);
        })
