-- Moves leave the state of every word.
use Rattle.std.proofs.Common.{◌≡◌, ℕ, ◌+◌, ◌<◌, inl, inr, List, [], ◌∷◌, ◌++◌, length, Option, Some, None, refl, ap, sym, subst, ◌∙◌, arith}
use Rattle.std.specs.Prelude.{◌⊎◌}
use Rattle.symbol_table.specs.Symbols.{Symbols}
use Rattle.program_text.specs.Letters.{gap_of}
use Rattle.program_text.specs.declared.letter.Letter.{Letter}
use Rattle.program_text.specs.declared.letter.Letter.TheVariants.{Crossing, Charge, Tested, Still}
use Rattle.program_text.specs.declared.plan.Sign.{Sign}
use Rattle.program_text.specs.declared.plan.Sign.TheVariants.{Plus, Minus}
use Rattle.comb_laws.specs.Paths.{Vector}
use Rattle.comb_laws.specs.Words.{Acts, acted_by, comb_acts, on_word, operator_on, word_state}
use Rattle.comb_laws.specs.declared.operator.Operator.{Operator}
use Rattle.comb_laws.specs.declared.operator.Operator.TheVariants.{Exchange}
use Rattle.path_laws.specs.Moves.{BraidsCancel, FarOperatorsCommute, YangBaxter}
use Rattle.path_laws.specs.Moves as P
use Rattle.run_laws.specs.Combs.{IsCombVector}
use Rattle.word_moves.specs.Moves.{moved, moving, opposite}
use Rattle.word_moves.specs.declared.moves.BraidMove.{BraidMove}
use Rattle.move_laws.specs.Linked.{AreAtGaps, LinkedKeepWords, StepKeepsWords}
use Rattle.move_laws.proofs.Fronts.{HoldsOfFronts, front_holds, linked_holds, moved_holds}
use Rattle.move_laws.proofs.Counts.{gaps_apart, moves_keep_gaps}

same_opposite : (s : Sign) → P.opposite s ≡ opposite s
same_opposite Plus = refl
same_opposite Minus = refl

state_behind : {S : Type 0} (act : Acts S) (word : List ℕ) (before rest : List Letter) (s : S)
    → word_state act word (before ++ rest) s ≡ word_state act word rest (word_state act word before s)
state_behind act word [] rest s = refl
state_behind act word (l ∷ before) rest s = state_behind act word before rest (on_word act word l s)

-- raises change nothing
pub state_of_moving : {S : Type 0} (act : Acts S) (word : List ℕ) (ls : List Letter) (s : S) → word_state act word (moving ls) s ≡ word_state act word ls s
state_of_moving act word [] s = refl
state_of_moving act word (Crossing k sign ∷ ls) s = state_of_moving act word ls (on_word act word (Crossing k sign) s)
state_of_moving act word (Charge k place ∷ ls) s = state_of_moving act word ls (on_word act word (Charge k place) s)
state_of_moving act word (Tested k sign place label ∷ ls) s = state_of_moving act word ls (on_word act word (Tested k sign place label) s)
state_of_moving act word (Still k ∷ ls) s = state_of_moving act word ls s

-- What braids do to comb vectors.
pub record HasBraidLaws {E : Type 0} (c : Symbols E) : Type 0 where
  pub keeps : (n k : ℕ) (o : Operator) (s : List ℕ × Vector E) → IsCombVector c n s → IsCombVector c n (comb_acts c k o s)
  pub cancel : BraidsCancel c
  pub far : FarOperatorsCommute c
  pub yb : YangBaxter c

module _ {E : Type 0} (c : Symbols E) (has : HasBraidLaws c) where
  abbrev State : Type 0
  State = List ℕ × Vector E

  abbrev braid : ℕ → Sign → State → State
  braid k sign s = comb_acts c k (Exchange sign) s

  word_kept : (n : ℕ) (word : List ℕ) (ls : List Letter) (s : State) → IsCombVector c n s → IsCombVector c n (word_state (comb_acts c) word ls s)
  word_kept n word [] s is = is
  word_kept n word (l ∷ ls) s is = word_kept n word ls (on_word (comb_acts c) word l s) (by (operator_on word l))
    where
      by : (o : Option Operator) → IsCombVector c n (acted_by (comb_acts c) (gap_of l) o s)
      by None = is
      by (Some o) = has.keeps n (gap_of l) o s is

  undone : (n k : ℕ) (sign : Sign) (s : State) → 0 < k → k < n → IsCombVector c n s → braid k (opposite sign) (braid k sign s) ≡ s
  undone n k sign s above below is =
      (λ m. braid k (sym (same_opposite sign) m) (braid k sign s))
      ∙ has.cancel s.0 s.1 k sign above (let long : length s.0 ≡ n = is.strands in omega arith) (record { members = is.members; off = is.off })

  apart_commute : (n i j : ℕ) (first second : Sign) (s : State) → 0 < i → i < n → 0 < j → j < n → IsCombVector c n s → (i + 1 < j) ⊎ (j + 1 < i)
      → braid j second (braid i first s) ≡ braid i first (braid j second s)
  apart_commute n i j first second s i_above i_below j_above j_below is (inl up) =
      has.far s.0 s.1 i j (Exchange first) (Exchange second) i_above up (let long : length s.0 ≡ n = is.strands in omega arith)
  apart_commute n i j first second s i_above i_below j_above j_below is (inr down) =
      sym (has.far s.0 s.1 j i (Exchange second) (Exchange first) j_above down (let long : length s.0 ≡ n = is.strands in omega arith))

  begin_either : (n i j : ℕ) (sign : Sign) (s : State) → 0 < i → i < n → 0 < j → j < n → IsCombVector c n s → (j ≡ i + 1) ⊎ (i ≡ j + 1)
      → braid i sign (braid j sign (braid i sign s)) ≡ braid j sign (braid i sign (braid j sign s))
  begin_either n i j sign s i_above i_below j_above j_below is (inl up) =
      subst (λ (m : ℕ). braid i sign (braid m sign (braid i sign s)) ≡ braid m sign (braid i sign (braid m sign s))) (sym up)
      (has.yb s.0 s.1 i sign i_above (let long : length s.0 ≡ n = is.strands in omega arith))
  begin_either n i j sign s i_above i_below j_above j_below is (inr down) =
      subst (λ (m : ℕ). braid m sign (braid j sign (braid m sign s)) ≡ braid j sign (braid m sign (braid j sign s))) (sym down)
      (sym (has.yb s.0 s.1 j sign j_above (let long : length s.0 ≡ n = is.strands in omega arith)))

  -- letters and what a move makes of them have one state on a word
  abbrev SameStates : ℕ → List ℕ → List Letter → List Letter → Type 0
  SameStates n word ls ls' = (s : State) → AreAtGaps n ls → IsCombVector c n s → word_state (comb_acts c) word ls s ≡ word_state (comb_acts c) word ls' s

  fronts_same : (n : ℕ) (word : List ℕ) → HoldsOfFronts n (SameStates n word)
  fronts_same n word = record {
    cancel = λ i sign rest s at is. ap (word_state (comb_acts c) word rest) (undone n i sign s at.0.above at.0.below is);
    insert = λ k sign rest low high s at is. ap (word_state (comb_acts c) word rest) (sym (undone n k sign s low high is));
    far = λ i j first second rest apart s at is.
        ap (word_state (comb_acts c) word rest) (apart_commute n i j first second s at.0.above at.0.below at.1.0.above at.1.0.below is apart);
    yb = λ i j sign rest next s at is.
        ap (word_state (comb_acts c) word rest) (begin_either n i j sign s at.0.above at.0.below at.1.0.above at.1.0.below is next);
  }

  step_same : (n : ℕ) (move : BraidMove) (word : List ℕ) (ls ls' : List Letter) → moved n move ls ≡ Some ls' → SameStates n word ls ls'
  step_same n move word ls ls' made =
      moved_holds n (SameStates n word) move
      (λ before rest rest' front s at is.
      state_behind (comb_acts c) word before rest s
      ∙ (front_holds n (SameStates n word) (fronts_same n word) move rest rest' front (word_state (comb_acts c) word before s) (gaps_apart n before rest at).1 (word_kept n word before s is)
      ∙ sym (state_behind (comb_acts c) word before rest' s)))
      ls ls' made

  pub step_keeps_words : StepKeepsWords c
  step_keeps_words n move ls ls' word strands v made at is = step_same n move word ls ls' made (strands, v) at is

  pub linked_keep_words : LinkedKeepWords c
  linked_keep_words n ls ls' word strands v linked at is =
      linked_holds n (SameStates n word) (λ ls s at is. refl)
      (λ move ls next ls' made rest s at is. step_same n move word ls next made s at is ∙ rest s (moves_keep_gaps n move ls next made at) is)
      ls ls' linked (strands, v) at is
