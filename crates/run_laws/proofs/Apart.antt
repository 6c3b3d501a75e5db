-- Letters of different sites commute on every word, and text order is what every schedule does.
use Rattle.std.proofs.Common.{◌≡◌, ℕ, ◌+◌, ◌<◌, ◌≤◌, List, [], ◌∷◌, Option, Some, None, refl, sym, ◌∙◌, arith, inl, inr}
use Rattle.std.specs.List.{AllByRecursion}
use Rattle.run_laws.specs.Turns.{in_text, turns}
use Rattle.program_text.specs.Letters.{gap_of}
use Rattle.program_text.specs.declared.letter.Letter.{Letter}
use Rattle.comb_laws.specs.Words.{Acts, acted_by, operator_on, on_word, word_state}
use Rattle.comb_laws.specs.declared.operator.Operator.{Operator}
use Rattle.word_runs.proofs.EachLemmas.{all_append, all_map}
use Rattle.run_laws.specs.Schedules.{Range, Disjoint, IsWithin, AreApart, CommuteFar, EverySchedule}
use Rattle.run_laws.proofs.Exchanges.{under, Across, Keeps, Commutes, any_order}
use Rattle.run_laws.proofs.Counts.{takes_all}

-- the state of a word is what each letter makes of it, one after another
word_under : {S : Type 0} (act : Acts S) (word : List ℕ) (ls : List Letter) (s : S) → word_state act word ls s ≡ under (on_word act word) ls s
word_under act word [] s = refl
word_under act word (l ∷ ls) s = word_under act word ls (on_word act word l s)

module _ {S : Type 0} (n : ℕ) (act : Acts S) (Good : S → Type 0) (commute : CommuteFar n act Good) where
  both : (j k : ℕ) (a b : Option Operator) (s : S) → 0 < j → j + 1 < k → k < n → Good s
      → acted_by act j a (acted_by act k b s) ≡ acted_by act k b (acted_by act j a s)
  both j k None b s h i l g = refl
  both j k (Some a) None s h i l g = refl
  both j k (Some a) (Some b) s h i l g = sym (commute.far j k a b s h i l g)

  keeps_one : (k : ℕ) (a : Option Operator) (s : S) → 0 < k → k < n → Good s → Good (acted_by act k a s)
  keeps_one k None s h l g = g
  keeps_one k (Some a) s h l g = commute.keeps k a s h l g

  module _ (word : List ℕ) where
    keeps : (r : Range) (l : Letter) → IsWithin n r l → Keeps (on_word act word) Good l
    keeps r l h s g = keeps_one (gap_of l) (operator_on word l) s h.above h.below g

    apart : (r t : Range) (a b : Letter) → IsWithin n r a → IsWithin n t b → Disjoint r t → Commutes (on_word act word) Good a b
    apart r t a b h i (inl before) s g =
        both (gap_of a) (gap_of b) (operator_on word a) (operator_on word b) s h.above
        (let high : gap_of a < r.last = h.high in let low : t.first ≤ gap_of b = i.low in omega arith) i.below g
    apart r t a b h i (inr after) s g =
        sym (both (gap_of b) (gap_of a) (operator_on word b) (operator_on word a) s i.above
        (let high : gap_of b < t.last = i.high in let low : r.first ≤ gap_of a = h.low in omega arith) h.below g)

    all_keep : (rs : List Range) (sites : List (List Letter)) → AreApart n rs sites → AllByRecursion (Keeps (on_word act word) Good) (in_text sites)
    all_keep [] [] h = tt
    all_keep [] (ls ∷ sites) h = absurd h
    all_keep (r ∷ rs) [] h = absurd h
    all_keep (r ∷ rs) (ls ∷ sites) h =
        all_append (Keeps (on_word act word) Good) ls (in_text sites)
        (all_map (IsWithin n r) (Keeps (on_word act word) Good) ls (keeps r) h.0) (all_keep rs sites h.2)

    one_across : (r : Range) (a : Letter) (rs : List Range) (sites : List (List Letter)) → IsWithin n r a → AllByRecursion (Disjoint r) rs → AreApart n rs sites
        → AllByRecursion (Commutes (on_word act word) Good a) (in_text sites)
    one_across r a [] [] i d h = tt
    one_across r a [] (ls ∷ sites) i d h = absurd h
    one_across r a (t ∷ rs) [] i d h = absurd h
    one_across r a (t ∷ rs) (ls ∷ sites) i d h =
        all_append (Commutes (on_word act word) Good a) ls (in_text sites)
        (all_map (IsWithin n t) (Commutes (on_word act word) Good a) ls (λ b j. apart r t a b i j d.0) h.0)
        (one_across r a rs sites i d.1 h.2)

    all_across : (rs : List Range) (sites : List (List Letter)) → AreApart n rs sites → Across (Commutes (on_word act word) Good) sites
    all_across [] [] h = tt
    all_across [] (ls ∷ sites) h = absurd h
    all_across (r ∷ rs) [] h = absurd h
    all_across (r ∷ rs) (ls ∷ sites) h = (
      all_map (IsWithin n r) (λ a. AllByRecursion (Commutes (on_word act word) Good a) (in_text sites)) ls (λ a i. one_across r a rs sites i h.1 h.2) h.0,
      all_across rs sites h.2,
    )

  pub every_schedule : EverySchedule n act Good
  every_schedule rs sites schedule word s h legal g =
      word_under act word (turns sites schedule) s
      ∙ (any_order (on_word act word) Good sites schedule s (takes_all schedule sites legal) (all_keep word rs sites h) (all_across word rs sites h) g
      ∙ sym (word_under act word (in_text sites) s))
