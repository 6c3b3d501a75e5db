-- The live words of an engine that makes nothing zero.
use Rattle.std.proofs.Common.{◌≡◌, ℕ, Bool, List}
use Rattle.std.specs.Prelude.{IsPermutation, IsSortedByKey}
use Rattle.program_text.specs.Letters.{letters, measurements}
use Rattle.program_text.specs.declared.letter.Letter.{Letter}
use Rattle.comb_laws.specs.Words.{Acts}
use Rattle.word_runs.specs.Told.{Told, AreShapes}
use Rattle.word_runs.specs.Runs.{Live}
use Rattle.run_laws.specs.Meaning.{IsFaithful, IsExact, StandsAlive, AreEnds, words_of}
use Rattle.run_laws.specs.Rows.{word_cmp, living_words, TextWords, ScheduleWords}
use Rattle.run_laws.specs.Schedules.{CommuteFar}
use Rattle.run_laws.specs.Turns.{in_text}
use Rattle.run_laws.proofs.EndMeaning.{text_ends, schedule_ends}
use Rattle.run_laws.proofs.ExactLemmas.{exact_is_faithful}
use Rattle.run_laws.proofs.OrderLemmas.{sorted_ends, ends_in_order}

module _ {M T V : Type 0} (e : Told M T) (shapes : AreShapes e) (count : ℕ) (act : Acts V) (Good : V → Type 0) (nought : V → Bool) (Stands : M → V → Type 0)
    (faithful : IsFaithful e count act Good nought Stands) (exact : IsExact e act Good nought Stands) where
  abbrev Alive : M → V → Type 0
  Alive = StandsAlive nought Stands

  alive : IsFaithful e count act Good nought Alive
  alive = exact_is_faithful e count act Good nought Stands faithful exact

  words_in_order : (m : ℕ) (ls : List Letter) (v : V) (live sorted : List (Live M)) → AreEnds count m act Good nought Alive ls v live
      → IsPermutation live sorted → IsSortedByKey (λ l. l.word) word_cmp sorted → words_of sorted ≡ living_words count m act nought ls v
  words_in_order m ls v live sorted are moved order =
      let ends = sorted_ends count act Good nought Alive m ls v live sorted are moved order in
      ends_in_order count act Good nought Stands m ls v sorted ends.0 ends.1

  pub text_words : TextWords e count act Good nought Stands
  text_words commands s v live sorted gaps timely good stands some ends moved order =
      words_in_order (measurements commands) (letters 0 commands) v live sorted
      (text_ends e shapes count act Good nought Alive alive commands s v live gaps timely good (stands, some) ends) moved order

  pub schedule_words : CommuteFar e.strands act Good → ScheduleWords e count act Good nought Stands
  schedule_words far ranges sites schedule s v live sorted apart legal timely good stands some ends moved order =
      words_in_order (measurements (in_text sites)) (letters 0 (in_text sites)) v live sorted
      (schedule_ends e shapes count act Good nought Alive alive far ranges sites schedule s v live apart legal timely good (stands, some) ends) moved order
