-- The ends of letters, sorted and weighed.
use Rattle.std.proofs.Common.{◌≡◌, ℕ, ◌+◌, ◌<◌, Bool, true, false, List, [], ◌∷◌, length, Option, Some, None, refl, ap, sym, ◌∙◌, arith}
use Rattle.std.specs.Prelude.{if◌then◌else◌, ◌&&◌, is_ok, is_some, IfOk, IsOk, IsPermutation, Result, Ok, Err}
use Rattle.std.specs.Cmp.{both_ways}
use Rattle.std.proofs.lemmas.List.Sorted.{All-permutation, IsPermutation-sym, length_permutation}
use Rattle.std.proofs.lemmas.List.Sums.{AllPass-from_list_all, list_all-from_AllPass}
use Rattle.ring_laws.specs.Stated.{◌>>=◌, steps_over}
use Rattle.program_text.specs.declared.letter.Letter.{Letter}
use Rattle.word_runs.specs.Told.{Told}
use Rattle.word_runs.specs.Runs.{Live, ◌>>>◌, Runs, Stops, fitting, run_of, start_word}
use Rattle.word_runs.specs.declared.fault.RunFault.{RunFault}
use Rattle.word_runs.specs.declared.fault.RunFault.TheVariants.{Stop, Memory}
use Rattle.word_runs.specs.declared.fault.RunStop.{RunStop}
use Rattle.word_runs.specs.declared.fault.RunStop.TheVariants.{Overflow}
use Rattle.outcome_rows.specs.Ends.{AreRowsOf, RunsSorted, all_fit, letter_ends, weights_turn}
use Rattle.outcome_rows.specs.Evaluated.{row_added, row_step, rows_at}
use Rattle.outcome_rows.specs.WordOrder.{AreSorted, in_word_order}
use Rattle.outcome_rows.proofs.OutcomeLemmas.{are_weighed, fitting_some}
use Rattle.outcome_rows.proofs.RowLemmas.{stops_through}

module _ {M W : Type 0} (weigh : M → Option W) (zero : W → Bool) where
  -- where there are rows, each weight fits
  rows_fit : (live : List (Live M)) (before rows : List (List ℕ × W)) → steps_over (row_step weigh zero) live before ≡ Some rows → all_fit weigh live ≡ true
  rows_fit [] before rows e = refl
  rows_fit (l ∷ live) before rows e = by (weigh l.state) e (λ next h. rows_fit live next rows h)
    where
      by : (o : Option W) → ((o >>= λ (x : W). Some (row_added zero l.word x before)) >>= λ (next : List (List ℕ × W)). steps_over (row_step weigh zero) live next) ≡ Some rows
          → ((next : List (List ℕ × W)) → steps_over (row_step weigh zero) live next ≡ Some rows → all_fit weigh live ≡ true) → (is_some o && all_fit weigh live) ≡ true
      by None h rest = absurd (cc)
      by (Some x) h rest = rest (row_added zero l.word x before) h

  -- and where there are none, one doesn't
  none_fit : (live : List (Live M)) (before : List (List ℕ × W)) → steps_over (row_step weigh zero) live before ≡ None → all_fit weigh live ≡ false
  none_fit [] before e = absurd (cc)
  none_fit (l ∷ live) before e = by (weigh l.state) e (none_fit live)
    where
      by : (o : Option W) → ((o >>= λ (x : W). Some (row_added zero l.word x before)) >>= λ (next : List (List ℕ × W)). steps_over (row_step weigh zero) live next) ≡ None
          → ((next : List (List ℕ × W)) → steps_over (row_step weigh zero) live next ≡ None → all_fit weigh live ≡ false) → (is_some o && all_fit weigh live) ≡ false
      by None h rest = refl
      by (Some x) h rest = rest (row_added zero l.word x before) h

  -- the order of live words doesn't count
  fit_permuted : (live sorted : List (Live M)) → IsPermutation live sorted → all_fit weigh live ≡ all_fit weigh sorted
  fit_permuted live sorted p =
      let fits = λ (l : Live M). is_some (weigh l.state) in
      both_ways (all_fit weigh live) (all_fit weigh sorted)
      (λ h. list_all-from_AllPass fits sorted (All-permutation (λ l. fits l ≡ true) live sorted p (AllPass-from_list_all fits live h)))
      (λ h. list_all-from_AllPass fits live (All-permutation (λ l. fits l ≡ true) sorted live (IsPermutation-sym live sorted p) (AllPass-from_list_all fits sorted h)))

  module _ {T : Type 0} (e : Told M T) (m : ℕ) (ls : List Letter) (s : M) (live sorted : List (Live M)) (ends : run_of e 1 ls (start_word m s) ≡ Ok live) (are : AreSorted live sorted) where
    ends_by : (fit : Bool) → all_fit weigh sorted ≡ fit → letter_ends e weigh m ls s ≡ (if fit then Ok live else Err (Overflow (1 + length ls)))
    ends_by fit h =
        ap (λ (r : Result (List (Live M)) RunStop). r >>> weights_turn (1 + length ls) weigh) ends
        ∙ ap (λ (b : Bool). if b then Ok live else Err (Overflow (1 + length ls))) (fit_permuted live sorted are.permutation ∙ h)

    -- rows of the sorted live words are those of the letters
    pub ends_rows : (rows : List (List ℕ × W)) → fitting (1 + length ls) (rows_at weigh zero sorted) ≡ Ok rows → AreRowsOf e weigh zero m ls s rows
    ends_rows rows h =
        let all = are_weighed weigh zero sorted [] rows (fitting_some (1 + length ls) (rows_at weigh zero sorted) rows h) in
        record {
          live = live;
          ends = ends;
          rows = record { sorted = sorted; permutation = are.permutation; order = are.order; all = all.all; fit = all.fit; are = all.are };
        }

    pub ends_ok : (rows : List (List ℕ × W)) → fitting (1 + length ls) (rows_at weigh zero sorted) ≡ Ok rows → IsOk (letter_ends e weigh m ls s)
    ends_ok rows h = ap is_ok (ends_by true (rows_fit sorted [] rows (fitting_some (1 + length ls) (rows_at weigh zero sorted) rows h)))

    -- and they stop where these do
    pub ends_stop : (fault : RunFault) → Stops fault (fitting (1 + length ls) (rows_at weigh zero sorted)) → Stops fault (letter_ends e weigh m ls s)
    ends_stop Memory h = tt
    ends_stop (Stop stop) h = by (rows_at weigh zero sorted) refl h
      where
        by : (o : Option (List (List ℕ × W))) → rows_at weigh zero sorted ≡ o → fitting (1 + length ls) o ≡ Err stop → letter_ends e weigh m ls s ≡ Err stop
        by None is stops = ends_by false (none_fit sorted [] is) ∙ cc
        by (Some rows) is stops = absurd (cc)

-- what ends in sorted live words ends in those in word order, where these are the same
pub ends_ordered : {V M : Type 0} (view : V → List (Live M)) (r : Result V RunFault) (stated : Result (List (Live M)) RunStop) (count m : ℕ) → RunsSorted view r stated
    → ((live sorted : List (Live M)) → stated ≡ Ok live → AreSorted live sorted → sorted ≡ in_word_order count m live)
    → Runs view r (stated >>> λ ends. Ok (in_word_order count m ends))
ends_ordered {V} {M} view (Ok value) stated count m is same =
    ap (λ (x : Result (List (Live M)) RunStop). x >>> λ ends. Ok (in_word_order count m ends)) is.1 ∙ (λ j. Ok (sym (same is.0 (view value) is.1 is.2) j))
ends_ordered {V} {M} view (Err fault) stated count m is same = stops_through fault stated (λ (ends : List (Live M)). Ok (in_word_order count m ends)) is

-- and there are as many as are stated
pub ends_some : {V M : Type 0} (view : V → List (Live M)) (r : Result V RunFault) (stated : Result (List (Live M)) RunStop) → RunsSorted view r stated
    → ((live : List (Live M)) → stated ≡ Ok live → 0 < length live) → IfOk r (λ v. 0 < length (view v))
ends_some view (Ok value) stated is some =
    let same : length (view value) ≡ length is.0 = length_permutation is.0 (view value) is.2.permutation in
    let low : 0 < length is.0 = some is.0 is.1 in
    omega arith
ends_some view (Err fault) stated is some = tt
