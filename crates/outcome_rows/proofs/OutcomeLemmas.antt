-- Where an evaluation ends, its total and its rows are those of the plan.
use Rattle.std.proofs.Common.{◌≡◌, ℕ, ◌+◌, Bool, true, false, not, List, [], ◌∷◌, ◌++◌, length, Option, Some, None, append-nil, refl, ap, sym, ◌∙◌}
use Rattle.std.specs.Prelude.{if◌then◌else◌, Result, Ok}
use Rattle.ring_laws.specs.Stated.{steps_over}
use Rattle.ring_laws.proofs.StatedLemmas.{bind_some, some_inj}
use Rattle.program_text.specs.Letters.{letters, measurements}
use Rattle.word_runs.specs.Told.{Told, AreShapes}
use Rattle.word_runs.specs.Runs.{Live, ◌>>>◌, both, fitting}
use Rattle.word_runs.specs.declared.fault.RunStop.{RunStop}
use Rattle.word_runs.proofs.EachLemmas.{ok_first}
use Rattle.comb_laws.specs.Plans.{Outcomes}
use Rattle.comb_laws.specs.Words.{Acts}
use Rattle.run_laws.specs.Meaning.{IsFaithful}
use Rattle.run_laws.specs.Rows.{IsWeighing, rows_among, rows_of_plan, weighed, with_weight}
use Rattle.run_laws.proofs.EndMeaning.{text_ends}
use Rattle.run_laws.proofs.RowLemmas.{rows_in_order}
use Rattle.run_laws.proofs.TextRises.{text_rises}
use Rattle.outcome_rows.specs.Evaluated.{ends_from, row_added, row_step, rows_at, rows_from}
use Rattle.outcome_rows.specs.Outcomes.{EndsInOutcomes}

-- rows one after another
module _ {M W : Type 0} (weigh : M → Option W) (zero : W → Bool) where
  -- All live words with their weights, of which the rows are those whose weight isn't zero.
  pub record AreWeighed (live : List (Live M)) (before rows : List (List ℕ × W)) : Type 0 where
    pub all : List (List ℕ × W)
    pub fit : weighed weigh live ≡ Some all
    pub are : rows ≡ before ++ rows_among zero all

  row_placed : (word : List ℕ) (x : W) (before rest : List (List ℕ × W)) → row_added zero word x before ++ rest ≡ before ++ (if not (zero x) then (word, x) ∷ rest else rest)
  row_placed word x before rest = pick (zero x)
    where
      end : (xs : List (List ℕ × W)) → (xs ++ (word, x) ∷ []) ++ rest ≡ xs ++ (word, x) ∷ rest
      end [] = refl
      end (y ∷ xs) = ap (λ l. y ∷ l) (end xs)

      pick : (b : Bool) → (if b then before else before ++ (word, x) ∷ []) ++ rest ≡ before ++ (if not b then (word, x) ∷ rest else rest)
      pick true = refl
      pick false = end before

  pub are_weighed : (live : List (Live M)) (before rows : List (List ℕ × W)) → steps_over (row_step weigh zero) live before ≡ Some rows → AreWeighed live before rows
  are_weighed [] before rows e = record { all = []; fit = refl; are = sym (some_inj before rows e) ∙ sym (append-nil before) }
  are_weighed (l ∷ live) before rows e =
      let one = bind_some (row_step weigh zero l before) (λ (next : List (List ℕ × W)). steps_over (row_step weigh zero) live next) rows e in
      let here = bind_some (weigh l.state) (λ (x : W). Some (row_added zero l.word x before)) one.0 one.1 in
      let rest = are_weighed live one.0 rows one.2 in
      record {
        all = (l.word, here.0) ∷ rest.all;
        fit = (λ j. both (with_weight l (here.1 j)) (rest.fit j));
        are = rest.are ∙ (ap (λ ls. ls ++ rows_among zero rest.all) (sym (some_inj _ one.0 here.2)) ∙ row_placed l.word here.0 before (rows_among zero rest.all));
      }

pub fitting_some : {A : Type 0} (turn : ℕ) (o : Option A) (x : A) → fitting turn o ≡ Ok x → o ≡ Some x
fitting_some turn None x e = absurd (cc)
fitting_some turn (Some y) x e = cc

abbrev the_ok : (A F : Type 0) → A → Result A F
the_ok A F x = Ok x

ok_inj : {A F : Type 0} (x y : A) → the_ok A F x ≡ the_ok A F y → x ≡ y
ok_inj x y e = cc

module _ {M T V W : Type 0} (e : Told M T) (count : ℕ) (act : Acts V) (Good : V → Type 0) (nought : V → Bool) (Stands : M → V → Type 0) (weigh : M → Option W) (weight : V → W) (zero : W → Bool)
    (shapes : AreShapes e) (faithful : IsFaithful e count act Good nought Stands) (weighing : IsWeighing Good nought Stands weigh weight zero) where
  pub ends_in_outcomes : EndsInOutcomes e count act Good Stands weigh weight zero
  ends_in_outcomes parts commands s v ended gaps timely good stands ends =
      let sum = ok_first (fitting 0 (weigh s)) (λ (total : W). rows_from e weigh zero s commands >>> λ (rows : List (List ℕ × W)). Ok (record { total = total; rows = rows })) ended ends in
      let rest = ok_first (rows_from e weigh zero s commands) (λ (rows : List (List ℕ × W)). Ok (record { total = sum.0; rows = rows })) ended sum.2 in
      let live = ok_first (ends_from e s commands) (λ (live : List (Live M)). fitting (1 + length commands) (rows_at weigh zero live)) rest.0 rest.1 in
      let made : Outcomes W = record { total = sum.0; rows = rest.0 } in
      let is_ended : made ≡ ended = ok_inj {F = RunStop} made ended rest.2 in
      let all = are_weighed weigh zero live.0 [] rest.0 (fitting_some (1 + length commands) (rows_at weigh zero live.0) rest.0 live.2) in
      let total : sum.0 ≡ weight v = weighing.weighs s v sum.0 good stands (fitting_some 0 (weigh s) sum.0 sum.1) in
      let rows : rest.0 ≡ rows_of_plan count (measurements commands) act weight zero (letters 0 commands) v =
      all.are ∙ rows_in_order count act Good nought Stands weigh weight zero weighing (measurements commands) (letters 0 commands) v live.0 all.all
      (text_ends e shapes count act Good nought Stands faithful commands s v live.0 gaps timely good stands live.1) (text_rises e parts commands s live.0 live.1) all.fit in
      sym is_ended ∙ (λ j. record { total = total j; rows = rows j })
