-- What holds of sorted live words holds of what a call answers.
use Rattle.std.proofs.Common.{◌≡◌, List, Result, Ok, Err}
use Rattle.std.specs.Prelude.{IfOk}
use Rattle.word_runs.specs.Runs.{Live}
use Rattle.word_runs.specs.declared.fault.RunFault.{RunFault}
use Rattle.word_runs.specs.declared.fault.RunStop.{RunStop}
use Rattle.outcome_rows.specs.Ends.{RunsSorted}
use Rattle.outcome_rows.specs.WordOrder.{AreSorted}

pub ends_mean : {V M : Type 0} (view : V → List (Live M)) (r : Result V RunFault) (stated : Result (List (Live M)) RunStop) (P : List (Live M) → Type 0) → RunsSorted view r stated
    → ((live sorted : List (Live M)) → stated ≡ Ok live → AreSorted live sorted → P sorted) → IfOk r (λ v. P (view v))
ends_mean view (Ok value) stated P is holds = holds is.0 (view value) is.1 is.2
ends_mean view (Err fault) stated P is holds = tt
