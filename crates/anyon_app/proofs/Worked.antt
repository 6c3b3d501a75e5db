-- Worked values of the lines of a run's stops, of programs, of schedules and of numbers.
use Rattle.std.specs.Prelude.{◌≡◌, ◌++◌, [], ◌∷◌, Some, Ok, Err, codes, decimal, refl}
use Rattle.word_runs.specs.declared.fault.RunStop.TheVariants.{Overflow, Branches, Wide}
use Rattle.program_text.specs.declared.fault.ProgramCause.TheVariants.{Inadmissible, Unlike}
use Rattle.site_schedule.specs.declared.fault.ScheduleFault.TheVariants.{Header, TooMany, Unfinished}
use Rattle.word_moves.specs.declared.moves.Verdict.TheVariants.{EndDiffers}
use Rattle.anyon_app.specs.declared.texts.Kind.TheVariants.{Program, SecondProgram}
use Rattle.anyon_app.specs.Refusals.{comb_start_line, number_line, program_line, schedule_line, stop_line, verdict_line}
use Rattle.anyon_app.specs.Make.{number_of}
use Rattle.anyon_app.specs.Replies.{limited, refused}

overflow_line : stop_line (Overflow 17) ≡ limited (codes "limit overflow turn " ++ (decimal 17 ++ 10 ∷ []))
overflow_line = refl

branches_line : stop_line (Branches 5 4097) ≡ limited (codes "limit branches turn " ++ ((decimal 5 ++ (codes " count " ++ decimal 4097)) ++ 10 ∷ []))
branches_line = refl

wide_line : stop_line (Wide 12 70000) ≡ limited (codes "limit wide turn " ++ ((decimal 12 ++ (codes " entries " ++ decimal 70000)) ++ 10 ∷ []))
wide_line = refl

node_line : program_line Program 2 (Inadmissible 11) ≡ refused (codes "refused program line " ++ ((decimal 2 ++ (codes " inadmissible " ++ decimal 11)) ++ 10 ∷ []))
node_line = refl

unlike_line : program_line Program 40 Unlike ≡ refused (codes "refused program line " ++ ((decimal 40 ++ codes " unlike") ++ 10 ∷ []))
unlike_line = refl

start_refused : comb_start_line ≡ refused (codes "refused comb start" ++ 10 ∷ [])
start_refused = refl

header_line : schedule_line [] (Header 3) ≡ refused (codes "refused schedule line " ++ ((decimal 3 ++ codes " header") ++ 10 ∷ []))
header_line = refl

many_line : schedule_line (codes "A" ∷ []) (TooMany 7) ≡ refused (codes "refused schedule turn " ++ ((decimal 7 ++ codes " too many") ++ 10 ∷ []))
many_line = refl

unfinished_line : schedule_line (codes "A" ∷ codes "B" ∷ []) (Unfinished 1) ≡ refused (codes "refused schedule unfinished B" ++ 10 ∷ [])
unfinished_line = refl

second_line : program_line SecondProgram 3 Unlike ≡ refused (codes "refused second program line " ++ ((decimal 3 ++ codes " unlike") ++ 10 ∷ []))
second_line = refl

end_line : verdict_line (EndDiffers 12) ≡ Some (refused (codes "refused not linked end " ++ (decimal 12 ++ 10 ∷ [])))
end_line = refl

number_refused : number_line ≡ refused (codes "refused number" ++ 10 ∷ [])
number_refused = refl

-- a plain number from 2 to 12
numbers : (number_of (codes "2") ≡ Ok 2) × (number_of (codes "12") ≡ Ok 12) × (number_of (codes "1") ≡ Err number_line) × (number_of (codes "13") ≡ Err number_line) × (number_of (codes "05") ≡ Err number_line)
numbers = (refl, refl, refl, refl, refl)
