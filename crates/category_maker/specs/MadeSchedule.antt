-- The schedule of a number.
use Rattle.std.specs.Prelude.{ℕ, zero, suc, List, [], ◌∷◌, codes}
use Rattle.line_text.specs.Spelling.{spelled}
use Rattle.category_maker.specs.declared.commands.TheConstants.{COMMANDS}

-- so many lines, each with both sites
abbrev pub turn_lines : ℕ → List (List (List ℕ))
turn_lines zero = []
turn_lines (suc rounds) = (codes "A" ∷ codes "B" ∷ []) ∷ turn_lines rounds

-- the header, and so many rounds
abbrev pub schedule_lines : ℕ → List (List (List ℕ))
schedule_lines rounds = (codes "schedule" ∷ codes "1" ∷ []) ∷ turn_lines rounds

-- a round for each command of a site
unfoldable pub made_schedule : List ℕ
made_schedule = spelled (schedule_lines COMMANDS)

-- so many rounds: a turn of `A`, then one of `B`
abbrev pub rounds_of : ℕ → List ℕ
rounds_of zero = []
rounds_of (suc rounds) = 0 ∷ 1 ∷ rounds_of rounds

-- the turns that the schedule says
unfoldable pub made_turns : List ℕ
made_turns = rounds_of COMMANDS
