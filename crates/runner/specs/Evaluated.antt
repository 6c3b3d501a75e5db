-- Runs of programs on trees under a schedule, evaluated.
use Rattle.std.specs.Prelude.{ℕ, List, [], ◌∷◌, Result, Ok}
use Rattle.ring_laws.specs.Ring.{Ring}
use Rattle.symbol_table.specs.Symbols.{Symbols}
use Rattle.tree_shapes.specs.Labelled.{Labelled, leaves, node_labels, size}
use Rattle.tree_shapes.specs.Outlines.{outline_of}
use Rattle.program_text.specs.Letters.{measurements}
use Rattle.program_text.specs.Program.{Program}
use Rattle.program_text.specs.WellFormed.{commands_in}
use Rattle.word_runs.specs.Runs.{Live, ◌>>>◌, run_of, start_word}
use Rattle.word_runs.specs.declared.fault.RunStop.{RunStop}
use Rattle.run_laws.specs.Turns.{turns}
use Rattle.site_schedule.specs.Legal.{letters_in}
use Rattle.outcome_rows.specs.Ends.{weighed_ends}
use Rattle.outcome_rows.specs.WordOrder.{in_word_order}
use Rattle.recouple.specs.States.{State}
use Rattle.charge_project.specs.Weights.{stated_weight}
use Rattle.runner.specs.Trees.{tree_told}

-- the state of a tree: the amplitude one at its own labels
abbrev pub own_state : {E : Type 0} → Ring E → Labelled → State E
own_state r tree = record { strands = leaves tree; shape = outline_of tree; amps = (node_labels tree, r.one) ∷ [] }

-- the live words at the end of a program's turns, in the order in which they are made, or the first stop: each is a turn from
-- 1 on
abbrev pub made_ends : {E : Type 0} → Symbols E → Program → List ℕ → Result (List (Live (State E))) RunStop
made_ends c p schedule =
    run_of (tree_told c (size p.start)) 1 (turns (letters_in p) schedule) (start_word (measurements (commands_in p.sites)) (own_state c.ring p.start))

-- The live words at the end of a program under a schedule, in the order of lists of labels, or the first stop.
abbrev pub scheduled_ends : {E : Type 0} → Symbols E → Program → List ℕ → Result (List (Live (State E))) RunStop
scheduled_ends c p schedule = made_ends c p schedule >>> λ ends. Ok (in_word_order c.count (measurements (commands_in p.sites)) ends)

-- The live words at the end of a program under a schedule, with weights that fit, or the first stop: turn 0 evaluates the
-- weight of the start, each command is a turn, and the turn behind the last one evaluates the weights of the live words. In
-- which order these stand doesn't matter.
abbrev pub scheduled_weights : {E : Type 0} → Symbols E → Program → List ℕ → Result (List (Live (State E))) RunStop
scheduled_weights c p schedule =
    weighed_ends (tree_told c (size p.start)) (stated_weight c) (measurements (commands_in p.sites)) (turns (letters_in p) schedule) (own_state c.ring p.start)
