-- Worked values: entries, steps, paths, and runs under schedules, on the Fibonacci category and on symbols with numbers of their own at some
-- indices and one elsewhere. The expected values were worked out by hand.
use Rattle.std.specs.Prelude.{◌&&◌, not, pos, negsuc, Ok, Err, ◌≡◌, ◌+ℤ◌, ℕ, true, false, List, [], ◌∷◌, Some, None, Result, codes, nat_abs, nat_lt, refl}
use Rattle.symbol_table.proofs.Fib.{fib_given, num, Whole5, fib, held5, inverse_golden, numbered, ring5, whole}
use Rattle.symbol_table.specs.Symbols.{Symbols, symbols_of}
use Rattle.tree_shapes.specs.Labelled.{Labelled, Joined, size}
use Rattle.tree_shapes.specs.Outlines.{Outline, Tip, Branch}
use Rattle.word_runs.specs.Told.{Told}
use Rattle.word_runs.specs.declared.engine.Step.TheVariants.{Raise, Exchange}
use Rattle.word_runs.specs.Runs.{Live, ◌>>>◌}
use Rattle.word_runs.specs.declared.fault.RunStop.{RunStop}
use Rattle.word_runs.specs.declared.fault.RunStop.TheVariants.{Overflow}
use Rattle.program_text.specs.Program.{Program, ProgramSite}
use Rattle.program_text.specs.declared.plan.Command.{Command}
use Rattle.program_text.specs.declared.plan.Command.TheVariants.{Braid, Measure, Raise as Raised}
use Rattle.program_text.specs.declared.plan.Sign.TheVariants.{Plus}
use Rattle.comb_laws.specs.Plans.{Outcomes}
use Rattle.comb_laws.proofs.Fib.{short, spread, t}
use Rattle.run_laws.specs.Meaning.{words_of}
use Rattle.outcome_rows.specs.Evaluated.{evaluation_of, rows_at}
use Rattle.amp_store.specs.Amplitudes.{amplitude_of}
use Rattle.recouple.specs.States.{State}
use Rattle.charge_project.specs.Weights.{stated_weight}
use Rattle.runner.specs.Evaluated.{made_ends, own_state, scheduled_ends, scheduled_weights}
use Rattle.runner.specs.Trees.{entries_of, raise_fits, stepped_at, tree_told}

abbrev two_left : Outline
two_left = Branch (Branch Tip Tip) Tip

abbrev two_right : Outline
two_right = Branch Tip (Branch Tip Tip)

-- of four keys of two labels two have a number that isn't zero; they come in the order of keys
two_entries : entries_of fib 3 (amplitude_of ring5 (((1 ∷ 0 ∷ []), whole 5) ∷ ((0 ∷ 1 ∷ []), whole 3) ∷ ((1 ∷ 1 ∷ []), whole 0) ∷ []))
    ≡ ((0 ∷ 1 ∷ []), whole 3) ∷ ((1 ∷ 0 ∷ []), whole 5) ∷ []
two_entries = refl

-- a key of two labels is none of four strands, and a label from the count on is none
no_entries : ((entries_of fib 4 (amplitude_of ring5 (((1 ∷ 0 ∷ []), whole 5) ∷ [])) ≡ []) × (entries_of fib 3 (amplitude_of ring5 (((1 ∷ 2 ∷ []), whole 5) ∷ [])) ≡ []))
no_entries = (refl, refl)

abbrev fib_state : Outline → List (List ℕ × Whole5) → State Whole5
fib_state shape amps = record { strands = 1 ∷ 1 ∷ 1 ∷ []; shape = shape; amps = amps }

-- H(t,t,t,t;1,x) is 1/phi for both labels x, and F takes it back: the other amplitude, 1/phi^2 - 1/phi^2, is zero and no
-- entry
to_two : stepped_at fib (Raise 2) (fib_state two_right (((1 ∷ 0 ∷ []), whole 1) ∷ [])) ≡ Some (fib_state two_left (((0 ∷ 1 ∷ []), inverse_golden) ∷ ((1 ∷ 1 ∷ []), inverse_golden) ∷ []))
to_two = refl

cancelled : stepped_at fib (Raise 1) (fib_state two_left (((0 ∷ 1 ∷ []), inverse_golden) ∷ ((1 ∷ 1 ∷ []), inverse_golden) ∷ [])) ≡ Some (fib_state two_right (((1 ∷ 0 ∷ []), whole 1) ∷ []))
cancelled = refl

-- at the top nothing changes
top_stays : stepped_at fib (Raise 2) (fib_state two_left (((0 ∷ 1 ∷ []), whole 2) ∷ [])) ≡ Some (fib_state two_left (((0 ∷ 1 ∷ []), whole 2) ∷ []))
top_stays = refl

-- three keys that differ at the node's label: F(1,2,0,1;t,2) is 2, 3 and 1, and F is 1 elsewhere
abbrev on_left : State Whole5
on_left = record {
  strands = 1 ∷ 2 ∷ 0 ∷ [];
  shape = two_left;
  amps = ((0 ∷ 1 ∷ []), whole 12) ∷ ((1 ∷ 1 ∷ []), whole 16) ∷ ((2 ∷ 1 ∷ []), whole 18) ∷ [];
}

raised : stepped_at (symbols_of ring5 held5 numbered) (Raise 1) on_left
    ≡ Some (record { strands = 1 ∷ 2 ∷ 0 ∷ []; shape = two_right; amps = ((1 ∷ 0 ∷ []), whole 46) ∷ ((1 ∷ 1 ∷ []), whole 46) ∷ ((1 ∷ 2 ∷ []), whole 90) ∷ [] })
raised = refl

-- a ring whose sums have to stay below a bound: of the sums up to 90 one doesn't fit below 80, and all do below 91
abbrev tight : ℕ → Symbols Whole5
tight bound = symbols_of (record ring5 { sum_fits = λ x y. nat_lt (nat_abs (x.c0 +ℤ y.c0)) bound }) held5 numbered

stops : ((raise_fits (tight 90) 1 on_left ≡ false) × (stepped_at (tight 90) (Raise 1) on_left ≡ None) × (raise_fits (tight 91) 1 on_left ≡ true))
stops = (refl, refl, refl)

-- a ring in which no product fits
abbrev without_products : Symbols Whole5
without_products = symbols_of (record ring5 { product_fits = λ x y. false }) held5 numbered

exchange_stops : stepped_at without_products (Exchange 1 Plus) on_left ≡ None
exchange_stops = refl

-- five strands, whose top node has two nodes on the left and one on the right: the raises go down on the inner sides
abbrev five : Outline
five = Branch (Branch Tip (Branch Tip Tip)) (Branch Tip Tip)

abbrev told : ℕ → Told (State Whole5) Outline
told n = tree_told fib n

paths : (((told 5).path 3 five ≡ 1 ∷ 2 ∷ 4 ∷ []) × ((told 5).path 1 five ≡ 2 ∷ []) × ((told 5).path 2 five ≡ []) × ((told 6).path 3 five ≡ []))
paths = (refl, refl, refl, refl)

pairs : (((told 5).is_pair 2 five ≡ true) × ((told 5).is_pair 4 five ≡ true) × ((told 5).is_pair 3 five ≡ false) × ((told 5).is_pair 1 five ≡ false) × ((told 5).is_pair 0 five ≡ false) × ((told 5).is_pair 5 five ≡ false))
pairs = (refl, refl, refl, refl, refl, refl)

-- the parts by the label of the pair on the right
split_in_two : (told 3).parts 2 (fib_state two_right (((1 ∷ 0 ∷ []), whole 4) ∷ ((1 ∷ 1 ∷ []), whole 7) ∷ []))
    ≡ Some ((0, fib_state two_right (((1 ∷ 0 ∷ []), whole 4) ∷ [])) ∷ (1, fib_state two_right (((1 ∷ 1 ∷ []), whole 7) ∷ [])) ∷ [])
split_in_two = refl

counted : (told 3).entries on_left ≡ 3
counted = refl

-- the outcomes of one site's commands in their order
abbrev outcomes_by : Symbols Whole5 → Labelled → List Command → Result (Outcomes Whole5) RunStop
outcomes_by c tree commands = evaluation_of (tree_told c (size tree)) (stated_weight c) c.held.is_zero (own_state c.ring tree) commands

-- (t (t t):1):t weighs 1/phi; measured at its first two strands, after the raise of the right node, each label has the
-- amplitude 1/phi, and the labels weigh 1/phi^3 and 1/phi^2
measured_across : outcomes_by fib spread (Measure 1 ∷ [])
    ≡ Ok (record { total = inverse_golden; rows = (0 ∷ [], num (negsuc 2) (pos 0) (negsuc 1) (negsuc 1)) ∷ (1 ∷ [], num (pos 2) (pos 0) (pos 1) (pos 1)) ∷ [] })
measured_across = refl

-- its own pair has one label alone, and finds it again after a raise and back
measured_twice : outcomes_by fib spread (Measure 2 ∷ Raised 2 ∷ Measure 2 ∷ []) ≡ Ok (record { total = inverse_golden; rows = (0 ∷ 0 ∷ [], inverse_golden) ∷ [] })
measured_twice = refl

-- from ((t t):1 t):t, a braid at the other pair keeps the total
braided_across : outcomes_by fib short (Raised 1 ∷ Braid 2 Plus ∷ []) ≡ Ok (record { total = inverse_golden; rows = ([], inverse_golden) ∷ [] })
braided_across = refl

-- a program whose sites have these commands, each between two strands
abbrev site : ℕ → ℕ → List Command → ProgramSite
site first last commands = record { name = codes "s"; first = first; last = last; commands = commands }

abbrev program : Labelled → List ProgramSite → Program
program tree sites = record { version = 2; start = tree; sites = sites; outcomes = [] }

-- the Fibonacci category over the ring without a product of 1/phi with itself: no item of the total or of the measurement
-- has it, and each weight does, in the turn after the one command
abbrev without_square : Symbols Whole5
without_square = symbols_of (record ring5 { product_fits = λ x y. not (held5.equal x inverse_golden && held5.equal y inverse_golden) }) held5 fib_given

abbrev one_site : Program
one_site = program short (site 1 3 (Measure 2 ∷ []) ∷ [])

weights_stop : ((scheduled_ends without_square one_site (0 ∷ []) ≡ scheduled_ends fib one_site (0 ∷ [])) × (scheduled_weights without_square one_site (0 ∷ []) ≡ Err (Overflow 2)))
weights_stop = (refl, refl)

-- over a ring without sums the total stops before any command
total_stops : scheduled_weights (symbols_of (record ring5 { sum_fits = λ x y. false }) held5 fib_given) one_site (0 ∷ []) ≡ Err (Overflow 0)
total_stops = refl

-- ((t (t t):1):t t):t, measured at its first two and its last two strands: not both are 1. Where the second site is first, its
-- outcomes come first among the live words as they are made, which then are put in order.
abbrev across : Labelled
across = Joined (Joined t (Joined t t 0) 1) t 1

abbrev two_sites : Program
two_sites = program across (site 1 2 (Measure 1 ∷ []) ∷ site 3 4 (Measure 3 ∷ []) ∷ [])

abbrev words_at : Result (List (Live (State Whole5))) RunStop → Result (List (List ℕ)) RunStop
words_at ends = ends >>> λ live. Ok (words_of live)

second_first : words_at (made_ends fib two_sites (1 ∷ 0 ∷ [])) ≡ Ok ((1 ∷ 0 ∷ []) ∷ (0 ∷ 1 ∷ []) ∷ (1 ∷ 1 ∷ []) ∷ [])
second_first = refl

in_order : words_at (scheduled_ends fib two_sites (1 ∷ 0 ∷ [])) ≡ Ok ((0 ∷ 1 ∷ []) ∷ (1 ∷ 0 ∷ []) ∷ (1 ∷ 1 ∷ []) ∷ [])
in_order = refl

-- their weights fit: they are 1/phi^3 twice and 1/phi^4
weights_fit : scheduled_weights fib two_sites (1 ∷ 0 ∷ []) ≡ made_ends fib two_sites (1 ∷ 0 ∷ [])
weights_fit = refl

abbrev cubed : Whole5
cubed = num (negsuc 2) (pos 0) (negsuc 1) (negsuc 1)

rows_in_order : (scheduled_ends fib two_sites (1 ∷ 0 ∷ []) >>> λ live. Ok (rows_at (stated_weight fib) held5.is_zero live))
    ≡ Ok (Some ((0 ∷ 1 ∷ [], cubed) ∷ (1 ∷ 0 ∷ [], cubed) ∷ (1 ∷ 1 ∷ [], num (pos 5) (pos 0) (pos 3) (pos 3)) ∷ []))
rows_in_order = refl
