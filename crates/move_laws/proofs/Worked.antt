-- Two programs on three Fibonacci strands that meet each premise of the law of rows, and the rows of both, by computing the
-- definitions. The expected values are those of a program of its own.
use Rattle.std.proofs.Common.{◌≡◌, inr, List, [], ◌∷◌, refl, arith, pos, negsuc}
use Rattle.std.specs.Prelude.{None}
use Rattle.symbol_table.proofs.Fib.{Whole5, fib, num}
use Rattle.tree_shapes.specs.Labelled.{size}
use Rattle.program_text.specs.Program.{Program}
use Rattle.program_text.specs.WellFormed.{IsProgram, commands_in}
use Rattle.program_text.specs.declared.letter.Letter.TheVariants.{Crossing, Charge}
use Rattle.program_text.specs.declared.plan.Command.{Command}
use Rattle.program_text.specs.declared.plan.Command.TheVariants.{Braid, Raise, Measure, BraidWhen}
use Rattle.program_text.specs.declared.plan.Sign.TheVariants.{Plus, Minus}
use Rattle.comb_laws.specs.Plans.{Outcomes, outcomes_of}
use Rattle.comb_laws.proofs.Fib.{short}
use Rattle.word_moves.specs.Moves.{moved, moving_letters}
use Rattle.word_moves.specs.Verdicts.{AreLinked}
use Rattle.word_moves.specs.declared.moves.BraidMove.TheVariants.{Cancel, Insert, Far, Yb}

abbrev program : List Command → Program
program commands = record {
  version = 2;
  start = short;
  sites = record { name = 115 ∷ []; first = 1; last = 3; commands = commands } ∷ [];
  outcomes = record { name = 97 ∷ []; place = 0 } ∷ [];
}

-- three braids that begin at gap 1, and letters of each kind behind them
abbrev first : Program
first = program (Braid 1 Plus ∷ Braid 2 Plus ∷ Braid 1 Plus ∷ Measure 1 ∷ Raise 1 ∷ BraidWhen 2 Minus 0 1 ∷ Measure 2 ∷ [])

-- the same from gap 2, with a braid and its inverse between
abbrev second : Program
second = program (Braid 2 Plus ∷ Braid 1 Plus ∷ Braid 2 Plus ∷ Measure 1 ∷ Braid 1 Plus ∷ Braid 1 Minus ∷ BraidWhen 2 Minus 0 1 ∷ Measure 2 ∷ [])

is_first : IsProgram fib.fuse fib.count first
is_first = record {
  version = inr refl;
  start = record { some = omega arith; few = omega arith; labels = refl; admissible = refl };
  some = omega arith;
  sites = (
    record {
      name = refl;
      some = omega arith;
      order = omega arith;
      inside = omega arith;
      gaps = (
        (omega arith, omega arith),
        ((omega arith, omega arith), ((omega arith, omega arith), ((omega arith, omega arith), ((omega arith, omega arith), ((omega arith, omega arith), ((omega arith, omega arith), tt)))))),
      );
    },
    refl,
    tt,
  );
  few = omega arith;
  outcomes = (refl, refl, tt, omega arith, tt);
  tests = (
    tt,
    (tt, (tt, (tt, (tt, (record { second = omega arith; known = omega arith; named = refl; earlier = omega arith; alike = refl }, (tt, tt)))))),
  );
  first_version = λ e. absurd (omega (arith, e));
}

is_second : IsProgram fib.fuse fib.count second
is_second = record {
  version = inr refl;
  start = record { some = omega arith; few = omega arith; labels = refl; admissible = refl };
  some = omega arith;
  sites = (
    record {
      name = refl;
      some = omega arith;
      order = omega arith;
      inside = omega arith;
      gaps = (
        (omega arith, omega arith),
        (
          (omega arith, omega arith),
          ((omega arith, omega arith), ((omega arith, omega arith), ((omega arith, omega arith), ((omega arith, omega arith), ((omega arith, omega arith), ((omega arith, omega arith), tt)))))),
        ),
      );
    },
    refl,
    tt,
  );
  few = omega arith;
  outcomes = (refl, refl, tt, omega arith, tt);
  tests = (
    tt,
    (tt, (tt, (tt, (tt, (tt, (record { second = omega arith; known = omega arith; named = refl; earlier = omega arith; alike = refl }, (tt, tt))))))),
  );
  first_version = λ e. absurd (omega (arith, e));
}

linked : AreLinked (size first.start) (moving_letters first) (moving_letters second)
linked = (Yb 1 ∷ Insert 5 1 Plus ∷ [], refl)

-- and back
back : AreLinked (size second.start) (moving_letters second) (moving_letters first)
back = (Cancel 5 ∷ Yb 1 ∷ [], refl)

abbrev rows : Outcomes Whole5
rows = record {
  total = num (negsuc 0) (pos 0) (negsuc 0) (negsuc 0);
  rows =
      (0 ∷ 0 ∷ [], num (negsuc 7) (pos 0) (negsuc 4) (negsuc 4))
      ∷ (0 ∷ 1 ∷ [], num (pos 5) (pos 0) (pos 3) (pos 3))
      ∷ (1 ∷ 0 ∷ [], num (negsuc 2) (pos 0) (negsuc 1) (negsuc 1))
      ∷ (1 ∷ 1 ∷ [], num (pos 5) (pos 0) (pos 3) (pos 3))
      ∷ [];
}

rows_of_first : outcomes_of fib first.start (commands_in first.sites) ≡ rows
rows_of_first = refl

rows_of_second : outcomes_of fib second.start (commands_in second.sites) ≡ rows
rows_of_second = refl

-- no moves lead to braids of both signs, and their rows are others
abbrev mixed : Program
mixed = program (Braid 2 Plus ∷ Braid 1 Minus ∷ Braid 2 Plus ∷ Measure 1 ∷ BraidWhen 2 Minus 0 1 ∷ Measure 2 ∷ [])

rows_of_mixed : outcomes_of fib mixed.start (commands_in mixed.sites)
    ≡ record {
      total = num (negsuc 0) (pos 0) (negsuc 0) (negsuc 0);
      rows =
          (0 ∷ 0 ∷ [], num (negsuc 36) (pos 0) (negsuc 22) (negsuc 22))
          ∷ (0 ∷ 1 ∷ [], num (pos 23) (pos 0) (pos 14) (pos 14))
          ∷ (1 ∷ 0 ∷ [], num (negsuc 20) (pos 0) (negsuc 12) (negsuc 12))
          ∷ (1 ∷ 1 ∷ [], num (pos 34) (pos 0) (pos 21) (pos 21))
          ∷ [];
    }
rows_of_mixed = refl

-- braids at neighbouring gaps don't change places, nor do a braid and a measurement
neighbours_stay : ((moved 3 (Far 1) (Crossing 1 Plus ∷ Crossing 2 Plus ∷ []) ≡ None) × (moved 4 (Far 1) (Crossing 1 Plus ∷ Charge 3 0 ∷ []) ≡ None))
neighbours_stay = (refl, refl)
