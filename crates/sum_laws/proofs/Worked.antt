-- Sums of rows on Fibonacci strands, by computing the definitions, and a program that meets each premise of the law. The
-- expected values are those of a program of its own.
use Rattle.std.proofs.Common.{◌≡◌, inr, [], ◌∷◌, refl, sym, subst, arith, pos, negsuc}
use Rattle.ring_laws.specs.Sums.{sum_over}
use Rattle.symbol_table.proofs.Fib.{Whole5, fib, num, ring5}
use Rattle.tree_shapes.specs.Labelled.{leaves, size}
use Rattle.program_text.specs.Letters.{letters}
use Rattle.program_text.specs.Program.{Program}
use Rattle.program_text.specs.WellFormed.{IsProgram, commands_in}
use Rattle.program_text.specs.declared.plan.Command.TheVariants.{Braid, Raise, Measure, BraidWhen}
use Rattle.program_text.specs.declared.plan.Sign.TheVariants.{Plus, Minus}
use Rattle.comb_laws.specs.Amplitudes.{start_vector}
use Rattle.comb_laws.specs.Plans.{Outcomes, outcomes_of, word_weight, words}
use Rattle.comb_laws.proofs.Fib.{lx, short}
use Rattle.move_laws.proofs.Counts.{sites_at_gaps}
use Rattle.sum_laws.specs.RowSums.{IsPlanOn, SumsToTotal, weight_of_rows}

-- one measurement on four strands in the start 1, t, 1: 2 + z^2 + z^3 = (5 + 3 z^2 + 3 z^3) - (3 + 2 z^2 + 2 z^3)
abbrev whole : Whole5
whole = num (pos 2) (pos 0) (pos 1) (pos 1)

one_measurement : outcomes_of fib lx (Measure 2 ∷ [])
    ≡ record { total = whole; rows = (0 ∷ [], num (pos 5) (pos 0) (pos 3) (pos 3)) ∷ (1 ∷ [], num (negsuc 2) (pos 0) (negsuc 1) (negsuc 1)) ∷ [] }
one_measurement = refl

one_sums : weight_of_rows ring5 ((0 ∷ [], num (pos 5) (pos 0) (pos 3) (pos 3)) ∷ (1 ∷ [], num (negsuc 2) (pos 0) (negsuc 1) (negsuc 1)) ∷ []) ≡ whole
one_sums = refl

-- a program with letters of each kind
abbrev told : Program
told = record {
  version = 2;
  start = short;
  sites = record {
    name = 115 ∷ [];
    first = 1;
    last = 3;
    commands = Braid 1 Plus ∷ Braid 2 Plus ∷ Braid 1 Plus ∷ Measure 1 ∷ Raise 1 ∷ BraidWhen 2 Minus 0 1 ∷ Measure 2 ∷ [];
  } ∷ [];
  outcomes = record { name = 97 ∷ []; place = 0 } ∷ [];
}

is_told : IsProgram fib.fuse fib.count told
is_told = record {
  version = inr refl;
  start = record { some = omega arith; few = omega arith; labels = refl; admissible = refl };
  some = omega arith;
  sites = (
    record {
      name = refl;
      some = omega arith;
      order = omega arith;
      inside = omega arith;
      gaps = (
        (omega arith, omega arith),
        ((omega arith, omega arith), ((omega arith, omega arith), ((omega arith, omega arith), ((omega arith, omega arith), ((omega arith, omega arith), ((omega arith, omega arith), tt)))))),
      );
    },
    refl,
    tt,
  );
  few = omega arith;
  outcomes = (refl, refl, tt, omega arith, tt);
  tests = (
    tt,
    (tt, (tt, (tt, (tt, (record { second = omega arith; known = omega arith; named = refl; earlier = omega arith; alike = refl }, (tt, tt)))))),
  );
  first_version = λ e. absurd (omega (arith, e));
}

told_plan : IsPlanOn (size told.start) (commands_in told.sites)
told_plan = record { gaps = sites_at_gaps (size told.start) told.sites is_told.sites; timely = refl }

-- its four rows: -8 + 5 - 3 + 5 = -1, and -5 + 3 - 2 + 3 = -1
abbrev its_outcomes : Outcomes Whole5
its_outcomes = record {
  total = num (negsuc 0) (pos 0) (negsuc 0) (negsuc 0);
  rows =
      (0 ∷ 0 ∷ [], num (negsuc 7) (pos 0) (negsuc 4) (negsuc 4))
      ∷ (0 ∷ 1 ∷ [], num (pos 5) (pos 0) (pos 3) (pos 3))
      ∷ (1 ∷ 0 ∷ [], num (negsuc 2) (pos 0) (negsuc 1) (negsuc 1))
      ∷ (1 ∷ 1 ∷ [], num (pos 5) (pos 0) (pos 3) (pos 3))
      ∷ [];
}

outcomes_are : outcomes_of fib told.start (commands_in told.sites) ≡ its_outcomes
outcomes_are = refl

they_sum : SumsToTotal ring5 its_outcomes
they_sum = refl

-- so the law holds of it
its_sum : SumsToTotal ring5 (outcomes_of fib told.start (commands_in told.sites))
its_sum = subst (SumsToTotal ring5) (sym outcomes_are) they_sum

-- a word that is no row adds nothing: the first two strands have the charge 1
no_row : outcomes_of fib lx (Measure 1 ∷ []) ≡ record { total = whole; rows = (0 ∷ [], whole) ∷ [] }
no_row = refl

all_words : sum_over ring5 (word_weight fib (leaves lx) (start_vector fib lx) (letters 0 (Measure 1 ∷ []))) (words 2 1) ≡ whole
all_words = refl

-- A test of an outcome that comes later is none of a program: as the word 1 is exchanged before it is measured, and 0 isn't,
-- the rows have 2 + z^2 + z^3 and -(3 + 2 z^2 + 2 z^3), and together not the total.
too_early : weight_of_rows ring5 (outcomes_of fib lx (BraidWhen 2 Plus 0 1 ∷ Measure 1 ∷ [])).rows ≡ num (negsuc 0) (pos 0) (negsuc 0) (negsuc 0)
too_early = refl

-- Nor is a letter behind the last gap: no strand and no label stand there, so nothing is left.
off_gaps : weight_of_rows ring5 (outcomes_of fib short (Measure 3 ∷ [])).rows ≡ ring5.zero
off_gaps = refl
