-- Worked values of the definitions: sites A and B of two commands each, where B tests the outcome of A.
use Rattle.std.proofs.Common.{◌≡◌, [], ◌∷◌, Some, None, refl, codes, arith, inr, true}
use Rattle.std.specs.Prelude.{Ok, Err}
use Rattle.line_text.specs.declared.fault.LineCause.TheVariants.{NotAscii}
use Rattle.tree_shapes.specs.Labelled.{Strand, Joined}
use Rattle.program_text.specs.Program.{Program}
use Rattle.program_text.specs.declared.plan.Command.TheVariants.{Raise, Measure, BraidWhen}
use Rattle.program_text.specs.declared.plan.Sign.TheVariants.{Plus}
use Rattle.program_text.specs.declared.letter.Letter.TheVariants.{Charge, Tested, Still}
use Rattle.site_schedule.specs.declared.fault.ScheduleFault.TheVariants.{Line, Header, UnknownSite, TooMany, Early, Unfinished}
use Rattle.site_schedule.specs.Legal.{IsLegal, IsWellFormed, letters_in}
use Rattle.site_schedule.specs.Queues.{first_left, left_behind}
use Rattle.site_schedule.specs.Reading.{site_from, schedule_of}
use Rattle.site_schedule.specs.Spelled.{schedule_lines}
use Rattle.site_schedule.proofs.LegalLemmas.{schedule_legal}
use Rattle.site_schedule.proofs.SpelledLemmas.{schedules_again}
use Rattle.line_text.specs.Spelling.{spelled}

abbrev two : Program
two = record {
  version = 2;
  start = Joined (Joined (Strand 1) (Strand 1) 0) (Joined (Strand 1) (Strand 1) 0) 0;
  sites = record { name = codes "A"; first = 1; last = 2; commands = Measure 1 ∷ Raise 1 ∷ [] }
      ∷ record { name = codes "B"; first = 3; last = 4; commands = BraidWhen 3 Plus 0 1 ∷ Measure 3 ∷ [] } ∷ [];
  outcomes = record { name = codes "x"; place = 0 } ∷ [];
}

letters_two : letters_in two ≡ (Charge 1 0 ∷ Still 1 ∷ []) ∷ (Tested 3 Plus 0 1 ∷ Charge 3 1 ∷ []) ∷ []
letters_two = refl

left_two : left_behind (letters_in two) (0 ∷ 1 ∷ 0 ∷ []) ≡ [] ∷ (Charge 3 1 ∷ []) ∷ []
left_two = refl

second_left : first_left 0 (left_behind (letters_in two) (0 ∷ 1 ∷ 0 ∷ [])) ≡ Some 1
second_left = refl

second_name : site_from 0 two.sites (codes "B") ≡ Some 1
second_name = refl

no_name : site_from 0 two.sites (codes "AB") ≡ None
no_name = refl

in_turns : schedule_of two (codes "schedule 1\nA B B A\n") ≡ Ok (0 ∷ 1 ∷ 1 ∷ 0 ∷ [])
unfolding schedule_of
in_turns = refl

with_comments : schedule_of two (codes "# x\n schedule  1\n# A\nA\n A B B") ≡ Ok (0 ∷ 0 ∷ 1 ∷ 1 ∷ [])
unfolding schedule_of
with_comments = refl

too_many : schedule_of two (codes "schedule 1\nA A A B B\n") ≡ Err (TooMany 3)
unfolding schedule_of
too_many = refl

too_many_first : schedule_of two (codes "schedule 1\nA A A C\n") ≡ Err (TooMany 3)
unfolding schedule_of
too_many_first = refl

unfinished : schedule_of two (codes "schedule 1\nA A B\n") ≡ Err (Unfinished 1)
unfolding schedule_of
unfinished = refl

first_unfinished : schedule_of two (codes "schedule 1\nA\n") ≡ Err (Unfinished 0)
unfolding schedule_of
first_unfinished = refl

unknown : schedule_of two (codes "schedule 1\nA C\n") ≡ Err (UnknownSite 2)
unfolding schedule_of
unknown = refl

early : schedule_of two (codes "schedule 1\nB A\n") ≡ Err (Early 1)
unfolding schedule_of
early = refl

other_version : schedule_of two (codes "schedule 2\nA A B B\n") ≡ Err (Header 1)
unfolding schedule_of
other_version = refl

three_words : schedule_of two (codes "schedule 1 1\nA\n") ≡ Err (Header 1)
unfolding schedule_of
three_words = refl

no_header : schedule_of two (codes "\n# c\n") ≡ Err (Header 3)
unfolding schedule_of
no_header = refl

-- a line's own fault comes behind the turns before it, and before its own
behind_turns : schedule_of two (codes "schedule 1\nA A A\n\tB\n") ≡ Err (TooMany 3)
unfolding schedule_of
behind_turns = refl

before_own : schedule_of two (codes "schedule 1\nA A\n\nC \t\n") ≡ Err (Line (record { line = 4; cause = NotAscii }))
unfolding schedule_of
before_own = refl

-- all that is asked of a program and a schedule holds of these
two_well_formed : IsWellFormed two
two_well_formed = record {
  fuse = λ a b c. true;
  count = 2;
  program = record {
    version = inr refl;
    start = record { some = omega arith; few = omega arith; labels = refl; admissible = refl };
    some = omega arith;
    sites = (
      record { name = refl; some = omega arith; order = omega arith; inside = omega arith; gaps = ((omega arith, omega arith), ((omega arith, omega arith), tt)) },
      refl,
      (record { name = refl; some = omega arith; order = omega arith; inside = omega arith; gaps = ((omega arith, omega arith), ((omega arith, omega arith), tt)) }, refl, tt),
    );
    few = omega arith;
    outcomes = (refl, refl, tt, omega arith, tt);
    tests = (tt, (tt, (record { second = omega arith; known = omega arith; named = refl; earlier = omega arith; alike = refl }, (tt, tt))));
    first_version = λ e. absurd (omega arith);
  };
}

two_legal : IsLegal two (0 ∷ 1 ∷ 1 ∷ 0 ∷ [])
two_legal = schedule_legal two (codes "schedule 1\nA B B A\n") (0 ∷ 1 ∷ 1 ∷ 0 ∷ []) in_turns

-- so the law speaks of them
two_again : schedule_of two (spelled (schedule_lines two (0 ∷ 1 ∷ 1 ∷ 0 ∷ []))) ≡ Ok (0 ∷ 1 ∷ 1 ∷ 0 ∷ [])
two_again = schedules_again two (0 ∷ 1 ∷ 1 ∷ 0 ∷ []) two_well_formed two_legal
