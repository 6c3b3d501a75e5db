-- The definition, tried on small texts.
use Rattle.std.proofs.Common.{◌≡◌, ℕ, [], ◌∷◌, ◌++◌, ◌==◌, refl, codes, if◌then◌else◌, Some, None, pos, negsuc, ℤ, Result, Ok, Err, replicate}
use Rattle.poly_core.specs.Gcd.{totient, gcd}
use Rattle.cyclo_core.specs.Content.{content}
use Rattle.cyclo_core.specs.Ratio.{Ratio, reduced}
use Rattle.cyclo_text.specs.NumberWords.{number_of, halves_of, number_over, value_of, is_part, is_natural, part_value}
use Rattle.cyclo_text.specs.declared.fault.NumberWord.TheVariants.{Spelling, TooManyParts}
use Rattle.line_text.specs.declared.fault.LineCause.TheVariants.{TooLong, NotAscii}
use Rattle.category_text.specs.Named.{NamedSymbols, only_units, with_fusion}
use Rattle.marks_text.specs.declared.fault.MarksCause.{MarksCause}
use Rattle.marks_text.specs.declared.fault.MarksCause.TheVariants.{Line, Header, Word, Short, Long, UnknownLabel, Repeated, Number}
use Rattle.marks_text.specs.Reading.{Fault, marks_in, mark_line_of}

-- two labels, of which the second is its own dual, in version 1
abbrev pair : NamedSymbols
pair = record { root = 5; names = codes "1" ∷ codes "t" ∷ []; given = with_fusion (only_units 1 2) 1 1 0 }

-- the number a + b z + c z^2 + d z^3
abbrev number : ℤ → ℤ → ℤ → ℤ → Ratio
number a b c d = record { numerators = a ∷ b ∷ c ∷ d ∷ replicate 12 (pos 0); denominator = 1 }

abbrev fault : ℕ → MarksCause → Result NamedSymbols Fault
fault line cause = Err (record { line = line; cause = cause })

-- The loop value of the unit is -1, and the twist of the other label is z^2.
two_marks : marks_in pair (codes "# c\n marks  1\n\nloop 1 -1\n twist t  0,0,1 ") ≡ Ok (record pair {
  given = record pair.given {
    version = 2;
    set_twist = λ a. if 1 == a then Some (number (pos 0) (pos 0) (pos 1) (pos 0)) else None;
    set_loop = λ a. if 0 == a then Some (number (negsuc 0) (pos 0) (pos 0) (pos 0)) else None;
  };
})
unfolding marks_in mark_line_of number_of halves_of number_over value_of is_part is_natural part_value reduced content totient gcd
two_marks = refl

-- no marks at all
no_marks : marks_in pair (codes "marks 1\n") ≡ Ok (record pair { given = record pair.given { version = 2 } })
unfolding marks_in
no_marks = refl

-- the text ends before its first line
empty : marks_in pair [] ≡ fault 1 Header
unfolding marks_in
empty = refl

only_comments : marks_in pair (codes "\n# c\n") ≡ fault 3 Header
unfolding marks_in
only_comments = refl

other_version : marks_in pair (codes "marks 2\ntwist t 1\n") ≡ fault 1 Header
unfolding marks_in
other_version = refl

three_words : marks_in pair (codes "marks 1 1\n") ≡ fault 1 Header
unfolding marks_in
three_words = refl

-- another first word, in a line that is too short
other_word : marks_in pair (codes "marks 1\n\ntwis x\n") ≡ fault 3 Word
unfolding marks_in mark_line_of
other_word = refl

-- one word too few, beside a label that has no name
short : marks_in pair (codes "marks 1\ntwist q\n") ≡ fault 2 Short
unfolding marks_in mark_line_of
short = refl

-- one word too many, beside a label that has no name
long : marks_in pair (codes "marks 1\nloop q x 1\n") ≡ fault 2 Long
unfolding marks_in mark_line_of
long = refl

-- a label that has no name, beside a misspelled number
unknown : marks_in pair (codes "marks 1\nloop q x\n") ≡ fault 2 UnknownLabel
unfolding marks_in mark_line_of
unknown = refl

-- a loop value behind a twist of the same label is new; a second twist is repeated before its number is misspelled
given_twice : marks_in pair (codes "marks 1\ntwist t 1\nloop t 1\ntwist t x\n") ≡ fault 4 Repeated
unfolding marks_in mark_line_of number_of halves_of number_over value_of is_part is_natural part_value reduced content totient gcd
given_twice = refl

loop_twice : marks_in pair (codes "marks 1\nloop t 1\nloop 1 1\ntwist t 1\nloop t 1\n") ≡ fault 5 Repeated
unfolding marks_in mark_line_of number_of halves_of number_over value_of is_part is_natural part_value reduced content totient gcd
loop_twice = refl

misspelled : marks_in pair (codes "marks 1\ntwist t 01\n") ≡ fault 2 (Number Spelling)
unfolding marks_in mark_line_of number_of halves_of number_over is_part is_natural
misspelled = refl

-- more parts than the root has
five_parts : marks_in pair (codes "marks 1\nloop t 0,0,0,0,1\n") ≡ fault 2 (Number TooManyParts)
unfolding marks_in mark_line_of number_of halves_of number_over value_of is_part is_natural part_value reduced content totient gcd
five_parts = refl

-- the first of two lines
first_line : marks_in pair (codes "marks 1\ntwist t x\nloop\n") ≡ fault 2 (Number Spelling)
unfolding marks_in mark_line_of number_of halves_of number_over is_part is_natural
first_line = refl

-- a line that is too long and not ASCII
long_line : marks_in pair (replicate 1025 9) ≡ fault 1 (Line TooLong)
unfolding marks_in
long_line = refl

-- one that isn't ASCII, behind the header
tab : marks_in pair (codes "marks 1\n\n" ++ 9 ∷ codes "\ntwist\n") ≡ fault 3 (Line NotAscii)
unfolding marks_in
tab = refl
