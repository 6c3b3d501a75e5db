-- The definition, tried on small texts.
use Rattle.std.proofs.Common.{◌≡◌, [], ◌∷◌, ◌++◌, refl, replicate, Result, Ok, Err, codes}
use Rattle.poly_core.specs.Rho.{is_accepted}
use Rattle.poly_core.specs.Gcd.{totient, gcd}
use Rattle.cyclo_core.specs.Content.{content}
use Rattle.cyclo_core.specs.Ratio.{reduced}
use Rattle.cyclo_text.specs.NumberWords.{number_of, halves_of, number_over, value_of, is_part, is_natural, part_value}
use Rattle.cyclo_text.specs.declared.fault.NumberWord.TheVariants.{Spelling}
use Rattle.line_text.specs.declared.fault.LineCause.TheVariants.{TooLong, NotAscii}
use Rattle.category_text.specs.declared.fault.CategoryCause.TheVariants.{Line, Header, Root, Labels, Limit, Repeated, Misplaced, Word, Short, Long, UnknownLabel, UnitFuse, NotAdmissible, Number}
use Rattle.category_text.specs.Named.{NamedSymbols, only_units, with_fusion}
use Rattle.category_text.specs.Reading.{Fault, category_of, front_of, head_of, line_of, fuse_of, symbol_of}

-- one triple beside those of the unit
one_triple : Result NamedSymbols Fault
one_triple = Ok (record { root = 5; names = codes "1" ∷ codes "t" ∷ []; given = with_fusion (only_units 1 2) 1 1 0 })

read_well : category_of (codes "category 1\n root  5\nlabels 1 t\n\n# c\nfuse t t 1") ≡ one_triple
unfolding category_of head_of front_of line_of fuse_of symbol_of is_accepted totient gcd one_triple
read_well = refl

empty : category_of [] ≡ Err (record { line = 1; cause = Header })
unfolding category_of head_of front_of
empty = refl

root_sixty_one : category_of (codes "category 1\nroot 61\nlabels 1 t\n") ≡ Err (record { line = 2; cause = Root })
unfolding category_of head_of front_of is_accepted totient gcd
root_sixty_one = refl

no_labels : category_of (codes "category 1\nroot 5\n# no more\n") ≡ Err (record { line = 4; cause = Labels })
unfolding category_of head_of front_of is_accepted totient gcd
no_labels = refl

-- thirteen names of which two are equal are too many
thirteen : category_of (codes "category 1\nroot 5\nlabels 1 b c d e f g h i j k l l\n") ≡ Err (record { line = 3; cause = Limit })
unfolding category_of head_of front_of is_accepted totient gcd
thirteen = refl

unit : category_of (codes "category 1\nroot 5\nlabels 1 t\nfuse 1 t t\n") ≡ Err (record { line = 4; cause = UnitFuse })
unfolding category_of head_of front_of line_of fuse_of is_accepted totient gcd
unit = refl

given_twice : category_of (codes "category 1\nroot 5\nlabels 1 t\nfuse t t 1\nfuse t t 1\n") ≡ Err (record { line = 5; cause = Repeated })
unfolding category_of head_of front_of line_of fuse_of is_accepted totient gcd
given_twice = refl

short : category_of (codes "category 1\nroot 5\nlabels 1 t\nr t t") ≡ Err (record { line = 4; cause = Short })
unfolding category_of head_of front_of line_of symbol_of is_accepted totient gcd
short = refl

-- the unit triples are there, and `fuse` lines come before all symbol lines
not_admissible : category_of (codes "category 1\nroot 5\nlabels 1 t\nr t t 1 x\n") ≡ Err (record { line = 4; cause = NotAdmissible })
unfolding category_of head_of front_of line_of symbol_of is_accepted totient gcd
not_admissible = refl

misspelled : category_of (codes "category 1\nroot 5\nlabels 1 t\nr 1 t t x\n") ≡ Err (record { line = 4; cause = Number Spelling })
unfolding category_of head_of front_of line_of symbol_of is_accepted totient gcd number_of halves_of number_over is_part is_natural
misspelled = refl

-- Of several causes the first in order.

-- a line that is too long and not ASCII
long_line : category_of (replicate 1025 9) ≡ Err (record { line = 1; cause = Line TooLong })
unfolding category_of head_of front_of
long_line = refl

-- one that isn't ASCII stops the text before the lines behind it are misplaced
tab : category_of (codes "category 1\nroot 5\nlabels 1 t\n" ++ 9 ∷ codes "\nroot\n") ≡ Err (record { line = 4; cause = Line NotAscii })
unfolding category_of head_of front_of is_accepted totient gcd
tab = refl

-- thirteen names of which one is misspelled are misspelled
thirteen_misspelled : category_of (codes "category 1\nroot 5\nlabels 1 b c d e f g h i j k l m-\n") ≡ Err (record { line = 3; cause = Labels })
unfolding category_of head_of front_of is_accepted totient gcd
thirteen_misspelled = refl

-- lines of the head behind the head are misplaced, also too short ones
category_again : category_of (codes "category 1\nroot 5\nlabels 1 t\ncategory\n") ≡ Err (record { line = 4; cause = Misplaced })
unfolding category_of head_of front_of line_of is_accepted totient gcd
category_again = refl

root_again : category_of (codes "category 1\nroot 5\nlabels 1 t\nroot\n") ≡ Err (record { line = 4; cause = Misplaced })
unfolding category_of head_of front_of line_of is_accepted totient gcd
root_again = refl

labels_again : category_of (codes "category 1\nroot 5\nlabels 1 t\nlabels\n") ≡ Err (record { line = 4; cause = Misplaced })
unfolding category_of head_of front_of line_of is_accepted totient gcd
labels_again = refl

-- so is a fuse line behind a symbol line, also a too short one
fuse_late : category_of (codes "category 1\nroot 5\nlabels 1 t\nr 1 t t 1\nfuse\n") ≡ Err (record { line = 5; cause = Misplaced })
unfolding category_of head_of front_of line_of symbol_of is_accepted totient gcd number_of halves_of number_over value_of is_part is_natural part_value reduced content
fuse_late = refl

-- another first word, alone
other_word : category_of (codes "category 1\nroot 5\nlabels 1 t\nx\n") ≡ Err (record { line = 4; cause = Word })
unfolding category_of head_of front_of line_of is_accepted totient gcd
other_word = refl

-- too many words of which one is no label
long : category_of (codes "category 1\nroot 5\nlabels 1 t\nfuse t t q 1\n") ≡ Err (record { line = 4; cause = Long })
unfolding category_of head_of front_of line_of fuse_of is_accepted totient gcd
long = refl

-- a label that has no name, beside the unit
unknown : category_of (codes "category 1\nroot 5\nlabels 1 t\nfuse 1 t q\n") ≡ Err (record { line = 4; cause = UnknownLabel })
unfolding category_of head_of front_of line_of fuse_of is_accepted totient gcd
unknown = refl

-- The second version: its header, marks and their causes.
third_version : category_of (codes "category 3\nroot 5\nlabels 1 t\n") ≡ Err (record { line = 1; cause = Header })
unfolding category_of head_of front_of
third_version = refl

-- in the first version a mark is another word, also in a line that is too short
no_marks : category_of (codes "category 1\nroot 5\nlabels 1 t\ntwist\n") ≡ Err (record { line = 4; cause = Word })
unfolding category_of head_of front_of line_of symbol_of is_accepted totient gcd
no_marks = refl

short_mark : category_of (codes "category 2\nroot 5\nlabels 1 t\ntwist q\n") ≡ Err (record { line = 4; cause = Short })
unfolding category_of head_of front_of line_of symbol_of is_accepted totient gcd
short_mark = refl

unknown_mark : category_of (codes "category 2\nroot 5\nlabels 1 t\nloop q x\n") ≡ Err (record { line = 4; cause = UnknownLabel })
unfolding category_of head_of front_of line_of symbol_of is_accepted totient gcd
unknown_mark = refl

-- a loop value behind a twist of the same label is new, a second twist isn't; fuse lines stand before marks too
mark_twice : category_of (codes "category 2\nroot 5\nlabels 1 t\ntwist t 1\nloop t 1\ntwist t x\n") ≡ Err (record { line = 6; cause = Repeated })
unfolding category_of head_of front_of line_of symbol_of is_accepted totient gcd number_of halves_of number_over value_of is_part is_natural part_value reduced content
mark_twice = refl

fuse_behind_mark : category_of (codes "category 2\nroot 5\nlabels 1 t\ntwist t 1\nfuse\n") ≡ Err (record { line = 5; cause = Misplaced })
unfolding category_of head_of front_of line_of symbol_of is_accepted totient gcd number_of halves_of number_over value_of is_part is_natural part_value reduced content
fuse_behind_mark = refl
