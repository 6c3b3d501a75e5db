-- The programs of small texts, and each cause of a fault.
use Rattle.std.proofs.Common.{◌≡◌, ℕ, List, [], ◌∷◌, ◌++◌, Bool, ◌&&◌, ◌||◌, not, ◌==◌, refl, replicate, Result, Ok, Err, codes}
use Rattle.std.specs.Fmt.{digits}
use Rattle.line_text.specs.declared.fault.LineCause.TheVariants.{TooLong, NotAscii}
use Rattle.tree_shapes.specs.Labelled.{Strand, Joined}
use Rattle.program_text.specs.declared.plan.Sign.TheVariants.{Plus, Minus}
use Rattle.program_text.specs.declared.plan.Command.{Command}
use Rattle.program_text.specs.declared.plan.Command.TheVariants.{Braid, Raise, Measure, BraidWhen}
use Rattle.program_text.specs.declared.fault.ProgramCause.{ProgramCause}
use Rattle.program_text.specs.declared.fault.ProgramCause.TheVariants as cause
use Rattle.program_text.specs.Program.{Program, ProgramSite}
use Rattle.program_text.specs.Steps.{Fault}
use Rattle.program_text.specs.Written.{written}
use Rattle.program_text.specs.Grammar.{SoFar, program_in, head_of, start_of, site_of_line, command_of_line, with_command, begun}

names : List (List ℕ)
names = codes "1" ∷ codes "s" ∷ codes "p" ∷ []

-- s s is 1 or p, s p and p s are s, p p is 1, and the unit does nothing
fuse : ℕ → ℕ → ℕ → Bool
fuse a b c = (a == 0 && b == c) || ((b == 0 && a == c) || ((a == 1 && (b == 1 && not (c == 1))) || ((a == 1 && (b == 2 && c == 1)) || ((a == 2 && (b == 1 && c == 1)) || (a == 2 && (b == 2 && c == 0))))))

abbrev told : List ℕ → Result Program Fault
told text = program_in names fuse text

abbrev refused : ℕ → ProgramCause → Result Program Fault
refused line cause = Err (record { line = line; cause = cause })

abbrev site : List ℕ → ℕ → ℕ → List Command → ProgramSite
site name first last commands = record { name = name; first = first; last = last; commands = commands }

-- Version 1: spaces between any two pieces, and none where none is needed; comments, and no site.
spaced : told (codes "# c\n program  1\nstart ( (s s):p( s s ) : 1 ) :p\n\nraise 2\nbraid 3 -")
    ≡ Ok (record { version = 1; start = Joined (Joined (Strand 1) (Strand 1) 2) (Joined (Strand 1) (Strand 1) 0) 2; sites = site (codes "main") 1 4 (Raise 2 ∷ Braid 3 Minus ∷ []) ∷ []; outcomes = [] })
unfolding program_in head_of start_of command_of_line names fuse
spaced = refl

-- Version 2: two sites, a named outcome, and a test of it from the other site.
tested : told (codes "program 2\nstart (((s s):p s):s p):s\nsite A 1 2\nmeasure 1\nmeasure 1 as x\nsite B_2 3 4\nbraid 3 +\n")
    ≡ Ok (record { version = 2; start = Joined (Joined (Joined (Strand 1) (Strand 1) 2) (Strand 1) 1) (Strand 2) 1; sites = site (codes "A") 1 2 (Measure 1 ∷ Measure 1 ∷ []) ∷ site (codes "B_2") 3 4 (Braid 3 Plus ∷ []) ∷ []; outcomes = record { name = codes "x"; place = 1 } ∷ [] })
unfolding program_in head_of start_of site_of_line command_of_line names fuse
tested = refl

tests_outcome : told (codes "program 2\nstart (((s s):p s):s s):p\nsite A 1 2\nmeasure 1\nmeasure 1 as x\nsite B 3 4\nbraid 3 - when x p\n")
    ≡ Ok (record { version = 2; start = Joined (Joined (Joined (Strand 1) (Strand 1) 2) (Strand 1) 1) (Strand 1) 2; sites = site (codes "A") 1 2 (Measure 1 ∷ Measure 1 ∷ []) ∷ site (codes "B") 3 4 (BraidWhen 3 Minus 1 2 ∷ []) ∷ []; outcomes = record { name = codes "x"; place = 1 } ∷ [] })
unfolding program_in head_of start_of site_of_line command_of_line names fuse
tests_outcome = refl

-- `main` with all strands may have its line
main_site : told (codes "program 1\nstart (s s):p\nsite main 1 2\nmeasure 1\n")
    ≡ Ok (record { version = 1; start = Joined (Strand 1) (Strand 1) 2; sites = site (codes "main") 1 2 (Measure 1 ∷ []) ∷ []; outcomes = [] })
unfolding program_in head_of start_of site_of_line command_of_line names fuse
main_site = refl

-- Lines that can't be read, and a text that ends too early.
empty : told [] ≡ refused 1 cause.Header
unfolding program_in head_of names fuse
empty = refl

long_line : told (replicate 1025 9) ≡ refused 1 (cause.Line TooLong)
unfolding program_in head_of names fuse
long_line = refl

tab : told (codes "program 1\n" ++ 9 ∷ []) ≡ refused 2 (cause.Line NotAscii)
unfolding program_in head_of names fuse
tab = refl

no_start : told (codes "program 1\n# no more\n\n") ≡ refused 4 cause.Start
unfolding program_in head_of names fuse
no_start = refl

-- Headers.
later_version : told (codes "program 3\nstart s\n") ≡ refused 1 cause.Header
unfolding program_in head_of names fuse
later_version = refl

long_header : told (codes "program 1 1\n") ≡ refused 1 cause.Header
unfolding program_in head_of names fuse
long_header = refl

category_header : told (codes "category 1\n") ≡ refused 1 cause.Header
unfolding program_in head_of names fuse
category_header = refl

-- Start lines. What isn't a tree is so although a label of it is unknown; an unknown label comes before the number of
-- strands, and that before a node that isn't admissible.
abbrev started : List ℕ → Result Program Fault
started text = told (codes "program 1\n" ++ text)

no_word : started (codes "star (s s):p") ≡ refused 2 cause.Start
unfolding program_in head_of start_of names fuse
no_word = refl

no_space : started (codes "start(s s):p") ≡ refused 2 cause.Start
unfolding program_in head_of start_of names fuse
no_space = refl

no_tree : started (codes "start") ≡ refused 2 cause.Start
unfolding program_in head_of start_of names fuse
no_tree = refl

two_trees : started (codes "start s s") ≡ refused 2 cause.Start
unfolding program_in head_of start_of names fuse
two_trees = refl

three_children : started (codes "start (s s s):p") ≡ refused 2 cause.Start
unfolding program_in head_of start_of names fuse
three_children = refl

no_node_label : started (codes "start (s q)") ≡ refused 2 cause.Start
unfolding program_in head_of start_of names fuse
no_node_label = refl

other_byte : started (codes "start (q s):p;") ≡ refused 2 cause.Start
unfolding program_in head_of start_of names fuse
other_byte = refl

unknown_label : started (codes "start q") ≡ refused 2 cause.UnknownLabel
unfolding program_in head_of start_of names fuse
unknown_label = refl

-- a run that is longer than any name is one label, which isn't named
long_label : started (codes "start (s sssssssss):p") ≡ refused 2 cause.UnknownLabel
unfolding program_in head_of start_of names fuse
long_label = refl

unknown_node : started (codes "start (s s):q") ≡ refused 2 cause.UnknownLabel
unfolding program_in head_of start_of names fuse
unknown_node = refl

one_strand : started (codes "start s") ≡ refused 2 cause.Strands
unfolding program_in head_of start_of names fuse
one_strand = refl

-- the least gap, and not the first from the top
least_gap : started (codes "start ((s s):s (s s):s):s") ≡ refused 2 (cause.Inadmissible 1)
unfolding program_in head_of start_of names fuse
least_gap = refl

right_gap : started (codes "start ((s s):p (s s):s):s") ≡ refused 2 (cause.Inadmissible 3)
unfolding program_in head_of start_of names fuse
right_gap = refl

-- Site lines.
abbrev behind : List ℕ → Result Program Fault
behind text = told (codes "program 2\nstart (((s s):p s):s p):s\n" ++ text)

short_site : behind (codes "site A 1") ≡ refused 3 cause.Site
unfolding program_in head_of start_of site_of_line command_of_line names fuse
short_site = refl

long_site : behind (codes "site A 1 2 3") ≡ refused 3 cause.Site
unfolding program_in head_of start_of site_of_line command_of_line names fuse
long_site = refl

long_name : behind (codes "site ABCDEFGHI 1 2") ≡ refused 3 cause.Site
unfolding program_in head_of start_of site_of_line command_of_line names fuse
long_name = refl

first_zero : behind (codes "site A 0 2") ≡ refused 3 cause.Site
unfolding program_in head_of start_of site_of_line command_of_line names fuse
first_zero = refl

not_plain : behind (codes "site A 1 02") ≡ refused 3 cause.Site
unfolding program_in head_of start_of site_of_line command_of_line names fuse
not_plain = refl

last_before : behind (codes "site A 3 2") ≡ refused 3 cause.Site
unfolding program_in head_of start_of site_of_line command_of_line names fuse
last_before = refl

last_five : behind (codes "site A 1 5") ≡ refused 3 cause.Site
unfolding program_in head_of start_of site_of_line command_of_line names fuse
last_five = refl

name_twice : behind (codes "site A 1 2\nsite A 3 4") ≡ refused 4 cause.Site
unfolding program_in head_of start_of site_of_line command_of_line names fuse
name_twice = refl

shared_strand : behind (codes "site A 2 3\nsite B 4 4\nsite C 1 2") ≡ refused 5 cause.Site
unfolding program_in head_of start_of site_of_line command_of_line names fuse
shared_strand = refl

command_before : behind (codes "raise 1\nsite A 1 2") ≡ refused 4 cause.Site
unfolding program_in head_of start_of site_of_line command_of_line names fuse
command_before = refl

-- a site of one strand is one
one_strand_site : behind (codes "site A 2 2\nraise 2") ≡ refused 4 cause.Gap
unfolding program_in head_of start_of site_of_line command_of_line names fuse
one_strand_site = refl

-- Command lines.
other_command : behind (codes "cross 1 1 2 +") ≡ refused 3 cause.Command
unfolding program_in head_of start_of site_of_line command_of_line names fuse
other_command = refl

creates : behind (codes "create 1 s") ≡ refused 3 cause.Command
unfolding program_in head_of start_of site_of_line command_of_line names fuse
creates = refl

absorbs : behind (codes "absorb 1") ≡ refused 3 cause.Command
unfolding program_in head_of start_of site_of_line command_of_line names fuse
absorbs = refl

short_braid : behind (codes "braid 9") ≡ refused 3 cause.Command
unfolding program_in head_of start_of site_of_line command_of_line names fuse
short_braid = refl

long_raise : behind (codes "raise 1 +") ≡ refused 3 cause.Command
unfolding program_in head_of start_of site_of_line command_of_line names fuse
long_raise = refl

no_sign : behind (codes "braid 9 *") ≡ refused 3 cause.Command
unfolding program_in head_of start_of site_of_line command_of_line names fuse
no_sign = refl

gap_not_plain : behind (codes "measure +1") ≡ refused 3 cause.Command
unfolding program_in head_of start_of site_of_line command_of_line names fuse
gap_not_plain = refl

no_as : behind (codes "measure 9 is x-") ≡ refused 3 cause.Command
unfolding program_in head_of start_of site_of_line command_of_line names fuse
no_as = refl

no_when : behind (codes "braid 9 + if x p") ≡ refused 3 cause.Command
unfolding program_in head_of start_of site_of_line command_of_line names fuse
no_when = refl

-- version 1 has no names and no tests
first_version : started (codes "start (s s):p\nmeasure 1 as x") ≡ refused 3 cause.Command
unfolding program_in head_of start_of site_of_line command_of_line names fuse
first_version = refl

first_version_test : started (codes "start (s s):p\nbraid 1 + when x p") ≡ refused 3 cause.Command
unfolding program_in head_of start_of site_of_line command_of_line names fuse
first_version_test = refl

gap_zero : behind (codes "raise 0") ≡ refused 3 cause.Gap
unfolding program_in head_of start_of site_of_line command_of_line names fuse
gap_zero = refl

-- the gap at the end of a site leads out of it; the gap comes before the name
gap_at_end : behind (codes "site A 1 3\nmeasure 3 as x-") ≡ refused 4 cause.Gap
unfolding program_in head_of start_of site_of_line command_of_line names fuse
gap_at_end = refl

gap_before_site : behind (codes "site A 2 4\nraise 1") ≡ refused 4 cause.Gap
unfolding program_in head_of start_of site_of_line command_of_line names fuse
gap_before_site = refl

misspelled_name : behind (codes "measure 1 as x-") ≡ refused 3 cause.Name
unfolding program_in head_of start_of site_of_line command_of_line names fuse
misspelled_name = refl

given_twice : behind (codes "measure 1 as x\nmeasure 2 as x") ≡ refused 4 cause.Name
unfolding program_in head_of start_of site_of_line command_of_line names fuse
given_twice = refl

-- an outcome that is named later; an unnamed outcome comes before an unknown label, and that before unlike strands
named_later : behind (codes "braid 3 + when x q\nmeasure 1 as x") ≡ refused 3 cause.Unnamed
unfolding program_in head_of start_of site_of_line command_of_line names fuse
named_later = refl

unknown_test : behind (codes "measure 1 as x\nbraid 3 + when x q") ≡ refused 4 cause.UnknownLabel
unfolding program_in head_of start_of site_of_line command_of_line names fuse
unknown_test = refl

unlike : behind (codes "measure 1 as x\nbraid 3 + when x p") ≡ refused 4 cause.Unlike
unfolding program_in head_of start_of site_of_line command_of_line names fuse
unlike = refl

-- the strands are those after the braids of the lines before
unlike_moved : behind (codes "measure 1 as x\nbraid 2 + when x p\nbraid 3 +\nbraid 2 + when x p") ≡ refused 6 cause.Unlike
unfolding program_in head_of start_of site_of_line command_of_line names fuse
unlike_moved = refl

-- The command behind as many as are allowed; its name and its test come first.
abbrev full : SoFar
full = record (begun (Joined (Strand 1) (Strand 1) 2)) { commands = 4096; measured = 7 }

limit : command_of_line names 2 full (codes "measure" ∷ codes "1" ∷ []) ≡ Err cause.Limit
unfolding command_of_line names
limit = refl

limit_later : command_of_line names 2 full (codes "measure" ∷ codes "1" ∷ codes "as" ∷ codes "x-" ∷ []) ≡ Err cause.Name
unfolding command_of_line names
limit_later = refl

-- the last command that is allowed, and its place
abbrev almost_full : SoFar
almost_full = record (begun (Joined (Strand 1) (Strand 1) 2)) { commands = 4095; measured = 7 }

last_allowed : command_of_line names 2 almost_full (codes "measure" ∷ codes "1" ∷ codes "as" ∷ codes "x" ∷ [])
    ≡ Ok (with_command almost_full (Measure 1) (record { name = codes "x"; place = 7 } ∷ []))
unfolding command_of_line names
last_allowed = refl

-- Canonical texts: the site `main` with all strands has no line where it is the only one; a name stands at its own
-- measurement, and a test says the name of its place.
one_site : written names (record { version = 1; start = Joined (Strand 1) (Joined (Strand 1) (Strand 2) 1) 2; sites = site (codes "main") 1 3 (Raise 2 ∷ Braid 1 Minus ∷ []) ∷ []; outcomes = [] })
    ≡ codes "program 1\nstart (s (s p):s):p\nraise 2\nbraid 1 -\n"
unfolding written digits names
one_site = refl

part_of_strands : written names (record { version = 1; start = Joined (Strand 1) (Strand 1) 2; sites = site (codes "main") 1 1 [] ∷ []; outcomes = [] })
    ≡ codes "program 1\nstart (s s):p\nsite main 1 1\n"
unfolding written digits names
part_of_strands = refl

two_sites : written names (record { version = 2; start = Joined (Joined (Joined (Strand 1) (Strand 1) 2) (Strand 1) 1) (Strand 1) 2; sites = site (codes "A") 1 2 (Measure 1 ∷ Measure 1 ∷ []) ∷ site (codes "B") 3 4 (Measure 3 ∷ BraidWhen 3 Plus 1 2 ∷ BraidWhen 3 Minus 2 0 ∷ []) ∷ []; outcomes = record { name = codes "x"; place = 1 } ∷ record { name = codes "y_1"; place = 2 } ∷ [] })
    ≡ codes "program 2\nstart (((s s):p s):s s):p\nsite A 1 2\nmeasure 1\nmeasure 1 as x\nsite B 3 4\nmeasure 3 as y_1\nbraid 3 + when x p\nbraid 3 - when y_1 1\n"
unfolding written digits names
two_sites = refl
