-- A legal schedule is read from its text.
use Rattle.std.proofs.Common.{◌≡◌, ℕ, zero, suc, ◌+◌, ◌<◌, Bool, true, false, not, inl, inr, List, [], ◌∷◌, ◌++◌, map, length, Option, Some, None, refl, ap, sym, subst, ◌∙◌, arith, append_assoc, Result, Ok, codes}
use Rattle.std.specs.Option.{option_to_list}
use Rattle.std.specs.Prelude.{◌&&◌, ◌||◌, ◌==◌, slice_index, nat_lt, if◌then◌else◌, Err}
use Rattle.std.specs.Str.{bytes_eq}
use Rattle.std.proofs.lemmas.Slice.Eq.{bytes_eq-Decides}
use Rattle.std.proofs.lemmas.Bool.Decides.{eqb_tells}
use Rattle.std.proofs.lemmas.List.{append-nil, length-map}
use Rattle.std.specs.List.{AllByRecursion}
use Rattle.line_text.specs.Text.{Found, reading_of}
use Rattle.line_text.specs.Spelling.{ArePlainLines, IsPlainLine, counted, spelled}
use Rattle.line_text.proofs.SpellingLemmas.{found_again, words_again}
use Rattle.fusion_rules.specs.Names.{all_name_bytes, is_name, is_name_byte}
use Rattle.fusion_rules.proofs.NameLemmas.{spelled as spelled_bytes}
use Rattle.comb_laws.proofs.PathFacts.{and_true}
use Rattle.program_text.specs.Grammar.{is_apart, all_apart}
use Rattle.program_text.specs.Program.{Program, ProgramSite}
use Rattle.program_text.specs.Steps.{◌>>=◌}
use Rattle.program_text.specs.WellFormed.{AreSites}
use Rattle.program_text.specs.declared.letter.Letter.{Letter}
use Rattle.program_text.specs.declared.letter.Letter.TheVariants.{Crossing, Charge, Tested, Still}
use Rattle.program_text.proofs.WordLemmas.{name_word}
use Rattle.tree_shapes.specs.Labelled.{size}
use Rattle.run_laws.specs.Timely.{is_timely, is_known, known_after}
use Rattle.run_laws.specs.Turns.{after_turn, in_text, next_of, turns}
use Rattle.run_laws.proofs.Counts.{takes_all}
use Rattle.run_laws.proofs.Exchanges.{TakesAll}
use Rattle.site_schedule.specs.declared.fault.ScheduleFault.{ScheduleFault}
use Rattle.site_schedule.specs.declared.fault.ScheduleFault.TheVariants as fault
use Rattle.site_schedule.specs.Legal.{IsWellFormed, letters_in}
use Rattle.site_schedule.specs.Queues.{first_left, left_behind}
use Rattle.site_schedule.specs.Reading.{Said, Word, behind_header, known_behind, may_follow, said_in, schedule_of, site_from, turn_of, turn_with, turns_on, whole, whole_by}
use Rattle.site_schedule.specs.Spelled.{SchedulesAgain, name_of_site, schedule_lines}
use Rattle.site_schedule.proofs.BehindLemmas.{length_sites}
use Rattle.run_laws.specs.Programs.{commands_of}
use Rattle.site_schedule.proofs.TurnLemmas.{known_next, left_more}

-- Names of sites differ, so each is found.

apart_among : (site earlier : ProgramSite) (xs ys : List ProgramSite) → all_apart site.name site.first site.last (xs ++ earlier ∷ ys) ≡ true → is_apart site.name site.first site.last earlier ≡ true
apart_among site earlier [] ys h = (and_true (is_apart site.name site.first site.last earlier) (all_apart site.name site.first site.last ys) h).0
apart_among site earlier (x ∷ xs) ys h =
    apart_among site earlier xs ys (and_true (is_apart site.name site.first site.last x) (all_apart site.name site.first site.last (xs ++ earlier ∷ ys)) h).1

not_true : (b : Bool) → not b ≡ true → b ≡ false
not_true true e = absurd (cc)
not_true false e = refl

other_name : (site earlier : ProgramSite) → is_apart site.name site.first site.last earlier ≡ true → bytes_eq earlier.name site.name ≡ false
other_name site earlier h = not_true (bytes_eq earlier.name site.name) (and_true (not (bytes_eq earlier.name site.name)) (nat_lt site.last earlier.first || nat_lt earlier.last site.first) h).0

later_name : (n : ℕ) (earlier : ProgramSite) (xs ys sites : List ProgramSite) → AreSites n (xs ++ earlier ∷ ys) sites → (i : ℕ) → i < length sites → bytes_eq earlier.name (name_of_site sites i) ≡ false
later_name n earlier xs ys [] are i h = absurd (omega arith)
later_name n earlier xs ys (site ∷ sites) are zero h = other_name site earlier (apart_among site earlier xs ys are.1)
later_name n earlier xs ys (site ∷ sites) are (suc i) h =
    later_name n earlier xs (ys ++ site ∷ []) sites (subst (λ (b : List ProgramSite). AreSites n b sites) (append_assoc xs (earlier ∷ ys) (site ∷ [])) are.2) i (omega arith)

name_found : (n number : ℕ) (before sites : List ProgramSite) → AreSites n before sites → (i : ℕ) → i < length sites → site_from number sites (name_of_site sites i) ≡ Some (number + i)
name_found n number before [] are i h = absurd (omega arith)
name_found n number before (site ∷ sites) are zero h =
    ap (λ (b : Bool). if b then Some number else site_from (number + 1) sites site.name) ((bytes_eq-Decides site.name site.name).1 refl) ∙ ap Some (let e : number ≡ number + 0 = omega arith in e)
name_found n number before (site ∷ sites) are (suc i) h =
    ap (λ (b : Bool). if b then Some number else site_from (number + 1) sites (name_of_site sites i)) (later_name n site before [] sites are.2 i (omega arith))
    ∙ name_found n (number + 1) (before ++ site ∷ []) sites are.2 i (omega arith) ∙ ap Some (let e : (number + 1) + i ≡ number + suc i = omega arith in e)

name_spelled : (n : ℕ) (before sites : List ProgramSite) → AreSites n before sites → (i : ℕ) → i < length sites → is_name (name_of_site sites i) ≡ true
name_spelled n before [] are i h = absurd (omega arith)
name_spelled n before (site ∷ sites) are zero h = are.0.name
name_spelled n before (site ∷ sites) are (suc i) h = name_spelled n (before ++ site ∷ []) sites are.2 i (omega arith)

-- A turn is taken.

some_site : {A : Type 0} (i : ℕ) (sites : List (List A)) (a : A) → next_of i sites ≡ Some a → i < length sites
some_site i [] a e = absurd (cc)
some_site zero (cs ∷ sites) a e = omega arith
some_site (suc i) (cs ∷ sites) a e = (let more = some_site i sites a e in omega arith)

first_follows : (known : List ℕ) (l : Letter) (ls : List Letter) → is_timely known (l ∷ ls) ≡ true → (may_follow known l ≡ true) × (is_timely (known_after known (l ∷ [])) ls ≡ true)
first_follows known (Crossing k sign) ls h = (refl, h)
first_follows known (Charge k place) ls h = (refl, h)
first_follows known (Tested k sign place label) ls h =
    let both = and_true (is_known known place) (is_timely known ls) h in
    (ap (λ b. b && true) both.0, both.1)
first_follows known (Still k) ls h = (refl, h)

turn_taken : (sites : List (List Letter)) (before : List ℕ) (site : ℕ) (l : Letter) (o : Option ℕ) → o ≡ Some site → next_of site (left_behind sites before) ≡ Some l → may_follow (known_behind sites before) l ≡ true → turn_of sites before o ≡ Ok site
turn_taken sites before site l o named next follows =
    ap (turn_of sites before) named ∙ ap (turn_with sites before site) next ∙ ap (λ (b : Bool). if b then Ok site else Err (fault.Early (length before + 1))) follows

length_after : {A : Type 0} (i : ℕ) (sites : List (List A)) → length (after_turn i sites) ≡ length sites
length_after i [] = refl
length_after zero ([] ∷ sites) = refl
length_after zero ((a ∷ cs) ∷ sites) = refl
length_after (suc i) (cs ∷ sites) = ap suc (length_after i sites)

abbrev names_said : Program → List ℕ → List Said
names_said p schedule = map (λ i. Word (name_of_site p.sites i)) schedule

module _ (p : Program) (is : IsWellFormed p) where
  all_taken : (before rest : List ℕ) → length (left_behind (letters_in p) before) ≡ length p.sites → TakesAll (left_behind (letters_in p) before) rest
      → is_timely (known_behind (letters_in p) before) (turns (left_behind (letters_in p) before) rest) ≡ true → turns_on p before (names_said p rest) ≡ Ok (before ++ rest)
  all_taken before [] count takes timely = ap Ok (sym (append-nil before))
  all_taken before (i ∷ rest) count takes timely =
      let l = takes.0.0 in
      let next : next_of i (left_behind (letters_in p) before) ≡ Some l = takes.0.1 in
      let low = some_site i (left_behind (letters_in p) before) l next in
      let below : i < length p.sites = omega (arith, low, count) in
      let found = name_found (size p.start) 0 [] p.sites is.program.sites i below in
      let here : is_timely (known_behind (letters_in p) before) (l ∷ turns (after_turn i (left_behind (letters_in p) before)) rest) ≡ true =
      ap (λ (o : Option Letter). is_timely (known_behind (letters_in p) before) (option_to_list o ++ turns (after_turn i (left_behind (letters_in p) before)) rest)) (sym next) ∙ timely in
      let two = first_follows (known_behind (letters_in p) before) l (turns (after_turn i (left_behind (letters_in p) before)) rest) here in
      let taken = turn_taken (letters_in p) before i l (site_from 0 p.sites (name_of_site p.sites i)) (found ∙ ap Some (let e : 0 + i ≡ i = omega arith in e)) next two.0 in
      let left = left_more (letters_in p) before i in
      ap (λ (r : Result ℕ ScheduleFault). (r >>= λ (site : ℕ). Ok (before ++ site ∷ [])) >>= λ (next : List ℕ). turns_on p next (names_said p rest)) taken
      ∙ all_taken (before ++ i ∷ []) rest
      (ap length left ∙ length_after i (left_behind (letters_in p) before) ∙ count)
      (subst (λ (s : List (List Letter)). TakesAll s rest) (sym left) takes.1)
      (ap (λ (s : List (List Letter)). is_timely (known_behind (letters_in p) (before ++ i ∷ [])) (turns s rest)) left
      ∙ ap (λ (k : List ℕ). is_timely k (turns (after_turn i (left_behind (letters_in p) before)) rest)) (known_next (letters_in p) before i l next) ∙ two.1)
      ∙ ap Ok (append_assoc before (i ∷ []) rest)

-- The lines of the text.

not_comment : (name : List ℕ) → is_name name ≡ true → (slice_index name 0 == 35) ≡ false
not_comment [] e = refl
not_comment (c ∷ cs) e = by (is_name_byte c) refl (spelled_bytes (c ∷ cs) e).0
  where
    differs : (c == 35) ≡ true → is_name_byte c ≡ true → ⊥
    differs same name = elim (eqb_tells c 35) [ inl y ↦ (let h : is_name_byte 35 ≡ true = ap is_name_byte (sym y.1) ∙ name in cc) | inr n ↦ (let h = n.0 in cc) ]

    by : (b : Bool) → is_name_byte c ≡ b → (if b then all_name_bytes cs else false) ≡ true → (c == 35) ≡ false
    by true is h = elim (eqb_tells c 35) [ inl y ↦ absurd (differs y.0 is) | inr n ↦ n.0 ]
    by false is h = absurd (cc)

name_line : (name : List ℕ) → is_name name ≡ true → IsPlainLine (name ∷ [])
name_line name is =
    let word = name_word name is in record {
      plain = ap (λ b. b && true) word.plain;
      counts = not_comment name is;
      short = (let short = word.short in omega arith);
    }

header_line : IsPlainLine (codes "schedule" ∷ codes "1" ∷ [])
header_line = record { plain = refl; counts = refl; short = omega arith }

takes_below : {A : Type 0} (n : ℕ) (sites : List (List A)) (schedule : List ℕ) → length sites ≡ n → TakesAll sites schedule → AllByRecursion (λ i. i < n) schedule
takes_below n sites [] count takes = tt
takes_below n sites (i ∷ rest) count takes =
    let low = some_site i sites takes.0.0 takes.0.1 in
    (omega (arith, low, count), takes_below n (after_turn i sites) rest (length_after i sites ∙ count) takes.1)

takes_none : {A : Type 0} (sites : List (List A)) (schedule : List ℕ) → TakesAll sites schedule → in_text (left_behind sites schedule) ≡ []
takes_none sites [] takes = takes
takes_none sites (i ∷ rest) takes = takes_none (after_turn i sites) rest takes.1

none_first : {A : Type 0} (number : ℕ) (sites : List (List A)) → in_text sites ≡ [] → first_left number sites ≡ None
none_first number [] e = refl
none_first number ([] ∷ sites) e = none_first (number + 1) sites e
none_first number ((c ∷ cs) ∷ sites) e = absurd (cc)

module _ (p : Program) (is : IsWellFormed p) where
  lines_plain : (schedule : List ℕ) → AllByRecursion (λ i. i < length p.sites) schedule → ArePlainLines (map (λ i. name_of_site p.sites i ∷ []) schedule)
  lines_plain [] below = tt
  lines_plain (i ∷ rest) below = (name_line (name_of_site p.sites i) (name_spelled (size p.start) [] p.sites is.program.sites i below.0), lines_plain rest below.1)

  said_again : (number : ℕ) (schedule : List ℕ) → AllByRecursion (λ i. i < length p.sites) schedule → said_in (counted number (map (λ i. name_of_site p.sites i ∷ []) schedule)) ≡ names_said p schedule
  said_again number [] below = refl
  said_again number (i ∷ rest) below =
      let line = name_line (name_of_site p.sites i) (name_spelled (size p.start) [] p.sites is.program.sites i below.0) in
      ap (λ (ws : List (List ℕ)). map Word ws ++ said_in (counted (number + 1) (map (λ j. name_of_site p.sites j ∷ []) rest))) (words_again (name_of_site p.sites i ∷ []) line.plain)
      ∙ ap (λ (l : List Said). Word (name_of_site p.sites i) ∷ l) (said_again (number + 1) rest below.1)

pub schedules_again : SchedulesAgain
unfolding schedule_of
schedules_again p schedule is legal =
    let takes = takes_all schedule (letters_in p) legal.whole in
    let count : length (letters_in p) ≡ length p.sites = length_sites 0 (commands_of p.sites) ∙ length-map p.sites (λ site. site.commands) in
    let below = takes_below (length p.sites) (letters_in p) schedule count takes in
    let text = spelled (schedule_lines p schedule) in
    let found = found_again 0 (schedule_lines p schedule) (header_line, lines_plain p is schedule below) in
    let read = all_taken p is [] schedule count takes legal.timely in
    let end = none_first 0 (left_behind (letters_in p) schedule) (takes_none (letters_in p) schedule takes) in
    ap (λ (f : List Found). behind_header (reading_of 0 text).count f >>= λ (body : List Found). turns_on p [] (said_in body) >>= λ (turns : List ℕ). whole p turns) found
    ∙ ap (λ (said : List Said). turns_on p [] said >>= λ (turns : List ℕ). whole p turns) (said_again p is 1 schedule below)
    ∙ ap (λ (r : Result (List ℕ) ScheduleFault). r >>= λ (turns : List ℕ). whole p turns) read
    ∙ ap (whole_by schedule) end
