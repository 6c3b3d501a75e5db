-- What is read is well formed: line after line.
use Rattle.std.proofs.Common.{◌≡◌, ◌⊎◌, inl, inr, ℕ, ◌+◌, ◌<◌, ◌≤◌, List, [], ◌∷◌, ◌++◌, Bool, true, false, not, ◌&&◌, ◌||◌, ◌==◌, length, refl, sym, ap, subst, ◌∙◌, arith, if◌then◌else◌, Option, Some, None, Result, Ok, Err, codes}
use Rattle.std.specs.Prelude.{nat_le, nat_lt, IfOk}
use Rattle.std.specs.Str.{bytes_eq}
use Rattle.std.proofs.lemmas.Bool.Decides.{nat_tests}
use Rattle.std.proofs.lemmas.List.{length-append, append-nil, append_assoc}
use Rattle.std.proofs.lemmas.List.Edits.{length-swap}
use Rattle.line_text.specs.Text.{Found, Counted, Faulty, reading_of, words_of, word_in, has_word}
use Rattle.line_text.specs.Plain.{plain_number_of}
use Rattle.fusion_rules.specs.Names.{is_name, label_of}
use Rattle.fusion_rules.proofs.FoundLemmas.{label_below}
use Rattle.tree_shapes.specs.Labelled.{Labelled, Strand, Joined, leaves, size}
use Rattle.tree_shapes.specs.declared.limits.TheConstants.{STRAND_LIMIT}
use Rattle.program_text.specs.declared.fault.ProgramCause.{ProgramCause}
use Rattle.program_text.specs.declared.fault.ProgramCause.TheVariants as cause
use Rattle.program_text.specs.declared.form.TheConstants.{COMMAND_LIMIT}
use Rattle.program_text.specs.declared.line_form.LineForm.{LineForm}
use Rattle.program_text.specs.declared.line_form.LineForm.TheVariants as form
use Rattle.program_text.specs.declared.plan.Sign.{Sign}
use Rattle.program_text.specs.declared.plan.Command.{Command}
use Rattle.program_text.specs.declared.plan.Command.TheVariants.{Braid, Raise, Measure, BraidWhen}
use Rattle.program_text.specs.Form.{labels_below}
use Rattle.program_text.specs.Gaps.{bad_gap}
use Rattle.program_text.specs.Letters.{measurements, outcomes_of}
use Rattle.program_text.specs.Program.{Program, ProgramOutcome, ProgramSite, program_of}
use Rattle.program_text.specs.declared.plan.Plan.{Plan}
use Rattle.program_text.specs.declared.fault.ProgramFault.{ProgramFault}
use Rattle.program_text.specs.Answers.{Told}
use Rattle.program_text.specs.Steps.{Fault, ◌>>=◌, on_line, unless}
use Rattle.program_text.specs.Grammar.{SoFar, all_apart, are_alike, are_among, begun, body_of, braid_form, command_by, command_of_line, empty_site, form_of, given_by, has_names, head_of, is_given, is_inside, line_of, may_begin, measure_form, or_else, outcomes_with, place_of, program_in, program_said, raise_form, required, sign_in, site_of_line, sites_given, start_of, strands_behind, tree_in, version_of, with_command, with_site, admitted}
use Rattle.program_text.specs.WellFormed.{AreOutcomes, AreSites, AreTold, IsAdmittedStart, IsGapOf, IsProgram, IsSite, IsTest, IsTold, commands_in, strands_under}
use Rattle.program_text.proofs.GapLemmas.{none_good}
use Rattle.program_text.proofs.KeptLemmas.{all_push, sites_push, sites_last, commands_push, measurements_push, strands_push, outcomes_push, outcomes_more, places_below, found_at, told_push, told_more}
use Rattle.program_text.proofs.WordLemmas.{both}

-- Steps that were passed.

pub passed : {B : Type 0} (b : Bool) (c : ProgramCause) (rest : Result B ProgramCause) (x : B) → (unless b c >>= λ (u : Unit). rest) ≡ Ok x → (b ≡ true) × (rest ≡ Ok x)
passed true c rest x e = (refl, e)
passed false c rest x e = absurd (cc)

pub got : {A B E : Type 0} (r : Result A E) (next : A → Result B E) (y : B) → (r >>= next) ≡ Ok y → (x : A) × (r ≡ Ok x) × (next x ≡ Ok y)
got (Ok x) next y e = (x, refl, e)
got (Err c) next y e = absurd (cc)

some_of : (o : Option ℕ) (c : ProgramCause) (n : ℕ) → or_else o c ≡ Ok n → o ≡ Some n
some_of None c n e = absurd (cc)
some_of (Some m) c n e = cc

-- What holds of the lines so far, over a start.
pub record IsKept (version count : ℕ) (start : Labelled) (s : SoFar) : Type 0 where
  pub first : s.has_site ≡ false → s.earlier ≡ []
  pub sites : AreSites (size start) [] (s.earlier ++ s.current ∷ [])
  pub counted : s.commands ≡ length (commands_in (s.earlier ++ s.current ∷ []))
  pub few : s.commands ≤ COMMAND_LIMIT
  pub measured : s.measured ≡ measurements (commands_in (s.earlier ++ s.current ∷ []))
  pub strands : s.strands ≡ strands_under (leaves start) (commands_in (s.earlier ++ s.current ∷ []))
  pub long : length s.strands ≡ size start
  pub outcomes : AreOutcomes s.measured [] s.outcomes
  pub tests : AreTold version count s.outcomes (leaves start) [] (commands_in (s.earlier ++ s.current ∷ []))
  pub first_version : version ≡ 1 → s.outcomes ≡ []

pub length-leaves : (t : Labelled) → length (leaves t) ≡ size t
length-leaves (Strand a) = refl
length-leaves (Joined l r q) = length-append (leaves l) (leaves r) ∙ (λ j. length-leaves l j + length-leaves r j)

pub begun_kept : (version count : ℕ) (start : Labelled) → 2 ≤ size start → IsKept version count start (begun start)
begun_kept version count start some = record {
  first = λ e. refl;
  sites = (record { name = refl; some = omega arith; order = omega arith; inside = omega arith; gaps = tt }, refl, tt);
  counted = refl;
  few = omega arith;
  measured = refl;
  strands = refl;
  long = length-leaves start;
  outcomes = tt;
  tests = tt;
  first_version = λ e. refl;
}

-- A site line.

none_of : (cs : List Command) → 0 ≡ length cs → cs ≡ []
none_of [] e = refl
none_of (c ∷ cs) e = absurd (omega arith)

module _ (version count : ℕ) (start : Labelled) where
  -- the sites with lines are sites, and have all commands
  pub record AreGiven (s : SoFar) (given : List ProgramSite) : Type 0 where
    pub sites : AreSites (size start) [] given
    pub commands : commands_in given ≡ commands_in (s.earlier ++ s.current ∷ [])

  given_kept : (s : SoFar) → IsKept version count start s → may_begin s ≡ true → AreGiven s (sites_given s)
  given_kept s kept may = by_has s.has_site refl may
    where
      by_has : (has : Bool) → s.has_site ≡ has → (has || s.commands == 0) ≡ true → AreGiven s (given_by has s.earlier s.current)
      by_has true e may = record { sites = kept.sites; commands = refl }
      by_has false e may =
          let none = kept.first e in
          let empty : commands_in (s.earlier ++ s.current ∷ []) ≡ [] = none_of (commands_in (s.earlier ++ s.current ∷ [])) (let n = kept.counted in grind (arith, nat_tests)) in
          record {
            sites = subst (AreSites (size start) []) (sym none) tt;
            commands = ap commands_in none ∙ sym empty;
          }

  site_with : (s : SoFar) (site : ProgramSite) → IsKept version count start s → may_begin s ≡ true → site.commands ≡ [] → IsSite (size start) site → all_apart site.name site.first site.last (sites_given s) ≡ true
      → IsKept version count start (with_site s site)
  site_with s site kept may none is apart =
      let given = given_kept s kept may in
      let same : commands_in (sites_given s ++ site ∷ []) ≡ commands_in (s.earlier ++ s.current ∷ []) =
      commands_push (sites_given s) site ∙ ap (λ cs. commands_in (sites_given s) ++ cs) none ∙ append-nil (commands_in (sites_given s)) ∙ given.commands in
      record {
        first = λ e. absurd (cc);
        sites = sites_push (size start) [] (sites_given s) site given.sites is apart;
        counted = kept.counted ∙ ap length (sym same);
        few = kept.few;
        measured = kept.measured ∙ ap measurements (sym same);
        strands = kept.strands ∙ ap (strands_under (leaves start)) (sym same);
        long = kept.long;
        outcomes = kept.outcomes;
        tests = subst (AreTold version count s.outcomes (leaves start) []) (sym same) kept.tests;
        first_version = kept.first_version;
      }

  among_is : (first last n : ℕ) → are_among first last n ≡ true → (1 ≤ first) × (first ≤ last) × (last ≤ n)
  among_is first last n e = (grind (arith, nat_tests), grind (arith, nat_tests), grind (arith, nat_tests))

  pub site_kept : (s next : SoFar) (words : List (List ℕ)) → IsKept version count start s → site_of_line s words ≡ Ok next → IsKept version count start next
  unfolding site_of_line
  site_kept s next words kept e =
      let name = word_in words 1 in
      let counted = passed (length words == 4) cause.Site _ next e in
      let named = passed (is_name name) cause.Site _ next counted.1 in
      let first = got (or_else (plain_number_of (word_in words 2)) cause.Site) _ next named.1 in
      let last = got (or_else (plain_number_of (word_in words 3)) cause.Site) _ next first.2 in
      let among = passed (are_among first.0 last.0 (length s.strands)) cause.Site _ next last.2 in
      let apart = passed (all_apart name first.0 last.0 (sites_given s)) cause.Site _ next among.1 in
      let may = passed (may_begin s) cause.Site _ next apart.1 in
      let places = among_is first.0 last.0 (length s.strands) among.0 in
      let long = kept.long in
      let site = empty_site name first.0 last.0 in
      let is : IsSite (size start) site = record { name = named.0; some = places.0; order = places.1; inside = let h = places.2 in omega arith; gaps = tt } in
      let same : with_site s site ≡ next = cc (may.1) in
      subst (IsKept version count start) same (site_with s site kept may.0 refl is apart.0)

-- A command line.

abbrev pub Allowed : ℕ → LineForm → Type 0
Allowed version (form.Braid sign) = Unit {0}
Allowed version form.Raise = Unit {0}
Allowed version form.Measure = Unit {0}
Allowed version form.MeasureAs = 2 ≤ version
Allowed version (form.BraidWhen sign) = 2 ≤ version

ok_is : {A E : Type 0} (x y : A) → ◌≡◌ {A = Result A E} (Ok x) (Ok y) → x ≡ y
ok_is x y e = cc

form_allowed : (version : ℕ) (words : List (List ℕ)) (kind : LineForm) → form_of version words ≡ Ok kind → Allowed version kind
form_allowed version words kind e = by_words (has_word words 0 (codes "braid")) (has_word words 0 (codes "raise")) (has_word words 0 (codes "measure")) e
  where
    second : has_names version ≡ true → 2 ≤ version
    second h = grind (arith, nat_tests)

    braid_by : (sign : Sign) (three names rest : Bool) → has_names version ≡ names → (if three then Ok (form.Braid sign) else (if names && rest then Ok (form.BraidWhen sign) else Err cause.Command)) ≡ Ok kind → Allowed version kind
    braid_by sign true names rest h e = subst (Allowed version) (ok_is {E = ProgramCause} (form.Braid sign) kind e) tt
    braid_by sign false true true h e = subst (Allowed version) (ok_is {E = ProgramCause} (form.BraidWhen sign) kind e) (second h)
    braid_by sign false true false h e = absurd (cc)
    braid_by sign false false rest h e = absurd (cc)

    measure_by : (two names rest : Bool) → has_names version ≡ names → (if two then Ok form.Measure else (if names && rest then Ok form.MeasureAs else Err cause.Command)) ≡ Ok kind → Allowed version kind
    measure_by true names rest h e = subst (Allowed version) (ok_is {E = ProgramCause} form.Measure kind e) tt
    measure_by false true true h e = subst (Allowed version) (ok_is {E = ProgramCause} form.MeasureAs kind e) (second h)
    measure_by false true false h e = absurd (cc)
    measure_by false false rest h e = absurd (cc)

    raise_by : (two : Bool) → (if two then Ok form.Raise else Err cause.Command) ≡ Ok kind → Allowed version kind
    raise_by true e = subst (Allowed version) (ok_is {E = ProgramCause} form.Raise kind e) tt
    raise_by false e = absurd (cc)

    by_words : (braid raise measure : Bool)
        → (if braid then sign_in (word_in words 2) >>= braid_form version words else (if raise then raise_form words else (if measure then measure_form version words else Err cause.Command))) ≡ Ok kind → Allowed version kind
    by_words true raise measure e =
        let sign = got (sign_in (word_in words 2)) (braid_form version words) kind e in
        braid_by sign.0 (length words == 3) (has_names version) (length words == 6 && has_word words 3 (codes "when")) refl sign.2
    by_words false true measure e = raise_by (length words == 2) e
    by_words false false true e = measure_by (length words == 2) (has_names version) (length words == 4 && has_word words 2 (codes "as")) refl e
    by_words false false false e = absurd (cc)

pub long_behind : (strands : List ℕ) (c : Command) → length (strands_behind strands c) ≡ length strands
long_behind strands (Braid k sign) = length-swap strands _ _
long_behind strands (Raise k) = refl
long_behind strands (Measure k) = refl
long_behind strands (BraidWhen k sign place label) = refl

module _ (version count : ℕ) (start : Labelled) where
  abbrev pub all_of : SoFar → List Command
  all_of s = commands_in (s.earlier ++ s.current ∷ [])

  -- What a command has to be, with the outcomes that are named behind it.
  pub record IsAdded (s : SoFar) (command : Command) (outcomes : List ProgramOutcome) : Type 0 where
    pub gap : IsGapOf s.current command
    pub room : s.commands < COMMAND_LIMIT
    pub told : IsTold version count outcomes (leaves start) (all_of s) command
    pub before : AreTold version count outcomes (leaves start) [] (all_of s)
    pub named : AreOutcomes (s.measured + outcomes_of command) [] outcomes
    pub first_version : version ≡ 1 → outcomes ≡ []

  command_with : (s : SoFar) (command : Command) (outcomes : List ProgramOutcome) → IsKept version count start s → IsAdded s command outcomes → IsKept version count start (with_command s command outcomes)
  command_with s command outcomes kept added =
      let site = record s.current { commands = s.current.commands ++ command ∷ [] } in
      let all = all_of s in
      let more : commands_in (s.earlier ++ site ∷ []) ≡ all ++ command ∷ [] =
      commands_push s.earlier site ∙ sym (append_assoc (commands_in s.earlier) s.current.commands (command ∷ [])) ∙ ap (λ cs. cs ++ command ∷ []) (sym (commands_push s.earlier s.current)) in
      let last = sites_last (size start) [] s.earlier s.current kept.sites in
      let is : IsSite (size start) site = record {
        name = last.is.name;
        some = last.is.some;
        order = last.is.order;
        inside = last.is.inside;
        gaps = all_push (IsGapOf s.current) s.current.commands command last.is.gaps added.gap;
      } in
      record {
        first = kept.first;
        sites = sites_push (size start) [] s.earlier site last.are is last.apart;
        counted = (let n = kept.counted in let m = length-append all (command ∷ []) in omega arith) ∙ ap length (sym more);
        few = let r = added.room in omega arith;
        measured = ap (λ n. n + outcomes_of command) kept.measured ∙ sym (measurements_push all command) ∙ ap measurements (sym more);
        strands = ap (λ ss. strands_behind ss command) kept.strands ∙ sym (strands_push (leaves start) all command) ∙ ap (strands_under (leaves start)) (sym more);
        long = long_behind s.strands command ∙ kept.long;
        outcomes = added.named;
        tests = subst (AreTold version count outcomes (leaves start) []) (sym more) (told_push version count (leaves start) outcomes [] all command added.before added.told);
        first_version = added.first_version;
      }

  -- a command that names nothing, and has no test
  plain_added : (s : SoFar) (command : Command) → IsKept version count start s → IsGapOf s.current command → s.commands < COMMAND_LIMIT → IsTold version count s.outcomes (leaves start) (all_of s) command → IsAdded s command s.outcomes
  plain_added s command kept gap room told = record {
    gap = gap;
    room = room;
    told = told;
    before = kept.tests;
    named = outcomes_more s.measured (s.measured + outcomes_of command) [] s.outcomes (omega arith) kept.outcomes;
    first_version = kept.first_version;
  }

  named_added : (s : SoFar) (gap : ℕ) (name : List ℕ) → IsKept version count start s → 2 ≤ version → IsGapOf s.current (Measure gap) → s.commands < COMMAND_LIMIT → (is_name name && not (is_given s.outcomes name)) ≡ true
      → IsAdded s (Measure gap) (s.outcomes ++ record { name = name; place = s.measured } ∷ [])
  named_added s gap name kept second inside room new =
      let tests = both (is_name name) (not (is_given s.outcomes name)) new in
      record {
        gap = inside;
        room = room;
        told = tt;
        before = told_more version count (leaves start) s.outcomes (record { name = name; place = s.measured }) [] (all_of s) kept.tests;
        named = outcomes_push (s.measured + 1) [] s.outcomes (record { name = name; place = s.measured }) (outcomes_more s.measured (s.measured + 1) [] s.outcomes (omega arith) kept.outcomes)
            (tests.0, not_true (is_given s.outcomes name) tests.1, places_below s.measured [] s.outcomes kept.outcomes, omega arith, tt);
        first_version = λ e. absurd (omega arith);
      }
    where
      not_true : (b : Bool) → not b ≡ true → b ≡ false
      not_true true e = absurd (cc)
      not_true false e = refl

module _ (names : List (List ℕ)) (version : ℕ) (start : Labelled) where
  inside_is : (site : ProgramSite) (gap : ℕ) → is_inside site gap ≡ true → (site.first ≤ gap) × (gap < site.last)
  inside_is site gap e = (grind (arith, nat_tests), grind (arith, nat_tests))

  room_is : (n : ℕ) → nat_lt n COMMAND_LIMIT ≡ true → n < COMMAND_LIMIT
  room_is n e = grind (arith, nat_tests)

  added : (s : SoFar) (words : List (List ℕ)) (gap : ℕ) (kind : LineForm) (command : Command) → IsKept version (length names) start s → Allowed version kind → (s.current.first ≤ gap) × (gap < s.current.last) → s.commands < COMMAND_LIMIT
      → command_by names s words gap kind ≡ Ok command → IsAdded version (length names) start s command (outcomes_with s words kind)
  added s words gap (form.Braid sign) command kept allowed inside room e =
      subst (λ (c : Command). IsAdded version (length names) start s c s.outcomes) (ok_is {E = ProgramCause} (Braid gap sign) command e) (plain_added version (length names) start s (Braid gap sign) kept inside room tt)
  added s words gap form.Raise command kept allowed inside room e =
      subst (λ (c : Command). IsAdded version (length names) start s c s.outcomes) (ok_is {E = ProgramCause} (Raise gap) command e) (plain_added version (length names) start s (Raise gap) kept inside room tt)
  added s words gap form.Measure command kept allowed inside room e =
      subst (λ (c : Command). IsAdded version (length names) start s c s.outcomes) (ok_is {E = ProgramCause} (Measure gap) command e) (plain_added version (length names) start s (Measure gap) kept inside room tt)
  added s words gap form.MeasureAs command kept allowed inside room e =
      let new = passed (is_name (word_in words 3) && not (is_given s.outcomes (word_in words 3))) cause.Name (Ok (Measure gap)) command e in
      subst (λ (c : Command). IsAdded version (length names) start s c (outcomes_with s words form.MeasureAs)) (ok_is {E = ProgramCause} (Measure gap) command new.1)
      (named_added version (length names) start s gap (word_in words 3) kept allowed inside room new.0)
  added s words gap (form.BraidWhen sign) command kept allowed inside room e =
      let place = got (or_else (place_of s.outcomes (word_in words 4)) cause.Unnamed) _ command e in
      let label = got (or_else (label_of names (word_in words 5)) cause.UnknownLabel) _ command place.2 in
      let alike = passed (are_alike s.strands gap) cause.Unlike (Ok (BraidWhen gap sign place.0 label.0)) command label.2 in
      let found = found_at s.measured s.outcomes (word_in words 4) place.0 (places_below s.measured [] s.outcomes kept.outcomes) (some_of (place_of s.outcomes (word_in words 4)) cause.Unnamed place.0 place.1) in
      let known = label_below names (word_in words 5) label.0 (some_of (label_of names (word_in words 5)) cause.UnknownLabel label.0 label.1) in
      let test : IsTest version (length names) s.outcomes (leaves start) (all_of version (length names) start s) gap place.0 label.0 = record {
        second = allowed;
        known = known;
        named = found.named;
        earlier = subst (λ (n : ℕ). place.0 < n) kept.measured found.below;
        alike = ap (λ ss. are_alike ss gap) (sym kept.strands) ∙ alike.0;
      } in
      subst (λ (c : Command). IsAdded version (length names) start s c s.outcomes) (ok_is {E = ProgramCause} (BraidWhen gap sign place.0 label.0) command alike.1)
      (plain_added version (length names) start s (BraidWhen gap sign place.0 label.0) kept inside room test)

  command_kept : (s next : SoFar) (words : List (List ℕ)) → IsKept version (length names) start s → command_of_line names version s words ≡ Ok next → IsKept version (length names) start next
  unfolding command_of_line
  command_kept s next words kept e =
      let kind = got (form_of version words) _ next e in
      let gap = got (or_else (plain_number_of (word_in words 1)) cause.Command) _ next kind.2 in
      let inside = passed (is_inside s.current gap.0) cause.Gap _ next gap.2 in
      let command = got (command_by names s words gap.0 kind.0) _ next inside.1 in
      let room = passed (nat_lt s.commands COMMAND_LIMIT) cause.Limit _ next command.2 in
      subst (IsKept version (length names) start) (ok_is {E = ProgramCause} (with_command s command.0 (outcomes_with s words kind.0)) next room.1)
      (command_with version (length names) start s command.0 (outcomes_with s words kind.0) kept
      (added s words gap.0 kind.0 command.0 kept (form_allowed version words kind.0 kind.1) (inside_is s.current gap.0 inside.0) (room_is s.commands room.0) command.1))

  line_kept : (s next : SoFar) (words : List (List ℕ)) → IsKept version (length names) start s → line_of names version s words ≡ Ok next → IsKept version (length names) start next
  line_kept s next words kept e = by_word (has_word words 0 (codes "site")) e
    where
      by_word : (b : Bool) → (if b then site_of_line s words else command_of_line names version s words) ≡ Ok next → IsKept version (length names) start next
      by_word true e = site_kept version (length names) start s next words kept e
      by_word false e = command_kept s next words kept e

  lined : {A : Type 0} (number : ℕ) (r : Result A ProgramCause) (x : A) → on_line number r ≡ Ok x → r ≡ Ok x
  lined number (Ok y) x e = ap Ok (ok_is {E = Fault} y x e)
  lined number (Err c) x e = absurd (cc)

  pub body_kept : (s whole : SoFar) (found : List Found) → IsKept version (length names) start s → body_of names version s found ≡ Ok whole → IsKept version (length names) start whole
  body_kept s whole [] kept e = subst (IsKept version (length names) start) (ok_is {E = Fault} s whole e) kept
  body_kept s whole (Faulty number why ∷ more) kept e = absurd (cc)
  body_kept s whole (Counted number text ∷ more) kept e =
      let next = got (on_line number (line_of names version s (words_of text))) (λ (next : SoFar). body_of names version next more) whole e in
      body_kept next.0 whole more (line_kept s next.0 (words_of text) kept (lined number (line_of names version s (words_of text)) next.0 next.1)) next.2

  start_is : (fuse : ℕ → ℕ → ℕ → Bool) (words : List (List ℕ)) (t : Labelled) → start_of names fuse words ≡ Ok t → IsAdmittedStart fuse (length names) t
  unfolding start_of
  start_is fuse words t e =
      let word = passed (has_word words 0 (codes "start")) cause.Start _ t e in
      let tree = got (tree_in names words) _ t word.1 in
      let known = passed (labels_below (length names) tree.0) cause.UnknownLabel _ t tree.2 in
      let counted = passed (nat_le 2 (size tree.0) && nat_le (size tree.0) STRAND_LIMIT) cause.Strands _ t known.1 in
      by_gap tree.0 (bad_gap fuse tree.0 0) refl known.0 counted.0 counted.1
    where
      by_gap : (u : Labelled) (o : Option ℕ) → bad_gap fuse u 0 ≡ o → labels_below (length names) u ≡ true → (nat_le 2 (size u) && nat_le (size u) STRAND_LIMIT) ≡ true → admitted u o ≡ Ok t → IsAdmittedStart fuse (length names) t
      by_gap u (Some gap) g below few e = absurd (cc)
      by_gap u None g below few e =
          subst (IsAdmittedStart fuse (length names)) (ok_is {E = ProgramCause} u t e)
          (record { some = grind (arith, nat_tests); few = grind (arith, nat_tests); labels = below; admissible = none_good fuse u 0 g })

version_is : (words : List (List ℕ)) (version : ℕ) → version_of words ≡ Ok version → (version ≡ 1) ⊎ (version ≡ 2)
version_is words version e =
    let header = passed (length words == 2 && has_word words 0 (codes "program")) cause.Header _ version e in
    by_tests (bytes_eq (word_in words 1) (codes "1")) (bytes_eq (word_in words 1) (codes "2")) header.1
  where
    by_tests : (one two : Bool) → (if one then Ok 1 else (if two then Ok 2 else Err cause.Header)) ≡ Ok version → (version ≡ 1) ⊎ (version ≡ 2)
    by_tests true two e = inl (sym (ok_is {E = ProgramCause} 1 version e))
    by_tests false true e = inr (sym (ok_is {E = ProgramCause} 2 version e))
    by_tests false false e = absurd (cc)

some_sites : (earlier : List ProgramSite) (current : ProgramSite) → 0 < length (earlier ++ current ∷ [])
some_sites earlier current = let h = length-append earlier (current ∷ []) in omega arith

-- what a text says is well formed
pub well_formed : (names : List (List ℕ)) (fuse : ℕ → ℕ → ℕ → Bool) (bytes : List ℕ) (p : Program) → program_in names fuse bytes ≡ Ok p → IsProgram fuse (length names) p
unfolding program_in head_of
well_formed names fuse bytes p e =
    let head = got (head_of names fuse (reading_of 0 bytes)) _ p e in
    let whole = got (body_of names head.0.0.0 (begun head.0.0.1) head.0.1) _ p head.2 in
    let first = got (required cause.Header (reading_of 0 bytes).count (reading_of 0 bytes).ahead) _ head.0 head.1 in
    let version = got (on_line first.0.0 (version_of first.0.1.0)) _ head.0 first.2 in
    let second = got (required cause.Start (reading_of 0 bytes).count first.0.1.1) _ head.0 version.2 in
    let start = got (on_line second.0.0 (start_of names fuse second.0.1.0)) _ head.0 second.2 in
    let same : ((version.0, start.0), second.0.1.1) ≡ head.0 = ok_is {E = Fault} ((version.0, start.0), second.0.1.1) head.0 start.2 in
    let version_same : version.0 ≡ head.0.0.0 = ap (λ (h : (ℕ × Labelled) × List Found). h.0.0) same in
    let start_same : start.0 ≡ head.0.0.1 = ap (λ (h : (ℕ × Labelled) × List Found). h.0.1) same in
    let is_version = subst (λ (n : ℕ). (n ≡ 1) ⊎ (n ≡ 2)) version_same (version_is first.0.1.0 version.0 (lined names 0 (Strand 0) first.0.0 (version_of first.0.1.0) version.0 version.1)) in
    let is_start = subst (IsAdmittedStart fuse (length names)) start_same (start_is names 0 (Strand 0) fuse second.0.1.0 start.0 (lined names 0 (Strand 0) second.0.0 (start_of names fuse second.0.1.0) start.0 start.1)) in
    let kept = body_kept names head.0.0.0 head.0.0.1 (begun head.0.0.1) whole.0 head.0.1 (begun_kept head.0.0.0 (length names) head.0.0.1 is_start.some) whole.1 in
    subst (IsProgram fuse (length names)) (ok_is {E = Fault} (program_said head.0.0.0 head.0.0.1 whole.0) p whole.2)
    (record {
      version = is_version;
      start = is_start;
      some = some_sites whole.0.earlier whole.0.current;
      sites = kept.sites;
      few = subst (λ (n : ℕ). n ≤ COMMAND_LIMIT) kept.counted kept.few;
      outcomes = subst (λ (n : ℕ). AreOutcomes n [] whole.0.outcomes) kept.measured kept.outcomes;
      tests = kept.tests;
      first_version = kept.first_version;
    })

-- the same of what a call answers
pub told_well : (names : List (List ℕ)) (count : ℕ) (fuse : ℕ → ℕ → ℕ → Bool) (bytes : List ℕ) (r : Result Plan ProgramFault) → length names ≡ count → Told program_of r (program_in names fuse bytes)
    → IfOk r (λ plan. IsProgram fuse count (program_of plan))
told_well names count fuse bytes (Ok plan) counts told = subst (λ (n : ℕ). IsProgram fuse n (program_of plan)) counts (well_formed names fuse bytes (program_of plan) told)
told_well names count fuse bytes (Err fault) counts told = tt
