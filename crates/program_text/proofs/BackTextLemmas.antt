-- A written program is read again.
use Rattle.std.proofs.Common.{◌≡◌, ◌⊎◌, inl, inr, ℕ, ◌+◌, ◌^◌, ◌<◌, ◌≤◌, List, [], ◌∷◌, ◌++◌, Bool, true, false, length, refl, sym, ap, subst, ◌∙◌, arith, codes, if◌then◌else◌, Some, Result, Ok}
use Rattle.std.specs.Prelude.{nat_lt, unwrap_or}
use Rattle.std.specs.List.{AllByRecursion}
use Rattle.std.specs.Fmt.{decimal, digits}
use Rattle.std.proofs.lemmas.Bool.Decides.{nat_tests}
use Rattle.std.proofs.lemmas.List.{append-nil}
use Rattle.line_text.specs.Spelling.{counted, spaced, spelled, ArePlainLines}
use Rattle.line_text.specs.Text.{Found, Counted, reading_of, words_of}
use Rattle.line_text.proofs.SpellingLemmas.{found_again, words_again}
use Rattle.line_text.proofs.PlainWordLemmas.{plain_append}
use Rattle.fusion_rules.specs.Names.{AreNames, is_name}
use Rattle.fusion_rules.proofs.FoundLemmas.{name_at as label_name}
use Rattle.tree_shapes.specs.Labelled.{Labelled, leaves, size}
use Rattle.program_text.specs.declared.form.TheConstants.{COMMAND_LIMIT}
use Rattle.program_text.specs.declared.plan.Command.{Command}
use Rattle.program_text.specs.declared.plan.Command.TheVariants.{Braid, Raise, Measure, BraidWhen}
use Rattle.program_text.specs.Canonical.{is_main, tree_words}
use Rattle.program_text.specs.Grammar.{SoFar, begun, body_of, head_of, program_in, program_said, start_of, version_of}
use Rattle.program_text.specs.Laws.{ProgramsAgain, ProgramsOneText}
use Rattle.program_text.specs.Letters.{measurements, outcomes_of}
use Rattle.program_text.specs.Program.{Program, ProgramOutcome, ProgramSite}
use Rattle.program_text.specs.Steps.{Fault, ◌>>=◌}
use Rattle.program_text.specs.WellFormed.{AreSites, AreTold, IsGapOf, IsProgram, IsTold, commands_in}
use Rattle.program_text.specs.Written.{body_lines, lines_from, name_at, site_words, sites_from, written}
use Rattle.program_text.proofs.AgainLemmas.{start_again}
use Rattle.program_text.proofs.FoldLemmas.{IsAt, AllWords, commands_again}
use Rattle.program_text.proofs.FormLemmas.{main_is}
use Rattle.program_text.proofs.KeptLemmas.{places_below}
use Rattle.program_text.proofs.LineLemmas.{HasWords, command_line, site_line, start_line, header_line}
use Rattle.program_text.proofs.NamedLemmas.{AreSorted, before_of, name_is, name_found, sorted}
use Rattle.program_text.proofs.SitesLemmas.{AllPlain, gaps_next, sites_again, told_first, told_rest}
use Rattle.program_text.proofs.WellLemmas.{length-leaves}

-- the outcomes before no measurement, and before all
none_first : (os : List ProgramOutcome) → before_of 0 os ≡ []
none_first [] = refl
none_first (o ∷ os) = let not : nat_lt o.place 0 ≡ false = grind (arith, nat_tests) in rw not (none_first os)

all_before : (m : ℕ) (os : List ProgramOutcome) → AllByRecursion (λ (o : ProgramOutcome). o.place < m) os → before_of m os ≡ os
all_before m [] all = refl
all_before m (o ∷ os) all =
    let below = all.0 in
    let is : nat_lt o.place m ≡ true = grind (arith, nat_tests) in
    rw is (ap (λ l. o ∷ l) (all_before m os all.1))

version_again : (version : ℕ) → (version ≡ 1) ⊎ (version ≡ 2) → version_of (codes "program" ∷ decimal version ∷ []) ≡ Ok version
unfolding digits
version_again version (inl e) = subst (λ (v : ℕ). version_of (codes "program" ∷ decimal v ∷ []) ≡ Ok v) (sym e) refl
version_again version (inr e) = subst (λ (v : ℕ). version_of (codes "program" ∷ decimal v ∷ []) ≡ Ok v) (sym e) refl

head_again : (names : List (List ℕ)) (fuse : ℕ → ℕ → ℕ → Bool) (count : ℕ) (header start : List (List ℕ)) (rest : List Found) (version : ℕ) (t : Labelled) → words_of (spaced header) ≡ header → version_of header ≡ Ok version → words_of (spaced start) ≡ start → start_of names fuse start ≡ Ok t
    → head_of names fuse (record { ahead = Counted 1 (spaced header) ∷ Counted 2 (spaced start) ∷ rest; count = count }) ≡ Ok ((version, t), rest)
unfolding head_of
head_again names fuse count header start rest version t a b c d = rw (a, b, c, d) refl

same_program : (p : Program) (whole : SoFar) → whole.earlier ++ whole.current ∷ [] ≡ p.sites → whole.outcomes ≡ p.outcomes → program_said p.version p.start whole ≡ p
same_program p whole e f = λ j. record { version = p.version; start = p.start; sites = e j; outcomes = f j }

module _ (names : List (List ℕ)) (are : AreNames names) (fuse : ℕ → ℕ → ℕ → Bool) (p : Program) (is : IsProgram fuse (length names) p) where
  n_small : size p.start < 10 ^ 9
  n_small = let few = is.start.few in omega arith

  os_sorted : AreSorted p.outcomes
  os_sorted = sorted (measurements (commands_in p.sites)) [] p.outcomes is.outcomes

  none_named : (os : List ProgramOutcome) (place : ℕ) (name : List ℕ) → os ≡ [] → name_at os place ≡ Some name → ⊥
  none_named [] place name e f = absurd (cc)
  none_named (o ∷ os) place name e f = absurd (cc)

  is_second : (place : ℕ) (name : List ℕ) → name_at p.outcomes place ≡ Some name → 2 ≤ p.version
  is_second place name e = by_version is.version
    where
      by_version : (p.version ≡ 1) ⊎ (p.version ≡ 2) → 2 ≤ p.version
      by_version (inl f) = absurd (none_named p.outcomes place name (is.first_version f) e)
      by_version (inr f) = omega arith

  -- Lines are plain.

  has_words : (place : ℕ) (front : List Command) (c : Command) → IsTold p.version (length names) p.outcomes (leaves p.start) front c → HasWords names p.outcomes place c
  has_words place front (Braid k sign) told = tt
  has_words place front (Raise k) told = tt
  has_words place front (Measure k) told = λ name e. name_is place p.outcomes name os_sorted e
  has_words place front (BraidWhen k sign tested label) told =
      let named = name_found (measurements front) tested p.outcomes os_sorted told.earlier told.named in
      (ap is_name (ap (λ o. unwrap_or o []) named.at) ∙ name_is tested p.outcomes named.name os_sorted named.at, label_name names label are.spelled told.known)

  lines_plain : (site : ProgramSite) (place : ℕ) (front cs : List Command) → site.last ≤ size p.start → AllByRecursion (IsGapOf site) cs → AreTold p.version (length names) p.outcomes (leaves p.start) front cs → ArePlainLines (lines_from names p.outcomes place cs)
  lines_plain site place front [] inside gaps told = tt
  lines_plain site place front (c ∷ cs) inside gaps told =
      let high = gaps.0.1 in
      let low = n_small in
      (command_line names p.outcomes place c (omega arith) (has_words place front c told.0), lines_plain site (place + outcomes_of c) (front ++ c ∷ []) cs inside gaps.1 told.1)

  words_plain : (place : ℕ) (cs : List Command) → ArePlainLines (lines_from names p.outcomes place cs) → AllWords names are p.version (leaves p.start) p.outcomes os_sorted is_second place cs
  words_plain place [] plain = tt
  words_plain place (c ∷ cs) plain = (plain.0.plain, words_plain (place + outcomes_of c) cs plain.1)

  -- Sites whose lines are plain.
  record ArePlain (place : ℕ) (sites : List ProgramSite) : Type 0 where
    pub lines : ArePlainLines (sites_from names p.outcomes place sites)
    pub words : AllPlain names are p.version (leaves p.start) p.outcomes os_sorted is_second (size p.start) n_small (length-leaves p.start) place sites

  sites_plain : (place : ℕ) (front : List Command) (before sites : List ProgramSite) → AreSites (size p.start) before sites → AreTold p.version (length names) p.outcomes (leaves p.start) front (commands_in sites) → ArePlain place sites
  sites_plain place front before [] are_sites told = record { lines = tt; words = tt }
  sites_plain place front before (site ∷ sites) are_sites told =
      let inside = are_sites.0.inside in
      let order = are_sites.0.order in
      let low = n_small in
      let line = site_line site are_sites.0.name (omega arith) (omega arith) in
      let first = told_first names are p.version (leaves p.start) p.outcomes os_sorted is_second (size p.start) n_small (length-leaves p.start) front site.commands (commands_in sites) told in
      let lines = lines_plain site place front site.commands inside are_sites.0.gaps first in
      let rest = sites_plain (place + measurements site.commands) (front ++ site.commands) (before ++ site ∷ []) sites are_sites.2
      (told_rest names are p.version (leaves p.start) p.outcomes os_sorted is_second (size p.start) n_small (length-leaves p.start) front site.commands (commands_in sites) told) in
      record {
        lines = plain_append (site_words site ∷ lines_from names p.outcomes place site.commands) (sites_from names p.outcomes (place + measurements site.commands) sites) (line, lines) rest.lines;
        words = (line.plain, words_plain place site.commands lines, rest.words);
      }

  -- The body.

  begun_at : IsAt names are p.version (leaves p.start) p.outcomes os_sorted is_second (begun p.start) []
  begun_at = record { outcomes = sym (none_first p.outcomes); strands = refl; commands = refl; measured = refl }

  -- What is read behind the start.
  record IsBody : Type 0 where
    pub plain : ArePlainLines (body_lines names p.outcomes (size p.start) p.sites)
    pub whole : SoFar
    pub told : body_of names p.version (begun p.start) (counted 2 (body_lines names p.outcomes (size p.start) p.sites)) ≡ Ok whole
    pub same : program_said p.version p.start whole ≡ p

  outcomes_all : (whole : SoFar) → IsAt names are p.version (leaves p.start) p.outcomes os_sorted is_second whole (commands_in p.sites) → whole.outcomes ≡ p.outcomes
  outcomes_all whole at = at.outcomes ∙ all_before (measurements (commands_in p.sites)) p.outcomes (places_below (measurements (commands_in p.sites)) [] p.outcomes is.outcomes)

  with_lines : body_lines names p.outcomes (size p.start) p.sites ≡ sites_from names p.outcomes 0 p.sites → IsBody
  with_lines e =
      let plain = sites_plain 0 [] [] p.sites is.sites is.tests in
      let read = sites_again names are p.version (leaves p.start) p.outcomes os_sorted is_second (size p.start) n_small (length-leaves p.start) (begun p.start) [] [] p.sites 2 is.some begun_at refl refl is.sites is.tests plain.words (let f = is.few in omega arith) in
      record {
        plain = subst ArePlainLines (sym e) plain.lines;
        whole = read.whole;
        told = ap (λ ls. body_of names p.version (begun p.start) (counted 2 ls)) e ∙ read.told;
        same = same_program p read.whole read.sites_are (outcomes_all read.whole read.at);
      }

  -- the one site `main` with all strands
  main_alone : (site : ProgramSite) → p.sites ≡ site ∷ [] → is_main (size p.start) site ≡ true → IsBody
  main_alone site e main =
      let lines : body_lines names p.outcomes (size p.start) p.sites ≡ lines_from names p.outcomes 0 site.commands =
      ap (body_lines names p.outcomes (size p.start)) e ∙ ap (λ b. if b then lines_from names p.outcomes 0 site.commands else sites_from names p.outcomes 0 (site ∷ [])) main in
      let shape = main_is (size p.start) site main in
      let commands : commands_in p.sites ≡ site.commands = ap commands_in e ∙ append-nil site.commands in
      let are_sites = subst (AreSites (size p.start) []) e is.sites in
      let tests = subst (AreTold p.version (length names) p.outcomes (leaves p.start) []) commands is.tests in
      let plain = lines_plain site 0 [] site.commands are_sites.0.inside are_sites.0.gaps tests in
      let few = subst (λ (cs : List Command). length cs ≤ COMMAND_LIMIT) commands is.few in
      let read = commands_again names are p.version (leaves p.start) p.outcomes os_sorted is_second (begun p.start) [] site.commands 2 [] begun_at
      (gaps_next (size p.start) site (begun p.start).current site.commands n_small are_sites.0.inside (ap (λ (s : ProgramSite). s.first) (sym shape)) (ap (λ (s : ProgramSite). s.last) (sym shape)) are_sites.0.gaps)
      (words_plain 0 site.commands plain) tests (let f = few in omega arith) in
      record {
        plain = subst ArePlainLines (sym lines) plain;
        whole = read.next;
        told = ap (λ ls. body_of names p.version (begun p.start) (counted 2 ls)) (lines ∙ sym (append-nil (lines_from names p.outcomes 0 site.commands))) ∙ read.told;
        same = same_program p read.next (ap (λ ss. ss ++ read.next.current ∷ []) read.earlier ∙ ap (λ (s : ProgramSite). s ∷ []) (read.current ∙ sym shape) ∙ sym e)
            (outcomes_all read.next (subst (λ cs. IsAt names are p.version (leaves p.start) p.outcomes os_sorted is_second read.next cs) (sym commands) read.at));
      }

  body_is : IsBody
  body_is = by_sites p.sites refl
    where
      by_main : (site : ProgramSite) (b : Bool) → p.sites ≡ site ∷ [] → is_main (size p.start) site ≡ b → IsBody
      by_main site true e main = main_alone site e main
      by_main site false e main =
          with_lines (ap (body_lines names p.outcomes (size p.start)) e ∙ ap (λ b. if b then lines_from names p.outcomes 0 site.commands else sites_from names p.outcomes 0 (site ∷ [])) main ∙ ap (sites_from names p.outcomes 0) (sym e))

      by_sites : (sites : List ProgramSite) → p.sites ≡ sites → IsBody
      by_sites [] e = with_lines (ap (body_lines names p.outcomes (size p.start)) e ∙ ap (sites_from names p.outcomes 0) (sym e))
      by_sites (s ∷ []) e = by_main s (is_main (size p.start) s) e refl
      by_sites (s ∷ t ∷ ss) e = with_lines (ap (body_lines names p.outcomes (size p.start)) e ∙ ap (sites_from names p.outcomes 0) (sym e))

  program_again : program_in names fuse (written names p) ≡ Ok p
  unfolding program_in written
  program_again =
      let header : List (List ℕ) = codes "program" ∷ decimal p.version ∷ [] in
      let start : List (List ℕ) = codes "start" ∷ tree_words names p.start in
      let body = body_lines names p.outcomes (size p.start) p.sites in
      let header_plain = header_line p.version is.version in
      let start_plain = start_line names are p.start is.start.labels is.start.few in
      let found = found_again 0 (header ∷ start ∷ body) (header_plain, (start_plain, body_is.plain)) in
      let count = (reading_of 0 (spelled (header ∷ start ∷ body))).count in
      let head : head_of names fuse (reading_of 0 (spelled (header ∷ start ∷ body))) ≡ Ok ((p.version, p.start), counted 2 body) =
      ap (λ (ahead : List Found). head_of names fuse (record { ahead = ahead; count = count })) found
      ∙ head_again names fuse count header start (counted 2 body) p.version p.start (words_again header header_plain.plain) (version_again p.version is.version) (words_again start start_plain.plain) (start_again names are fuse p.start is.start) in
      ap (λ (r : Result ((ℕ × Labelled) × List Found) Fault). r >>= λ (head : (ℕ × Labelled) × List Found). body_of names head.0.0 (begun head.0.1) head.1 >>= λ (whole : SoFar). Ok (program_said head.0.0 head.0.1 whole)) head
      ∙ ap (λ (r : Result SoFar Fault). r >>= λ (whole : SoFar). Ok (program_said p.version p.start whole)) body_is.told
      ∙ ap Ok body_is.same

pub programs_again : ProgramsAgain
programs_again names fuse p are is = program_again names are fuse p is

pub programs_one_text : ProgramsOneText
programs_one_text names fuse p q are is_p is_q same =
    let both_read : ◌≡◌ {A = Result Program Fault} (Ok p) (Ok q) = sym (programs_again names fuse p are is_p) ∙ ap (program_in names fuse) same ∙ programs_again names fuse q are is_q in
    cc
