-- Written sites are read again.
use Rattle.std.proofs.Common.{◌≡◌, ℕ, ◌+◌, ◌^◌, ◌<◌, ◌≤◌, List, [], ◌∷◌, ◌++◌, true, ◌||◌, ◌==◌, length, refl, sym, ap, subst, ◌∙◌, arith, append_assoc, Some, Ok}
use Rattle.std.specs.List.{AllByRecursion}
use Rattle.std.proofs.lemmas.Bool.Decides.{nat_tests}
use Rattle.std.proofs.lemmas.List.{length-append, append-nil}
use Rattle.line_text.specs.Spelling.{counted, all_plain}
use Rattle.line_text.proofs.PlainLemmas.{number_again}
use Rattle.fusion_rules.specs.Names.{AreNames}
use Rattle.program_text.specs.declared.form.TheConstants.{COMMAND_LIMIT}
use Rattle.program_text.specs.declared.plan.Command.{Command}
use Rattle.program_text.proofs.WellLemmas.{long_behind}
use Rattle.program_text.specs.Grammar.{SoFar, all_apart, are_among, body_of, empty_site, given_by, is_inside, may_begin, site_of_line, sites_given, strands_behind, with_site}
use Rattle.program_text.specs.Letters.{gap_in, measurements}
use Rattle.program_text.specs.Program.{ProgramOutcome, ProgramSite}
use Rattle.program_text.specs.WellFormed.{AreSites, AreTold, IsGapOf, IsSite, commands_in, strands_under}
use Rattle.program_text.specs.Written.{lines_from, name_at, site_words, sites_from}
use Rattle.program_text.proofs.FoldLemmas.{IsAt, AllWords, IsRead, commands_again, line_read}
use Rattle.program_text.proofs.NamedLemmas.{AreSorted}
use Rattle.program_text.proofs.WrittenLemmas.{measurements-append}

-- the line of a site that may stand next
site_line_again : (n : ℕ) (s : SoFar) (before : List ProgramSite) (site : ProgramSite) → length s.strands ≡ n → n < 10 ^ 9 → sites_given s ≡ before → may_begin s ≡ true → IsSite n site
    → all_apart site.name site.first site.last before ≡ true → site_of_line s (site_words site) ≡ Ok (with_site s (empty_site site.name site.first site.last))
unfolding site_of_line
site_line_again n s before site long small given may is apart =
    let order = is.order in
    let inside = is.inside in
    let some = is.some in
    let among : are_among site.first site.last (length s.strands) ≡ true = grind (arith, nat_tests) in
    let free : all_apart site.name site.first site.last (sites_given s) ≡ true = ap (all_apart site.name site.first site.last) given ∙ apart in
    rw (is.name, number_again site.first (omega arith), number_again site.last (omega arith), among, free, may) refl

-- gaps of a site of few strands
pub gaps_next : (n : ℕ) (site other : ProgramSite) (cs : List Command) → n < 10 ^ 9 → site.last ≤ n → other.first ≡ site.first → other.last ≡ site.last → AllByRecursion (IsGapOf site) cs → AllByRecursion (λ c. (is_inside other (gap_in c) ≡ true) × (gap_in c < 10 ^ 9)) cs
gaps_next n site other [] small few first last gaps = tt
gaps_next n site other (c ∷ cs) small few first last gaps =
    let low = gaps.0.0 in
    let high = gaps.0.1 in
    let inside : is_inside other (gap_in c) ≡ true = grind (arith, nat_tests) in
    ((inside, omega arith), gaps_next n site other cs small few first last gaps.1)

module _ (names : List (List ℕ)) (are : AreNames names) (version : ℕ) (start : List ℕ) (os : List ProgramOutcome) (sorted : AreSorted os) (second : (place : ℕ) (name : List ℕ) → name_at os place ≡ Some name → 2 ≤ version) (n : ℕ) (small : n < 10 ^ 9) (long : length start ≡ n) where
  -- commands behind others are told one list after the other
  pub told_first : (front cs ds : List Command) → AreTold version (length names) os start front (cs ++ ds) → AreTold version (length names) os start front cs
  told_first front [] ds told = tt
  told_first front (c ∷ cs) ds told = (told.0, told_first (front ++ c ∷ []) cs ds told.1)

  pub told_rest : (front cs ds : List Command) → AreTold version (length names) os start front (cs ++ ds) → AreTold version (length names) os start (front ++ cs) ds
  told_rest front [] ds told = subst (λ (f : List Command). AreTold version (length names) os start f ds) (sym (append-nil front)) told
  told_rest front (c ∷ cs) ds told = subst (λ (f : List Command). AreTold version (length names) os start f ds) (append_assoc front (c ∷ []) cs) (told_rest (front ++ c ∷ []) cs ds told.1)

  -- the lines of sites are plain
  abbrev pub AllPlain : ℕ → List ProgramSite → Type 0
  AllPlain place [] = Unit {0}
  AllPlain place (site ∷ sites) =
      (all_plain (site_words site) ≡ true) × AllWords names are version start os sorted second place site.commands × AllPlain (place + measurements site.commands) sites

  strands_long : (strands : List ℕ) (cs : List Command) → length (strands_under strands cs) ≡ length strands
  strands_long strands [] = refl
  strands_long strands (c ∷ cs) = strands_long (strands_behind strands c) cs ∙ long_behind strands c

  -- What is read of sites to the end.
  pub record AreRead (s : SoFar) (front : List Command) (before sites : List ProgramSite) (number : ℕ) : Type 0 where
    pub whole : SoFar
    pub sites_are : whole.earlier ++ whole.current ∷ [] ≡ before ++ sites
    pub at : IsAt names are version start os sorted second whole (front ++ commands_in sites)
    pub told : body_of names version s (counted number (sites_from names os (measurements front) sites)) ≡ Ok whole

  pub sites_again : (s : SoFar) (front : List Command) (before sites : List ProgramSite) (number : ℕ) → 0 < length sites → IsAt names are version start os sorted second s front → sites_given s ≡ before → may_begin s ≡ true
      → AreSites n before sites → AreTold version (length names) os start front (commands_in sites) → AllPlain (measurements front) sites → length front + length (commands_in sites) ≤ COMMAND_LIMIT → AreRead s front before sites number
  sites_again s front before [] number some at given may are_sites told plain few = absurd (omega arith)
  sites_again s front before (site ∷ sites) number some at given may are_sites told plain few =
      by_rest sites refl are_sites.2 (told_rest front site.commands (commands_in sites) told) plain.2 counts
      (λ rest_some rest_given rest_may rest_sites rest_told rest_plain rest_few. sites_again read.next (front ++ site.commands) (before ++ site ∷ []) sites ((number + 1) + length site.commands) rest_some read.at rest_given rest_may rest_sites rest_told rest_plain rest_few)
    where
      empty : ProgramSite
      empty = empty_site site.name site.first site.last

      begun : SoFar
      begun = with_site s empty

      counts : length (front ++ site.commands) + length (commands_in sites) ≤ COMMAND_LIMIT
      counts = let a = length-append front site.commands in let b = length-append site.commands (commands_in sites) in omega arith

      place : measurements front + measurements site.commands ≡ measurements (front ++ site.commands)
      place = sym (measurements-append front site.commands)

      more : List (List (List ℕ))
      more = sites_from names os (measurements front + measurements site.commands) sites

      read : IsRead names are version start os sorted second begun front site.commands (number + 1) more
      read =
          let last = are_sites.0.inside in
          commands_again names are version start os sorted second begun front site.commands (number + 1) more
          (record { outcomes = at.outcomes; strands = at.strands; commands = at.commands; measured = at.measured })
          (gaps_next n site empty site.commands small last refl refl are_sites.0.gaps) plain.1 (told_first front site.commands (commands_in sites) told)
          (let b = length-append site.commands (commands_in sites) in omega arith)

      first_line : body_of names version s (counted number (sites_from names os (measurements front) (site ∷ sites))) ≡ body_of names version begun (counted (number + 1) (lines_from names os (measurements front) site.commands ++ more))
      first_line =
          line_read names are version start os sorted second s begun (site_words site) number (lines_from names os (measurements front) site.commands ++ more) plain.0
          (site_line_again n s before site (ap length at.strands ∙ strands_long start front ∙ long) small given may are_sites.0 are_sites.1)

      all_told : body_of names version s (counted number (sites_from names os (measurements front) (site ∷ sites))) ≡ body_of names version read.next (counted ((number + 1) + length site.commands) (sites_from names os (measurements (front ++ site.commands)) sites))
      all_told = first_line ∙ read.told ∙ ap (λ m. body_of names version read.next (counted ((number + 1) + length site.commands) (sites_from names os m sites))) place

      with_line : read.next.has_site ≡ true
      with_line = read.has_site

      next_given : sites_given read.next ≡ before ++ site ∷ []
      next_given =
          ap (λ b. given_by b read.next.earlier read.next.current) with_line ∙ ap (λ ss. ss ++ read.next.current ∷ []) (read.earlier ∙ given) ∙ ap (λ (t : ProgramSite). before ++ t ∷ []) read.current

      next_may : may_begin read.next ≡ true
      next_may = ap (λ b. b || read.next.commands == 0) with_line

      by_rest : (rest : List ProgramSite) → sites ≡ rest → AreSites n (before ++ site ∷ []) sites → AreTold version (length names) os start (front ++ site.commands) (commands_in sites) → AllPlain (measurements front + measurements site.commands) sites
          → length (front ++ site.commands) + length (commands_in sites) ≤ COMMAND_LIMIT
          → (0 < length sites → sites_given read.next ≡ before ++ site ∷ [] → may_begin read.next ≡ true → AreSites n (before ++ site ∷ []) sites → AreTold version (length names) os start (front ++ site.commands) (commands_in sites)
          → AllPlain (measurements (front ++ site.commands)) sites → length (front ++ site.commands) + length (commands_in sites) ≤ COMMAND_LIMIT
          → AreRead read.next (front ++ site.commands) (before ++ site ∷ []) sites ((number + 1) + length site.commands))
          → AreRead s front before (site ∷ sites) number
      by_rest [] e rest_sites rest_told rest_plain rest_few again = record {
        whole = read.next;
        sites_are = ap (λ ss. ss ++ read.next.current ∷ []) (read.earlier ∙ given) ∙ ap (λ (t : ProgramSite). before ++ t ∷ []) read.current ∙ ap (λ ss. before ++ site ∷ ss) (sym e);
        at = subst (λ cs. IsAt names are version start os sorted second read.next (front ++ cs)) (sym (append-nil site.commands) ∙ ap (λ ss. site.commands ++ commands_in ss) (sym e)) read.at;
        told = all_told ∙ ap (λ ss. body_of names version read.next (counted ((number + 1) + length site.commands) (sites_from names os (measurements (front ++ site.commands)) ss))) e;
      }
      by_rest (t ∷ ts) e rest_sites rest_told rest_plain rest_few again =
          let some_left : 0 < length sites = (let h = ap length e in omega arith) in
          let rest = again some_left next_given next_may rest_sites rest_told (subst (λ (m : ℕ). AllPlain m sites) place rest_plain) rest_few in
          record {
            whole = rest.whole;
            sites_are = rest.sites_are ∙ append_assoc before (site ∷ []) sites;
            at = subst (IsAt names are version start os sorted second rest.whole) (append_assoc front site.commands (commands_in sites)) rest.at;
            told = all_told ∙ rest.told;
          }
