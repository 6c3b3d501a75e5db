-- Written command lines are read again, one after another.
use Rattle.std.proofs.Common.{◌≡◌, ℕ, ◌+◌, ◌^◌, ◌<◌, ◌≤◌, List, [], ◌∷◌, ◌++◌, true, false, length, refl, sym, ap, subst, ◌∙◌, arith, append_assoc, codes, Option, Some, None, Result, Ok}
use Rattle.std.specs.Prelude.{nat_lt, unwrap_or}
use Rattle.std.specs.List.{AllByRecursion}
use Rattle.std.specs.Fmt.{decimal}
use Rattle.std.proofs.lemmas.Bool.Decides.{nat_tests}
use Rattle.std.proofs.lemmas.List.{length-append, append-nil}
use Rattle.line_text.specs.Spelling.{counted, all_plain}
use Rattle.line_text.proofs.SpellingLemmas.{words_again}
use Rattle.line_text.proofs.PlainLemmas.{number_again}
use Rattle.fusion_rules.specs.Names.{AreNames, label_of, name_of}
use Rattle.fusion_rules.proofs.FoundLemmas.{label_again}
use Rattle.program_text.specs.declared.fault.ProgramCause.{ProgramCause}
use Rattle.program_text.specs.declared.form.TheConstants.{COMMAND_LIMIT}
use Rattle.program_text.specs.declared.plan.Sign.{Sign}
use Rattle.program_text.specs.declared.plan.Sign.TheVariants.{Plus, Minus}
use Rattle.program_text.specs.Canonical.{sign_word}
use Rattle.program_text.specs.declared.plan.Command.{Command}
use Rattle.program_text.specs.declared.plan.Command.TheVariants.{Braid, Raise, Measure, BraidWhen}
use Rattle.program_text.specs.Grammar.{SoFar, are_alike, body_of, command_of_line, has_names, is_given, is_inside, line_of, place_of, strands_behind, with_command}
use Rattle.program_text.specs.Letters.{gap_in, measurements, outcomes_of}
use Rattle.program_text.specs.Program.{ProgramOutcome, ProgramSite}
use Rattle.program_text.specs.Steps.{◌>>=◌, on_line}
use Rattle.program_text.specs.WellFormed.{AreTold, IsTold, strands_under}
use Rattle.program_text.specs.Written.{as_words, line_words, lines_from, name_at}
use Rattle.program_text.proofs.KeptLemmas.{measurements_push, strands_push}
use Rattle.program_text.proofs.NamedLemmas.{before_of, named_at, AreSorted, one_more, name_is, name_new, name_found}

module _ (names : List (List ℕ)) (are : AreNames names) (version : ℕ) (start : List ℕ) (os : List ProgramOutcome) (sorted : AreSorted os) (second : (place : ℕ) (name : List ℕ) → name_at os place ≡ Some name → 2 ≤ version) where
  -- What holds of the lines so far, whose commands are these.
  pub record IsAt (s : SoFar) (front : List Command) : Type 0 where
    pub outcomes : s.outcomes ≡ before_of (measurements front) os
    pub strands : s.strands ≡ strands_under start front
    pub commands : s.commands ≡ length front
    pub measured : s.measured ≡ measurements front

  -- A command that may stand next.
  pub record IsNext (s : SoFar) (front : List Command) (c : Command) : Type 0 where
    pub inside : is_inside s.current (gap_in c) ≡ true
    pub small : gap_in c < 10 ^ 9
    pub room : nat_lt s.commands COMMAND_LIMIT ≡ true
    pub told : IsTold version (length names) os start front c

  abbrev pub next_of : SoFar → List Command → Command → SoFar
  next_of s front c = with_command s c (before_of (measurements (front ++ c ∷ [])) os)

  -- a command that names nothing
  plain_end : (s : SoFar) (front : List Command) (c : Command) → IsAt s front → outcomes_of c ≡ 0 → ◌≡◌ {A = Result SoFar ProgramCause} (Ok (with_command s c s.outcomes)) (Ok (next_of s front c))
  plain_end s front c at none =
      let same : measurements (front ++ c ∷ []) ≡ measurements front = omega (arith, measurements_push front c) in
      ap (λ l. Ok (with_command s c l)) (at.outcomes ∙ ap (λ n. before_of n os) (sym same))

  -- a measurement, by the name of its outcome
  measure_again : (s : SoFar) (front : List Command) (k : ℕ) (o : Option (List ℕ)) → name_at os (measurements front) ≡ o → IsAt s front → IsNext s front (Measure k)
      → command_of_line names version s (codes "measure" ∷ decimal k ∷ as_words o) ≡ Ok (next_of s front (Measure k))
  unfolding command_of_line
  measure_again s front k None e at next =
      let all : before_of (measurements (front ++ Measure k ∷ [])) os ≡ s.outcomes =
      ap (λ n. before_of n os) (measurements_push front (Measure k)) ∙ one_more (measurements front) os sorted ∙ ap (λ o. before_of (measurements front) os ++ named_at (measurements front) o) e ∙ append-nil (before_of (measurements front) os) ∙ sym at.outcomes in
      rw (number_again k next.small, next.inside, next.room) (ap (λ l. Ok (with_command s (Measure k) l)) (sym all))
  measure_again s front k (Some name) e at next =
      let all : before_of (measurements (front ++ Measure k ∷ [])) os ≡ s.outcomes ++ record { name = name; place = s.measured } ∷ [] =
      ap (λ n. before_of n os) (measurements_push front (Measure k)) ∙ one_more (measurements front) os sorted ∙ ap (λ o. before_of (measurements front) os ++ named_at (measurements front) o) e
      ∙ ap (λ l. l ++ record { name = name; place = measurements front } ∷ []) (sym at.outcomes) ∙ ap (λ n. s.outcomes ++ record { name = name; place = n } ∷ []) (sym at.measured) in
      let later : has_names version ≡ true = (let v = second (measurements front) name e in grind (arith, nat_tests)) in
      let new : is_given s.outcomes name ≡ false = ap (λ l. is_given l name) at.outcomes ∙ name_new (measurements front) os name sorted e in
      rw (later, number_again k next.small, next.inside, name_is (measurements front) os name sorted e, new, next.room) (ap (λ l. Ok (with_command s (Measure k) l)) (sym all))

  command_again : (s : SoFar) (front : List Command) (c : Command) → IsAt s front → IsNext s front c → command_of_line names version s (line_words names os (measurements front) c) ≡ Ok (next_of s front c)
  unfolding command_of_line
  command_again s front (Braid k Plus) at next = rw (number_again k next.small, next.inside, next.room) (plain_end s front (Braid k Plus) at refl)
  command_again s front (Braid k Minus) at next = rw (number_again k next.small, next.inside, next.room) (plain_end s front (Braid k Minus) at refl)
  command_again s front (Raise k) at next = rw (number_again k next.small, next.inside, next.room) (plain_end s front (Raise k) at refl)
  command_again s front (Measure k) at next = measure_again s front k (name_at os (measurements front)) refl at next
  command_again s front (BraidWhen k sign place label) at next =
      let named = name_found (measurements front) place os sorted next.told.earlier next.told.named in
      let name : unwrap_or (name_at os place) [] ≡ named.name = ap (λ o. unwrap_or o []) named.at in
      let found : place_of s.outcomes named.name ≡ Some place = ap (λ l. place_of l named.name) at.outcomes ∙ named.found in
      let later : has_names version ≡ true = (let v = next.told.second in grind (arith, nat_tests)) in
      let alike : are_alike s.strands k ≡ true = ap (λ l. are_alike l k) at.strands ∙ next.told.alike in
      let known = label_again names label are next.told.known in
      ap (λ w. command_of_line names version s (codes "braid" ∷ decimal k ∷ sign_word sign ∷ codes "when" ∷ w ∷ name_of names label ∷ [])) name
      ∙ by_sign sign named.name found later alike known
    where
      by_sign : (sign : Sign) (name : List ℕ) → place_of s.outcomes name ≡ Some place → has_names version ≡ true → are_alike s.strands k ≡ true → label_of names (name_of names label) ≡ Some label
          → command_of_line names version s (codes "braid" ∷ decimal k ∷ sign_word sign ∷ codes "when" ∷ name ∷ name_of names label ∷ []) ≡ Ok (next_of s front (BraidWhen k sign place label))
      by_sign Plus name found later alike known = rw (later, number_again k next.small, next.inside, found, known, alike, next.room) (plain_end s front (BraidWhen k Plus place label) at refl)
      by_sign Minus name found later alike known = rw (later, number_again k next.small, next.inside, found, known, alike, next.room) (plain_end s front (BraidWhen k Minus place label) at refl)

  at_next : (s : SoFar) (front : List Command) (c : Command) → IsAt s front → IsAt (next_of s front c) (front ++ c ∷ [])
  at_next s front c at = record {
    outcomes = refl;
    strands = ap (λ l. strands_behind l c) at.strands ∙ sym (strands_push start front c);
    commands = (let n = at.commands in let m = length-append front (c ∷ []) in omega arith);
    measured = ap (λ n. n + outcomes_of c) at.measured ∙ sym (measurements_push front c);
  }

  -- the commands of a site
  abbrev pub AllNext : ProgramSite → List Command → Type 0
  AllNext site cs = AllByRecursion (λ c. (is_inside site (gap_in c) ≡ true) × (gap_in c < 10 ^ 9)) cs

  abbrev pub AllWords : ℕ → List Command → Type 0
  AllWords place [] = Unit {0}
  AllWords place (c ∷ cs) = (all_plain (line_words names os place c) ≡ true) × AllWords (place + outcomes_of c) cs

  -- What is read of the commands of a site, and what is left.
  pub record IsRead (s : SoFar) (front cs : List Command) (number : ℕ) (more : List (List (List ℕ))) : Type 0 where
    pub next : SoFar
    pub at : IsAt next (front ++ cs)
    pub earlier : next.earlier ≡ s.earlier
    pub current : next.current ≡ record s.current { commands = s.current.commands ++ cs }
    pub has_site : next.has_site ≡ s.has_site
    pub told : body_of names version s (counted number (lines_from names os (measurements front) cs ++ more)) ≡ body_of names version next (counted (number + length cs) more)

  no_site : (s : SoFar) (place : ℕ) (c : Command) → line_of names version s (line_words names os place c) ≡ command_of_line names version s (line_words names os place c)
  no_site s place (Braid k sign) = refl
  no_site s place (Raise k) = refl
  no_site s place (Measure k) = refl
  no_site s place (BraidWhen k sign tested label) = refl

  pub line_read : (s next : SoFar) (words : List (List ℕ)) (number : ℕ) (more : List (List (List ℕ))) → all_plain words ≡ true → line_of names version s words ≡ Ok next
      → body_of names version s (counted number (words ∷ more)) ≡ body_of names version next (counted (number + 1) more)
  line_read s next words number more plain e =
      ap (λ ws. on_line (number + 1) (line_of names version s ws) >>= λ (t : SoFar). body_of names version t (counted (number + 1) more)) (words_again words plain)
      ∙ ap (λ r. on_line (number + 1) r >>= λ (t : SoFar). body_of names version t (counted (number + 1) more)) e

  pub commands_again : (s : SoFar) (front cs : List Command) (number : ℕ) (more : List (List (List ℕ))) → IsAt s front → AllNext s.current cs → AllWords (measurements front) cs → AreTold version (length names) os start front cs
      → length front + length cs ≤ COMMAND_LIMIT → IsRead s front cs number more
  commands_again s front [] number more at gaps words told few = record {
    next = s;
    at = subst (IsAt s) (sym (append-nil front)) at;
    earlier = refl;
    current = ap (λ l. record s.current { commands = l }) (sym (append-nil s.current.commands));
    has_site = refl;
    told = ap (λ n. body_of names version s (counted n more)) (omega arith);
  }
  commands_again s front (c ∷ cs) number more at gaps words told few =
      let room : nat_lt s.commands COMMAND_LIMIT ≡ true = (let n = at.commands in grind (arith, nat_tests)) in
      let next : IsNext s front c = record { inside = gaps.0.0; small = gaps.0.1; room = room; told = told.0 } in
      let line = no_site s (measurements front) c ∙ command_again s front c at next in
      let place : measurements front + outcomes_of c ≡ measurements (front ++ c ∷ []) = sym (measurements_push front c) in
      let long = length-append front (c ∷ []) in
      let rest = commands_again (next_of s front c) (front ++ c ∷ []) cs (number + 1) more (at_next s front c at) gaps.1 (subst (λ (n : ℕ). AllWords n cs) place words.1) told.1 (omega arith) in
      let later : (number + 1) + length cs ≡ number + length (c ∷ cs) = omega arith in
      record {
        next = rest.next;
        at = subst (IsAt rest.next) (append_assoc front (c ∷ []) cs) rest.at;
        earlier = rest.earlier;
        current = rest.current ∙ ap (λ l. record s.current { commands = l }) (append_assoc s.current.commands (c ∷ []) cs);
        has_site = rest.has_site;
        told = line_read s (next_of s front c) (line_words names os (measurements front) c) number (lines_from names os (measurements front + outcomes_of c) cs ++ more) words.0 line
            ∙ ap (λ n. body_of names version (next_of s front c) (counted (number + 1) (lines_from names os n cs ++ more))) place
            ∙ rest.told ∙ ap (λ n. body_of names version rest.next (counted n more)) later;
      }
