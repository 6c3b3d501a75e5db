-- The canonical text of a program, part by part.
use Rattle.std.proofs.Common.{◌≡◌, ℕ, suc, ◌+◌, ◌<◌, ◌≤◌, List, [], ◌∷◌, ◌++◌, length, map, take, drop, get_or, sym, ap, ◌∙◌, arith, append_assoc, codes}
use Rattle.std.proofs.Math.Seq.{take-suc}
use Rattle.std.proofs.lemmas.List.{append-nil, map-append, length-append, length-drop, take-append-drop}
use Rattle.std.proofs.lemmas.Grind.{flat_map-append}
use Rattle.std.specs.Fmt.{decimal}
use Rattle.line_text.specs.Spelling.{spelled}
use Rattle.tree_shapes.specs.Labelled.{size}
use Rattle.program_text.specs.Canonical.{tree_words}
use Rattle.program_text.specs.declared.plan.Command.{Command}
use Rattle.program_text.specs.declared.plan.Command.TheVariants.{Braid, Raise, Measure, BraidWhen}
use Rattle.program_text.specs.declared.plan.Site.{Site}
use Rattle.program_text.specs.Letters.{measurements, outcomes_of}
use Rattle.program_text.specs.Program.{Program, ProgramOutcome, ProgramSite, site_of}
use Rattle.program_text.specs.WellFormed.{commands_in}
use Rattle.program_text.specs.Written.{body_lines, line_words, lines_from, site_words, sites_from, written}
use Rattle.program_text.proofs.KeptLemmas.{commands_push}
use Rattle.program_text.proofs.WritingLemmas.{lines_more}

pub measurements-cons : (c : Command) (cs : List Command) → measurements (c ∷ cs) ≡ outcomes_of c + measurements cs
measurements-cons (Braid k sign) cs = omega arith
measurements-cons (Raise k) cs = omega arith
measurements-cons (Measure k) cs = omega arith
measurements-cons (BraidWhen k sign place label) cs = omega arith

pub measurements-append : (cs ds : List Command) → measurements (cs ++ ds) ≡ measurements cs + measurements ds
measurements-append [] ds = omega arith
measurements-append (c ∷ cs) ds = omega (arith, measurements-cons c (cs ++ ds), measurements-cons c cs, measurements-append cs ds)

pub outcomes_few : (c : Command) → outcomes_of c ≤ 1
outcomes_few (Braid k sign) = omega arith
outcomes_few (Raise k) = omega arith
outcomes_few (Measure k) = omega arith
outcomes_few (BraidWhen k sign place label) = omega arith

pub measurements_few : (cs : List Command) → measurements cs ≤ length cs
measurements_few [] = omega arith
measurements_few (c ∷ cs) = omega (arith, measurements-cons c cs, outcomes_few c, measurements_few cs)

-- in front of some commands stand no more measurements than there are commands
pub place_fits : (cs : List Command) (i : ℕ) → i < length cs → measurements (take i cs) + 1 ≤ length cs
place_fits cs i within =
    let front = measurements_few (take i cs) in
    let whole = ap length (take-append-drop i cs) in
    let counted = length-append (take i cs) (drop i cs) in
    let back = length-drop i cs in
    omega arith

module _ (names : List (List ℕ)) (outcomes : List ProgramOutcome) where
  -- one command more
  lines_push : (place : ℕ) (cs : List Command) (c : Command) → lines_from names outcomes place (cs ++ c ∷ []) ≡ lines_from names outcomes place cs ++ line_words names outcomes (place + measurements cs) c ∷ []
  lines_push place [] c = ap (λ n. line_words names outcomes n c ∷ []) (omega arith)
  lines_push place (d ∷ cs) c =
      let more = measurements-cons d cs in
      let same : (place + outcomes_of d) + measurements cs ≡ place + measurements (d ∷ cs) = omega arith in
      ap (λ ls. line_words names outcomes place d ∷ ls) (lines_push (place + outcomes_of d) cs c ∙ ap (λ n. lines_from names outcomes (place + outcomes_of d) cs ++ line_words names outcomes n c ∷ []) same)

  -- one site more
  sites_more : (place : ℕ) (ss : List ProgramSite) (s : ProgramSite)
      → sites_from names outcomes place (ss ++ s ∷ []) ≡ sites_from names outcomes place ss ++ (site_words s ∷ lines_from names outcomes (place + measurements (commands_in ss)) s.commands)
  sites_more place [] s = ap (λ ls. site_words s ∷ ls) (append-nil (lines_from names outcomes place s.commands)) ∙ ap (λ n. site_words s ∷ lines_from names outcomes n s.commands) (omega arith)
  sites_more place (t ∷ ss) s =
      let first = site_words t ∷ lines_from names outcomes place t.commands in
      let all = measurements-append t.commands (commands_in ss) in
      let same : (place + measurements t.commands) + measurements (commands_in ss) ≡ place + measurements (commands_in (t ∷ ss)) = omega arith in
      ap (λ ls. first ++ ls) (sites_more (place + measurements t.commands) ss s ∙ ap (λ n. sites_from names outcomes (place + measurements t.commands) ss ++ (site_words s ∷ lines_from names outcomes n s.commands)) same)
      ∙ sym (append_assoc first (sites_from names outcomes (place + measurements t.commands) ss) (site_words s ∷ lines_from names outcomes (place + measurements (commands_in (t ∷ ss))) s.commands))

  pub command_more : (place next : ℕ) (commands : List Command) (d : Command) (i : ℕ) (old mid new : List ℕ) → i < length commands → next ≡ place + measurements (take i commands) → mid ≡ old ++ spelled (lines_from names outcomes place (take i commands))
      → new ≡ mid ++ spelled (line_words names outcomes next (get_or commands i d) ∷ []) → new ≡ old ++ spelled (lines_from names outcomes place (take (i + 1) commands))
  command_more place next commands d i old mid new within at a b =
      let one_more : suc i ≡ i + 1 = omega arith in
      let taken : take (i + 1) commands ≡ take i commands ++ get_or commands i d ∷ [] = ap (λ n. take n commands) (sym one_more) ∙ take-suc commands i d within in
      lines_more (lines_from names outcomes place (take i commands)) (line_words names outcomes (place + measurements (take i commands)) (get_or commands i d) ∷ []) old mid new a (b ∙ ap (λ n. mid ++ spelled (line_words names outcomes n (get_or commands i d) ∷ [])) at)
      ∙ ap (λ ls. old ++ spelled ls) (sym (ap (lines_from names outcomes place) taken ∙ lines_push place (take i commands) (get_or commands i d)))

  pub site_more : (place : ℕ) (sites : List Site) (d : Site) (i : ℕ) (old mid new : List ℕ) → i < length sites → place ≡ measurements (commands_in (map site_of (take i sites))) → mid ≡ old ++ spelled (sites_from names outcomes 0 (map site_of (take i sites)))
      → new ≡ mid ++ spelled (site_words (site_of (get_or sites i d)) ∷ lines_from names outcomes place (get_or sites i d).commands.items)
      → new ≡ old ++ spelled (sites_from names outcomes 0 (map site_of (take (i + 1) sites)))
  site_more place sites d i old mid new within at a b =
      let one_more : suc i ≡ i + 1 = omega arith in
      let site = site_of (get_or sites i d) in
      let front = map site_of (take i sites) in
      let taken : map site_of (take (i + 1) sites) ≡ front ++ site ∷ [] =
      ap (λ n. map site_of (take n sites)) (sym one_more) ∙ ap (map site_of) (take-suc sites i d within) ∙ map-append site_of (take i sites) (get_or sites i d ∷ []) in
      lines_more (sites_from names outcomes 0 front) (site_words site ∷ lines_from names outcomes (measurements (commands_in front)) site.commands) old mid new a (b ∙ ap (λ n. mid ++ spelled (site_words site ∷ lines_from names outcomes n site.commands)) at)
      ∙ ap (λ ls. old ++ spelled ls) (sym (ap (sites_from names outcomes 0) taken ∙ sites_more 0 front site ∙ ap (λ n. sites_from names outcomes 0 front ++ (site_words site ∷ lines_from names outcomes n site.commands)) (omega arith)))

-- how many measurements stand before the next command, and before the next site
pub place_more : (commands : List Command) (d : Command) (i : ℕ) → i < length commands → measurements (take (i + 1) commands) ≡ measurements (take i commands) + outcomes_of (get_or commands i d)
place_more commands d i within =
    let one_more : suc i ≡ i + 1 = omega arith in
    ap (λ n. measurements (take n commands)) (sym one_more) ∙ ap measurements (take-suc commands i d within) ∙ measurements-append (take i commands) (get_or commands i d ∷ [])
    ∙ ap (λ n. measurements (take i commands) + n) (last (get_or commands i d))
  where
    last : (c : Command) → measurements (c ∷ []) ≡ outcomes_of c
    last c = omega (arith, measurements-cons c [])

pub site_place_more : (sites : List Site) (d : Site) (i : ℕ) → i < length sites
    → measurements (commands_in (map site_of (take (i + 1) sites))) ≡ measurements (commands_in (map site_of (take i sites))) + measurements (get_or sites i d).commands.items
site_place_more sites d i within =
    let one_more : suc i ≡ i + 1 = omega arith in
    let front = map site_of (take i sites) in
    let site = site_of (get_or sites i d) in
    ap (λ n. measurements (commands_in (map site_of (take n sites)))) (sym one_more)
    ∙ ap (λ ss. measurements (commands_in ss)) (ap (map site_of) (take-suc sites i d within) ∙ map-append site_of (take i sites) (get_or sites i d ∷ []))
    ∙ ap measurements (commands_push front site) ∙ measurements-append (commands_in front) site.commands

-- no more measurements than commands stand before a site, with its own commands
pub site_fits : (sites : List Site) (d : Site) (i : ℕ) → i < length sites → measurements (commands_in (map site_of (take i sites))) + length (get_or sites i d).commands.items ≤ length (commands_in (map site_of sites))
site_fits sites d i within =
    let one_more : suc i ≡ i + 1 = omega arith in
    let front = map site_of (take i sites) in
    let site = site_of (get_or sites i d) in
    let back = map site_of (drop (i + 1) sites) in
    let whole : map site_of sites ≡ (front ++ site ∷ []) ++ back =
    ap (map site_of) (sym (take-append-drop (i + 1) sites)) ∙ map-append site_of (take (i + 1) sites) (drop (i + 1) sites)
    ∙ ap (λ ss. ss ++ back) (ap (λ n. map site_of (take n sites)) (sym one_more) ∙ ap (map site_of) (take-suc sites i d within) ∙ map-append site_of (take i sites) (get_or sites i d ∷ [])) in
    let counted = ap (λ ss. length (commands_in ss)) whole ∙ ap length (flat_map-append (λ (s : ProgramSite). s.commands) (front ++ site ∷ []) back) ∙ length-append (commands_in (front ++ site ∷ [])) (commands_in back) in
    let first = ap length (commands_push front site) ∙ length-append (commands_in front) site.commands in
    omega (arith, measurements_few (commands_in front))

-- the header, the start and the body
pub whole_more : (names : List (List ℕ)) (p : Program) (strands : ℕ) (outcomes : List ProgramOutcome) (sites : List ProgramSite) (old one two new : List ℕ) → strands ≡ size p.start → outcomes ≡ p.outcomes → sites ≡ p.sites
    → one ≡ old ++ spelled ((codes "program" ∷ decimal p.version ∷ []) ∷ []) → two ≡ one ++ spelled ((codes "start" ∷ tree_words names p.start) ∷ []) → new ≡ two ++ spelled (body_lines names outcomes strands sites)
    → new ≡ old ++ written names p
unfolding written
whole_more names p strands outcomes sites old one two new e f g a b c =
    let header = codes "program" ∷ decimal p.version ∷ [] in
    let start = codes "start" ∷ tree_words names p.start in
    let head = lines_more (header ∷ []) (start ∷ []) old one two a b in
    lines_more (header ∷ start ∷ []) (body_lines names outcomes strands sites) old two new head c
    ∙ ap (λ n. old ++ spelled (header ∷ start ∷ body_lines names outcomes n sites)) e
    ∙ ap (λ os. old ++ spelled (header ∷ start ∷ body_lines names os (size p.start) sites)) f
    ∙ ap (λ ss. old ++ spelled (header ∷ start ∷ body_lines names p.outcomes (size p.start) ss)) g
