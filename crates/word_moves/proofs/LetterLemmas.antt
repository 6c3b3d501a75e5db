-- The letters of commands, one after another.
use Rattle.std.proofs.Common.{◌≡◌, ℕ, suc, ◌+◌, ◌<◌, ◌≤◌, List, [], ◌∷◌, ◌++◌, map, length, get_or, drop, drop-cons, add-one, refl, ap, sym, subst, ◌∙◌, arith, append_assoc, length-append}
use Rattle.std.specs.Prelude.{not}
use Rattle.std.proofs.lemmas.List.Elements.{filter-append}
use Rattle.program_text.specs.Letters.{letters, measurements, letter_at, outcomes_of}
use Rattle.program_text.specs.Program.{site_of}
use Rattle.program_text.specs.WellFormed.{commands_in}
use Rattle.program_text.specs.declared.form.TheConstants.{COMMAND_LIMIT}
use Rattle.program_text.specs.declared.letter.Letter.{Letter}
use Rattle.program_text.specs.declared.letter.Letter.TheVariants.{Crossing, Charge, Tested, Still}
use Rattle.program_text.specs.declared.plan.Command.{Command}
use Rattle.program_text.specs.declared.plan.Command.TheVariants.{Braid, Raise, Measure, BraidWhen}
use Rattle.program_text.specs.declared.plan.Site.{Site}
use Rattle.word_moves.specs.Moves.{is_still, moving}

-- the commands of sites
abbrev pub own_commands : List Site → List Command
own_commands sites = commands_in (map site_of sites)

measured_first : (c : Command) (cs : List Command) → outcomes_of c + measurements cs ≡ measurements (c ∷ cs)
measured_first (Braid k s) cs = omega arith
measured_first (Raise k) cs = omega arith
measured_first (Measure k) cs = omega arith
measured_first (BraidWhen k s p a) cs = omega arith

letters_append : (p : ℕ) (cs ds : List Command) → letters p (cs ++ ds) ≡ letters p cs ++ letters (p + measurements cs) ds
letters_append p [] ds = ap (λ q. letters q ds) (let same : p ≡ p + 0 = omega arith in same)
letters_append p (c ∷ cs) ds =
    let same : (p + outcomes_of c) + measurements cs ≡ p + measurements (c ∷ cs) = (let m = measured_first c cs in omega arith) in
    ap (λ (l : List Letter). letter_at p c ∷ l) (letters_append (p + outcomes_of c) cs ds ∙ ap (λ q. letters (p + outcomes_of c) cs ++ letters q ds) same)

length_letters : (p : ℕ) (cs : List Command) → length (letters p cs) ≡ length cs
length_letters p [] = refl
length_letters p (c ∷ cs) = ap suc (length_letters (p + outcomes_of c) cs)

outcomes_few : (c : Command) → outcomes_of c ≤ 1
outcomes_few (Braid k sign) = omega arith
outcomes_few (Raise k) = omega arith
outcomes_few (Measure k) = omega arith
outcomes_few (BraidWhen k sign place label) = omega arith

measured_few : (cs : List Command) → measurements cs ≤ length cs
measured_few [] = omega arith
measured_few (c ∷ cs) =
    let more = measured_first c cs in
    let few = outcomes_few c in
    let rest = measured_few cs in
    omega arith

-- raises only make letters fewer
moving_few : (ls : List Letter) → length (moving ls) ≤ length ls
moving_few [] = omega arith
moving_few (Crossing k sign ∷ ls) = (let h = moving_few ls in omega arith)
moving_few (Charge k place ∷ ls) = (let h = moving_few ls in omega arith)
moving_few (Tested k sign place label ∷ ls) = (let h = moving_few ls in omega arith)
moving_few (Still k ∷ ls) = (let h = moving_few ls in omega arith)

pub few_letters : (front rest : List Letter) (cs : List Command) → front ++ rest ≡ moving (letters 0 cs) → length cs ≤ COMMAND_LIMIT → length front ≤ COMMAND_LIMIT
few_letters front rest cs e few =
    let all = ap length e in
    let apart = length-append front rest in
    let less = moving_few (letters 0 cs) in
    let same = length_letters 0 cs in
    omega (arith, all, apart, less, same, few)

drop_item : {X : Type 0} (xs : List X) (i : ℕ) (x : X) → i < length xs → x ≡ get_or xs i x → drop i xs ≡ x ∷ drop (i + 1) xs
drop_item xs i x low is = drop-cons xs i x low ∙ (λ j. sym is j ∷ drop (sym (add-one i) j) xs)

-- one more site
site_here : (sites items : List Site) (i : ℕ) (site : Site) → items ≡ sites → i < length items → site ≡ get_or items i site
    → own_commands (drop i sites) ≡ site.commands.items ++ own_commands (drop (i + 1) sites)
site_here sites items i site same low is = ap own_commands (subst (λ (l : List Site). drop i l ≡ site ∷ drop (i + 1) l) same (drop_item items i site low is))

pub site_fits : (sites items : List Site) (i place : ℕ) (site : Site) (commands : List Command) → items ≡ sites → i < length items → site ≡ get_or items i site → commands ≡ site.commands.items
    → place + length (own_commands (drop i sites)) ≤ COMMAND_LIMIT → (place + length commands ≤ COMMAND_LIMIT) × (place + measurements commands + length (own_commands (drop (i + 1) sites)) ≤ COMMAND_LIMIT)
site_fits sites items i place site commands same low is own few =
    let more = ap length (site_here sites items i site same low is) ∙ length-append site.commands.items (own_commands (drop (i + 1) sites)) in
    let count = ap length own in
    let small = measured_few commands in
    (omega (arith, more, count, few), omega (arith, more, count, small, few))

pub site_letters : (sites items : List Site) (i place next : ℕ) (site : Site) (commands : List Command) (old new : List Letter) → items ≡ sites → i < length items → site ≡ get_or items i site → commands ≡ site.commands.items
    → next ≡ place + measurements commands → new ≡ old ++ moving (letters place commands)
    → new ++ moving (letters next (own_commands (drop (i + 1) sites))) ≡ old ++ moving (letters place (own_commands (drop i sites)))
site_letters sites items i place next site commands old new same low is own place' more =
    let later = own_commands (drop (i + 1) sites) in
    let here : own_commands (drop i sites) ≡ commands ++ later = site_here sites items i site same low is ∙ ap (λ (cs : List Command). cs ++ later) (sym own) in
    let split : moving (letters place (commands ++ later)) ≡ moving (letters place commands) ++ moving (letters next later) =
    ap moving (letters_append place commands later) ∙ filter-append (λ l. not (is_still l)) (letters place commands) (letters (place + measurements commands) later)
    ∙ ap (λ (p : ℕ). moving (letters place commands) ++ moving (letters p later)) (sym place') in
    ap (λ (l : List Letter). l ++ moving (letters next later)) more
    ∙ append_assoc old (moving (letters place commands)) (moving (letters next later))
    ∙ ap (λ (l : List Letter). old ++ l) (sym split)
    ∙ ap (λ (cs : List Command). old ++ moving (letters place cs)) (sym here)
