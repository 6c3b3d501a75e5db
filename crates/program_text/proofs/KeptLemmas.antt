-- What is read is well formed: lists with one element more.
use Rattle.std.proofs.Common.{◌≡◌, ℕ, ◌+◌, ◌<◌, ◌≤◌, List, [], ◌∷◌, ◌++◌, Bool, true, false, ◌||◌, ◌==◌, refl, sym, ap, subst, ◌∙◌, arith, append_assoc, if◌then◌else◌, Some}
use Rattle.std.specs.List.{AllByRecursion}
use Rattle.std.specs.Str.{bytes_eq}
use Rattle.std.proofs.lemmas.Bool.Decides.{nat_tests}
use Rattle.std.proofs.lemmas.List.{append-nil}
use Rattle.std.proofs.lemmas.Grind.{flat_map-append}
use Rattle.program_text.specs.declared.plan.Command.{Command}
use Rattle.program_text.specs.declared.plan.Command.TheVariants.{Braid, Raise, Measure, BraidWhen}
use Rattle.program_text.specs.Grammar.{all_apart, place_of, strands_behind}
use Rattle.program_text.specs.Letters.{measurements, outcomes_of}
use Rattle.program_text.specs.Program.{ProgramOutcome, ProgramSite}
use Rattle.program_text.specs.WellFormed.{AreOutcomes, AreSites, AreTold, IsSite, IsTold, commands_in, is_named, strands_under}

pub all_push : {X : Type 0} (P : X → Type 0) (xs : List X) (x : X) → AllByRecursion P xs → P x → AllByRecursion P (xs ++ x ∷ [])
all_push P [] x all is = (is, tt)
all_push P (y ∷ ys) x all is = (all.0, all_push P ys x all.1 is)

-- Sites.

pub sites_push : (n : ℕ) (before sites : List ProgramSite) (site : ProgramSite) → AreSites n before sites → IsSite n site → all_apart site.name site.first site.last (before ++ sites) ≡ true → AreSites n before (sites ++ site ∷ [])
sites_push n before [] site are is apart = (is, ap (all_apart site.name site.first site.last) (sym (append-nil before)) ∙ apart, tt)
sites_push n before (s ∷ sites) site are is apart =
    (are.0, are.1, sites_push n (before ++ s ∷ []) sites site are.2 is (ap (all_apart site.name site.first site.last) (append_assoc before (s ∷ []) sites) ∙ apart))

pub record Pushed (n : ℕ) (before sites : List ProgramSite) (site : ProgramSite) : Type 0 where
  pub are : AreSites n before sites
  pub is : IsSite n site
  pub apart : all_apart site.name site.first site.last (before ++ sites) ≡ true

pub sites_last : (n : ℕ) (before sites : List ProgramSite) (site : ProgramSite) → AreSites n before (sites ++ site ∷ []) → Pushed n before sites site
sites_last n before [] site are = record { are = tt; is = are.0; apart = ap (all_apart site.name site.first site.last) (append-nil before) ∙ are.1 }
sites_last n before (s ∷ sites) site are =
    let h = sites_last n (before ++ s ∷ []) sites site are.2 in
    record { are = (are.0, are.1, h.are); is = h.is; apart = ap (all_apart site.name site.first site.last) (sym (append_assoc before (s ∷ []) sites)) ∙ h.apart }

-- Commands of sites.

pub commands_push : (sites : List ProgramSite) (site : ProgramSite) → commands_in (sites ++ site ∷ []) ≡ commands_in sites ++ site.commands
commands_push sites site = flat_map-append (λ (s : ProgramSite). s.commands) sites (site ∷ []) ∙ ap (λ cs. commands_in sites ++ cs) (append-nil site.commands)

pub measurements_push : (cs : List Command) (c : Command) → measurements (cs ++ c ∷ []) ≡ measurements cs + outcomes_of c
measurements_push [] (Braid k sign) = refl
measurements_push [] (Raise k) = refl
measurements_push [] (Measure k) = refl
measurements_push [] (BraidWhen k sign place label) = refl
measurements_push (Braid k sign ∷ cs) c = measurements_push cs c
measurements_push (Raise k ∷ cs) c = measurements_push cs c
measurements_push (Measure k ∷ cs) c = omega (arith, measurements_push cs c)
measurements_push (BraidWhen k sign place label ∷ cs) c = measurements_push cs c

pub strands_push : (strands : List ℕ) (cs : List Command) (c : Command) → strands_under strands (cs ++ c ∷ []) ≡ strands_behind (strands_under strands cs) c
strands_push strands [] c = refl
strands_push strands (d ∷ cs) c = strands_push (strands_behind strands d) cs c

-- Outcomes.

pub outcomes_push : (measured : ℕ) (before outcomes : List ProgramOutcome) (o : ProgramOutcome) → AreOutcomes measured before outcomes → AreOutcomes measured (before ++ outcomes) (o ∷ []) → AreOutcomes measured before (outcomes ++ o ∷ [])
outcomes_push measured before [] o are is = subst (λ (b : List ProgramOutcome). AreOutcomes measured b (o ∷ [])) (append-nil before) is
outcomes_push measured before (p ∷ outcomes) o are is =
    (are.0, are.1, are.2, are.3, outcomes_push measured (before ++ p ∷ []) outcomes o are.4 (subst (λ (b : List ProgramOutcome). AreOutcomes measured b (o ∷ [])) (sym (append_assoc before (p ∷ []) outcomes)) is))

-- more measurements
pub outcomes_more : (few more : ℕ) (before outcomes : List ProgramOutcome) → few ≤ more → AreOutcomes few before outcomes → AreOutcomes more before outcomes
outcomes_more few more before [] le are = tt
outcomes_more few more before (o ∷ outcomes) le are =
    let inside = are.3 in (are.0, are.1, are.2, omega arith, outcomes_more few more (before ++ o ∷ []) outcomes le are.4)

-- all places are those of measurements
pub places_below : (measured : ℕ) (before outcomes : List ProgramOutcome) → AreOutcomes measured before outcomes → AllByRecursion (λ (o : ProgramOutcome). o.place < measured) outcomes
places_below measured before [] are = tt
places_below measured before (o ∷ outcomes) are = (are.3, places_below measured (before ++ o ∷ []) outcomes are.4)

-- a name that is given has the place of a named outcome
pub record IsFound (measured : ℕ) (outcomes : List ProgramOutcome) (place : ℕ) : Type 0 where
  pub named : is_named outcomes place ≡ true
  pub below : place < measured

pub found_at : (measured : ℕ) (outcomes : List ProgramOutcome) (name : List ℕ) (place : ℕ) → AllByRecursion (λ (o : ProgramOutcome). o.place < measured) outcomes → place_of outcomes name ≡ Some place → IsFound measured outcomes place
found_at measured [] name place all e = absurd (cc)
found_at measured (o ∷ outcomes) name place all e = by_name (bytes_eq o.name name) e (λ f. found_at measured outcomes name place all.1 f)
  where
    by_name : (b : Bool) → (if b then Some o.place else place_of outcomes name) ≡ Some place → (place_of outcomes name ≡ Some place → IsFound measured outcomes place) → IsFound measured (o ∷ outcomes) place
    by_name true e later =
        let same : o.place ≡ place = cc in
        let here : (o.place == place) ≡ true = grind (arith, nat_tests) in
        let below = all.0 in
        record { named = rw here refl; below = omega arith }
    by_name false e later = let h = later e in record { named = or_true (o.place == place) h.named; below = h.below }
      where
        or_true : (b : Bool) → is_named outcomes place ≡ true → (b || is_named outcomes place) ≡ true
        or_true true e = refl
        or_true false e = e

named_more : (outcomes : List ProgramOutcome) (o : ProgramOutcome) (place : ℕ) → is_named outcomes place ≡ true → is_named (outcomes ++ o ∷ []) place ≡ true
named_more [] o place e = absurd (cc)
named_more (p ∷ outcomes) o place e = by_here (p.place == place) e (λ f. named_more outcomes o place f)
  where
    by_here : (b : Bool) → (b || is_named outcomes place) ≡ true → (is_named outcomes place ≡ true → is_named (outcomes ++ o ∷ []) place ≡ true) → (b || is_named (outcomes ++ o ∷ []) place) ≡ true
    by_here true e later = refl
    by_here false e later = later e

-- Tests.

module _ (version count : ℕ) (strands : List ℕ) where
  pub told_push : (outcomes : List ProgramOutcome) (before cs : List Command) (c : Command) → AreTold version count outcomes strands before cs → IsTold version count outcomes strands (before ++ cs) c
      → AreTold version count outcomes strands before (cs ++ c ∷ [])
  told_push outcomes before [] c are is = (subst (λ (b : List Command). IsTold version count outcomes strands b c) (append-nil before) is, tt)
  told_push outcomes before (d ∷ cs) c are is =
      (are.0, told_push outcomes (before ++ d ∷ []) cs c are.1 (subst (λ (b : List Command). IsTold version count outcomes strands b c) (sym (append_assoc before (d ∷ []) cs)) is))

  -- one named outcome more
  told_here : (outcomes : List ProgramOutcome) (o : ProgramOutcome) (before : List Command) (c : Command) → IsTold version count outcomes strands before c → IsTold version count (outcomes ++ o ∷ []) strands before c
  told_here outcomes o before (Braid k sign) is = tt
  told_here outcomes o before (Raise k) is = tt
  told_here outcomes o before (Measure k) is = tt
  told_here outcomes o before (BraidWhen k sign place label) is = record { second = is.second; known = is.known; named = named_more outcomes o place is.named; earlier = is.earlier; alike = is.alike }

  pub told_more : (outcomes : List ProgramOutcome) (o : ProgramOutcome) (before cs : List Command) → AreTold version count outcomes strands before cs → AreTold version count (outcomes ++ o ∷ []) strands before cs
  told_more outcomes o before [] are = tt
  told_more outcomes o before (c ∷ cs) are = (told_here outcomes o before c are.0, told_more outcomes o (before ++ c ∷ []) cs are.1)
