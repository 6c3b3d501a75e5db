-- A well formed program meets what its runs ask of it.
use Rattle.std.proofs.Common.{◌≡◌, ◌⊎◌, ℕ, ◌+◌, ◌<◌, ◌≤◌, Bool, true, false, not, inl, inr, List, [], ◌∷◌, ◌++◌, refl, ap, sym, subst, ◌∙◌, arith, append_assoc}
use Rattle.std.specs.Prelude.{◌||◌, nat_lt}
use Rattle.std.specs.Str.{bytes_eq}
use Rattle.std.specs.List.{AllByRecursion}
use Rattle.std.proofs.lemmas.Bool.Decides.{eqb_tells}
use Rattle.tree_shapes.specs.Labelled.{size}
use Rattle.ring_laws.proofs.SumLemmas as S
use Rattle.comb_laws.proofs.PathFacts.{and_true, nat_lt_true}
use Rattle.program_text.specs.Grammar.{is_apart, all_apart}
use Rattle.program_text.specs.Letters.{letter_at, letters, measurements, outcomes_of}
use Rattle.program_text.specs.Program.{ProgramOutcome, ProgramSite}
use Rattle.program_text.specs.WellFormed.{AreSites, AreTold, IsGapOf, commands_in}
use Rattle.program_text.specs.declared.plan.Command.{Command}
use Rattle.program_text.specs.declared.plan.Command.TheVariants.{Braid, Raise, Measure, BraidWhen}
use Rattle.program_text.proofs.KeptLemmas.{measurements_push}
use Rattle.run_laws.specs.Programs.{range_of, ranges_of, commands_of, ProgramsMayRun}
use Rattle.run_laws.specs.Schedules.{Disjoint, IsWithin, AreApart, site_letters}
use Rattle.run_laws.specs.Timely.{is_known, is_timely}
use Rattle.run_laws.specs.Turns.{in_text}
use Rattle.run_laws.proofs.PlaceLemmas.{known_here, known_more}

-- A letter at a gap of its site is within the site's strands.
letter_within : (n p : ℕ) (site : ProgramSite) (c : Command) → 1 ≤ site.first → site.last ≤ n → IsGapOf site c → IsWithin n (range_of site) (letter_at p c)
letter_within n p site (Braid k sign) some inside gap = let low = gap.0 in let high = gap.1 in record { above = omega arith; low = low; high = high; below = omega arith }
letter_within n p site (Raise k) some inside gap = let low = gap.0 in let high = gap.1 in record { above = omega arith; low = low; high = high; below = omega arith }
letter_within n p site (Measure k) some inside gap = let low = gap.0 in let high = gap.1 in record { above = omega arith; low = low; high = high; below = omega arith }
letter_within n p site (BraidWhen k sign place label) some inside gap = let low = gap.0 in let high = gap.1 in record { above = omega arith; low = low; high = high; below = omega arith }

letters_within : (n p : ℕ) (site : ProgramSite) (cs : List Command) → 1 ≤ site.first → site.last ≤ n → AllByRecursion (IsGapOf site) cs → AllByRecursion (IsWithin n (range_of site)) (letters p cs)
letters_within n p site [] some inside gaps = tt
letters_within n p site (c ∷ cs) some inside gaps = (letter_within n p site c some inside gaps.0, letters_within n (p + outcomes_of c) site cs some inside gaps.1)

-- Sites that are apart have no strand in common.
either : (a b : Bool) → (a || b) ≡ true → (a ≡ true) ⊎ (b ≡ true)
either true b h = inl refl
either false b h = inr h

apart_disjoint : (site earlier : ProgramSite) → is_apart site.name site.first site.last earlier ≡ true → Disjoint (range_of earlier) (range_of site)
apart_disjoint site earlier h =
    elim (either (nat_lt site.last earlier.first) (nat_lt earlier.last site.first)
    (and_true (not (bytes_eq earlier.name site.name)) (nat_lt site.last earlier.first || nat_lt earlier.last site.first) h).1) [
      | inl behind ↦ inr (nat_lt_true site.last earlier.first behind)
      | inr before ↦ inl (nat_lt_true earlier.last site.first before)
    ]

apart_among : (site earlier : ProgramSite) (xs ys : List ProgramSite) → all_apart site.name site.first site.last (xs ++ earlier ∷ ys) ≡ true → is_apart site.name site.first site.last earlier ≡ true
apart_among site earlier [] ys h = (and_true (is_apart site.name site.first site.last earlier) (all_apart site.name site.first site.last ys) h).0
apart_among site earlier (x ∷ xs) ys h =
    apart_among site earlier xs ys (and_true (is_apart site.name site.first site.last x) (all_apart site.name site.first site.last (xs ++ earlier ∷ ys)) h).1

later_disjoint : (n : ℕ) (earlier : ProgramSite) (xs ys sites : List ProgramSite) → AreSites n (xs ++ earlier ∷ ys) sites → AllByRecursion (Disjoint (range_of earlier)) (ranges_of sites)
later_disjoint n earlier xs ys [] are = tt
later_disjoint n earlier xs ys (site ∷ sites) are = (
  apart_disjoint site earlier (apart_among site earlier xs ys are.1),
  later_disjoint n earlier xs (ys ++ site ∷ []) sites (subst (λ (b : List ProgramSite). AreSites n b sites) (append_assoc xs (earlier ∷ ys) (site ∷ [])) are.2),
)

sites_apart : (n p : ℕ) (before sites : List ProgramSite) → AreSites n before sites → AreApart n (ranges_of sites) (site_letters p (commands_of sites))
sites_apart n p before [] are = tt
sites_apart n p before (site ∷ sites) are = (
  letters_within n p site site.commands are.0.some are.0.inside are.0.gaps,
  later_disjoint n site before [] sites are.2,
  sites_apart n (p + measurements site.commands) (before ++ site ∷ []) sites are.2,
)

-- Tests of measurements that stand before them are in time.
known_on : (m : ℕ) (known : List ℕ) → ((p : ℕ) → p < m → is_known known p ≡ true) → (p : ℕ) → p < m + 1 → is_known (m ∷ known) p ≡ true
known_on m known all p low = elim (eqb_tells m p) [
  | inl same ↦ subst (λ q. is_known (m ∷ known) q ≡ true) same.1 (known_here m known)
  | inr other ↦ known_more m p known (all p (let apart : m ≡ p → ⊥ = other.1 in omega arith))
]

module _ (version count : ℕ) (outcomes : List ProgramOutcome) (strands : List ℕ) where
  told_timely : (before cs : List Command) (known : List ℕ) → ((p : ℕ) → p < measurements before → is_known known p ≡ true)
      → AreTold version count outcomes strands before cs → is_timely known (letters (measurements before) cs) ≡ true
  told_timely before [] known all told = refl
  told_timely before (Braid k sign ∷ cs) known all told = ap (λ m. is_timely known (letters m cs)) (sym (measurements_push before (Braid k sign)))
      ∙ told_timely (before ++ Braid k sign ∷ []) cs known
      (λ p low. all p (let more = measurements_push before (Braid k sign) in omega (arith, more))) told.1
  told_timely before (Raise k ∷ cs) known all told = ap (λ m. is_timely known (letters m cs)) (sym (measurements_push before (Raise k)))
      ∙ told_timely (before ++ Raise k ∷ []) cs known
      (λ p low. all p (let more = measurements_push before (Raise k) in omega (arith, more))) told.1
  told_timely before (Measure k ∷ cs) known all told = ap (λ m. is_timely (measurements before ∷ known) (letters m cs)) (sym (measurements_push before (Measure k)))
      ∙ told_timely (before ++ Measure k ∷ []) cs (measurements before ∷ known)
      (λ p low. known_on (measurements before) known all p (let more = measurements_push before (Measure k) in omega (arith, more))) told.1
  told_timely before (BraidWhen k sign place label ∷ cs) known all told =
      S.and_yes (is_known known place) (is_timely known (letters (measurements before + 0) cs)) (all place told.0.earlier)
      (ap (λ m. is_timely known (letters m cs)) (sym (measurements_push before (BraidWhen k sign place label)))
      ∙ told_timely (before ++ BraidWhen k sign place label ∷ []) cs known
      (λ p low. all p (let more = measurements_push before (BraidWhen k sign place label) in omega (arith, more))) told.1)

text_commands : (sites : List ProgramSite) → in_text (commands_of sites) ≡ commands_in sites
text_commands [] = refl
text_commands (site ∷ sites) = ap (λ cs. site.commands ++ cs) (text_commands sites)

pub programs_may_run : ProgramsMayRun
programs_may_run fuse count p is = record {
  apart = sites_apart (size p.start) 0 [] p.sites is.sites;
  timely = ap (λ cs. is_timely [] (letters 0 cs)) (text_commands p.sites)
      ∙ told_timely p.version count p.outcomes _ [] (commands_in p.sites) [] (λ q low. absurd (omega arith)) is.tests;
  text = text_commands p.sites;
}
