-- A well formed program has at most as many sites as strands: their first strands differ.
use Rattle.std.proofs.Common.{◌≡◌, ℕ, suc, ◌+◌, ◌<◌, ◌≤◌, true, false, inl, inr, List, [], ◌∷◌, ◌++◌, map, length, refl, ap, sym, ◌∙◌, arith, eqb}
use Rattle.std.specs.Prelude.{◌||◌}
use Rattle.std.specs.List.{AllByRecursion, IsDistinct, list_any}
use Rattle.std.proofs.lemmas.Bool.Decides.{eqb_tells}
use Rattle.std.proofs.lemmas.Map.Steps.{length-le_from_distinct_below}
use Rattle.tree_shapes.specs.Labelled.{size}
use Rattle.tree_shapes.specs.declared.limits.TheConstants.{STRAND_LIMIT}
use Rattle.program_text.specs.Letters.{measurements}
use Rattle.program_text.specs.Program.{Program, ProgramSite}
use Rattle.program_text.specs.WellFormed.{AreSites}
use Rattle.run_laws.specs.Programs.{commands_of, range_of, ranges_of}
use Rattle.run_laws.specs.Schedules.{AreApart, Disjoint, site_letters}
use Rattle.run_laws.proofs.ProgramLemmas.{programs_may_run}
use Rattle.site_schedule.specs.Legal.{IsWellFormed}

abbrev pub firsts : List ProgramSite → List ℕ
firsts sites = map (λ site. site.first) sites

-- a site has a first strand of these, and it isn't behind the last
pub record IsOrdered (n : ℕ) (site : ProgramSite) : Type 0 where
  pub some : 1 ≤ site.first
  pub order : site.first ≤ site.last
  pub inside : site.last ≤ n

sites_ordered : (n : ℕ) (before sites : List ProgramSite) → AreSites n before sites → AllByRecursion (IsOrdered n) sites
sites_ordered n before [] are = tt
sites_ordered n before (site ∷ sites) are = (record { some = are.0.some; order = are.0.order; inside = are.0.inside }, sites_ordered n (before ++ site ∷ []) sites are.2)

unequal : (a b : ℕ) → (a ≡ b → ⊥) → eqb a b ≡ false
unequal a b f = elim (eqb_tells a b) [ inl y ↦ absurd (f y.1) | inr n ↦ n.0 ]

first_apart : (n : ℕ) (site : ProgramSite) (sites : List ProgramSite) → IsOrdered n site → AllByRecursion (IsOrdered n) sites → AllByRecursion (Disjoint (range_of site)) (ranges_of sites)
    → AllByRecursion (λ y. eqb site.first y ≡ false) (firsts sites)
first_apart n site [] one all apart = tt
first_apart n site (other ∷ sites) one all apart = (
  unequal site.first other.first (λ e. differ apart.0 e),
  first_apart n site sites one all.1 apart.1,
)
  where
    differ : Disjoint (range_of site) (range_of other) → site.first ≡ other.first → ⊥
    differ (inl h) e = (let a = one.order in omega arith)
    differ (inr h) e = (let a = all.0.order in omega arith)

firsts_distinct : (n p : ℕ) (sites : List ProgramSite) → AllByRecursion (IsOrdered n) sites → AreApart n (ranges_of sites) (site_letters p (commands_of sites)) → IsDistinct eqb (firsts sites)
unfolding IsDistinct
firsts_distinct n p [] all apart = tt
firsts_distinct n p (site ∷ sites) all apart = (
  first_apart n site sites all.0 all.1 apart.1,
  firsts_distinct n (p + measurements site.commands) sites all.1 apart.2,
)

firsts_below : (n : ℕ) (sites : List ProgramSite) → AllByRecursion (IsOrdered n) sites → (q : ℕ) → list_any (eqb q) (firsts sites) ≡ true → q < n + 1
firsts_below n [] all q h = absurd (cc)
firsts_below n (site ∷ sites) all q h = elim (eqb_tells q site.first) [
  | inl y ↦ (let e = y.1 in let a = all.0.order in let b = all.0.inside in omega arith)
  | inr m ↦ firsts_below n sites all.1 q (ap (λ b. b || list_any (eqb q) (firsts sites)) (sym m.0) ∙ h)
]

none_zero : (n : ℕ) (sites : List ProgramSite) → AllByRecursion (IsOrdered n) sites → AllByRecursion (λ y. eqb 0 y ≡ false) (firsts sites)
none_zero n [] all = tt
none_zero n (site ∷ sites) all = (unequal 0 site.first (λ e. (let a = all.0.some in omega arith)), none_zero n sites all.1)

zero_below : (n : ℕ) (sites : List ProgramSite) → AllByRecursion (IsOrdered n) sites → (q : ℕ) → list_any (eqb q) (0 ∷ firsts sites) ≡ true → q < n + 1
zero_below n sites all q h = elim (eqb_tells q 0) [
  | inl y ↦ (let e = y.1 in omega arith)
  | inr m ↦ firsts_below n sites all q (ap (λ b. b || list_any (eqb q) (firsts sites)) (sym m.0) ∙ h)
]

with_zero : (n p : ℕ) (sites : List ProgramSite) → AllByRecursion (IsOrdered n) sites → AreApart n (ranges_of sites) (site_letters p (commands_of sites)) → IsDistinct eqb (0 ∷ firsts sites)
unfolding IsDistinct
with_zero n p sites all apart = (none_zero n sites all, firsts_distinct n p sites all apart)

length_firsts : (sites : List ProgramSite) → length (firsts sites) ≡ length sites
length_firsts [] = refl
length_firsts (site ∷ sites) = ap suc (length_firsts sites)

pub few_sites : (p : Program) → IsWellFormed p → length p.sites ≤ STRAND_LIMIT
few_sites p is =
    let all = sites_ordered (size p.start) [] p.sites is.program.sites in
    let may = programs_may_run is.fuse is.count p is.program in
    let most = length-le_from_distinct_below (0 ∷ firsts p.sites) (size p.start + 1) (with_zero (size p.start) 0 p.sites all may.apart) (zero_below (size p.start) p.sites all) in
    let same = length_firsts p.sites in
    let few = is.program.start.few in
    omega (arith, most, same, few)
