-- What the lines so far said.
use Rattle.std.proofs.Common.{◌≡◌, ℕ, List, [], ◌∷◌, ◌++◌, Bool, true, false, ◌&&◌, refl, ap, ◌∙◌}
use Rattle.program_text.specs.Program.{ProgramSite}
use Rattle.program_text.specs.Grammar.{given_by, is_apart, all_apart}

module _ (name : List ℕ) (first last : ℕ) where
  and_true : (b : Bool) → (b && true) ≡ b
  and_true true = refl
  and_true false = refl

  pub apart_push : (sites : List ProgramSite) (site : ProgramSite) → all_apart name first last (sites ++ site ∷ []) ≡ (all_apart name first last sites && is_apart name first last site)
  apart_push [] site = and_true (is_apart name first last site)
  apart_push (s ∷ sites) site = ap (λ b. is_apart name first last s && b) (apart_push sites site) ∙ grouped (is_apart name first last s) (all_apart name first last sites) (is_apart name first last site)
    where
      grouped : (a b c : Bool) → (a && (b && c)) ≡ ((a && b) && c)
      grouped true b c = refl
      grouped false b c = refl

  -- the current site counts where a site line was read
  pub apart_with : (has : Bool) (sites : List ProgramSite) (site : ProgramSite) → has ≡ true → all_apart name first last sites ≡ true → all_apart name first last (given_by has sites site) ≡ is_apart name first last site
  apart_with false sites site e all = absurd (cc)
  apart_with true sites site e all = apart_push sites site ∙ ap (λ b. b && is_apart name first last site) all

  pub apart_none : (has : Bool) (sites : List ProgramSite) (site : ProgramSite) → all_apart name first last sites ≡ false → all_apart name first last (given_by has sites site) ≡ false
  apart_none false sites site none = none
  apart_none true sites site none = apart_push sites site ∙ ap (λ b. b && is_apart name first last site) none
