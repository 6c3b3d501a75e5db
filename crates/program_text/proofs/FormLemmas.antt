-- What the site `main` with all strands is.
use Rattle.std.proofs.Common.{◌≡◌, ℕ, List, true, ◌&&◌, ◌==◌, refl, arith, codes}
use Rattle.std.specs.Str.{bytes_eq}
use Rattle.std.proofs.lemmas.Bool.Decides.{nat_tests}
use Rattle.std.proofs.lemmas.Slice.Eq.{bytes_eq-Decides}
use Rattle.program_text.specs.declared.plan.Command.{Command}
use Rattle.program_text.specs.Program.{ProgramSite}
use Rattle.program_text.specs.Canonical.{is_main}
use Rattle.program_text.proofs.WordLemmas.{both}

abbrev site_with : List Command → List ℕ → ℕ → ℕ → ProgramSite
site_with commands name first last = record { name = name; first = first; last = last; commands = commands }

abbrev pub main_with : List Command → ℕ → ProgramSite
main_with commands strands = record { name = codes "main"; first = 1; last = strands; commands = commands }

-- what `main` with all strands is, but for its commands
pub main_is : (strands : ℕ) (site : ProgramSite) → is_main strands site ≡ true → site ≡ main_with site.commands strands
main_is strands site is =
    let name = both (bytes_eq site.name (codes "main")) ((site.first == 1) && (site.last == strands)) is in
    let place = both (site.first == 1) (site.last == strands) name.1 in
    by_fields site.name site.first site.last ((bytes_eq-Decides site.name (codes "main")).0 name.0) (grind (arith, nat_tests)) (grind (arith, nat_tests))
  where
    by_fields : (name : List ℕ) (first last : ℕ) → name ≡ codes "main" → first ≡ 1 → last ≡ strands → site_with site.commands name first last ≡ main_with site.commands strands
    by_fields name first last e f g = rw (e, f, g) refl
