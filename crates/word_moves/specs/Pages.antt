-- Letters in pages.
use Rattle.std.specs.Prelude.{◌≡◌, ℕ, zero, suc, ◌+◌, ◌≤◌, ◌<◌, List, [], ◌∷◌, length, take, Vec}
use Rattle.std.specs.List.{flat_map}
use Rattle.std.specs.declared.alloc.Global.{Global}
use Rattle.program_text.specs.declared.letter.Letter.{Letter}

-- the letters of pages, one page after another
abbrev pub flat : List (Vec Letter Global) → List Letter
flat pages = flat_map (λ page. page.items) pages

-- the letters of the page with a number, counted from 0
abbrev pub page_at : ℕ → List (Vec Letter Global) → List Letter
page_at n [] = []
page_at zero (page ∷ pages) = page.items
page_at (suc n) (page ∷ pages) = page_at n pages

-- The place behind so many letters lies on the page with a number, behind so many letters of it.
pub record IsSpot (number at count : ℕ) (pages : List (Vec Letter Global)) : Type 0 where
  pub there : number < length pages
  pub within : at ≤ length (page_at number pages)
  pub place : length (flat (take number pages)) + at ≡ count
