-- What making a category answers.
use Rattle.std.specs.Prelude.{ℕ, List, Option, Result, Ok, Err}
use Rattle.cyclo_core.specs.Ratio.{Ratio}
use Rattle.symbol_table.specs.Symbols.{Symbols}
use Rattle.symbol_table.specs.Draft.{DraftValue}
use Rattle.category_images.specs.Answers.{IsMade}
use Rattle.category_images.specs.Making.{IsStop}
use Rattle.category_images.specs.Places.{first_place}
use Rattle.category_images.specs.declared.place.Symbol.{Symbol}
use Rattle.category_images.specs.declared.making.Stop.{Stop}

-- the category of the wanted symbols, or the first place of an item that doesn't fit; want of memory is free
abbrev pub Makes : ℕ → Symbols Ratio → (Symbol → List ℕ → Option Ratio) → Result (DraftValue ℕ Ratio) Stop → Type 0
Makes number w stated (Ok made) = IsMade number w (first_place w stated) made
Makes number w stated (Err cause) = IsStop number w stated cause (first_place w stated)
