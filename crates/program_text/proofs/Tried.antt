-- The definitions, tried on small values.
use Rattle.std.proofs.Common.{◌≡◌, [], ◌∷◌, refl}
use Rattle.program_text.specs.declared.form.TheConstants.{COMMAND_LIMIT}
use Rattle.program_text.specs.declared.plan.Sign.TheVariants.{Minus}
use Rattle.program_text.specs.declared.plan.Command.TheVariants.{Braid, Raise, Measure}
use Rattle.program_text.specs.Letters.{letters}
use Rattle.program_text.specs.declared.letter.Letter.TheVariants.{Crossing, Charge, Still}

-- the most commands
limit : COMMAND_LIMIT ≡ 4096
limit = refl

-- each measurement has a place of its own, and a raise has none
places : letters 0 (Measure 1 ∷ Braid 2 Minus ∷ Raise 3 ∷ Measure 2 ∷ []) ≡ Charge 1 0 ∷ Crossing 2 Minus ∷ Still 3 ∷ Charge 2 1 ∷ []
places = refl
