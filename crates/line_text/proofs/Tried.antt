-- Lines, tried: which are refused, and why.
use Rattle.std.proofs.Common.{◌≡◌, [], ◌∷◌, ◌++◌, refl, replicate, codes, Some, None}
use Rattle.line_text.specs.Text.{first_cause, found_in, lines_of, Counted, Faulty}
use Rattle.line_text.specs.declared.fault.LineCause.TheVariants.{TooLong, NotAscii}

-- a line that is too long and has a tab is too long
too_long_first : first_cause (replicate 1025 9) ≡ Some TooLong
too_long_first = refl

too_long : first_cause (replicate 1025 97) ≡ Some TooLong
too_long = refl

-- of the greatest length it isn't
tab_in_longest : first_cause (replicate 1023 97 ++ 9 ∷ []) ≡ Some NotAscii
tab_in_longest = refl

longest : first_cause (replicate 1024 126) ≡ None
longest = refl

delete : first_cause (127 ∷ []) ≡ Some NotAscii
delete = refl

-- skipped lines are counted, and nothing is found behind a line that can't be read
numbered : found_in 0 (lines_of (codes "# c\n\n a\n" ++ 9 ∷ 10 ∷ codes "b")) ≡ Counted 3 (codes " a") ∷ Faulty 4 NotAscii ∷ []
numbered = refl
