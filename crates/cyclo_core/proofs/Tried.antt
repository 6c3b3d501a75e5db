-- Worked values of the definitions.
use Rattle.std.proofs.Common.{◌≡◌, ℕ, ◌-◌, [], ◌∷◌, true, false, refl}
use Rattle.std.specs.Prelude.{ℤ, pos, negsuc}
use Rattle.poly_core.specs.Gcd.{gcd}
use Rattle.poly_core.specs.Rho.{degree, order, rho}
use Rattle.poly_core.specs.Roots.{root_at}
use Rattle.cyclo_core.specs.Content.{content}
use Rattle.cyclo_core.specs.Image.{is_exponent, image_of, image_fits, image_size, power_of}
use Rattle.cyclo_core.specs.Ratio.{Ratio, most, tabulate, reduced, ring_at}
use Rattle.cyclo_core.specs.Sums.{int_sum, nat_sum}
use Rattle.poly_core.specs.Table.{at}

exponents : ((is_exponent 1 0 ≡ false) × (is_exponent 1 1 ≡ true) × (is_exponent 5 4 ≡ true) × (is_exponent 5 5 ≡ false) × (is_exponent 5 6 ≡ false) × (is_exponent 12 7 ≡ true) × (is_exponent 12 9 ≡ false))
unfolding is_exponent gcd
exponents = (refl, refl, refl, refl, refl, refl, refl)

-- four numerators over a denominator
abbrev four : ℤ → ℤ → ℤ → ℤ → ℕ → Ratio
four a b c d e = record { numerators = a ∷ b ∷ c ∷ d ∷ tabulate 12 (λ _. pos 0); denominator = e }

-- of a fifth root: -(z^2 + z^3), the golden ratio, goes to the other zero of x^2 - x - 1, which is 1 + z^2 + z^3
golden : image_of 5 2 (four (pos 0) (pos 0) (negsuc 0) (negsuc 0) 1) ≡ four (pos 1) (pos 0) (pos 1) (pos 1) 1
unfolding degree order rho root_at reduced content gcd int_sum
golden = refl

abbrev mixed : Ratio
mixed = four (pos 3) (negsuc 0) (pos 7) (pos 2) 4

by_two : image_of 5 2 mixed ≡ four (negsuc 3) (negsuc 4) (negsuc 7) (negsuc 6) 4
unfolding degree order rho root_at reduced content gcd int_sum
by_two = refl

by_three : image_of 5 3 mixed ≡ four (pos 1) (pos 5) (negsuc 1) (negsuc 2) 4
unfolding degree order rho root_at reduced content gcd int_sum
by_three = refl

-- by 4 it is the conjugate
by_four : ((image_of 5 4 mixed ≡ four (pos 4) (pos 1) (pos 3) (pos 8) 4) × ((ring_at 5).conjugate mixed ≡ four (pos 4) (pos 1) (pos 3) (pos 8) 4))
unfolding degree order rho root_at reduced content gcd int_sum
by_four = (refl, refl)

-- of a twelfth root, in halves
halves : ((image_of 12 5 (four (pos 1) (pos 2) (pos 3) (negsuc 4) 2) ≡ four (pos 4) (negsuc 1) (negsuc 2) (negsuc 2) 2) × (image_of 12 7 (four (pos 1) (pos 2) (pos 3) (negsuc 4) 2) ≡ four (pos 1) (negsuc 1) (pos 3) (pos 5) 2))
unfolding degree order rho root_at reduced content gcd int_sum
halves = (refl, refl)

-- of a ninth root, where the images by 2, by 5, which undoes it, and by 4 differ
abbrev six : ℤ → ℤ → ℤ → ℤ → ℤ → ℤ → ℕ → Ratio
six a b c d e f m = record { numerators = a ∷ b ∷ c ∷ d ∷ e ∷ f ∷ tabulate 10 (λ _. pos 0); denominator = m }

ninth : ((image_of 9 2 (six (pos 1) (pos 2) (pos 3) (pos 4) (pos 5) (pos 6) 7) ≡ six (negsuc 2) (pos 6) (negsuc 2) (negsuc 3) (pos 3) (negsuc 4) 7) × (image_of 9 5 (six (pos 1) (pos 2) (pos 3) (pos 4) (pos 5) (pos 6) 7) ≡ six (negsuc 2) (negsuc 2) (pos 5) (negsuc 3) (negsuc 5) (pos 2) 7))
unfolding degree order rho root_at reduced content gcd int_sum
ninth = (refl, refl)

-- magnitudes before anything cancels: (M - 1) + z^2 fits, and M + z^2 doesn't, though its image M - 1 - z - z^2 - z^3 is small
sizes : ((image_size 5 2 (at (pos 3 ∷ negsuc 0 ∷ pos 7 ∷ pos 2 ∷ [])) 0 ≡ 10) × (image_size 5 2 (at (pos 3 ∷ negsuc 0 ∷ pos 7 ∷ pos 2 ∷ [])) 3 ≡ 7) × (image_fits 5 2 (four (pos (most - 1)) (pos 0) (pos 1) (pos 0) 1) ≡ true) × (image_fits 5 2 (four (pos most) (pos 0) (pos 1) (pos 0) 1) ≡ false))
unfolding degree order rho root_at nat_sum
sizes = (refl, refl, refl, refl)

-- z^4 and z^6 of a fifth root
powers : ((power_of 5 4 ≡ four (negsuc 0) (negsuc 0) (negsuc 0) (negsuc 0) 1) × (power_of 5 6 ≡ four (pos 0) (pos 1) (pos 0) (pos 0) 1))
unfolding order rho root_at
powers = (refl, refl)
