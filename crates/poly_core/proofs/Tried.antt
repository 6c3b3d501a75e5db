-- Worked values of the definitions.
use Rattle.std.proofs.Common.{◌≡◌, [], ◌∷◌, true, false, refl}
use Rattle.std.specs.Prelude.{pos, negsuc}
use Rattle.poly_core.specs.Gcd.{gcd, totient}
use Rattle.poly_core.specs.Rho.{is_accepted, polynomial, rho}
use Rattle.poly_core.specs.Roots.{root_at}

totients : ((totient 1 ≡ 1) × (totient 12 ≡ 4) × (totient 17 ≡ 16) × (totient 19 ≡ 18) × (totient 60 ≡ 16))
unfolding totient gcd
totients = (refl, refl, refl, refl, refl)

accepted : ((is_accepted 0 ≡ false) × (is_accepted 17 ≡ true) × (is_accepted 19 ≡ false) × (is_accepted 34 ≡ true) × (is_accepted 60 ≡ true) × (is_accepted 61 ≡ false))
unfolding is_accepted totient gcd
accepted = (refl, refl, refl, refl, refl, refl)

twelfth : polynomial 12 ≡ pos 1 ∷ pos 0 ∷ negsuc 0 ∷ pos 0 ∷ pos 1 ∷ []
unfolding polynomial root_at
twelfth = refl

sixtieth : polynomial 60 ≡ pos 1 ∷ pos 0 ∷ pos 1 ∷ pos 0 ∷ pos 0 ∷ pos 0 ∷ negsuc 0 ∷ pos 0 ∷ negsuc 0 ∷ pos 0 ∷ negsuc 0 ∷ pos 0 ∷ pos 0 ∷ pos 0 ∷ pos 1 ∷ pos 0 ∷ pos 1 ∷ []
unfolding polynomial root_at
sixtieth = refl

-- z^4 of a fifth root of unity is -1 - z - z^2 - z^3
fourth_power : ((rho 5 4 0 ≡ negsuc 0) × (rho 5 4 3 ≡ negsuc 0) × (rho 5 2 2 ≡ pos 1))
unfolding rho root_at
fourth_power = (refl, refl, refl)
