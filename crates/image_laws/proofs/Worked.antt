-- Worked values of images and mirrors, by computing the definitions: on the Fibonacci category, and on symbols with a number
-- of its own at each index.
use Rattle.std.specs.Prelude.{◌≡◌, ℕ, ◌+◌, ◌%◌, ◌==◌, true, false, ℤ, pos, negsuc, ◌-ℤ◌, ◌+ℤ◌, neg_ℤ, refl}
use Rattle.std.specs.List.{list_all}
use Rattle.ring_laws.specs.Whole.{whole_held}
use Rattle.symbol_table.specs.Symbols.{Symbols, symbols_of}
use Rattle.symbol_table.specs.Laws.{laws_of}
use Rattle.symbol_table.specs.declared.law.Law.TheVariants.{Twist}
use Rattle.symbol_table.proofs.Fib.{Whole5, fib2, num}
use Rattle.symbol_table.proofs.Tested.{is_lawful_at}
use Rattle.symbol_table.proofs.Worked.{numbered, turned_ring}
use Rattle.image_laws.specs.Images.{image_of}
use Rattle.image_laws.specs.Mirrors.{mirror_of}

-- the map that sends z to z^2: z^2 to z^4 = -1 - z - z^2 - z^3, and z^3 to z^6 = z
abbrev squared : Whole5 → Whole5
squared x = num (x.c0 -ℤ x.c2) (x.c3 -ℤ x.c2) (x.c1 -ℤ x.c2) (neg_ℤ x.c2)

-- R(t,t,1) = z^3 becomes z, R(t,t,t) = -z^4 becomes -z^3, and F(t,t,t,t;1,1) the other root's
image_of_r : ((image_of squared fib2).r 1 1 0 ≡ num (pos 0) (pos 1) (pos 0) (pos 0)) × ((image_of squared fib2).r 1 1 1 ≡ num (pos 0) (pos 0) (pos 0) (negsuc 0))
image_of_r = (refl, refl)

image_of_f : (image_of squared fib2).f 1 1 1 1 0 0 ≡ num (pos 0) (pos 0) (pos 1) (pos 1)
image_of_f = refl

-- the twist z^2 of t becomes z^4
image_of_twist : (image_of squared fib2).twist 1 ≡ num (negsuc 0) (negsuc 0) (negsuc 0) (negsuc 0)
image_of_twist = refl

image_is_lawful : list_all (is_lawful_at (image_of squared fib2)) (laws_of 2) ≡ true
image_is_lawful = refl

-- the mirror has the conjugates z^2 and -z of R, and the conjugate z^3 of the twist
mirror_of_r : ((mirror_of fib2).r 1 1 0 ≡ num (pos 0) (pos 0) (pos 1) (pos 0)) × ((mirror_of fib2).r 1 1 1 ≡ num (pos 0) (negsuc 0) (pos 0) (pos 0))
mirror_of_r = (refl, refl)

mirror_of_s : (mirror_of fib2).s 1 1 0 ≡ num (pos 0) (pos 0) (pos 0) (pos 1)
mirror_of_s = refl

mirror_of_twist : (mirror_of fib2).twist 1 ≡ num (pos 0) (pos 0) (pos 0) (pos 1)
mirror_of_twist = refl

mirror_is_lawful : list_all (is_lawful_at (mirror_of fib2)) (laws_of 2) ≡ true
mirror_is_lawful = refl

-- with the twists of the category it obeys no law of twists
twists_kept : is_lawful_at (record (mirror_of fib2) { twist = fib2.twist }) Twist ≡ false
twists_kept = refl

-- three labels that fuse as numbers modulo 3 do, so that 2 is the dual of 1; each symbol is another number, and a conjugate
-- the negative
abbrev thirds : ℕ → Symbols ℤ
thirds version = symbols_of turned_ring whole_held (record numbered { version = version; count = 3; fuse = λ a b e. (a + b) % 3 == e })

-- S(1,2,0) = conj(R(2,1,0)) w(1,2,0) v(2,1,0) = -2210 · 3120 · 4210 and R(1,2,0) change places
mirrored_at_numbers : ((mirror_of (thirds 2)).r 1 2 0 ≡ neg_ℤ (pos 29028792000)) × ((mirror_of (thirds 2)).s 1 2 0 ≡ pos 2120)
mirrored_at_numbers = (refl, refl)

-- R(1,2,0) R(2,1,0) theta_2 = 2120 · 2210 · 52 in version 2 alone
mirrored_twist_at_numbers : ((mirror_of (thirds 2)).twist 1 ≡ pos 243630400) × ((mirror_of (thirds 1)).twist 1 ≡ pos 51)
mirrored_twist_at_numbers = (refl, refl)

-- all else is the same
kept_at_numbers : ((mirror_of (thirds 2)).f 1 1 2 1 2 0 ≡ pos 1112120) × ((mirror_of (thirds 2)).w 1 2 0 ≡ pos 3120) × ((mirror_of (thirds 2)).v 1 2 0 ≡ pos 4120) × ((mirror_of (thirds 2)).loop_value 1 ≡ pos 61)
kept_at_numbers = (refl, refl, refl, refl)

-- one more: each symbol is mapped, H and S too
abbrev raised : Symbols ℤ
raised = image_of (λ n. n +ℤ pos 1) (thirds 2)

image_at_numbers : (raised.f 1 1 2 1 2 0 ≡ pos 1112121) × (raised.r 1 2 0 ≡ pos 2121) × (raised.w 1 2 0 ≡ pos 3121) × (raised.v 1 2 0 ≡ pos 4121) × (raised.twist 1 ≡ pos 52) × (raised.loop_value 1 ≡ pos 62)
image_at_numbers = (refl, refl, refl, refl, refl, refl)

-- H(1,1,2,1;0,2) = -1112120 · 3120 · 3101 · 4112 · 4221, and S(1,2,0) as above
formulas_at_numbers : (raised.h 1 1 2 1 0 2 ≡ neg_ℤ (pos 186756819591196108799)) × (raised.s 1 2 0 ≡ neg_ℤ (pos 29028791999))
formulas_at_numbers = (refl, refl)
