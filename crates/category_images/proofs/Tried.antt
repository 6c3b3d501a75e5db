-- The places of new categories, and their items, at examples that were worked out by hand.
use Rattle.std.specs.Prelude.{◌≡◌, ℕ, ◌+◌, ◌%◌, ◌==◌, ◌&&◌, Bool, List, [], ◌∷◌, ℤ, pos, slice_index, if◌then◌else◌, Option, Some, None, refl}
use Rattle.ring_laws.specs.Whole.{whole_held, whole_ring}
use Rattle.symbol_table.specs.Symbols.{Symbols, symbols_of}
use Rattle.symbol_table.proofs.Worked.{numbered}
use Rattle.category_images.specs.Items.{mirror_item, product_item}
use Rattle.category_images.specs.Places.{first_in, symbols_in, value_at}
use Rattle.category_images.specs.declared.place.Place.{Place}
use Rattle.category_images.specs.declared.place.Symbol.{Symbol}
use Rattle.category_images.specs.declared.place.Symbol.TheVariants.{F, R, W, H, Twist, Loop}

abbrev place : Symbol → List ℕ → Place
place symbol index = record { symbol = symbol; index = index }

-- labels fuse to their sum modulo n
abbrev group : ℕ → ℕ → ℕ → ℕ → Bool
group n a b c = (a + b) % n == c

-- the items but those of R and of w
abbrev but_r_and_w : Symbol → List ℕ → Option ℕ
but_r_and_w R index = None
but_r_and_w W index = None
but_r_and_w symbol index = Some 0

r_before_w : first_in 2 (group 2) but_r_and_w (symbols_in 1) ≡ Some (place R (0 ∷ 0 ∷ 0 ∷ []))
r_before_w = refl

-- the items but those of H at indices that begin with 1 1: a b c d f e is 1 1 0 0 1 0, since 1 and 1 make 0, and 1 and 0 make 1
abbrev but_h : Symbol → List ℕ → Option ℕ
but_h H index = if slice_index index 0 == 1 && slice_index index 1 == 1 then None else Some 0
but_h symbol index = Some 0

h_in_its_order : first_in 2 (group 2) but_h (symbols_in 1) ≡ Some (place H (1 ∷ 1 ∷ 0 ∷ 0 ∷ 1 ∷ 0 ∷ []))
h_in_its_order = refl

-- the same of F: a b c d e f is 1 1 0 0 0 1
abbrev but_f : Symbol → List ℕ → Option ℕ
but_f F index = if slice_index index 0 == 1 && slice_index index 1 == 1 then None else Some 0
but_f symbol index = Some 0

f_in_its_order : first_in 2 (group 2) but_f (symbols_in 1) ≡ Some (place F (1 ∷ 1 ∷ 0 ∷ 0 ∷ 0 ∷ 1 ∷ []))
f_in_its_order = refl

-- the items but those of marks
abbrev but_marks : Symbol → List ℕ → Option ℕ
but_marks Twist index = None
but_marks Loop index = None
but_marks symbol index = Some 0

marks_in_the_second : first_in 2 (group 2) but_marks (symbols_in 2) ≡ Some (place Twist (0 ∷ []))
marks_in_the_second = refl

none_in_the_first : first_in 2 (group 2) but_marks (symbols_in 1) ≡ None
none_in_the_first = refl

-- labels modulo 3, of which 1 and 2 are dual, and each symbol another number
abbrev threes : Symbols ℤ
threes = record (symbols_of whole_ring whole_held numbered) { version = 2; count = 3; fuse = group 3 }

-- R(1,2,0) R(2,1,0) theta_2
twist_of_the_dual : mirror_item threes Twist (1 ∷ []) ≡ Some (pos 243630400)
twist_of_the_dual = refl

r_is_s : mirror_item threes R (1 ∷ 2 ∷ 0 ∷ []) ≡ Some (threes.s 1 2 0)
r_is_s = refl

-- 5 is the pair of 1 and 2, 6 that of 2 and 0, 2 that of 0 and 2: R(1,2,0) of the first, and w(2,0,2) in the second's place
of_pairs : product_item threes (record threes { r = threes.w }) R (5 ∷ 6 ∷ 2 ∷ []) ≡ Some (pos 6788240)
of_pairs = refl

values : value_at threes F (1 ∷ 2 ∷ 0 ∷ 2 ∷ 1 ∷ 0 ∷ []) ≡ pos 1120210
values = refl
