-- Braids, projections, amplitudes and weights tried by evaluation: on unit vectors of the Fibonacci category, and on
-- symbols with a number of its own at each index. The expected values are those of a program of its own.
use Rattle.std.specs.Prelude.{◌≡◌, ℕ, List, [], ◌∷◌, pos, negsuc, refl, slice_index, if◌then◌else◌}
use Rattle.std.specs.Str.{bytes_eq}
use Rattle.comb_laws.specs.Paths.{Path, Vector}
use Rattle.comb_laws.specs.Operators.{braid_kernel, charge_kernel, braided, weight}
use Rattle.comb_laws.specs.Amplitudes.{path_amplitude, stands_for}
use Rattle.tree_shapes.specs.Labelled.{Labelled, Strand, Joined}
use Rattle.program_text.specs.declared.plan.Sign.TheVariants.{Plus, Minus}
use Rattle.symbol_table.proofs.Fib.{Whole5, num, fib, ring5}
use Rattle.comb_laws.proofs.Distinct.{distinct}

-- the vector that is a value at one path
abbrev at_path : Path → Whole5 → Vector Whole5
at_path y value x = if bytes_eq y x then value else ring5.zero

-- one at the path 1 t 1 t of three strands t
abbrev unit_vector : Vector Whole5
unit_vector = at_path (0 ∷ 1 ∷ 0 ∷ 1 ∷ []) ring5.one

pub braided_to_unit : braided fib (1 ∷ 1 ∷ 1 ∷ []) Plus 2 unit_vector (0 ∷ 1 ∷ 0 ∷ 1 ∷ []) ≡ num (pos 0) (pos 1) (pos 0) (pos 1)
braided_to_unit = refl

pub braided_to_t : braided fib (1 ∷ 1 ∷ 1 ∷ []) Plus 2 unit_vector (0 ∷ 1 ∷ 1 ∷ 1 ∷ []) ≡ num (negsuc 0) (pos 0) (negsuc 0) (pos 0)
braided_to_t = refl

pub unbraided_to_unit : braided fib (1 ∷ 1 ∷ 1 ∷ []) Minus 2 unit_vector (0 ∷ 1 ∷ 0 ∷ 1 ∷ []) ≡ num (negsuc 0) (negsuc 0) (pos 0) (negsuc 0)
unbraided_to_unit = refl

pub unbraided_to_t : braided fib (1 ∷ 1 ∷ 1 ∷ []) Minus 2 unit_vector (0 ∷ 1 ∷ 1 ∷ 1 ∷ []) ≡ num (negsuc 0) (pos 0) (pos 0) (negsuc 0)
unbraided_to_t = refl

-- kernels between the labels 1 and 2, over the strands 2 and 0, from 0 to 1
pub exchange_kernel : braid_kernel distinct Plus 1 2 0 2 0 1 ≡ num (pos 87849153) (pos 250241734) (pos 196011474) (pos 60115519)
exchange_kernel = refl

pub inverse_kernel : braid_kernel distinct Minus 1 2 0 2 0 1 ≡ num (pos 14852800630) (pos 51864386196) (pos 52846483456) (pos 21381200703)
inverse_kernel = refl

pub projection_kernel : charge_kernel distinct 2 1 2 0 2 0 1 ≡ num (pos 7414200) (pos 14245155) (pos 8753175) (pos 1912545)
projection_kernel = refl

-- a vector with two values over the strands 1 and 2, and its braid at the path 0 1 2 over the strands 2 and 1
abbrev two_values : Vector Whole5
two_values x =
    ring5.sum (at_path (0 ∷ 1 ∷ 2 ∷ []) (num (pos 2) (pos 1) (pos 0) (pos 0)) x)
    (at_path (0 ∷ 2 ∷ 2 ∷ []) (num (pos 3) (pos 0) (pos 1) (pos 0)) x)

pub braided_over : braided distinct (1 ∷ 2 ∷ []) Plus 1 two_values (0 ∷ 1 ∷ 2 ∷ []) ≡ num (pos 1716575810) (pos 3497019020) (pos 2833671580) (pos 1184218840)
braided_over = refl

pub braided_under : braided distinct (1 ∷ 2 ∷ []) Minus 1 two_values (0 ∷ 1 ∷ 2 ∷ []) ≡ num (pos 162007247380) (pos 487382624210) (pos 500923277280) (pos 233622114670)
braided_under = refl

pub two_weights : weight distinct (1 ∷ 2 ∷ []) two_values ≡ num (pos 2115) (pos 909) (pos 354) (pos 357)
two_weights = refl

-- ((1 2):q 2):r, with labels of its nodes, and (1 (2 2):2):0
abbrev combed : List ℕ → Labelled
combed (q ∷ r ∷ rest) = Joined (Joined (Strand 1) (Strand 2) q) (Strand 2) r
combed labels = Strand 0

abbrev spread_over : Labelled
spread_over = Joined (Strand 1) (Joined (Strand 2) (Strand 2) 2) 0

pub combed_amplitude : path_amplitude distinct (combed (0 ∷ 1 ∷ [])) (slice_index (0 ∷ 1 ∷ 2 ∷ 1 ∷ [])) 0 ≡ num (negsuc 15079261565) (negsuc 1422077954) (pos 22241522544) (pos 22762149837)
combed_amplitude = refl

pub spread_amplitude : path_amplitude distinct spread_over (slice_index (0 ∷ 2 ∷ 0 ∷ 1 ∷ [])) 0 ≡ num (negsuc 19483057399) (pos 34491680950) (pos 85555692625) (pos 63913201000)
spread_amplitude = refl

-- two keys, with the amplitudes 2 + z and 3 + z^2
pub two_keys : stands_for distinct (1 ∷ 2 ∷ 2 ∷ []) combed
    ((0 ∷ 1 ∷ [], num (pos 2) (pos 1) (pos 0) (pos 0)) ∷ (2 ∷ 0 ∷ [], num (pos 3) (pos 0) (pos 1) (pos 0)) ∷ []) (0 ∷ 1 ∷ 2 ∷ 1 ∷ [])
    ≡ num (negsuc 186416766866) (pos 49035084720) (pos 362551828068) (pos 333076549809)
two_keys = refl
