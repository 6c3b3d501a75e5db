-- Worked values of both sides of the laws, by computing the definitions: on the Fibonacci category, and for far
-- commutation, which needs no equation, on symbols with a number of its own at each index. The expected values are those
-- of a program of its own.
use Rattle.std.specs.Prelude.{◌≡◌, ℕ, ◌+◌, ◌*◌, List, [], ◌∷◌, pos, negsuc, Some, refl, if◌then◌else◌}
use Rattle.std.specs.Str.{bytes_eq}
use Rattle.ring_laws.specs.Sums.{total}
use Rattle.symbol_table.specs.Symbols.{Symbols, symbols_of}
use Rattle.symbol_table.proofs.Fib.{Whole5, fib, held5, num, numbered, ring5, whole}
use Rattle.comb_laws.specs.Operators.{braided, projected, swapped, weight}
use Rattle.comb_laws.specs.Paths.{Path, Vector}
use Rattle.comb_laws.specs.Words.{comb_acts}
use Rattle.comb_laws.specs.declared.operator.Operator.TheVariants.{Exchange, Project}
use Rattle.program_text.specs.declared.plan.Sign.TheVariants.{Plus, Minus}
use Rattle.path_laws.specs.Moves.{braid_at, opposite}

-- the sum of vectors that are a value at one list each
abbrev at_lists : List (Path × Whole5) → Vector Whole5
at_lists [] x = ring5.zero
at_lists (e ∷ es) x = ring5.sum (if bytes_eq e.0 x then e.1 else ring5.zero) (at_lists es x)

-- over the strands t 1 t t, with a value at a list that is no path
abbrev mixed : List ℕ
mixed = 1 ∷ 0 ∷ 1 ∷ 1 ∷ []

abbrev values : Vector Whole5
values =
    at_lists (((0 ∷ 1 ∷ 1 ∷ 0 ∷ 1 ∷ []), num (pos 2) (pos 1) (pos 0) (pos 0))
    ∷ ((0 ∷ 1 ∷ 1 ∷ 1 ∷ 1 ∷ []), num (pos 1) (pos 3) (pos 0) (pos 0))
    ∷ ((0 ∷ 0 ∷ 1 ∷ 1 ∷ 1 ∷ []), whole 7)
    ∷ [])

abbrev weighs : Whole5
weighs = num (pos 6) (pos 0) (negsuc 5) (negsuc 5)

weight_before : weight fib mixed values ≡ weighs
weight_before = refl

-- after a braid whose strands differ, and after one whose strands don't
weight_after : ((weight fib (swapped mixed 2) (braided fib mixed Plus 2 values) ≡ weighs) × (weight fib (swapped mixed 3) (braided fib mixed Minus 3 values) ≡ weighs))
weight_after = (refl, refl)

-- the charges 1 and t of the last two strands
weights_of_charges : ((weight fib mixed (projected fib mixed 3 0 values) ≡ num (negsuc 9) (pos 0) (negsuc 14) (negsuc 14)) × (weight fib mixed (projected fib mixed 3 1 values) ≡ num (pos 16) (pos 0) (pos 9) (pos 9)))
weights_of_charges = (refl, refl)

weights_share : total ring5 2 (λ q. weight fib mixed (projected fib mixed 3 q values)) ≡ weighs
weights_share = refl

-- the value of the vector over the strands at a list
abbrev value_at : List ℕ × Vector Whole5 → Path → Whole5
value_at state = state.1

-- over three strands t
abbrev three : List ℕ × Vector Whole5
three = (
  1 ∷ 1 ∷ 1 ∷ [],
  at_lists (((0 ∷ 1 ∷ 0 ∷ 1 ∷ []), num (pos 2) (pos 1) (pos 0) (pos 0))
      ∷ ((0 ∷ 1 ∷ 1 ∷ 1 ∷ []), num (pos 1) (pos 3) (pos 0) (pos 0))
      ∷ ((0 ∷ 1 ∷ 1 ∷ 0 ∷ []), num (pos 0) (pos 0) (pos 0) (pos 1))
      ∷ []),
)

braided_once : value_at (braid_at fib Plus 2 three) (0 ∷ 1 ∷ 1 ∷ 1 ∷ []) ≡ num (negsuc 3) (negsuc 0) (negsuc 3) (pos 0)
braided_once = refl

-- back by the other sign, either way
braided_back : ((value_at (braid_at fib (opposite Plus) 2 (braid_at fib Plus 2 three)) (0 ∷ 1 ∷ 1 ∷ 1 ∷ []) ≡ num (pos 1) (pos 3) (pos 0) (pos 0))
    × (value_at (braid_at fib (opposite Minus) 2 (braid_at fib Minus 2 three)) (0 ∷ 1 ∷ 0 ∷ 1 ∷ []) ≡ num (pos 2) (pos 1) (pos 0) (pos 0)))
braided_back = (refl, refl)

-- three braids, begun at gap 1 and at gap 2
begun_at_one : ((value_at (braid_at fib Plus 1 (braid_at fib Plus 2 (braid_at fib Plus 1 three))) (0 ∷ 1 ∷ 0 ∷ 1 ∷ []) ≡ num (negsuc 3) (negsuc 4) (negsuc 2) (negsuc 2))
    × (value_at (braid_at fib Minus 1 (braid_at fib Minus 2 (braid_at fib Minus 1 three))) (0 ∷ 1 ∷ 1 ∷ 0 ∷ []) ≡ num (pos 0) (negsuc 0) (pos 0) (pos 0)))
begun_at_one = (refl, refl)

begun_at_two : ((value_at (braid_at fib Plus 2 (braid_at fib Plus 1 (braid_at fib Plus 2 three))) (0 ∷ 1 ∷ 0 ∷ 1 ∷ []) ≡ num (negsuc 3) (negsuc 4) (negsuc 2) (negsuc 2))
    × (value_at (braid_at fib Minus 2 (braid_at fib Minus 1 (braid_at fib Minus 2 three))) (0 ∷ 1 ∷ 1 ∷ 0 ∷ []) ≡ num (pos 0) (negsuc 0) (pos 0) (pos 0)))
begun_at_two = (refl, refl)

-- no category: three labels that all fuse, with a number of its own at each index
abbrev distinct : Symbols Whole5
distinct =
    symbols_of ring5 held5 (record numbered {
      set_f = λ a b c d e f. Some (num (pos (a + 2 * b + 3 * c + 4 * d + 5 * e + 6 * f)) (pos 1) (pos 0) (pos 0));
      set_r = λ a b c. Some (num (pos (a + 3 * b + 5 * c)) (pos 2) (pos 0) (pos 0));
      set_w = λ a b c. Some (num (pos (a + 2 * b + 5 * c)) (pos 3) (pos 0) (pos 0));
      set_v = λ a b c. Some (num (pos (a + 4 * b + 2 * c)) (pos 5) (pos 0) (pos 0));
    })

abbrev four : List ℕ × Vector Whole5
four = (
  1 ∷ 2 ∷ 0 ∷ 1 ∷ [],
  at_lists (((0 ∷ 1 ∷ 2 ∷ 0 ∷ 2 ∷ []), num (pos 2) (pos 1) (pos 0) (pos 0))
      ∷ ((0 ∷ 2 ∷ 2 ∷ 1 ∷ 2 ∷ []), num (pos 3) (pos 0) (pos 1) (pos 0))
      ∷ ((0 ∷ 1 ∷ 2 ∷ 2 ∷ 2 ∷ []), num (pos 1) (pos 0) (pos 0) (pos 1))
      ∷ []),
)

abbrev far_value : Whole5
far_value = num (negsuc 14934042377110649) (negsuc 5515385161016399) (pos 15628975937527350) (pos 17933778971826900)

-- a braid at gap 1 and the projection on the charge 2 at gap 3
braid_first : value_at (comb_acts distinct 3 (Project 2) (comb_acts distinct 1 (Exchange Plus) four)) (0 ∷ 1 ∷ 2 ∷ 0 ∷ 2 ∷ []) ≡ far_value
braid_first = refl

charge_first : value_at (comb_acts distinct 1 (Exchange Plus) (comb_acts distinct 3 (Project 2) four)) (0 ∷ 1 ∷ 2 ∷ 0 ∷ 2 ∷ []) ≡ far_value
charge_first = refl

strands_left : (((comb_acts distinct 3 (Exchange Minus) (comb_acts distinct 1 (Exchange Plus) four)).0 ≡ 2 ∷ 1 ∷ 1 ∷ 0 ∷ []) × ((comb_acts distinct 1 (Exchange Plus) (comb_acts distinct 3 (Project 2) four)).0 ≡ 2 ∷ 1 ∷ 0 ∷ 1 ∷ []))
strands_left = (refl, refl)
