-- The stated evaluation on combs: which products, sums and conjugates arise, and the first stop.
use Rattle.std.specs.Prelude.{ℕ, ◌+◌, ◌-◌, Bool, ◌&&◌, not, nat_lt, Option, Some, None, is_some, if◌then◌else◌, slice_index, slice_set, List, [], ◌∷◌, map, length, Result}
use Rattle.std.specs.List.{filter, list_all}
use Rattle.ring_laws.specs.Ring.{Ring}
use Rattle.ring_laws.specs.Stated.{◌>>=◌, product_at, sum_at, conjugate_at, add_product_at, add_product3_at, steps, steps_over}
use Rattle.symbol_table.specs.Symbols.{Symbols, f_admissible}
use Rattle.tree_shapes.specs.Labelled.{Labelled, leaves, size}
use Rattle.program_text.specs.declared.plan.Sign.{Sign}
use Rattle.program_text.specs.declared.plan.Command.{Command}
use Rattle.word_runs.specs.Told.{Told}
use Rattle.word_runs.specs.declared.engine.Step.{Step}
use Rattle.word_runs.specs.declared.engine.Step.TheVariants.{Raise, Exchange}
use Rattle.word_runs.specs.declared.fault.RunStop.{RunStop}
use Rattle.comb_laws.specs.Paths.{Path, Vector, is_path, paths, labels}
use Rattle.comb_laws.specs.Operators.{strand, swapped, exchange_by, braided, projected}
use Rattle.comb_laws.specs.Amplitudes.{own_vector}
use Rattle.comb_laws.specs.Plans.{Outcomes}
use Rattle.outcome_rows.specs.Evaluated.{evaluation_of as evaluation_from}

-- A kernel that is evaluated: none where an item of it doesn't fit.
abbrev pub KernelAt : Type 0 → Type 0
KernelAt E = (p a b y t u : ℕ) → Option E

-- the term of the charge q in a braid's kernel, which arises where F and H are admissible
abbrev pub braid_step : {E : Type 0} → Symbols E → Sign → (p a b y t u : ℕ) → ℕ → E → Option E
braid_step c sign p a b y t u q sum =
    if f_admissible c.fuse p a b y t q && f_admissible c.fuse p b a y u q
    then add_product3_at c.ring sum (c.f p a b y t q) (exchange_by c sign a b q) (c.h p b a y q u)
    else Some sum

-- B(t,u), by prefix sums over the charges in label order, begun at zero
abbrev pub braid_kernel_at : {E : Type 0} → Symbols E → Sign → KernelAt E
braid_kernel_at c sign p a b y t u = steps (braid_step c sign p a b y t u) 0 c.count c.ring.zero

-- C(t,u) for the charge q: one product, where F and H are admissible
abbrev pub charge_kernel_at : {E : Type 0} → Symbols E → ℕ → KernelAt E
charge_kernel_at c q p a b y t u =
    if f_admissible c.fuse p a b y t q && f_admissible c.fuse p a b y u q
    then product_at c.ring (c.f p a b y t q) (c.h p a b y q u)
    else Some c.ring.zero

-- one more term, a kernel times an old value, of a new value
abbrev pub term_added_at : {E : Type 0} → Ring E → Option E → E → E → Option E
term_added_at r kernel old sum = do
  by ← kernel
  add_product_at r sum by old

-- the term of the label t in the new value at x, which arises where the old value isn't zero
abbrev pub acted_step : {E : Type 0} → Symbols E → List ℕ → ℕ → KernelAt E → Vector E → Path → ℕ → E → Option E
acted_step c strands k kernel v x t sum =
    let old = v (slice_set x k t) in
    if c.held.is_zero old
    then Some sum
    else term_added_at c.ring
    (kernel (slice_index x (k - 1)) (strand strands k) (strand strands (k + 1)) (slice_index x (k + 1)) t (slice_index x k))
    old sum

-- the new value at x, by prefix sums over the old labels in label order, begun at zero
abbrev pub acted_at : {E : Type 0} → Symbols E → List ℕ → List ℕ → ℕ → KernelAt E → Vector E → Path → Option E
acted_at c strands after k kernel v x =
    if is_path c after x then steps (acted_step c strands k kernel v x) 0 c.count c.ring.zero else Some c.ring.zero

-- whether every item of an operator at gap k fits
abbrev pub acted_fits : {E : Type 0} → Symbols E → List ℕ → List ℕ → ℕ → KernelAt E → Vector E → Bool
acted_fits c strands after k kernel v = list_all (λ x. is_some (acted_at c strands after k kernel v x)) (paths c after)

abbrev pub braided_fits : {E : Type 0} → Symbols E → List ℕ → Sign → ℕ → Vector E → Bool
braided_fits c strands sign k v = acted_fits c strands (swapped strands k) k (braid_kernel_at c sign) v

abbrev pub projected_fits : {E : Type 0} → Symbols E → List ℕ → ℕ → ℕ → Vector E → Bool
projected_fits c strands k q v = acted_fits c strands strands k (charge_kernel_at c q) v

-- the product of the weights along a path, from the left
abbrev pub weights_along_at : {E : Type 0} → Symbols E → E → ℕ → List ℕ → List ℕ → Option E
weights_along_at c begun p (s ∷ ss) (x ∷ xs) = do
  next ← product_at c.ring begun (c.w p s x)
  weights_along_at c next x ss xs
weights_along_at c begun p ss xs = Some begun

-- the weights over the nodes of a left-combed tree, one for each strand behind the first
abbrev pub path_weight_at : {E : Type 0} → Symbols E → List ℕ → Path → Option E
path_weight_at c (s ∷ strands) (x_0 ∷ x_1 ∷ xs) = weights_along_at c c.ring.one x_1 strands xs
path_weight_at c strands x = Some c.ring.one

-- one more path of a weight: the weights' product, the conjugate, the value times it, the product of both, the sum
abbrev pub weight_term_at : {E : Type 0} → Ring E → Option E → E → E → Option E
weight_term_at r path_weight value sum = do
  weights ← path_weight
  turned ← conjugate_at r value
  square ← product_at r value turned
  term ← product_at r weights square
  sum_at r sum term

-- a path adds its term where its value isn't zero
abbrev pub weight_step : {E : Type 0} → Symbols E → List ℕ → Vector E → Path → E → Option E
weight_step c strands v x sum =
    if c.held.is_zero (v x) then Some sum else weight_term_at c.ring (path_weight_at c strands x) (v x) sum

-- the weight, by prefix sums over the paths in the order of lists of labels, begun at zero
abbrev pub weight_at : {E : Type 0} → Symbols E → List ℕ → Vector E → Option E
weight_at c strands v = steps_over (weight_step c strands v) (paths c strands) c.ring.zero

-- whether a vector is zero at every path
abbrev pub is_nought : {E : Type 0} → Symbols E → List ℕ → Vector E → Bool
is_nought c strands v = list_all (λ x. c.held.is_zero (v x)) (paths c strands)

-- at how many paths a vector isn't zero
abbrev pub amplitudes : {E : Type 0} → Symbols E → List ℕ → Vector E → ℕ
amplitudes c strands v = length (filter (λ x. not (c.held.is_zero (v x))) (paths c strands))

-- The state of a word: the strands, and a vector over them.
abbrev pub State : Type 0 → Type 0
State E = List ℕ × Vector E

-- what a step makes of a state; a raise changes nothing
abbrev pub stepped_at : {E : Type 0} → Symbols E → Step → State E → Option (State E)
stepped_at c (Raise k) s = Some s
stepped_at c (Exchange k sign) s =
    if braided_fits c s.0 sign k s.1 then Some (swapped s.0 k, braided c s.0 sign k s.1) else None

-- the projection of a state at gap k on a charge
abbrev pub part_of : {E : Type 0} → Symbols E → ℕ → State E → ℕ → ℕ × State E
part_of c k s q = (q, (s.0, projected c s.0 k q s.1))

abbrev pub is_part : {E : Type 0} → Symbols E → ℕ × State E → Bool
is_part c part = not (is_nought c part.1.0 part.1.1)

-- the parts of a state at gap k: in label order, the projections that aren't zero, if those on all charges fit
abbrev pub parts_at : {E : Type 0} → Symbols E → ℕ → State E → Option (List (ℕ × State E))
parts_at c k s =
    if list_all (λ q. projected_fits c s.0 k q s.1) (labels c.count)
    then Some (filter (is_part c) (map (part_of c k s) (labels c.count)))
    else None

-- What the engine on combs of n strands tells: every gap is a pair, and a state has no shape.
abbrev pub comb_told : {E : Type 0} → Symbols E → ℕ → Told (State E) (Unit {0})
comb_told c n = record {
  strands = n;
  shape = λ s. tt;
  turned = λ k t. t;
  path = λ k t. [];
  is_pair = λ k t. nat_lt 0 k && nat_lt k n;
  stepped = stepped_at c;
  parts = parts_at c;
  entries = λ s. amplitudes c s.0 s.1;
}

-- the weight of a state
abbrev pub state_weight_at : {E : Type 0} → Symbols E → State E → Option E
state_weight_at c s = weight_at c s.0 s.1

-- The total and the rows of a left-combed start and its commands, or the first stop: turn 0 evaluates the total, each
-- command is a turn from 1 on, and the turn after the last one evaluates the weights of the words. The start has the
-- amplitude one at the tree's own path.
abbrev pub evaluation_of : {E : Type 0} → Symbols E → Labelled → List Command → Result (Outcomes E) RunStop
evaluation_of c tree commands =
    evaluation_from (comb_told c (size tree)) (state_weight_at c) c.held.is_zero (leaves tree, own_vector c.ring tree) commands
