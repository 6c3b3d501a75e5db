-- What braids, measurements and weights are on comb vectors.
use Rattle.std.specs.Prelude.{ℕ, ◌+◌, ◌-◌, List, [], ◌∷◌, if◌then◌else◌, slice_index, slice_set}
use Rattle.ring_laws.specs.Sums.{total, sum_over}
use Rattle.symbol_table.specs.Symbols.{Symbols}
use Rattle.comb_laws.specs.Paths.{Path, Vector, paths, is_path}
use Rattle.program_text.specs.declared.plan.Sign.{Sign}
use Rattle.program_text.specs.declared.plan.Sign.TheVariants.{Plus, Minus}
use Rattle.comb_laws.specs.declared.operator.Operator.{Operator}
use Rattle.comb_laws.specs.declared.operator.Operator.TheVariants.{Exchange, Project}

-- the strand s_k, counted from 1
abbrev pub strand : List ℕ → ℕ → ℕ
strand strands k = slice_index strands (k - 1)

-- the strands with k and k + 1 swapped
abbrev pub swapped : List ℕ → ℕ → List ℕ
swapped strands k = slice_set (slice_set strands (k - 1) (strand strands (k + 1))) k (strand strands k)

-- R for a positive exchange and S for a negative one
abbrev pub exchange_by : {E : Type 0} → Symbols E → Sign → ℕ → ℕ → ℕ → E
exchange_by c Plus = c.r
exchange_by c Minus = c.s

-- What an operator at a gap multiplies by: at the label p before the two strands a and b and y after them, from the
-- label t between them to the label u.
abbrev pub Kernel : Type 0 → Type 0
Kernel E = (p a b y t u : ℕ) → E

-- B(t,u) = sum over q of F(p,a,b,y;t,q) R(a,b,q) H(p,b,a,y;q,u), with S for R where the braid is negative
abbrev pub braid_kernel : {E : Type 0} → Symbols E → Sign → Kernel E
braid_kernel c sign p a b y t u =
    let x = c.ring.product in
    total c.ring c.count (λ q. x (x (c.f p a b y t q) (exchange_by c sign a b q)) (c.h p b a y q u))

-- C(t,u) = F(p,a,b,y;t,q) H(p,a,b,y;q,u), for the charge q
abbrev pub charge_kernel : {E : Type 0} → Symbols E → ℕ → Kernel E
charge_kernel c q p a b y t u = c.ring.product (c.f p a b y t q) (c.h p a b y q u)

-- what an operator multiplies by
abbrev pub kernel_of : {E : Type 0} → Symbols E → Operator → Kernel E
kernel_of c (Exchange sign) = braid_kernel c sign
kernel_of c (Project q) = charge_kernel c q

-- the strands that an operator at gap k leaves
abbrev pub strands_after : Operator → List ℕ → ℕ → List ℕ
strands_after (Exchange sign) strands k = swapped strands k
strands_after (Project q) strands k = strands

-- the term of the label t: the kernel from t to x_k, times the old value where x has t at place k
abbrev pub term_at : {E : Type 0} → Symbols E → List ℕ → ℕ → Kernel E → Vector E → Path → ℕ → E
term_at c strands k kernel v x t =
    c.ring.product
    (kernel (slice_index x (k - 1)) (strand strands k) (strand strands (k + 1)) (slice_index x (k + 1)) t (slice_index x k))
    (v (slice_set x k t))

-- The vector after an operator at gap k, on the strands that it leaves: at each of their paths the sum over the old
-- labels at place k.
abbrev pub acted : {E : Type 0} → Symbols E → List ℕ → List ℕ → ℕ → Kernel E → Vector E → Vector E
acted c strands after k kernel v x =
    if is_path c after x then total c.ring c.count (term_at c strands k kernel v x) else c.ring.zero

-- a braid at gap k; its strands are swapped
abbrev pub braided : {E : Type 0} → Symbols E → List ℕ → Sign → ℕ → Vector E → Vector E
braided c strands sign k v = acted c strands (swapped strands k) k (braid_kernel c sign) v

-- the projection at gap k on the charge q; the strands stay
abbrev pub projected : {E : Type 0} → Symbols E → List ℕ → ℕ → ℕ → Vector E → Vector E
projected c strands k q v = acted c strands strands k (charge_kernel c q) v

-- w(p,s_i,x_i) w(x_i,s_(i+1),x_(i+1)) .., from the left, begun at a value
abbrev pub weights_along : {E : Type 0} → Symbols E → E → ℕ → List ℕ → List ℕ → E
weights_along c begun p (s ∷ ss) (x ∷ xs) = weights_along c (c.ring.product begun (c.w p s x)) x ss xs
weights_along c begun p ss xs = begun

-- w(x_0,s_1,x_1) .. w(x_(n-1),s_n,x_n), begun at one
abbrev pub path_weight : {E : Type 0} → Symbols E → List ℕ → Path → E
path_weight c strands (x ∷ xs) = weights_along c c.ring.one x strands xs
path_weight c strands [] = c.ring.one

-- The weight: the sum over all paths of the path's weight times v(x) conj(v(x)).
abbrev pub weight : {E : Type 0} → Symbols E → List ℕ → Vector E → E
weight c strands v =
    sum_over c.ring
    (λ x. c.ring.product (path_weight c strands x) (c.ring.product (v x) (c.ring.conjugate (v x))))
    (paths c strands)
