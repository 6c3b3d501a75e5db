-- Comb paths and vectors.
use Rattle.std.specs.Prelude.{◌≡◌, ◌<◌, ◌+◌, All, length, ℕ, zero, suc, Bool, true, false, ◌&&◌, List, [], ◌∷◌, ◌++◌, map, nat_lt, ◌==◌, if◌then◌else◌}
use Rattle.std.specs.List.{flat_map}
use Rattle.symbol_table.specs.Symbols.{Symbols}

-- A path x_0 .. x_n: the label before the first strand, and the label after each.
abbrev pub Path : Type 0
Path = List ℕ

-- A vector has a ring value at each path, and zero at every other list.
abbrev pub Vector : Type 0 → Type 0
Vector E = Path → E

-- whether these labels, after the label p, go along the strands: each occurs in the one before times its strand
abbrev pub goes_on : {E : Type 0} → Symbols E → ℕ → List ℕ → List ℕ → Bool
goes_on c p [] [] = true
goes_on c p (s ∷ ss) (x ∷ xs) = nat_lt x c.count && (c.fuse p s x && goes_on c x ss xs)
goes_on c p [] (x ∷ xs) = false
goes_on c p (s ∷ ss) [] = false

-- whether this is a path over the strands: x_0 is the unit, and x_k occurs in x_(k-1) times s_k
abbrev pub is_path : {E : Type 0} → Symbols E → List ℕ → Path → Bool
is_path c strands [] = false
is_path c strands (x ∷ xs) = x == 0 && goes_on c 0 strands xs

-- the labels below n, in order
abbrev pub labels : ℕ → List ℕ
labels zero = []
labels (suc n) = labels n ++ n ∷ []

-- the ways on from p over the strands, in the order of lists of labels
abbrev pub ways : {E : Type 0} → Symbols E → ℕ → List ℕ → List (List ℕ)
ways c p [] = [] ∷ []
ways c p (s ∷ ss) =
    flat_map (λ x. if c.fuse p s x then map (λ xs. x ∷ xs) (ways c x ss) else []) (labels c.count)

-- all paths over the strands, in the order of lists of labels
abbrev pub paths : {E : Type 0} → Symbols E → List ℕ → List Path
paths c strands = map (λ xs. zero ∷ xs) (ways c zero strands)

-- a label below the count before the first of n strands and after each
pub record IsAlong (count n : ℕ) (x : Path) : Type 0 where
  pub long : length x ≡ n + 1
  pub labels : All (λ l. l < count) x
