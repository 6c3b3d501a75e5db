-- A left-combed start: its strands, and the path of its own labels.
use Rattle.std.proofs.Common.{◌≡◌, ℕ, ◌+◌, ◌<◌, ◌≤◌, Bool, true, List, [], ◌∷◌, ◌++◌, length, refl, ap, ◌∙◌, arith, length-append}
use Rattle.std.specs.Prelude.{◌&&◌, nat_lt, nat_le, All}
use Rattle.std.specs.List.{AllByRecursion}
use Rattle.std.proofs.lemmas.List.Elements.{All-from_recursion}
use Rattle.std.proofs.lemmas.Bool.Decides.{nat_tests}
use Rattle.symbol_table.specs.Symbols.{Symbols}
use Rattle.tree_shapes.specs.Labelled.{Labelled, Strand, Joined, label, leaves, size, is_strand, is_left_comb, is_admissible}
use Rattle.program_text.specs.Form.{labels_below}
use Rattle.comb_laws.specs.Paths.{goes_on, is_path}
use Rattle.comb_laws.specs.Amplitudes.{own_path}
use Rattle.comb_laws.specs.Laws.{is_left_start}
use Rattle.comb_laws.proofs.PathFacts.{and_true}

pub length-leaves : (t : Labelled) → length (leaves t) ≡ size t
length-leaves (Strand a) = refl
length-leaves (Joined l r q) = length-append (leaves l) (leaves r) ∙ (λ j. length-leaves l j + length-leaves r j)

-- what a left-combed start meets
pub record LeftStart (fuse : ℕ → ℕ → ℕ → Bool) (count : ℕ) (t : Labelled) : Type 0 where
  pub comb : is_left_comb t ≡ true
  pub below : labels_below count t ≡ true
  pub admissible : is_admissible fuse t ≡ true

pub left_start : (fuse : ℕ → ℕ → ℕ → Bool) (count : ℕ) (t : Labelled) → is_left_start fuse count t ≡ true → LeftStart fuse count t
left_start fuse count t h =
    let d = and_true (is_left_comb t) (labels_below count t && is_admissible fuse t) h in
    let e = and_true (labels_below count t) (is_admissible fuse t) d.1 in
    record { comb = d.0; below = e.0; admissible = e.1 }

lt_of : (a b : ℕ) → nat_lt a b ≡ true → a < b
lt_of a b h = grind (arith, nat_tests)

all_append : (n : ℕ) (xs ys : List ℕ) → AllByRecursion (λ s. s < n) xs → AllByRecursion (λ s. s < n) ys → AllByRecursion (λ s. s < n) (xs ++ ys)
all_append n [] ys a b = b
all_append n (x ∷ xs) ys a b = (a.0, all_append n xs ys a.1 b)

leaves_by : (n : ℕ) (t : Labelled) → labels_below n t ≡ true → AllByRecursion (λ s. s < n) (leaves t)
leaves_by n (Strand a) h = (lt_of a n h, tt)
leaves_by n (Joined l r q) h =
    let a = and_true (nat_lt q n) (labels_below n l && labels_below n r) h in
    let b = and_true (labels_below n l) (labels_below n r) a.1 in
    all_append n (leaves l) (leaves r) (leaves_by n l b.0) (leaves_by n r b.1)

-- the strands' labels are below the count
pub leaves_below : (n : ℕ) (t : Labelled) → labels_below n t ≡ true → All (λ s. s < n) (leaves t)
leaves_below n t h = All-from_recursion (λ s. s < n) (leaves t) (leaves_by n t h)

-- the tree's own labels after the unit
own_rest : Labelled → List ℕ
own_rest (Strand a) = a ∷ []
own_rest (Joined l r q) = own_rest l ++ q ∷ []

own_is : (t : Labelled) → own_path t ≡ 0 ∷ own_rest t
unfolding own_rest
own_is (Strand a) = refl
own_is (Joined l r q) = ap (λ xs. xs ++ q ∷ []) (own_is l)

last_of : ℕ → List ℕ → ℕ
last_of p [] = p
last_of p (x ∷ xs) = last_of x xs

last_pushed : (p q : ℕ) (xs : List ℕ) → last_of p (xs ++ q ∷ []) ≡ q
unfolding last_of
last_pushed p q [] = refl
last_pushed p q (x ∷ xs) = last_pushed x q xs

own_last : (t : Labelled) → last_of 0 (own_rest t) ≡ label t
unfolding own_rest last_of
own_last (Strand a) = refl
own_last (Joined l r q) = last_pushed 0 q (own_rest l)

one_strand : (t : Labelled) → is_strand t ≡ true → size t ≡ 1
one_strand (Strand a) h = refl
one_strand (Joined l r q) h = absurd (cc)

-- a left-combed tree's path has a label more than it has strands
pub length-own : (t : Labelled) → is_left_comb t ≡ true → length (own_path t) ≡ size t + 1
length-own (Strand a) h = refl
length-own (Joined l r q) h =
    let parts = and_true (is_strand r) (is_left_comb l) h in
    let before = length-own l parts.1 in
    let one = one_strand r parts.0 in
    omega (arith, length-append (own_path l) (q ∷ []))

module _ {E : Type 0} (c : Symbols E) where
  lt_true : (a b : ℕ) → a < b → nat_lt a b ≡ true
  lt_true a b h = grind (arith, nat_tests)

  goes_more : (p a q : ℕ) (ss xs : List ℕ) → goes_on c p ss xs ≡ true → c.fuse (last_of p xs) a q ≡ true → q < c.count → goes_on c p (ss ++ a ∷ []) (xs ++ q ∷ []) ≡ true
  unfolding last_of
  goes_more p a q [] [] h f low = rw (lt_true q c.count low, f) refl
  goes_more p a q [] (x ∷ xs) h f low = absurd (cc)
  goes_more p a q (s ∷ ss) [] h f low = absurd (cc)
  goes_more p a q (s ∷ ss) (x ∷ xs) h f low =
      let parts = and_true (nat_lt x c.count) (c.fuse p s x && goes_on c x ss xs) h in
      let more = and_true (c.fuse p s x) (goes_on c x ss xs) parts.1 in
      rw (parts.0, more.0) (goes_more x a q ss xs more.1 f low)

  own_goes : (t : Labelled) → ((a : ℕ) → a < c.count → c.fuse 0 a a ≡ true) → is_left_comb t ≡ true → labels_below c.count t ≡ true → is_admissible c.fuse t ≡ true
      → goes_on c 0 (leaves t) (own_rest t) ≡ true
  unfolding own_rest
  own_goes (Strand a) units comb below adm = rw (below, units a (lt_of a c.count below)) refl
  own_goes (Joined l (Joined x y z) q) units comb below adm = absurd (cc)
  own_goes (Joined l (Strand a) q) units comb below adm =
      let b = and_true (nat_lt q c.count) (labels_below c.count l && nat_lt a c.count) below in
      let d = and_true (labels_below c.count l) (nat_lt a c.count) b.1 in
      let e = and_true (c.fuse (label l) a q) (is_admissible c.fuse l && true) adm in
      let f = and_true (is_admissible c.fuse l) true e.1 in
      goes_more 0 a q (leaves l) (own_rest l) (own_goes l units comb d.0 f.0) (ap (λ m. c.fuse m a q) (own_last l) ∙ e.0) (lt_of q c.count b.0)

  -- the own labels are a path over the strands
  pub own_is_path : (t : Labelled) → ((a : ℕ) → a < c.count → c.fuse 0 a a ≡ true) → LeftStart c.fuse c.count t → is_path c (leaves t) (own_path t) ≡ true
  own_is_path t units start = ap (is_path c (leaves t)) (own_is t) ∙ own_goes t units start.comb start.below start.admissible
