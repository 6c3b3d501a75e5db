-- Every path is among the paths.
use Rattle.std.proofs.Common.{◌≡◌, ℕ, zero, ◌<◌, true, List, [], ◌∷◌, map, refl, sym, subst, arith}
use Rattle.std.specs.Prelude.{if◌then◌else◌, ◌&&◌, ◌==◌, nat_lt}
use Rattle.std.proofs.lemmas.Bool.Decides.{nat_tests}
use Rattle.symbol_table.specs.Symbols.{Symbols}
use Rattle.comb_laws.specs.Paths.{Path, goes_on, is_path, labels, ways, paths}
use Rattle.comb_laws.proofs.PathFacts.{and_true}
use Rattle.amp_store.specs.Gathered.{among}
use Rattle.amp_store.proofs.AmongLemmas.{among_labels, among_put}
use Rattle.comb_run.proofs.OrderLemmas.{labels_up}

nat_lt_is : (x n : ℕ) → nat_lt x n ≡ true → x < n
nat_lt_is x n h = grind (arith, nat_tests)

module _ {E : Type 0} (c : Symbols E) where
  among_ways : (p : ℕ) (ss xs : List ℕ) → goes_on c p ss xs ≡ true → among xs (ways c p ss) ≡ true
  among_ways p [] [] h = refl
  among_ways p [] (x ∷ xs) h = absurd (cc)
  among_ways p (s ∷ ss) [] h = absurd (cc)
  among_ways p (s ∷ ss) (x ∷ xs) h =
      let parts = and_true (nat_lt x c.count) (c.fuse p s x && goes_on c x ss xs) h in
      let fuses = and_true (c.fuse p s x) (goes_on c x ss xs) parts.1 in
      among_labels labels labels_up (x ∷ xs) (λ y. if c.fuse p s y then map (λ ys. y ∷ ys) (ways c y ss) else []) c.count x (nat_lt_is x c.count parts.0)
      (rw fuses.0 (among_put x xs (ways c x ss) (among_ways x ss xs fuses.1)))

  -- every path is among the paths
  pub among_paths : (ss : List ℕ) (x : Path) → is_path c ss x ≡ true → among x (paths c ss) ≡ true
  among_paths ss [] h = absurd (cc)
  among_paths ss (x ∷ xs) h =
      let parts = and_true (x == 0) (goes_on c 0 ss xs) h in
      let unit : x ≡ 0 = grind (arith, nat_tests) in
      subst (λ (m : ℕ). among (m ∷ xs) (paths c ss) ≡ true) (sym unit) (among_put zero xs (ways c zero ss) (among_ways 0 ss xs parts.1))
