-- The paths stand in the order of lists of labels.
use Rattle.std.proofs.Common.{ℕ, zero, Bool, true, false, List, [], ◌∷◌, map, refl}
use Rattle.std.specs.Prelude.{if◌then◌else◌}
use Rattle.std.specs.List.{AllByRecursion}
use Rattle.std.specs.List.Sorted.{IsStrictlySortedBy}
use Rattle.symbol_table.specs.Symbols.{Symbols}
use Rattle.comb_laws.specs.Paths.{labels, ways, paths}
use Rattle.amp_store.specs.Amplitudes.{key_cmp}
use Rattle.amp_store.proofs.OrderLemmas.{CountsUp, StartsAt, in_order, sorted_put, starts_put}

pub labels_up : CountsUp labels
labels_up = record { none = refl; more = λ n. refl }

module _ {E : Type 0} (c : Symbols E) where
  sorted_ways : (p : ℕ) (ss : List ℕ) → IsStrictlySortedBy key_cmp (ways c p ss)
  unfolding IsStrictlySortedBy
  sorted_ways p [] = (tt, tt)
  sorted_ways p (s ∷ ss) =
      (in_order labels labels_up (λ x. if c.fuse p s x then map (λ xs. x ∷ xs) (ways c x ss) else [])
      (λ n. sorted n (c.fuse p s n) (sorted_ways n ss)) (λ n. starts n (c.fuse p s n)) c.count).sorted
    where
      sorted : (n : ℕ) (b : Bool) → IsStrictlySortedBy key_cmp (ways c n ss) → IsStrictlySortedBy key_cmp (if b then map (λ xs. n ∷ xs) (ways c n ss) else [])
      sorted n true h = sorted_put n (ways c n ss) h
      sorted n false h = tt

      starts : (n : ℕ) (b : Bool) → AllByRecursion (StartsAt n) (if b then map (λ xs. n ∷ xs) (ways c n ss) else [])
      starts n true = starts_put n (ways c n ss)
      starts n false = tt

  pub sorted_paths : (ss : List ℕ) → IsStrictlySortedBy key_cmp (paths c ss)
  sorted_paths ss = sorted_put zero (ways c zero ss) (sorted_ways zero ss)
