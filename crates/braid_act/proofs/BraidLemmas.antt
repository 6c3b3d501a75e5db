-- What an exchange at a pair leaves stands for the comb braid.
use Rattle.std.proofs.Common.{◌≡◌, ℕ, ◌+◌, ◌-◌, ◌<◌, Bool, true, false, Option, Some, None, unwrap_or, length, refl, ap, sym, ◌∙◌, arith, slice_index}
use mathlib.Core.Path.{fun_ext}
use Rattle.std.specs.Option.{option_map}
use Rattle.ring_laws.specs.Ring.{RingLaws}
use Rattle.symbol_table.specs.AllLabels.{IsProper, HasEquations}
use Rattle.symbol_table.specs.Symbols.{Symbols}
use Rattle.program_text.specs.declared.plan.Sign.{Sign}
use Rattle.program_text.specs.declared.plan.Sign.TheVariants.{Plus, Minus}
use Rattle.tree_shapes.specs.Contexts.{place}
use Rattle.tree_shapes.specs.Outlines.{size}
use Rattle.tree_laws.specs.Entries.{listed, values}
use Rattle.tree_laws.specs.Operators as T
use Rattle.tree_laws.specs.Trees.{stands_for}
use Rattle.tree_laws.proofs.Keys.{Key}
use Rattle.tree_laws.proofs.Pairs.{exchanged_is}
use Rattle.amp_store.specs.Amplitudes.{AreAmplitudes, amplitude_at}
use Rattle.comb_laws.specs.Operators.{braid_kernel, braided, exchange_by, swapped}
use Rattle.comb_laws.specs.declared.operator.Operator.TheVariants.{Exchange}
use Rattle.comb_laws.specs.Paths.{Path, is_path}
use Rattle.path_laws.proofs.ActLemmas.{acted_by_place, after_is, kernel_off, swapped_is}
use Rattle.recouple.specs.States.{State, IsStateOf, comb}
use Rattle.recouple.proofs.CombLemmas.{value_is}
use Rattle.recouple.proofs.EntryLemmas.{comb_stands}
use Rattle.recouple.proofs.PairLemmas.{IsPair}
use Rattle.recouple.proofs.RotationLemmas.{listed_get}
use Rattle.braid_act.specs.Exchanges.{exchange_at, exchanged}
use Rattle.braid_act.proofs.StateLemmas.{amplitude_times, of_after}

-- exchanges of either sign are zero where the labels don't fuse
exchange_off : {E : Type 0} (c : Symbols E) → IsProper c → (sign : Sign) (a b q : ℕ) → c.fuse a b q ≡ false → exchange_by c sign a b q ≡ c.ring.zero
exchange_off c proper Plus a b q h = proper.r_off a b q h
exchange_off c proper Minus a b q h = proper.s_off a b q h

module _ {E : Type 0} (c : Symbols E) (laws : RingLaws c.ring c.held) (proper : IsProper c) (equations : HasEquations c) (sign : Sign) (s : State E) (is : IsStateOf c s) (order : AreAmplitudes c.held s.amps)
    (k : ℕ) (low : 0 < k) (high : k < size s.shape) (at : IsPair s.shape k) (order' : AreAmplitudes c.held (State.amps (exchanged c sign k s))) where
  abbrev o : E → E → E
  o = c.ring.product

  abbrev ex : ℕ → ℕ → ℕ → E
  ex = exchange_by c sign

  abbrev st : ℕ → ℕ
  st = slice_index s.strands

  abbrev i : ℕ
  i = place at.around 0

  abbrev n : ℕ
  n = size s.shape - 1

  abbrev old : Key → E
  old = values c.ring n s.amps

  short : k < length s.strands
  short = omega (arith, is.leaves)

  back : k - 1 ≡ i
  back = omega (arith, at.gap)

  first_is : (k + 1) - 1 ≡ k
  first_is = omega arith

  times_zero : (x : E) (v : Option E) → unwrap_or (option_map (o x) v) c.ring.zero ≡ o x (unwrap_or v c.ring.zero)
  times_zero x None = sym (laws.product-zero x)
  times_zero x (Some v) = refl

  new_values : (key : Key) → values c.ring n (State.amps (exchanged c sign k s)) key ≡ o (ex (st i) (st (i + 1)) (key (i + 1))) (old key)
  new_values key =
      let L = listed 1 (size s.shape - 1) key in
      let label : slice_index (listed 1 (size s.shape - 1) key) (k - 1) ≡ key k = listed_get (size s.shape - 1) key k low (omega arith) in
      value_is c.ring (State.amps (exchanged c sign k s)) L
      ∙ (ap (λ v. unwrap_or v c.ring.zero) (amplitude_times (exchange_at c sign s.strands k) o s.amps L)
      ∙ (times_zero (exchange_at c sign s.strands k L) (amplitude_at s.amps L)
      ∙ (λ j. o (ex (st (back j)) (st ((first_is ∙ at.gap) j)) ((label ∙ ap key at.gap) j)) (sym (value_is c.ring s.amps L) j))))

  -- on paths an exchange stands for the braid by place, which the comb braid is
  braid_at : (x : Path) → is_path c (swapped s.strands k) x ≡ true → comb c (exchanged c sign k s) x ≡ braided c s.strands sign k (comb c s) x
  braid_at x on =
      let X = slice_index x in
      comb_stands c (exchanged c sign k s) (of_after c laws proper sign s is k low high at) order' laws x on
      ∙ ((λ j. stands_for c s.shape (swapped_is s.strands i k at.gap short j) (λ key. new_values key j) X)
      ∙ ((λ j. stands_for c (at.is j) (T.swapped i st) (λ key. o (ex (st i) (st (i + 1)) (key (i + 1))) (old key)) X)
      ∙ (exchanged_is c laws proper equations ex (exchange_off c proper sign) at.around st X old
      ∙ ((λ j. T.braided c ex st i (stands_for c (sym at.is j) st old) X)
      ∙ sym (acted_by_place c laws proper (braid_kernel c sign) (kernel_off c laws proper (Exchange sign)) s.strands (swapped s.strands k) i k at.gap short (after_is (Exchange sign) s.strands i k at.gap short) (comb c s) (stands_for c s.shape st old)
      (λ y there. comb_stands c s is order laws y there) x on)))))

  -- an exchange stands for the comb braid
  pub braid_is : comb c (exchanged c sign k s) ≡ braided c s.strands sign k (comb c s)
  braid_is = fun_ext (λ x. pick x (is_path c (swapped s.strands k) x) refl)
    where
      pick : (x : Path) (b : Bool) → is_path c (swapped s.strands k) x ≡ b → comb c (exchanged c sign k s) x ≡ braided c s.strands sign k (comb c s) x
      pick x true on = braid_at x on
      pick x false off = rw off refl
