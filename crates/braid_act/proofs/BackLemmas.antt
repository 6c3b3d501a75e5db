-- An exchange is undone by the one of the other sign.
use Rattle.std.proofs.Common.{◌≡◌, ℕ, suc, ◌+◌, ◌-◌, ◌<◌, List, [], ◌∷◌, map, Some, length, refl, ap, sym, ◌∙◌, arith, slice_index}
use Rattle.std.specs.Prelude.{IsTrue, slice_get}
use Rattle.ring_laws.specs.Ring.{RingLaws}
use Rattle.symbol_table.specs.AllLabels.{IsProper, IsWeighted}
use Rattle.symbol_table.specs.Symbols.{Symbols}
use Rattle.comb_laws.specs.Operators.{exchange_by, swapped}
use Rattle.recouple.proofs.PairLemmas.{pair_fuses, pair_there}
use Rattle.path_laws.specs.Moves.{opposite}
use Rattle.path_laws.proofs.Across.{swapped_first, swapped_second}
use Rattle.path_laws.proofs.ActLemmas.{swapped_is}
use Rattle.path_laws.proofs.CancelLemmas.{swapped_back}
use Rattle.recouple.proofs.EntryLemmas.{entry_is}
use Rattle.braid_act.specs.Exchanges.{exchange_at, ExchangesBack}
use Rattle.braid_act.proofs.StateLemmas.{times}
use Rattle.braid_act.proofs.SymbolLemmas.{undone}

-- numbers that come back
map_back : {E : Type 0} (x y : List ℕ → E) (o : E → E → E) (es : List (List ℕ × E)) → ((i : ℕ) (e : List ℕ × E) → slice_get es i ≡ Some e → o (y e.0) (o (x e.0) e.1) ≡ e.1)
    → map (times y o) (map (times x o) es) ≡ es
map_back x y o [] h = refl
map_back x y o (e ∷ es) h = λ j. (e.0, h 0 e refl j) ∷ map_back x y o es (λ i d is. h (suc i) d is) j

module _ {E : Type 0} (c : Symbols E) (laws : RingLaws c.ring c.held) (proper : IsProper c) (weighted : IsWeighted c) where
  abbrev o : E → E → E
  o = c.ring.product

  one_back : (s r v : E) → o s r ≡ c.ring.one → IsTrue (c.ring.member v) → o s (o r v) ≡ v
  one_back s r v h member = sym (laws.product_assoc s r v) ∙ (ap (λ y. o y v) h ∙ (laws.product_comm _ _ ∙ laws.product-one v member))

  pub exchanges_back : ExchangesBack c
  exchanges_back s k sign is order low high pair =
      let at = pair_there s.shape k low high pair in
      let short : k < length s.strands = omega (arith, is.leaves) in
      let i = k - 1 in
      let gap : k ≡ (k - 1) + 1 = omega (arith, low) in
      let up : (k + 1) - 1 ≡ (k - 1) + 1 = omega (arith, low) in
      let place = swapped_is s.strands (k - 1) k gap short in
      let first : slice_index (swapped s.strands k) (k - 1) ≡ slice_index s.strands k = ap (λ (f : ℕ → ℕ). f (k - 1)) place ∙ (swapped_first (k - 1) (slice_index s.strands) ∙ ap (slice_index s.strands) (sym gap)) in
      let second : slice_index (swapped s.strands k) ((k + 1) - 1) ≡ slice_index s.strands (k - 1) =
      ap (slice_index (swapped s.strands k)) up ∙ (ap (λ (f : ℕ → ℕ). f ((k - 1) + 1)) place ∙ swapped_second (k - 1) (slice_index s.strands)) in
      let back : (k + 1) - 1 ≡ k = omega arith in
      let x = exchange_at c sign s.strands k in
      let y = exchange_at c (opposite sign) (swapped s.strands k) k in
      λ j. record {
        strands = swapped_back s.strands k low short j;
        shape = s.shape;
        amps =
            map_back x y o s.amps (λ i e h.
            let there = entry_is c s is order i e h in
            let q = slice_index e.0 (k - 1) in
            let fuses = pair_fuses c s.strands e.0 s.shape k at (is.admissible e.0 e.1 there) in
            (λ l. o (exchange_by c (opposite sign) (first l) (second l) q)
            (o (exchange_by c sign (slice_index s.strands (k - 1)) (slice_index s.strands (back l)) q) e.1))
            ∙ one_back _ _ e.1 (undone c laws proper weighted sign (slice_index s.strands (k - 1)) (slice_index s.strands k) q fuses) (is.over.members e.0 e.1 there)) j;
      }
