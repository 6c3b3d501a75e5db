-- Numbers of symbols where values are added.
use Rattle.std.proofs.Common.{◌≡◌, ℕ, ◌<◌, List, [], ◌∷◌, ◌++◌, length, slice_index, ◌∙◌, ap, arith}
use Rattle.std.proofs.Common.{length-append}
use Rattle.std.proofs.lemmas.List.{get_or_append_left}
use Rattle.std.proofs.Math.Seq.{get_or-append_seam}
use borrow.Author.Count.{below_more}
use Rattle.ring_laws.specs.Ring.{Ring}
use Rattle.symbol_table.specs.Symbols.{Symbols}
use Rattle.symbol_table.specs.Index.{AreSixLabels, AreThreeLabels}
use Rattle.symbol_table.specs.Draft.{DraftValue}
use Rattle.symbol_table.specs.declared.index.FIndex.{FIndex}
use Rattle.symbol_table.specs.declared.index.VIndex.{VIndex}
use Rattle.kept_values.specs.Kept.{Grows, KeptValues}
use Rattle.shape_check.specs.declared.shape.Exchange.{Exchange}
use Rattle.shape_check.specs.declared.shape.Exchange.TheVariants.{Positive, Negative}
use Rattle.shape_check.specs.Place.{six, six_at, six_place, three, three_at, three_place}
use Rattle.shape_check.specs.Shapes.{symbol_of}
use Rattle.shape_check.specs.Table.{AreFirst, AreNumbers, IsNumber, IsTable, f_at, vertex_at}
use Rattle.shape_check.proofs.PlaceLemmas.{at_six, at_three}

module _ {E : Type 0} (ring : Ring E) where
  -- numbers keep their values where values are added
  pub number_grown : (old new : List E) (x : E) (id : ℕ) → Grows old new → IsNumber ring old x id → IsNumber ring new x id
  number_grown old new x id grows h = record {
    kept = omega (arith, grows.longer, h.kept);
    value = grows.same id ring.zero h.kept ∙ h.value;
  }

  pub first_grown : (old new : List E) (at : ℕ → E) (ids : List ℕ) → Grows old new → AreFirst ring old at ids → AreFirst ring new at ids
  first_grown old new at ids grows h = record { each = λ k in'. number_grown old new (at k) (slice_index ids k) grows (h.each k in') }

  pub numbers_grown : (old new : List E) (places : ℕ) (at : ℕ → E) (ids : List ℕ) → Grows old new → AreNumbers ring old places at ids → AreNumbers ring new places at ids
  numbers_grown old new places at ids grows h = record { size = h.size; first = first_grown old new at ids grows h.first }

  -- one number more
  pub first_more : (values : List E) (at : ℕ → E) (ids : List ℕ) (id : ℕ) → AreFirst ring values at ids → IsNumber ring values (at (length ids)) id → AreFirst ring values at (ids ++ id ∷ [])
  first_more values at ids id h more = record {
    each = λ k in'.
        below_more (λ (j : ℕ). IsNumber ring values (at j) (slice_index (ids ++ id ∷ []) j)) (length ids)
        (λ j lt. rw (get_or_append_left ids (id ∷ []) 0 j lt) (h.each j lt))
        (rw (get_or-append_seam ids id [] 0) more) k (simp length-append at in');
  }

  -- what is read at a place is the number of the value there
  pub found : (values : List E) (places : ℕ) (at : ℕ → E) (ids : List ℕ) (p : ℕ) → AreNumbers ring values places at ids → p < places → IsNumber ring values (at p) (slice_index ids p)
  found values places at ids p h in' = h.first.each p (rw h.size in')

-- the same where values are added to a whole table
pub table_grown : {R E : Type 0} (c : Symbols E) (draft : DraftValue R E) (old new : KeptValues R E) (f r s : List ℕ) → new.ring ≡ old.ring → Grows old.values new.values → IsTable c draft old f r s → IsTable c draft new f r s
table_grown c draft old new f r s same grows h = record {
  same_ring = same ∙ h.same_ring;
  f_numbers = numbers_grown c.ring old.values new.values _ _ f grows h.f_numbers;
  r_numbers = numbers_grown c.ring old.values new.values _ _ r grows h.r_numbers;
  s_numbers = numbers_grown c.ring old.values new.values _ _ s grows h.s_numbers;
}

module _ {E : Type 0} (c : Symbols E) (values : List E) (ids : List ℕ) where
  -- what is read at the place of six labels is the number of F there
  pub f_found : (a b k d e f n p : ℕ) → n ≡ c.count → AreNumbers c.ring values (six c.count) (f_at c) ids → AreSixLabels c.count a b k d e f
      → p ≡ six_place n a b k d e f → p < six n → IsNumber c.ring values (c.f a b k d e f) (slice_index ids p)
  f_found a b k d e f n p count are labels is inside =
      let place : p ≡ six_place c.count a b k d e f = rw count at is in
      let there : f_at c p ≡ c.f a b k d e f = ap (λ (i : FIndex). c.f i.a i.b i.c i.d i.e i.f) (ap (six_at c.count) place ∙ at_six c.count a b k d e f labels) in
      rw (← there) (found c.ring values (six c.count) (f_at c) ids p are (rw count at inside))

  -- what is read at the place of three labels is the number of R or S there
  pub vertex_found : (exchange : Exchange) (a b k n p : ℕ) → n ≡ c.count → AreNumbers c.ring values (three c.count) (vertex_at c exchange) ids → AreThreeLabels c.count a b k
      → p ≡ three_place n a b k → p < three n → IsNumber c.ring values (symbol_of c exchange a b k) (slice_index ids p)
  vertex_found exchange a b k n p count are labels is inside =
      let place : p ≡ three_place c.count a b k = rw count at is in
      let there : vertex_at c exchange p ≡ symbol_of c exchange a b k = ap (λ (i : VIndex). symbol_of c exchange i.a i.b i.c) (ap (three_at c.count) place ∙ at_three c.count a b k labels) in
      rw (← there) (found c.ring values (three c.count) (vertex_at c exchange) ids p are (rw count at inside))

-- tables that were filled one after another
pub table_made : {R E : Type 0} (c : Symbols E) (draft : DraftValue R E) (one two last : KeptValues R E) (f r s : List ℕ) → last.ring ≡ draft.ring → Grows one.values two.values → Grows two.values last.values
    → AreNumbers c.ring one.values (six c.count) (f_at c) f → AreNumbers c.ring two.values (three c.count) (vertex_at c Positive) r → AreNumbers c.ring last.values (three c.count) (vertex_at c Negative) s → IsTable c draft last f r s
table_made c draft one two last f r s same second third f_are r_are s_are = record {
  same_ring = same;
  f_numbers = numbers_grown c.ring two.values last.values _ _ f third (numbers_grown c.ring one.values two.values _ _ f second f_are);
  r_numbers = numbers_grown c.ring two.values last.values _ _ r third r_are;
  s_numbers = s_are;
}
