-- The parts of a state by the charge at a gap.
use Rattle.std.proofs.Common.{◌≡◌, ℕ, zero, suc, ◌+◌, ◌<◌, Bool, true, false, not, List, [], ◌∷◌, ◌++◌, map, Some, None, refl, ap, sym, subst, ◌∙◌, arith, inl, inr}
use Rattle.std.specs.Prelude.{if◌then◌else◌, ◌&&◌, IsTrue}
use Rattle.std.specs.List.{list_all, filter}
use Rattle.std.proofs.lemmas.List.{map-append, append-nil}
use Rattle.std.proofs.lemmas.List.Elements.{filter-append}
use Rattle.std.proofs.lemmas.List.Folds.{list_all-append}
use Rattle.std.proofs.lemmas.Bool.Decides.{leb_tells}
use Rattle.arrayvec.specs.ArrayVec.{ArrayVec}
use Rattle.ring_laws.specs.Ring.{RingLaws}
use Rattle.symbol_table.specs.Symbols.{Symbols}
use Rattle.comb_laws.specs.Paths.{Path, labels, paths}
use Rattle.word_runs.specs.Parts.{parts_of}
use Rattle.word_runs.specs.declared.engine.Part.{Part}
use Rattle.comb_run.specs.Entries.{path_of, vector_of, AreEntries}
use Rattle.comb_run.specs.Evaluated.{State, is_nought, projected_fits, part_of, is_part, parts_at}
use Rattle.comb_run.specs.States.{state_of}
use Rattle.comb_run.specs.declared.state.CombState.{CombState}
use Rattle.comb_run.proofs.EntryLemmas.{first_there}
use Rattle.amp_store.proofs.AmongLemmas.{one_fails, all_pass}
use Rattle.comb_run.proofs.PathLemmas.{among_paths}

module _ {E : Type 0} (c : Symbols E) (laws : RingLaws c.ring c.held) (strands : List ℕ) where
  -- no entries are the vector that is zero everywhere
  pub nought_empty : (es : List (ArrayVec ℕ × E)) → es ≡ [] → is_nought c strands (vector_of c.ring strands es) ≡ true
  nought_empty es none =
      ap (λ (xs : List (ArrayVec ℕ × E)). is_nought c strands (vector_of c.ring strands xs)) none
      ∙ all_pass (λ (x : Path). c.held.is_zero c.ring.zero) (paths c strands) (λ x. (laws.is_zero_is c.ring.zero laws.zero_is).1 refl)

  -- an entry is a value that isn't zero
  pub nought_some : (es : List (ArrayVec ℕ × E)) → AreEntries c strands es → (es ≡ [] → ⊥) → is_nought c strands (vector_of c.ring strands es) ≡ false
  nought_some [] are some = absurd (some refl)
  nought_some (e ∷ es) are some =
      let there = first_there strands e es in
      one_fails (λ x. c.held.is_zero (vector_of c.ring strands (e ∷ es) x)) (path_of strands e.0.items) (paths c strands)
      (among_paths c strands (path_of strands e.0.items) (are.paths (path_of strands e.0.items) e.1 there))
      (rw there (are.nonzero (path_of strands e.0.items) e.1 there))

  module _ {R : Type 0} (s : CombState R E) (q : ℕ) (part : ℕ × State E) (is : (q, state_of c.ring s) ≡ part) where
    -- a projection that is zero is no part
    pub part_dropped : s.strands.items ≡ strands → s.vector ≡ [] → (ps : List (ℕ × State E)) → ps ≡ ps ++ (if is_part c part then part ∷ [] else [])
    part_dropped same none ps =
        let off : is_part c part ≡ false = ap (is_part c) (sym is) ∙ (ap (λ ss. not (is_nought c ss (vector_of c.ring ss s.vector))) same ∙ ap not (nought_empty s.vector none)) in
        sym (rw off (append-nil ps))

    -- another is one
    pub part_kept : s.strands.items ≡ strands → AreEntries c s.strands.items s.vector → (s.vector ≡ [] → ⊥)
        → (old new : List (Part (CombState R E))) → new ≡ old ++ record { label = q; state = s } ∷ []
        → parts_of (state_of c.ring) new ≡ parts_of (state_of c.ring) old ++ (if is_part c part then part ∷ [] else [])
    part_kept same are some old new made =
        let here : AreEntries c strands s.vector = subst (λ ss. AreEntries c ss s.vector) same are in
        let on : is_part c part ≡ true = ap (is_part c) (sym is) ∙ (ap (λ ss. not (is_nought c ss (vector_of c.ring ss s.vector))) same ∙ ap not (nought_some s.vector here some)) in
        ap (parts_of (state_of c.ring)) made
        ∙ (map-append (λ (p : Part (CombState R E)). (p.label, state_of c.ring p.state)) old (record { label = q; state = s } ∷ [])
        ∙ rw on (ap (λ p. parts_of (state_of c.ring) old ++ p ∷ []) is))

module _ {E : Type 0} (c : Symbols E) (k : ℕ) (s : State E) where
  -- the parts of the labels below n
  abbrev pub parts_below : ℕ → List (ℕ × State E)
  parts_below n = filter (is_part c) (map (part_of c k s) (labels n))

  pub parts_more : (n : ℕ) (old new : List (ℕ × State E)) → new ≡ old ++ (if is_part c (part_of c k s n) then part_of c k s n ∷ [] else []) → old ≡ parts_below n → new ≡ parts_below (n + 1)
  parts_more n old new made before =
      let next : n + 1 ≡ suc n = omega arith in
      made ∙ (ap (λ l. l ++ (if is_part c (part_of c k s n) then part_of c k s n ∷ [] else [])) before
      ∙ (sym (filter-append (is_part c) (map (part_of c k s) (labels n)) (part_of c k s n ∷ []))
      ∙ (ap (filter (is_part c)) (sym (map-append (part_of c k s) (labels n) (n ∷ []))) ∙ ap parts_below (sym next))))

  abbrev pub all_fit : Bool
  all_fit = list_all (λ q. projected_fits c s.0 k q s.1) (labels c.count)

  -- all parts, where all projections fit
  pub parts_all : (ps : List (ℕ × State E)) (n : ℕ) → n ≡ c.count → list_all (λ q. projected_fits c s.0 k q s.1) (labels n) ≡ true → ps ≡ parts_below n → parts_at c k s ≡ Some ps
  parts_all ps n same fits is = rw (ap (λ m. list_all (λ q. projected_fits c s.0 k q s.1) (labels m)) (sym same) ∙ fits) (ap Some (ap parts_below (sym same) ∙ sym is))

  -- and none, where one doesn't
  pub parts_none : all_fit ≡ false → parts_at c k s ≡ None
  parts_none fails = rw fails refl

-- a test of one label more
pub labels_pass : (test : ℕ → Bool) (n : ℕ) → test n ≡ true → list_all test (labels n) ≡ true → list_all test (labels (n + 1)) ≡ true
labels_pass test n one all =
    let next : n + 1 ≡ suc n = omega arith in
    ap (λ m. list_all test (labels m)) next ∙ (list_all-append test (labels n) (n ∷ []) ∙ rw (all, one) refl)

and_off : (b : Bool) → (b && false) ≡ false
and_off true = refl
and_off false = refl

-- a test that fails at a label fails for all
pub labels_fail : (test : ℕ → Bool) (n q : ℕ) → q < n → test q ≡ false → list_all test (labels n) ≡ false
labels_fail test zero q low fails = absurd (omega arith)
labels_fail test (suc n) q low fails =
    list_all-append test (labels n) (n ∷ [])
    ∙ elim (leb_tells n q) [
      | inl last ↦
          let same : q ≡ n = omega arith in
          ap (λ b. list_all test (labels n) && (b && true)) (ap test (sym same) ∙ fails) ∙ and_off (list_all test (labels n))
      | inr below ↦ ap (λ b. b && (test n && true)) (labels_fail test n q (omega arith) fails)
    ]

pub not_true : (b : Bool) → b ≡ false → IsTrue b → ⊥
not_true b off on = cc
