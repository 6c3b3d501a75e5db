-- What a step of the engine leaves: the entries of the operator's vector.
use Rattle.std.proofs.Common.{◌≡◌, ℕ, ◌<◌, Bool, true, false, List, length, Some, None, refl, ap, sym, ◌∙◌}
use Rattle.std.specs.Prelude.{is_some, if◌then◌else◌, IsTrue}
use Rattle.arrayvec.specs.ArrayVec.{ArrayVec}
use Rattle.ring_laws.specs.Ring.{Held, RingLaws}
use Rattle.ring_laws.specs.Sums.{total}
use Rattle.ring_laws.specs.Stated.{steps}
use Rattle.ring_laws.proofs.SumLemmas.{total_is}
use Rattle.symbol_table.specs.Symbols.{Symbols}
use Rattle.comb_laws.specs.Paths.{Path, Vector, is_path, paths}
use Rattle.comb_laws.specs.Operators.{Kernel, term_at, acted}
use Rattle.comb_run.specs.Evaluated.{KernelAt, acted_step, acted_at, acted_fits}
use Rattle.comb_run.specs.Entries.{entry_at, vector_of, targets_of, AreEntries}
use Rattle.amp_store.specs.Gathered.{kept_of, among, gathered}
use Rattle.comb_run.proofs.Gather.{gathered_all, fits_all, vector_known}
use Rattle.amp_store.proofs.AmongLemmas.{one_fails, all_pass}
use Rattle.comb_run.proofs.PathLemmas.{among_paths}

-- what is kept is there and isn't zero
pub kept_some : {E : Type 0} (h : Held E) (p v : E) → kept_of h p ≡ Some v → (v ≡ p) × (h.is_zero p ≡ false)
kept_some {E} h p v e = pick (h.is_zero p) refl e
  where
    pick : (b : Bool) → h.is_zero p ≡ b → (if b then None else Some p) ≡ Some v → (v ≡ p) × (h.is_zero p ≡ false)
    pick true is same = absurd (cc)
    pick false is same = (cc, is)

module _ {E : Type 0} (c : Symbols E) (laws : RingLaws c.ring c.held) (strands after : List ℕ) (k : ℕ) where
  acted_is : (kernel : Kernel E) (v : Vector E) (x : Path) → IsTrue (c.ring.member (acted c strands after k kernel v x))
  acted_is kernel v x = pick (is_path c after x)
    where
      pick : (b : Bool) → IsTrue (c.ring.member (if b then total c.ring c.count (term_at c strands k kernel v x) else c.ring.zero))
      pick true = total_is laws c.count (term_at c strands k kernel v x)
      pick false = laws.zero_is

  acted_off : (kernel : Kernel E) (v : Vector E) (x : Path) → is_path c after x ≡ false → acted c strands after k kernel v x ≡ c.ring.zero
  acted_off kernel v x off = rw off refl

  -- a new value that isn't zero is at a path
  pub on_path : (kernel : Kernel E) (v : Vector E) (x : Path) → c.held.is_zero (acted c strands after k kernel v x) ≡ false → is_path c after x ≡ true
  on_path kernel v x some = pick (is_path c after x) refl
    where
      pick : (b : Bool) → is_path c after x ≡ b → b ≡ true
      pick true is = refl
      pick false is =
          let zero : c.held.is_zero (acted c strands after k kernel v x) ≡ true = ap c.held.is_zero (acted_off kernel v x is) ∙ (laws.is_zero_is c.ring.zero laws.zero_is).1 refl in
          absurd (cc (sym zero ∙ some))

  module _ (kernel : Kernel E) (es new : List (ArrayVec ℕ × E)) where
    -- the new entries keep the operator's vector
    pub act_kept : 0 < k → k < length after → (ts : List Path) → ts ≡ targets_of c.count k strands es
        → ((x : Path) → entry_at after new x ≡ gathered c.held (acted c strands after k kernel (vector_of c.ring strands es)) ts x)
        → (x : Path) → entry_at after new x ≡ kept_of c.held (acted c strands after k kernel (vector_of c.ring strands es) x)
    act_kept low high ts same h x =
        h x ∙ (ap (λ us. gathered c.held (acted c strands after k kernel (vector_of c.ring strands es)) us x) same ∙ gathered_all c laws strands after k kernel es x low high)

    pub act_vector : ((x : Path) → entry_at after new x ≡ kept_of c.held (acted c strands after k kernel (vector_of c.ring strands es) x))
        → vector_of c.ring after new ≡ acted c strands after k kernel (vector_of c.ring strands es)
    act_vector h = vector_known c laws after new (acted c strands after k kernel (vector_of c.ring strands es)) (acted_is kernel (vector_of c.ring strands es)) h

    pub act_entries : ((x : Path) → entry_at after new x ≡ kept_of c.held (acted c strands after k kernel (vector_of c.ring strands es) x)) → AreEntries c after new
    act_entries h = record {
      members = λ x v is. ap c.ring.member (kept_some c.held (P x) v (sym (h x) ∙ is)).0 ∙ acted_is kernel (vector_of c.ring strands es) x;
      paths = λ x v is. on_path kernel (vector_of c.ring strands es) x (kept_some c.held (P x) v (sym (h x) ∙ is)).1;
      nonzero = λ x v is. let kept = kept_some c.held (P x) v (sym (h x) ∙ is) in ap c.held.is_zero kept.0 ∙ kept.1;
    }
      where
        P : Vector E
        P = acted c strands after k kernel (vector_of c.ring strands es)

  module _ (kernel : KernelAt E) (es : List (ArrayVec ℕ × E)) where
    pub act_fits : 0 < k → k < length after → (ts : List Path) → ts ≡ targets_of c.count k strands es
        → ((x : Path) → among x ts ≡ true → is_some (acted_at c strands after k kernel (vector_of c.ring strands es) x) ≡ true)
        → acted_fits c strands after k kernel (vector_of c.ring strands es) ≡ true
    act_fits low high ts same h =
        all_pass (λ x. is_some (acted_at c strands after k kernel (vector_of c.ring strands es) x)) (paths c after)
        (λ x. fits_all c laws strands after k kernel es x low high (λ t. h x (ap (λ us. among x us) same ∙ t)))

    pub act_fails : (x : Path) → acted_at c strands after k kernel (vector_of c.ring strands es) x ≡ None → acted_fits c strands after k kernel (vector_of c.ring strands es) ≡ false
    act_fails x none =
        one_fails (λ y. is_some (acted_at c strands after k kernel (vector_of c.ring strands es) y)) x (paths c after)
        (among_paths c after x (on (is_path c after x) refl none)) (ap is_some none)
      where
        on : (b : Bool) → is_path c after x ≡ b → (if b then steps (acted_step c strands k kernel (vector_of c.ring strands es) x) 0 c.count c.ring.zero else Some c.ring.zero) ≡ None → is_path c after x ≡ true
        on true is e = is
        on false is e = absurd (cc)
