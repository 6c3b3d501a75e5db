-- A value put at one index.
use Rattle.std.proofs.Common.{◌≡◌, ℕ, Bool, true, false, ◌==◌, List, Option, Some, None, refl, ap, ◌∙◌}
use Rattle.std.specs.Prelude.{if◌then◌else◌, slice_index}
use Rattle.std.proofs.lemmas.Bool.{eqb-true, eq-eqb, and_parts}
use Rattle.std.specs.Map.{lookup}
use Rattle.std.specs.BTreeMap.{is_at}
use Rattle.ring_laws.specs.Ring.{Ring, Held}
use Rattle.symbol_table.specs.Symbols.{Given, f_admissible, h_of, s_of, symbols_of}
use Rattle.symbol_table.specs.Evaluated.{h_stated, s_stated}
use Rattle.symbol_table.specs.Index.{f_index, v_index, f_cmp, v_cmp, f_same, v_same}
use Rattle.symbol_table.specs.Draft.{SetsVertex}
use Rattle.symbol_table.specs.Derived.{DerivedValue, PutsH, h_put, s_put, with_h, with_s}
use Rattle.symbol_table.specs.declared.law.Law.{Law}
use Rattle.law_events.specs.First.{event_of}
use Rattle.law_events.specs.Sides.{evaluated}
use Rattle.derive_symbols.specs.Walk.{HoldsH, HoldsS, HoldsAt, Keeps}
use Rattle.derive_symbols.specs.declared.walk.Symbol.{Symbol}
use Rattle.derive_symbols.specs.declared.walk.Symbol.TheVariants as kind
use Rattle.derive_symbols.proofs.ValueLemmas.{h_given, s_given}

same_labels : (a b c d e f a' b' c' d' e' f' : ℕ) → f_same (f_index a b c d e f) (f_index a' b' c' d' e' f') ≡ true
    → (a ≡ a') × (b ≡ b') × (c ≡ c') × (d ≡ d') × (e ≡ e') × (f ≡ f')
same_labels a b c d e f a' b' c' d' e' f' is =
    let p = and_parts (a == a') _ is in
    let q = and_parts (b == b') _ p.1 in
    let r = and_parts (c == c') _ q.1 in
    let s = and_parts (d == d') _ r.1 in
    let t = and_parts (e == e') (f == f') s.1 in
    (eqb-true a a' p.0, eqb-true b b' q.0, eqb-true c c' r.0, eqb-true d d' s.0, eqb-true e e' t.0, eqb-true f f' t.1)

same_vertex : (a b c a' b' c' : ℕ) → v_same (v_index a b c) (v_index a' b' c') ≡ true → (a ≡ a') × (b ≡ b') × (c ≡ c')
same_vertex a b c a' b' c' is =
    let p = and_parts (a == a') _ is in
    let q = and_parts (b == b') (c == c') p.1 in
    (eqb-true a a' p.0, eqb-true b b' q.0, eqb-true c c' q.1)

-- an evaluation that has a value is no event
pub no_stop : {E : Type 0} (b : Bool) (law : Law) (i : List ℕ) (o : Option E) (z : E) → o ≡ Some z → (if b then event_of law i (evaluated o) else None) ≡ None
no_stop true law i o z given = rw given refl
no_stop false law i o z given = refl

same_self : (a : ℕ) → (a == a) ≡ true
same_self a = eq-eqb a a refl

module _ {E : Type 0} (ring : Ring E) (held : Held E) (g : Given E) (old new : DerivedValue E) where
  -- a right value of H keeps right values right
  h_stays : (a b c d e f : ℕ) (z : E) → z ≡ h_of ring g a b c d f e → PutsH (f_index a b c d e f) z (h_put old) (h_put new)
      → (a' b' c' d' f' e' : ℕ) → HoldsH ring g old a' b' c' d' f' e' → HoldsH ring g new a' b' c' d' f' e'
  h_stays a b c d e f z is puts a' b' c' d' f' e' stood admissible = puts a' b' c' d' f' e' ∙ by_test (f_same (f_index a b c d e f) (f_index a' b' c' d' e' f')) refl
    where
      by_test : (t : Bool) → f_same (f_index a b c d e f) (f_index a' b' c' d' e' f') ≡ t → (if t then Some z else h_put old a' b' c' d' f' e') ≡ Some (h_of ring g a' b' c' d' f' e')
      by_test true same =
          let l = same_labels a b c d e f a' b' c' d' e' f' same in
          ap Some (is ∙ rw (l.0, l.1, l.2, l.3, l.4, l.5) refl)
      by_test false same = stood admissible

  -- what a put of H at an admissible index does
  pub put_fills : (a b c d e f : ℕ) (z : E) → f_admissible g.fuse a b c d e f ≡ true → h_stated (symbols_of ring held g) a b c d f e ≡ Some z
      → new ≡ with_h old (f_index a b c d e f) z → PutsH (f_index a b c d e f) z (h_put old) (h_put new)
      → Keeps ring g old new × HoldsH ring g new a b c d f e
  put_fills a b c d e f z is given changed puts = (keeps, λ _. puts a b c d f e ∙ here)
    where
      value : z ≡ h_of ring g a b c d f e
      value = h_given ring held g a b c d f e z is given

      keeps : (symbol : Symbol) (index : List ℕ) → HoldsAt ring g old symbol index → HoldsAt ring g new symbol index
      keeps kind.H i stood = h_stays a b c d e f z value puts (slice_index i 0) (slice_index i 1) (slice_index i 2) (slice_index i 3) (slice_index i 4) (slice_index i 5) stood
      keeps kind.S i stood = λ admissible. ap (λ (x : DerivedValue E). lookup (is_at (v_cmp (v_index (slice_index i 0) (slice_index i 1) (slice_index i 2)))) x.put_s) changed ∙ stood admissible

      here : (if f_same (f_index a b c d e f) (f_index a b c d e f) then Some z else h_put old a b c d f e) ≡ Some (h_of ring g a b c d f e)
      here = rw (same_self a, same_self b, same_self c, same_self d, same_self e, same_self f) (ap Some value)

  -- a right value of S keeps right values right
  s_stays : (a b c : ℕ) (z : E) → z ≡ s_of ring g a b c → SetsVertex (v_index a b c) z (s_put old) (s_put new)
      → (a' b' c' : ℕ) → HoldsS ring g old a' b' c' → HoldsS ring g new a' b' c'
  s_stays a b c z is puts a' b' c' stood admissible = puts a' b' c' ∙ by_test (v_same (v_index a b c) (v_index a' b' c')) refl
    where
      by_test : (t : Bool) → v_same (v_index a b c) (v_index a' b' c') ≡ t → (if t then Some z else s_put old a' b' c') ≡ Some (s_of ring g a' b' c')
      by_test true same = let l = same_vertex a b c a' b' c' same in ap Some (is ∙ rw (l.0, l.1, l.2) refl)
      by_test false same = stood admissible

  -- what a put of S at an admissible index does
  pub put_s_fills : (a b c : ℕ) (z : E) → g.fuse a b c ≡ true → s_stated (symbols_of ring held g) a b c ≡ Some z
      → new ≡ with_s old (v_index a b c) z → SetsVertex (v_index a b c) z (s_put old) (s_put new)
      → Keeps ring g old new × HoldsS ring g new a b c
  put_s_fills a b c z is given changed puts = (keeps, λ _. puts a b c ∙ here)
    where
      value : z ≡ s_of ring g a b c
      value = s_given ring held g a b c z is given

      keeps : (symbol : Symbol) (index : List ℕ) → HoldsAt ring g old symbol index → HoldsAt ring g new symbol index
      keeps kind.S i stood = s_stays a b c z value puts (slice_index i 0) (slice_index i 1) (slice_index i 2) stood
      keeps kind.H i stood = λ admissible.
          ap (λ (x : DerivedValue E). lookup (is_at (f_cmp (f_index (slice_index i 0) (slice_index i 1) (slice_index i 2) (slice_index i 3) (slice_index i 5) (slice_index i 4)))) x.put_h) changed
          ∙ stood admissible

      here : (if v_same (v_index a b c) (v_index a b c) then Some z else s_put old a b c) ≡ Some (s_of ring g a b c)
      here = rw (same_self a, same_self b, same_self c) (ap Some value)
