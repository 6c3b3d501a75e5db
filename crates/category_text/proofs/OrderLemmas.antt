-- The triples that have a line are new behind a head.
use Rattle.std.proofs.Common.{◌≡◌, ℕ, ◌+◌, ◌*◌, ◌≤◌, List, [], ◌∷◌, Bool, true, false, ◌&&◌, ◌==◌, not, length, filter, refl, arith, if◌then◌else◌}
use Rattle.std.proofs.lemmas.Bool.Decides.{nat_tests}
use Rattle.fusion_rules.specs.Fusion.{is_triple, unit_fuses, are_labels, is_unit_triple}
use Rattle.symbol_table.specs.Index.{AreThreeLabels}
use Rattle.symbol_table.specs.declared.index.VIndex.{VIndex}
use Rattle.category_text.specs.Named.{NamedSymbols}
use Rattle.category_text.specs.Canonical.{vertices, has_fuse_line}
use Rattle.category_text.specs.Spelled.{head_alone, fused_with, FreshTriples}
use Rattle.category_text.proofs.RiseLemmas.{Rises, v_code, vertices_rise}

-- no triple from a code on, but those of the unit
abbrev pub Unfused : ℕ → NamedSymbols → Type 0
Unfused k said = (x : VIndex) → (x.a == 0) ≡ false → (x.b == 0) ≡ false → k ≤ v_code x → said.given.fuse x.a x.b x.c ≡ false

unfused_with : (said : NamedSymbols) (t : VIndex) (k : ℕ) → Unfused k said → k ≤ v_code t → Unfused (v_code t + 1) (fused_with said t)
unfused_with said t k un le x a b low =
    let other : is_triple t.a t.b t.c x.a x.b x.c ≡ false = grind (arith, nat_tests) in
    rw other (un x a b (omega arith))

-- labels below n, and none of the first two the unit
abbrev pub IsPlainTriple : ℕ → VIndex → Type 0
IsPlainTriple n t = AreThreeLabels n t.a t.b t.c × ((t.a == 0) ≡ false) × ((t.b == 0) ≡ false)

fresh_triples : (p : VIndex → Bool) (said : NamedSymbols) (k m : ℕ) (ts : List VIndex) → ((t : VIndex) → p t ≡ true → IsPlainTriple (length said.names) t) → Rises v_code k m ts → Unfused k said → FreshTriples said (filter p ts)
fresh_triples p said k m [] off s un = tt
fresh_triples p said k m (t ∷ ts) off (low, rest) un =
    go (p t) refl
    (fresh_triples p said (v_code t + 1) m ts off rest (λ x xa xb xlow. un x xa xb (omega arith)))
    (fresh_triples p (fused_with said t) (v_code t + 1) m ts off rest (unfused_with said t k un low))
  where
    go : (v : Bool) → p t ≡ v → FreshTriples said (filter p ts) → FreshTriples (fused_with said t) (filter p ts) → FreshTriples said (if v then t ∷ filter p ts else filter p ts)
    go false e skip take = skip
    go true e skip take = let ((a, b, c), u, v) = off t e in (a, b, c, u, v, un t u v low, take)

-- off the unit, a head has no triples
pub off_unit : (n a b c : ℕ) → (a == 0) ≡ false → (b == 0) ≡ false → unit_fuses n a b c ≡ false
off_unit n a b c u v =
    let none : is_unit_triple a b c ≡ false = rw (u, v) refl in rw none (by_test (are_labels n a b c))
  where
    by_test : (w : Bool) → (w && false) ≡ false
    by_test true = refl
    by_test false = refl

pub fuse_line_off : (x : NamedSymbols) (t : VIndex) → has_fuse_line x t ≡ true → ((t.a == 0) ≡ false) × ((t.b == 0) ≡ false) × (x.given.fuse t.a t.b t.c ≡ true)
fuse_line_off x t e = go (t.a == 0) (t.b == 0) e
  where
    go : (u v : Bool) → (not u && (not v && x.given.fuse t.a t.b t.c)) ≡ true → (u ≡ false) × (v ≡ false) × (x.given.fuse t.a t.b t.c ≡ true)
    go true v e = absurd (cc)
    go false true e = absurd (cc)
    go false false e = (refl, refl, e)

-- the triples that have a line are new behind the head
pub fresh_fusion : (x : NamedSymbols) (version root : ℕ) (names : List (List ℕ)) (n : ℕ) → n ≤ 16 → ((t : VIndex) → x.given.fuse t.a t.b t.c ≡ true → AreThreeLabels (length names) t.a t.b t.c)
    → FreshTriples (head_alone version root names) (filter (has_fuse_line x) (vertices n))
fresh_fusion x version root names n few labels =
    fresh_triples (has_fuse_line x) (head_alone version root names) 0 (n * 256) (vertices n)
    (λ t e. let (u, v, w) = fuse_line_off x t e in (labels t w, u, v))
    (vertices_rise n few) (λ t u v low. off_unit (length names) t.a t.b t.c u v)
