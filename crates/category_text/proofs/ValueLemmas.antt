-- What is read from a canonical text is the same category.
use Rattle.std.proofs.Common.{◌≡◌, ℕ, Bool, true, false, ◌&&◌, ◌||◌, ◌==◌, not, refl, sym, ap, ap₂, ◌∙◌, arith, if◌then◌else◌, None}
use Rattle.std.specs.Prelude.{unwrap_or}
use Rattle.std.proofs.lemmas.Bool.Decides.{nat_tests}
use Rattle.cyclo_core.specs.Ratio.{ring_at}
use Rattle.fusion_rules.specs.Fusion.{is_triple, unit_fuses}
use Rattle.symbol_table.specs.Index.{v_index}
use Rattle.symbol_table.specs.declared.index.VIndex.{VIndex}
use Rattle.category_text.specs.declared.kind.Symbol.{Symbol}
use Rattle.category_text.specs.declared.kind.Symbol.TheVariants.{OfF, OfR, OfW, OfV, OfTwist, OfLoop}
use Rattle.category_text.specs.declared.kind.MarkKind.{MarkKind}
use Rattle.category_text.specs.declared.kind.MarkKind.TheVariants.{OnTwist, OnLoop}
use Rattle.category_text.specs.declared.kind.VertexKind.{VertexKind}
use Rattle.category_text.specs.declared.kind.VertexKind.TheVariants.{OnR, OnW, OnV}
use Rattle.category_text.specs.Named.{NamedSymbols}
use Rattle.category_text.specs.Canonical.{vertices, is_one, has_fuse_line, mark_value, vertex_value}
use Rattle.category_text.specs.Spelled.{head_alone, fused_all, set_all}
use Rattle.category_text.specs.Again.{IsSaid, SameSymbols}
use Rattle.category_text.proofs.BackLemmas.{names_stay}
use Rattle.category_text.proofs.OrderLemmas.{off_unit, fuse_line_off}
use Rattle.category_text.proofs.PairLemmas.{symbols, value_of, has_line, pairs, triples}
use Rattle.category_text.proofs.IndexLemmas.{set_of, admitted}
use Rattle.category_text.proofs.FreshLemmas.{Each, unset_fused}
use Rattle.category_text.proofs.InLemmas.{in_filter, in_vertices}
use Rattle.category_text.proofs.LineLemmas.{others, in_symbols}
use Rattle.category_text.proofs.SaidLemmas.{symbol_labels}
use Rattle.category_text.proofs.StayLemmas.{root_stays, count_stays, version_stays, set_names, set_root, set_count, set_version, set_fuse}
use Rattle.category_text.proofs.SameLemmas.{fused_in, fused_out, each_filter, set_in, set_out, one_is}

triple_is : (t : VIndex) (a b c : ℕ) → is_triple t.a t.b t.c a b c ≡ true → t ≡ v_index a b c
triple_is t a b c e =
    let first : t.a ≡ a = grind (arith, nat_tests) in
    let second : t.b ≡ b = grind (arith, nat_tests) in
    let third : t.c ≡ c = grind (arith, nat_tests) in
    λ i. record { a = first i; b = second i; c = third i }

-- a symbol's value by its triples and what was set
value_by : (x : NamedSymbols) (s : Symbol) → value_of x s ≡ (if admitted x.given.count x.given.fuse s then unwrap_or (set_of x.given s) (ring_at x.root).one else (ring_at x.root).zero)
value_by x (OfF at) = refl
value_by x (OfR at) = refl
value_by x (OfW at) = refl
value_by x (OfV at) = refl
value_by x (OfTwist at) = refl
value_by x (OfLoop at) = refl

line_by : (x : NamedSymbols) (s : Symbol) → has_line x s ≡ (admitted x.given.count x.given.fuse s && not (is_one x.root (value_of x s)))
line_by x (OfF at) = refl
line_by x (OfR at) = refl
line_by x (OfW at) = refl
line_by x (OfV at) = refl
line_by x (OfTwist at) = refl
line_by x (OfLoop at) = refl

module _ (x : NamedSymbols) (said : IsSaid x) where
  abbrev fused : NamedSymbols
  fused = fused_all (head_alone x.given.version x.root x.names) (triples x)

  abbrev back : NamedSymbols
  back = set_all fused (pairs x)

  -- triples
  not_here : (a b c : ℕ) → has_fuse_line x (v_index a b c) ≡ false → Each (λ (t : VIndex). is_triple t.a t.b t.c a b c ≡ false) (triples x)
  not_here a b c none = each_filter (λ (t : VIndex). is_triple t.a t.b t.c a b c ≡ false) (has_fuse_line x) (λ t e. go (is_triple t.a t.b t.c a b c) t refl e) (vertices x.given.count)
    where
      go : (v : Bool) (t : VIndex) → is_triple t.a t.b t.c a b c ≡ v → has_fuse_line x t ≡ true → v ≡ false
      go true t is e = absurd (let same : has_fuse_line x t ≡ has_fuse_line x (v_index a b c) = ap (has_fuse_line x) (triple_is t a b c is) in cc)
      go false t is e = refl

  alone : (a b c : ℕ) → has_fuse_line x (v_index a b c) ≡ false → unit_fuses x.given.count a b c ≡ x.given.fuse a b c
  alone a b c none = go (a == 0) (b == 0) refl refl none (λ e. sym (said.units a b c e))
    where
      go : (u v : Bool) → (a == 0) ≡ u → (b == 0) ≡ v → (not u && (not v && x.given.fuse a b c)) ≡ false → ((u || v) ≡ true → unit_fuses x.given.count a b c ≡ x.given.fuse a b c) → unit_fuses x.given.count a b c ≡ x.given.fuse a b c
      go true v e f none units = units refl
      go false true e f none units = units refl
      go false false e f none units = off_unit x.given.count a b c e f ∙ sym none

  pub same_fuse : (a b c : ℕ) → fused.given.fuse a b c ≡ x.given.fuse a b c
  same_fuse a b c = go (has_fuse_line x (v_index a b c)) refl
    where
      go : (v : Bool) → has_fuse_line x (v_index a b c) ≡ v → fused.given.fuse a b c ≡ x.given.fuse a b c
      go true e =
          let there = (fuse_line_off x (v_index a b c) e).2 in
          fused_in (head_alone x.given.version x.root x.names) (triples x) (v_index a b c) (in_filter (has_fuse_line x) (v_index a b c) (vertices x.given.count) e (in_vertices x.given.count (v_index a b c) (said.labels a b c there))) ∙ sym there
      go false e = fused_out (head_alone x.given.version x.root x.names) (triples x) a b c (not_here a b c e) ∙ ap (λ n. unit_fuses n a b c) (sym said.counted) ∙ alone a b c e

  back_fuse : back.given.fuse ≡ x.given.fuse
  back_fuse = set_fuse fused (pairs x) ∙ (λ t a b c. same_fuse a b c t)

  back_count : back.given.count ≡ x.given.count
  back_count = set_count fused (pairs x) ∙ count_stays (head_alone x.given.version x.root x.names) (triples x) ∙ sym said.counted

  -- values
  unset : (s : Symbol) → has_line x s ≡ false → set_of back.given s ≡ None
  unset s none = set_out x fused (symbols x) s (others x s none) ∙ unset_fused x.given.version x.root x.names (triples x) s

  same_value : (s : Symbol) → value_of back s ≡ value_of x s
  same_value s =
      value_by back s
      ∙ ap₂ (λ (n : ℕ) (fuse : ℕ → ℕ → ℕ → Bool). if admitted n fuse s then unwrap_or (set_of back.given s) (ring_at x.root).one else (ring_at x.root).zero) back_count back_fuse
      ∙ go (admitted x.given.count x.given.fuse s) (is_one x.root (value_of x s)) refl refl
    where
      go : (v w : Bool) → admitted x.given.count x.given.fuse s ≡ v → is_one x.root (value_of x s) ≡ w → (if v then unwrap_or (set_of back.given s) (ring_at x.root).one else (ring_at x.root).zero) ≡ value_of x s
      go false w e f = sym (value_by x s ∙ rw e refl)
      go true true e f = ap (λ o. unwrap_or o (ring_at x.root).one) (unset s (line_by x s ∙ rw (e, f) refl)) ∙ sym (one_is x.root (value_of x s) f)
      go true false e f =
          let line : has_line x s ≡ true = line_by x s ∙ rw (e, f) refl in
          ap (λ o. unwrap_or o (ring_at x.root).one) (set_in x fused (symbols x) s (in_symbols x s (symbol_labels x said s e) line))

  pub same_category : SameSymbols x back
  same_category = record {
    root = sym (set_root fused (pairs x) ∙ root_stays (head_alone x.given.version x.root x.names) (triples x));
    names = sym (set_names fused (pairs x) ∙ names_stay (head_alone x.given.version x.root x.names) (triples x));
    count = sym back_count;
    fuse = λ a b c. sym (ap (λ (fuse : ℕ → ℕ → ℕ → Bool). fuse a b c) back_fuse);
    f = λ at. sym (same_value (OfF at));
    vertex = λ kind at. by_kind kind at;
    version = sym (set_version fused (pairs x) ∙ version_stays (head_alone x.given.version x.root x.names) (triples x));
    mark = λ kind a. by_mark kind a;
  }
    where
      by_kind : (kind : VertexKind) (at : VIndex) → vertex_value x kind at ≡ vertex_value back kind at
      by_kind OnR at = sym (same_value (OfR at))
      by_kind OnW at = sym (same_value (OfW at))
      by_kind OnV at = sym (same_value (OfV at))

      by_mark : (kind : MarkKind) (a : ℕ) → mark_value x kind a ≡ mark_value back kind a
      by_mark OnTwist a = sym (same_value (OfTwist a))
      by_mark OnLoop a = sym (same_value (OfLoop a))
