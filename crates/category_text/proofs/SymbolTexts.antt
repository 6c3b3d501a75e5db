-- The symbols at all labels decide the canonical text.
use Rattle.std.proofs.Common.{◌≡◌, ℕ, List, refl, ap}
use Rattle.cyclo_core.specs.Ratio.{Ratio, held, ring_at}
use Rattle.symbol_table.specs.Symbols.{Given, symbols_of}
use Rattle.symbol_table.specs.declared.index.VIndex.{VIndex}
use Rattle.category_text.specs.Again.{SameSymbols}
use Rattle.category_text.specs.Canonical.{canonical, mark_value, vertex_value}
use Rattle.category_text.specs.Named.{NamedSymbols}
use Rattle.category_text.specs.declared.kind.MarkKind.{MarkKind}
use Rattle.category_text.specs.declared.kind.MarkKind.TheVariants.{OnTwist, OnLoop}
use Rattle.category_text.specs.declared.kind.VertexKind.{VertexKind}
use Rattle.category_text.specs.declared.kind.VertexKind.TheVariants.{OnR, OnW, OnV}
use Rattle.category_text.proofs.TextLemmas.{same_text}

module _ (names : List (List ℕ)) (root : ℕ) (g h : Given Ratio) (same : symbols_of (ring_at root) held g ≡ symbols_of (ring_at root) held h) where
  abbrev named : Given Ratio → NamedSymbols
  named given = record { root = root; names = names; given = given }

  same_vertex : (kind : VertexKind) (at : VIndex) → vertex_value (named g) kind at ≡ vertex_value (named h) kind at
  same_vertex OnR at = ap (λ s. s.r at.a at.b at.c) same
  same_vertex OnW at = ap (λ s. s.w at.a at.b at.c) same
  same_vertex OnV at = ap (λ s. s.v at.a at.b at.c) same

  same_mark : (kind : MarkKind) (a : ℕ) → mark_value (named g) kind a ≡ mark_value (named h) kind a
  same_mark OnTwist a = ap (λ s. s.twist a) same
  same_mark OnLoop a = ap (λ s. s.loop_value a) same

  same_symbols : SameSymbols (named g) (named h)
  same_symbols = record {
    root = refl;
    names = refl;
    count = ap (λ s. s.count) same;
    fuse = λ a b e. ap (λ s. s.fuse a b e) same;
    f = λ at. ap (λ s. s.f at.a at.b at.c at.d at.e at.f) same;
    vertex = same_vertex;
    version = ap (λ s. s.version) same;
    mark = same_mark;
  }

  -- what gives the same symbols has the same text
  pub text_of_symbols : canonical (named g) ≡ canonical (named h)
  text_of_symbols = same_text (named g) (named h) same_symbols
