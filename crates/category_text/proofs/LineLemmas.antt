-- The symbols in the list are those that have a line.
use Rattle.std.proofs.Common.{◌≡◌, ℕ, ◌<◌, List, [], ◌∷◌, ◌++◌, Bool, true, false, filter, refl, ap}
use Rattle.symbol_table.specs.declared.index.FIndex.{FIndex}
use Rattle.symbol_table.specs.declared.index.VIndex.{VIndex}
use Rattle.category_text.specs.declared.kind.Symbol.{Symbol}
use Rattle.category_text.specs.declared.kind.Symbol.TheVariants.{OfF, OfR, OfW, OfV, OfTwist, OfLoop}
use Rattle.category_text.specs.declared.kind.MarkKind.{MarkKind}
use Rattle.category_text.specs.declared.kind.MarkKind.TheVariants.{OnTwist, OnLoop}
use Rattle.category_text.specs.declared.kind.VertexKind.{VertexKind}
use Rattle.category_text.specs.declared.kind.VertexKind.TheVariants.{OnR, OnW, OnV}
use Rattle.category_text.specs.Named.{NamedSymbols}
use Rattle.category_text.specs.Answers.{SymbolBelow}
use Rattle.category_text.specs.Canonical.{counting, vertices, sixes, has_f_line, has_mark_line, has_vertex_line}
use Rattle.category_text.proofs.PairLemmas.{of_kind, of_mark, f_symbols, vertex_symbols, mark_symbols, all_marks, behind_f, symbols, has_line}
use Rattle.category_text.proofs.IndexLemmas.{same_symbol, same_symbol_is}
use Rattle.category_text.proofs.FreshLemmas.{Each}
use Rattle.category_text.proofs.InLemmas.{In, below, in_left, in_right, in_map, in_filter, in_vertices, in_sixes}
use Rattle.category_text.proofs.SameLemmas.{each_filter, each_map, each_append}

-- what holds of each symbol of a kind that has a line, and of each mark, holds of all symbols
pub each_symbol : (x : NamedSymbols) (P : Symbol → Type 0) → ((at : FIndex) → has_f_line x at ≡ true → P (OfF at))
    → ((kind : VertexKind) (at : VIndex) → has_vertex_line x kind at ≡ true → P (of_kind kind at)) → ((kind : MarkKind) (a : ℕ) → has_mark_line x kind a ≡ true → P (of_mark kind a))
    → Each P (symbols x)
each_symbol x P f vertex mark =
    each_append P (f_symbols x) (behind_f x) (each_map P (λ (at : FIndex). P (OfF at)) OfF (λ at p. p) (filter (has_f_line x) (sixes x.given.count)) (each_filter (λ (at : FIndex). P (OfF at)) (has_f_line x) f (sixes x.given.count)))
    (each_append P (vertex_symbols x OnR) (vertex_symbols x OnW ++ (vertex_symbols x OnV ++ all_marks x)) (of OnR)
    (each_append P (vertex_symbols x OnW) (vertex_symbols x OnV ++ all_marks x) (of OnW)
    (each_append P (vertex_symbols x OnV) (all_marks x) (of OnV) (each_append P (mark_symbols x OnTwist) (mark_symbols x OnLoop) (marks OnTwist) (marks OnLoop)))))
  where
    of : (kind : VertexKind) → Each P (vertex_symbols x kind)
    of kind =
        each_map P (λ (at : VIndex). P (of_kind kind at)) (of_kind kind) (λ at p. p) (filter (has_vertex_line x kind) (vertices x.given.count))
        (each_filter (λ (at : VIndex). P (of_kind kind at)) (has_vertex_line x kind) (vertex kind) (vertices x.given.count))

    marks : (kind : MarkKind) → Each P (mark_symbols x kind)
    marks kind =
        each_map P (λ (a : ℕ). P (of_mark kind a)) (of_mark kind) (λ a p. p) (filter (has_mark_line x kind) (counting 0 x.given.count))
        (each_filter (λ (a : ℕ). P (of_mark kind a)) (has_mark_line x kind) (mark kind) (counting 0 x.given.count))

-- every symbol in the list has a line
lines_each : (x : NamedSymbols) → Each (λ s. has_line x s ≡ true) (symbols x)
lines_each x = each_symbol x (λ s. has_line x s ≡ true) (λ at e. e) kind_line mark_line
  where
    kind_line : (kind : VertexKind) (at : VIndex) → has_vertex_line x kind at ≡ true → has_line x (of_kind kind at) ≡ true
    kind_line OnR at e = e
    kind_line OnW at e = e
    kind_line OnV at e = e

    mark_line : (kind : MarkKind) (a : ℕ) → has_mark_line x kind a ≡ true → has_line x (of_mark kind a) ≡ true
    mark_line OnTwist a e = e
    mark_line OnLoop a e = e

each_leads : {A : Type 0} (P Q : A → Type 0) → ((x : A) → P x → Q x) → (xs : List A) → Each P xs → Each Q xs
each_leads P Q leads [] all = tt
each_leads P Q leads (x ∷ xs) all = (leads x all.0, each_leads P Q leads xs all.1)

-- a symbol without a line isn't in the list
pub others : (x : NamedSymbols) (s : Symbol) → has_line x s ≡ false → Each (λ t. same_symbol t s ≡ false) (symbols x)
others x s none = each_leads (λ t. has_line x t ≡ true) (λ t. same_symbol t s ≡ false) (λ t e. go (same_symbol t s) t refl e) (symbols x) (lines_each x)
  where
    go : (b : Bool) (t : Symbol) → same_symbol t s ≡ b → has_line x t ≡ true → b ≡ false
    go true t is e = absurd (let same : has_line x t ≡ has_line x s = ap (has_line x) (same_symbol_is t s is) in cc)
    go false t is e = refl

-- a symbol with a line is in the list
module _ (x : NamedSymbols) where
  in_behind : (s : Symbol) → In s (behind_f x) → In s (symbols x)
  in_behind s = in_right s (f_symbols x) (behind_f x)

  in_kind : (kind : VertexKind) (at : VIndex) → SymbolBelow x.given.count (OfR at) → has_vertex_line x kind at ≡ true → In (of_kind kind at) (vertex_symbols x kind)
  in_kind kind at labels e =
      in_map (of_kind kind) at (filter (has_vertex_line x kind) (vertices x.given.count)) (in_filter (has_vertex_line x kind) at (vertices x.given.count) e (in_vertices x.given.count at labels))

  in_mark : (kind : MarkKind) (a : ℕ) → a < x.given.count → has_mark_line x kind a ≡ true → In (of_mark kind a) (mark_symbols x kind)
  in_mark kind a label e =
      in_map (of_mark kind) a (filter (has_mark_line x kind) (counting 0 x.given.count)) (in_filter (has_mark_line x kind) a (counting 0 x.given.count) e (below x.given.count a label))

  in_vs : (s : Symbol) → In s (vertex_symbols x OnV ++ all_marks x) → In s (symbols x)
  in_vs s h =
      in_behind s
      (in_right s (vertex_symbols x OnR) (vertex_symbols x OnW ++ (vertex_symbols x OnV ++ all_marks x)) (in_right s (vertex_symbols x OnW) (vertex_symbols x OnV ++ all_marks x) h))

  pub in_symbols : (s : Symbol) → SymbolBelow x.given.count s → has_line x s ≡ true → In s (symbols x)
  in_symbols (OfF at) labels e =
      in_left (OfF at) (f_symbols x) (behind_f x)
      (in_map OfF at (filter (has_f_line x) (sixes x.given.count)) (in_filter (has_f_line x) at (sixes x.given.count) e (in_sixes x.given.count at labels)))
  in_symbols (OfR at) labels e =
      in_behind (OfR at) (in_left (OfR at) (vertex_symbols x OnR) (vertex_symbols x OnW ++ (vertex_symbols x OnV ++ all_marks x)) (in_kind OnR at labels e))
  in_symbols (OfW at) labels e =
      in_behind (OfW at)
      (in_right (OfW at) (vertex_symbols x OnR) (vertex_symbols x OnW ++ (vertex_symbols x OnV ++ all_marks x))
      (in_left (OfW at) (vertex_symbols x OnW) (vertex_symbols x OnV ++ all_marks x) (in_kind OnW at labels e)))
  in_symbols (OfV at) labels e = in_vs (OfV at) (in_left (OfV at) (vertex_symbols x OnV) (all_marks x) (in_kind OnV at labels e))
  in_symbols (OfTwist a) label e =
      in_vs (OfTwist a) (in_right (OfTwist a) (vertex_symbols x OnV) (all_marks x) (in_left (OfTwist a) (mark_symbols x OnTwist) (mark_symbols x OnLoop) (in_mark OnTwist a label e)))
  in_symbols (OfLoop a) label e =
      in_vs (OfLoop a) (in_right (OfLoop a) (vertex_symbols x OnV) (all_marks x) (in_right (OfLoop a) (mark_symbols x OnTwist) (mark_symbols x OnLoop) (in_mark OnLoop a label e)))
