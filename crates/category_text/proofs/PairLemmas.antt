-- The canonical lines are the lines of triples and values over a head.
use Rattle.std.proofs.Common.{◌≡◌, ℕ, ◌+◌, ◌*◌, ◌≤◌, List, [], ◌∷◌, ◌++◌, Bool, map, filter, refl, ap, arith}
use Rattle.std.proofs.lemmas.List.{map-append}
use Rattle.cyclo_core.specs.Ratio.{Ratio}
use Rattle.symbol_table.specs.declared.index.FIndex.{FIndex}
use Rattle.symbol_table.specs.declared.index.VIndex.{VIndex}
use Rattle.category_text.specs.declared.kind.Symbol.{Symbol}
use Rattle.category_text.specs.declared.kind.Symbol.TheVariants.{OfF, OfR, OfW, OfV, OfTwist, OfLoop}
use Rattle.category_text.specs.declared.kind.MarkKind.{MarkKind}
use Rattle.category_text.specs.declared.kind.MarkKind.TheVariants.{OnTwist, OnLoop}
use Rattle.category_text.specs.declared.kind.VertexKind.{VertexKind}
use Rattle.category_text.specs.declared.kind.VertexKind.TheVariants.{OnR, OnW, OnV}
use Rattle.category_text.specs.Named.{NamedSymbols}
use Rattle.category_text.specs.Canonical.{counting, vertices, sixes, f_value, mark_value, vertex_value, f_line, mark_line, vertex_line, has_fuse_line, has_f_line, has_mark_line, has_vertex_line, canonical_lines}
use Rattle.category_text.specs.Spelled.{symbol_words, words_at, lines_over}
use Rattle.category_text.proofs.RiseLemmas.{Rises, itself, v_code, f_code, rises_within, rises_append, rises_counting, rises_filter, rises_map, vertices_rise, sixes_rise}

abbrev pub of_mark : MarkKind → ℕ → Symbol
of_mark OnTwist a = OfTwist a
of_mark OnLoop a = OfLoop a

abbrev pub of_kind : VertexKind → VIndex → Symbol
of_kind OnR at = OfR at
of_kind OnW at = OfW at
of_kind OnV at = OfV at

-- the symbols that have a line, in order
abbrev pub f_symbols : NamedSymbols → List Symbol
f_symbols x = map OfF (filter (has_f_line x) (sixes x.given.count))

abbrev pub vertex_symbols : NamedSymbols → VertexKind → List Symbol
vertex_symbols x kind = map (of_kind kind) (filter (has_vertex_line x kind) (vertices x.given.count))

abbrev pub mark_symbols : NamedSymbols → MarkKind → List Symbol
mark_symbols x kind = map (of_mark kind) (filter (has_mark_line x kind) (counting 0 x.given.count))

abbrev pub all_marks : NamedSymbols → List Symbol
all_marks x = mark_symbols x OnTwist ++ mark_symbols x OnLoop

abbrev pub behind_f : NamedSymbols → List Symbol
behind_f x = vertex_symbols x OnR ++ (vertex_symbols x OnW ++ (vertex_symbols x OnV ++ all_marks x))

abbrev pub symbols : NamedSymbols → List Symbol
symbols x = f_symbols x ++ behind_f x

-- the value of a symbol, and whether it has a line
abbrev pub value_of : NamedSymbols → Symbol → Ratio
value_of x (OfF at) = f_value x at
value_of x (OfR at) = vertex_value x OnR at
value_of x (OfW at) = vertex_value x OnW at
value_of x (OfV at) = vertex_value x OnV at
value_of x (OfTwist a) = mark_value x OnTwist a
value_of x (OfLoop a) = mark_value x OnLoop a

abbrev pub has_line : NamedSymbols → Symbol → Bool
has_line x (OfF at) = has_f_line x at
has_line x (OfR at) = has_vertex_line x OnR at
has_line x (OfW at) = has_vertex_line x OnW at
has_line x (OfV at) = has_vertex_line x OnV at
has_line x (OfTwist a) = has_mark_line x OnTwist a
has_line x (OfLoop a) = has_mark_line x OnLoop a

abbrev pub valued : NamedSymbols → Symbol → Symbol × Ratio
valued x s = (s, value_of x s)

abbrev pub pairs : NamedSymbols → List (Symbol × Ratio)
pairs x = map (valued x) (symbols x)

abbrev pub triples : NamedSymbols → List VIndex
triples x = filter (has_fuse_line x) (vertices x.given.count)

-- The lines.
abbrev pub line_of_symbol : NamedSymbols → Symbol → List (List ℕ)
line_of_symbol x s = symbol_words x.names s (value_of x s)

words_are : (x : NamedSymbols) (ss : List Symbol) → map (words_at x.names) (map (valued x) ss) ≡ map (line_of_symbol x) ss
words_are x [] = refl
words_are x (s ∷ ss) = ap (λ ls. line_of_symbol x s ∷ ls) (words_are x ss)

f_words_are : (x : NamedSymbols) (ts : List FIndex) → map (line_of_symbol x) (map OfF ts) ≡ map (f_line x) ts
f_words_are x [] = refl
f_words_are x (t ∷ ts) = ap (λ ls. f_line x t ∷ ls) (f_words_are x ts)

vertex_words_are : (x : NamedSymbols) (kind : VertexKind) (ts : List VIndex) → map (line_of_symbol x) (map (of_kind kind) ts) ≡ map (vertex_line x kind) ts
vertex_words_are x kind [] = refl
vertex_words_are x OnR (t ∷ ts) = ap (λ ls. vertex_line x OnR t ∷ ls) (vertex_words_are x OnR ts)
vertex_words_are x OnW (t ∷ ts) = ap (λ ls. vertex_line x OnW t ∷ ls) (vertex_words_are x OnW ts)
vertex_words_are x OnV (t ∷ ts) = ap (λ ls. vertex_line x OnV t ∷ ls) (vertex_words_are x OnV ts)

mark_words_are : (x : NamedSymbols) (kind : MarkKind) (ls : List ℕ) → map (line_of_symbol x) (map (of_mark kind) ls) ≡ map (mark_line x kind) ls
mark_words_are x kind [] = refl
mark_words_are x OnTwist (a ∷ ls) = ap (λ ms. mark_line x OnTwist a ∷ ms) (mark_words_are x OnTwist ls)
mark_words_are x OnLoop (a ∷ ls) = ap (λ ms. mark_line x OnLoop a ∷ ms) (mark_words_are x OnLoop ls)

pub lines_are_over : (x : NamedSymbols) → lines_over x (triples x) (pairs x) ≡ canonical_lines x
lines_are_over x =
    rw (
      words_are x (symbols x),
      map-append (line_of_symbol x) (f_symbols x) (behind_f x),
      map-append (line_of_symbol x) (vertex_symbols x OnR) (vertex_symbols x OnW ++ (vertex_symbols x OnV ++ all_marks x)),
      map-append (line_of_symbol x) (vertex_symbols x OnW) (vertex_symbols x OnV ++ all_marks x),
      map-append (line_of_symbol x) (vertex_symbols x OnV) (all_marks x),
      map-append (line_of_symbol x) (mark_symbols x OnTwist) (mark_symbols x OnLoop),
      f_words_are x (filter (has_f_line x) (sixes x.given.count)),
      vertex_words_are x OnR (filter (has_vertex_line x OnR) (vertices x.given.count)),
      vertex_words_are x OnW (filter (has_vertex_line x OnW) (vertices x.given.count)),
      vertex_words_are x OnV (filter (has_vertex_line x OnV) (vertices x.given.count)),
      mark_words_are x OnTwist (filter (has_mark_line x OnTwist) (counting 0 x.given.count)),
      mark_words_are x OnLoop (filter (has_mark_line x OnLoop) (counting 0 x.given.count)),
    ) refl

-- The order: F, R, w and v, each with its labels as digits, and the marks with their labels.
abbrev pub kind_code : VertexKind → ℕ
kind_code OnR = 16777216
kind_code OnW = 33554432
kind_code OnV = 50331648

abbrev pub mark_code : MarkKind → ℕ
mark_code OnTwist = 67108864
mark_code OnLoop = 67108880

abbrev pub code : Symbol → ℕ
code (OfF at) = f_code at
code (OfR at) = kind_code OnR + v_code at
code (OfW at) = kind_code OnW + v_code at
code (OfV at) = kind_code OnV + v_code at
code (OfTwist a) = mark_code OnTwist + a
code (OfLoop a) = mark_code OnLoop + a

vertex_symbols_rise : (x : NamedSymbols) (kind : VertexKind) → x.given.count ≤ 16 → Rises code (kind_code kind) (kind_code kind + 16777216) (vertex_symbols x kind)
vertex_symbols_rise x kind few =
    rises_within code (kind_code kind) (kind_code kind + 0) (kind_code kind + x.given.count * 256) (kind_code kind + 16777216) (vertex_symbols x kind)
    (rises_map v_code code (of_kind kind) (kind_code kind) (λ at. behind_kind kind at) 0 (x.given.count * 256) (filter (has_vertex_line x kind) (vertices x.given.count))
    (rises_filter v_code (has_vertex_line x kind) 0 (x.given.count * 256) (vertices x.given.count) (vertices_rise x.given.count few))) (omega arith) (omega arith)
  where
    behind_kind : (kind : VertexKind) (at : VIndex) → code (of_kind kind at) ≡ kind_code kind + v_code at
    behind_kind OnR at = refl
    behind_kind OnW at = refl
    behind_kind OnV at = refl

mark_symbols_rise : (x : NamedSymbols) (kind : MarkKind) → x.given.count ≤ 16 → Rises code (mark_code kind) (mark_code kind + 16) (mark_symbols x kind)
mark_symbols_rise x kind few =
    rises_within code (mark_code kind) (mark_code kind + 0) (mark_code kind + (0 + x.given.count)) (mark_code kind + 16) (mark_symbols x kind)
    (rises_map itself code (of_mark kind) (mark_code kind) (λ a. behind_mark kind a) 0 (0 + x.given.count) (filter (has_mark_line x kind) (counting 0 x.given.count))
    (rises_filter itself (has_mark_line x kind) 0 (0 + x.given.count) (counting 0 x.given.count) (rises_counting 0 x.given.count))) (omega arith) (omega arith)
  where
    behind_mark : (kind : MarkKind) (a : ℕ) → code (of_mark kind a) ≡ mark_code kind + itself a
    behind_mark OnTwist a = refl
    behind_mark OnLoop a = refl

pub symbols_rise : (x : NamedSymbols) → x.given.count ≤ 16 → Rises code 0 67108896 (symbols x)
symbols_rise x few =
    let fs = rises_within code 0 (0 + 0) (0 + x.given.count * 1048576) 16777216 (f_symbols x)
    (rises_map f_code code OfF 0 (λ at. omega arith) 0 (x.given.count * 1048576) (filter (has_f_line x) (sixes x.given.count))
    (rises_filter f_code (has_f_line x) 0 (x.given.count * 1048576) (sixes x.given.count) (sixes_rise x.given.count few))) (omega arith) (omega arith) in
    rises_append code 0 16777216 67108896 (f_symbols x) (behind_f x) fs
    (rises_append code 16777216 33554432 67108896 (vertex_symbols x OnR) (vertex_symbols x OnW ++ (vertex_symbols x OnV ++ all_marks x)) (vertex_symbols_rise x OnR few)
    (rises_append code 33554432 50331648 67108896 (vertex_symbols x OnW) (vertex_symbols x OnV ++ all_marks x) (vertex_symbols_rise x OnW few)
    (rises_append code 50331648 67108864 67108896 (vertex_symbols x OnV) (all_marks x) (vertex_symbols_rise x OnV few)
    (rises_append code 67108864 67108880 67108896 (mark_symbols x OnTwist) (mark_symbols x OnLoop) (mark_symbols_rise x OnTwist few) (mark_symbols_rise x OnLoop few)))))
