-- A canonical text is shorter than the shortest that can't be read.
use Rattle.std.proofs.Common.{◌≡◌, ℕ, zero, suc, ◌+◌, ◌-◌, ◌*◌, ◌^◌, ◌<◌, ◌≤◌, List, [], ◌∷◌, ◌++◌, Bool, true, false, length, map, filter, refl, sym, ap, subst, arith, if◌then◌else◌}
use Rattle.std.specs.List.{All, flat_map}
use Rattle.std.proofs.lemmas.List.{length-append, length-map}
use Rattle.std.proofs.lemmas.List.Concat.{length-flat_map}
use Rattle.std.proofs.lemmas.List.Elements.{All-nil, All-cons}
use Rattle.std.proofs.lemmas.List.Sums.{sum_by-le}
use Rattle.line_text.specs.Spelling.{spaced, spelled, ArePlainLines}
use Rattle.fusion_rules.specs.declared.label.TheConstants.{LABEL_LIMIT}
use Rattle.symbol_table.specs.Index.{v_index}
use Rattle.symbol_table.specs.declared.index.VIndex.{VIndex}
use Rattle.category_text.specs.declared.kind.MarkKind.{MarkKind}
use Rattle.category_text.specs.declared.kind.MarkKind.TheVariants.{OnTwist, OnLoop}
use Rattle.category_text.specs.declared.kind.VertexKind.{VertexKind}
use Rattle.category_text.specs.declared.kind.VertexKind.TheVariants.{OnR, OnW, OnV}
use Rattle.category_text.specs.Named.{NamedSymbols}
use Rattle.category_text.specs.Canonical.{counting, vertices, sixes, behind, has_fuse_line, has_f_line, has_mark_line, has_vertex_line, head_lines, fuse_lines, f_lines, mark_lines, vertex_lines, canonical_lines, fuse_line, f_line, mark_line, vertex_line, canonical}
use Rattle.category_text.proofs.RiseLemmas.{v_row, v_plane}

all_of : {A : Type 0} (P : A → Type 0) → ((x : A) → P x) → (xs : List A) → All P xs
all_of P each [] = All-nil P
all_of P each (x ∷ xs) = All-cons P x xs (each x) (all_of P each xs)

flat_short : {A B : Type 0} (w : ℕ) (f : A → List B) → ((x : A) → length (f x) ≤ w) → (xs : List A) → length (flat_map f xs) ≤ length xs * w
flat_short w f each xs =
    subst (λ n. n ≤ length xs * w) (sym (length-flat_map f xs)) (sum_by-le (λ x. length (f x)) w xs (all_of (λ x. length (f x) ≤ w) each xs))

filter_short : {A : Type 0} (p : A → Bool) (xs : List A) → length (filter p xs) ≤ length xs
filter_short p [] = omega arith
filter_short p (x ∷ xs) = go (p x) (filter_short p xs)
  where
    go : (b : Bool) → length (filter p xs) ≤ length xs → length (if b then x ∷ filter p xs else filter p xs) ≤ suc (length xs)
    go true le = omega arith
    go false le = omega arith

counting_length : (from k : ℕ) → length (counting from k) ≡ k
counting_length from zero = refl
counting_length from (suc k) = ap suc (counting_length (from + 1) k)

-- At most twelve labels.
module _ (n : ℕ) (few : n ≤ LABEL_LIMIT) where
  row_short : (a b : ℕ) → length (v_row n a b) ≤ 12
  row_short a b = omega (arith, length-map (counting 0 n) (λ (c : ℕ). v_index a b c), counting_length 0 n)

  plane_short : (a : ℕ) → length (v_plane n a) ≤ 144
  plane_short a = let le = flat_short 12 (λ (b : ℕ). v_row n a b) (row_short a) (counting 0 n) in omega (arith, le, counting_length 0 n)

  vertices_short : length (vertices n) ≤ 1728
  vertices_short = let le = flat_short 144 (λ (a : ℕ). v_plane n a) plane_short (counting 0 n) in omega (arith, le, counting_length 0 n)

  sixes_short : length (sixes n) ≤ 2985984
  sixes_short =
      let le = flat_short 1728 (λ (x : VIndex). map (behind x) (vertices n)) (λ x. omega (arith, length-map (vertices n) (behind x), vertices_short)) (vertices n) in
      omega (arith, le, vertices_short)

-- at most 1,024 bytes a line, and its end
spelled_short : (ls : List (List (List ℕ))) → ArePlainLines ls → length (spelled ls) ≤ length ls * 1025
spelled_short [] plain = omega arith
spelled_short (l ∷ ls) plain =
    let first = plain.0.short in
    let rest = spelled_short ls plain.1 in
    omega (arith, first, rest, length-append (spaced l) (10 ∷ spelled ls))

module _ (x : NamedSymbols) (few : x.given.count ≤ LABEL_LIMIT) where
  fuses_short : length (fuse_lines x) ≤ 1728
  fuses_short = omega (arith, length-map (filter (has_fuse_line x) (vertices x.given.count)) (fuse_line x), filter_short (has_fuse_line x) (vertices x.given.count), vertices_short x.given.count few)

  fs_short : length (f_lines x) ≤ 2985984
  fs_short = omega (arith, length-map (filter (has_f_line x) (sixes x.given.count)) (f_line x), filter_short (has_f_line x) (sixes x.given.count), sixes_short x.given.count few)

  kind_short : (kind : VertexKind) → length (vertex_lines x kind) ≤ 1728
  kind_short kind = omega (arith, length-map (filter (has_vertex_line x kind) (vertices x.given.count)) (vertex_line x kind), filter_short (has_vertex_line x kind) (vertices x.given.count), vertices_short x.given.count few)

  marks_short : (kind : MarkKind) → length (mark_lines x kind) ≤ 12
  marks_short kind = omega (arith, length-map (filter (has_mark_line x kind) (counting 0 x.given.count)) (mark_line x kind), filter_short (has_mark_line x kind) (counting 0 x.given.count), counting_length 0 x.given.count)

  lines_short : length (canonical_lines x) ≤ 2992923
  lines_short =
      omega (
        arith,
        fuses_short,
        fs_short,
        kind_short OnR,
        kind_short OnW,
        kind_short OnV,
        marks_short OnTwist,
        marks_short OnLoop,
        length-append (head_lines x) (fuse_lines x ++ (f_lines x ++ (vertex_lines x OnR ++ (vertex_lines x OnW ++ (vertex_lines x OnV ++ (mark_lines x OnTwist ++ mark_lines x OnLoop)))))),
        length-append (fuse_lines x) (f_lines x ++ (vertex_lines x OnR ++ (vertex_lines x OnW ++ (vertex_lines x OnV ++ (mark_lines x OnTwist ++ mark_lines x OnLoop))))),
        length-append (f_lines x) (vertex_lines x OnR ++ (vertex_lines x OnW ++ (vertex_lines x OnV ++ (mark_lines x OnTwist ++ mark_lines x OnLoop)))),
        length-append (vertex_lines x OnR) (vertex_lines x OnW ++ (vertex_lines x OnV ++ (mark_lines x OnTwist ++ mark_lines x OnLoop))),
        length-append (vertex_lines x OnW) (vertex_lines x OnV ++ (mark_lines x OnTwist ++ mark_lines x OnLoop)),
        length-append (vertex_lines x OnV) (mark_lines x OnTwist ++ mark_lines x OnLoop),
        length-append (mark_lines x OnTwist) (mark_lines x OnLoop),
      )

  pub text_short : ArePlainLines (canonical_lines x) → length (canonical x) < 2 ^ 32 - 1
  unfolding canonical
  text_short plain = omega (arith, spelled_short (canonical_lines x) plain, lines_short)
