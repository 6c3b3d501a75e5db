-- The text of all labels is written label by label.
use Rattle.std.proofs.Common.{◌≡◌, ◌↔◌, ℕ, suc, ◌+◌, ◌-◌, ◌<◌, List, [], ◌∷◌, ◌++◌, Bool, true, false, length, map, filter, take, drop, refl, ap, sym, ◌∙◌, arith, append_assoc, IsTrue, if◌then◌else◌, inl, inr, subst, Result, Ok, Err, OnOk, codes}
use Rattle.std.specs.Fmt.{decimal}
use Rattle.std.specs.List.{flat_map}
use Rattle.std.proofs.lemmas.List.{append-nil, drop_more}
use Rattle.std.proofs.lemmas.Bool.{cases_lt}
use Rattle.line_text.specs.Spelling.{spelled, spaced}
use Rattle.line_text.specs.Writing.{Extends, spaced_on}
use Rattle.line_text.proofs.WritingLemmas.{line_more, spelled-append}
use Rattle.cyclo_core.specs.Ratio.{Ratio, same_ratio}
use Rattle.cyclo_core.specs.CycloLaws.{same_ratio_is}
use Rattle.symbol_table.specs.Index.{v_index}
use Rattle.symbol_table.specs.declared.index.FIndex.{FIndex}
use Rattle.symbol_table.specs.declared.index.VIndex.{VIndex}
use Rattle.fusion_rules.specs.Names.{name_of}
use Rattle.category_text.specs.declared.kind.MarkKind.{MarkKind}
use Rattle.category_text.specs.declared.kind.MarkKind.TheVariants.{OnTwist, OnLoop}
use Rattle.category_text.specs.declared.kind.VertexKind.{VertexKind}
use Rattle.category_text.specs.declared.kind.VertexKind.TheVariants.{OnR, OnW, OnV}
use Rattle.category_text.specs.Named.{NamedSymbols}
use Rattle.category_text.specs.Canonical.{counting, vertices, sixes, behind, fuse_line, f_line, vertex_line, has_fuse_line, has_f_line, has_mark_line, has_vertex_line, fuse_lines, f_lines, mark_lines, vertex_lines, head_lines, mark_line, canonical}
use Rattle.category_text.specs.Writing.{texts, fuse_text, f_text, mark_text, marks_text, all_marks_text, vertex_text, vertices_text, row, plane, space, behind_text, written}

-- text behind text
pub behind_again : (t u v x y : List ℕ) → u ≡ t ++ x → v ≡ u ++ y → v ≡ t ++ (x ++ y)
behind_again t u v x y first second = second ∙ ap (λ w. w ++ y) first ∙ append_assoc t x y

pub six_names : (a b c d e f n z : List ℕ)
    → (32 ∷ (a ++ 32 ∷ (b ++ 32 ∷ c))) ++ ((32 ∷ (d ++ 32 ∷ (e ++ 32 ∷ f))) ++ 32 ∷ (n ++ z)) ≡ (32 ∷ (a ++ 32 ∷ (b ++ 32 ∷ (c ++ 32 ∷ (d ++ 32 ∷ (e ++ 32 ∷ (f ++ 32 ∷ n))))))) ++ z
six_names a b c d e f n z = simp append_assoc refl

-- one number more
counting_more : (c n : ℕ) → c < n → counting c (n - c) ≡ c ∷ counting (c + 1) (n - (c + 1))
counting_more c n below = let e : n - c ≡ suc (n - (c + 1)) = omega arith in ap (counting c) e

pub texts_more : (text : ℕ → List ℕ) (c n : ℕ) (old new : List ℕ) → new ≡ old ++ text c → c < n → new ++ texts text (counting (c + 1) (n - (c + 1))) ≡ old ++ texts text (counting c (n - c))
texts_more text c n old new e below =
    ap (λ t. t ++ texts text (counting (c + 1) (n - (c + 1)))) e ∙ append_assoc old (text c) (texts text (counting (c + 1) (n - (c + 1)))) ∙ ap (λ cs. old ++ texts text cs) (sym (counting_more c n below))

-- what holds below a number and of it holds below the next
pub up_to_more : (P : ℕ → Type 0) (n : ℕ) → ((k : ℕ) → k < n → P k) → P n → (k : ℕ) → k < n + 1 → P k
up_to_more P n before now k below =
    elim (cases_lt k n) [
      | inl lt ↦ before k lt
      | inr ge ↦ subst P (omega arith) now
    ]

pub names_more : (names : List (List ℕ)) (k : ℕ) (old new : List ℕ) → new ≡ old ++ 32 ∷ name_of names k → k < length names → new ++ spaced_on (drop (k + 1) names) ≡ old ++ spaced_on (drop k names)
names_more names k old new e below =
    ap (λ t. t ++ spaced_on (drop (k + 1) names)) e ∙ append_assoc old (32 ∷ name_of names k) (spaced_on (drop (k + 1) names)) ∙ ap (λ ns. old ++ spaced_on ns) (sym (drop_more names k [] below))

texts_append : {A : Type 0} (f : A → List ℕ) (xs ys : List A) → texts f (xs ++ ys) ≡ texts f xs ++ texts f ys
texts_append f [] ys = refl
texts_append f (x ∷ xs) ys = ap (λ t. f x ++ t) (texts_append f xs ys) ∙ sym (append_assoc (f x) (texts f xs) (texts f ys))

texts_map : {A B : Type 0} (f : B → List ℕ) (g : A → B) (xs : List A) → texts f (map g xs) ≡ texts (λ (x : A). f (g x)) xs
texts_map f g [] = refl
texts_map f g (x ∷ xs) = ap (λ t. f (g x) ++ t) (texts_map f g xs)

texts_flat : {A B : Type 0} (f : B → List ℕ) (g : A → List B) (xs : List A) → texts f (flat_map g xs) ≡ texts (λ (x : A). texts f (g x)) xs
texts_flat f g [] = refl
texts_flat f g (x ∷ xs) = texts_append f (g x) (flat_map g xs) ∙ ap (λ t. texts f (g x) ++ t) (texts_flat f g xs)

texts_same : {A : Type 0} (f g : A → List ℕ) → ((x : A) → f x ≡ g x) → (xs : List A) → texts f xs ≡ texts g xs
texts_same f g same [] = refl
texts_same f g same (x ∷ xs) = ap (λ t. t ++ texts f xs) (same x) ∙ ap (λ t. g x ++ t) (texts_same f g same xs)

-- three labels
texts_space : (n : ℕ) (text : VIndex → List ℕ) → texts text (vertices n) ≡ space n text
texts_space n text =
    texts_flat text (λ (a : ℕ). flat_map (λ (b : ℕ). map (λ (c : ℕ). v_index a b c) (counting 0 n)) (counting 0 n)) (counting 0 n)
    ∙ texts_same (λ (a : ℕ). texts text (flat_map (λ (b : ℕ). map (λ (c : ℕ). v_index a b c) (counting 0 n)) (counting 0 n))) (λ (a : ℕ). plane n text a)
    (λ a.
    texts_flat text (λ (b : ℕ). map (λ (c : ℕ). v_index a b c) (counting 0 n)) (counting 0 n)
    ∙ texts_same (λ (b : ℕ). texts text (map (λ (c : ℕ). v_index a b c) (counting 0 n))) (λ (b : ℕ). row n text a b) (λ b. texts_map text (λ (c : ℕ). v_index a b c) (counting 0 n)) (counting 0 n)) (counting 0 n)

-- six labels
texts_sixes : (n : ℕ) (text : FIndex → List ℕ) → texts text (sixes n) ≡ space n (λ (x : VIndex). space n (λ (y : VIndex). text (behind x y)))
texts_sixes n text =
    texts_flat text (λ (x : VIndex). map (behind x) (vertices n)) (vertices n)
    ∙ texts_same (λ (x : VIndex). texts text (map (behind x) (vertices n))) (λ (x : VIndex). space n (λ (y : VIndex). text (behind x y)))
    (λ x. texts_map text (behind x) (vertices n) ∙ texts_space n (λ (y : VIndex). text (behind x y))) (vertices n)
    ∙ texts_space n (λ (x : VIndex). space n (λ (y : VIndex). text (behind x y)))

-- the texts are those of the lines
lines_are : {A : Type 0} (line : A → List (List ℕ)) (has : A → Bool) (xs : List A) → texts (λ (x : A). if has x then spelled (line x ∷ []) else []) xs ≡ spelled (map line (filter has xs))
lines_are line has [] = refl
lines_are line has (x ∷ xs) = go (has x) (lines_are line has xs)
  where
    go : (b : Bool) → texts (λ x. if has x then spelled (line x ∷ []) else []) xs ≡ spelled (map line (filter has xs)) → (if b then spelled (line x ∷ []) else []) ++ texts (λ x. if has x then spelled (line x ∷ []) else []) xs ≡ spelled (map line (if b then x ∷ filter has xs else filter has xs))
    go true e = ap (λ t. (spaced (line x) ++ 10 ∷ []) ++ t) e ∙ append_assoc (spaced (line x)) (10 ∷ []) (spelled (map line (filter has xs)))
    go false e = e

module _ (named : NamedSymbols) where
  fuses_are : space named.given.count (fuse_text named) ≡ spelled (fuse_lines named)
  fuses_are = sym (texts_space named.given.count (fuse_text named)) ∙ lines_are (fuse_line named) (has_fuse_line named) (vertices named.given.count)

  fs_are : space named.given.count (behind_text named) ≡ spelled (f_lines named)
  fs_are = sym (texts_sixes named.given.count (f_text named)) ∙ lines_are (f_line named) (has_f_line named) (sixes named.given.count)

  vertices_are : (kind : VertexKind) → space named.given.count (vertex_text named kind) ≡ spelled (vertex_lines named kind)
  vertices_are kind = sym (texts_space named.given.count (vertex_text named kind)) ∙ lines_are (vertex_line named kind) (has_vertex_line named kind) (vertices named.given.count)

  marks_are : (kind : MarkKind) → marks_text named kind ≡ spelled (mark_lines named kind)
  marks_are kind = lines_are (mark_line named kind) (has_mark_line named kind) (counting 0 named.given.count)

  -- texts of vertices and of marks, each in front of the next
  three_parts : (a b c d : List ℕ) → (a ++ (b ++ c)) ++ d ≡ a ++ (b ++ (c ++ d))
  three_parts a b c d = append_assoc a (b ++ c) d ∙ ap (λ t. a ++ t) (append_assoc b c d)

  abbrev marks : List (List (List ℕ))
  marks = mark_lines named OnTwist ++ mark_lines named OnLoop

  behind_are : vertices_text named ++ all_marks_text named ≡ spelled (vertex_lines named OnR ++ (vertex_lines named OnW ++ (vertex_lines named OnV ++ marks)))
  behind_are =
      three_parts (space named.given.count (vertex_text named OnR)) (space named.given.count (vertex_text named OnW)) (space named.given.count (vertex_text named OnV)) (all_marks_text named)
      ∙ rw (
        spelled-append (vertex_lines named OnR) (vertex_lines named OnW ++ (vertex_lines named OnV ++ marks)),
        spelled-append (vertex_lines named OnW) (vertex_lines named OnV ++ marks),
        spelled-append (vertex_lines named OnV) marks,
        spelled-append (mark_lines named OnTwist) (mark_lines named OnLoop),
        vertices_are OnR,
        vertices_are OnW,
        vertices_are OnV,
        marks_are OnTwist,
        marks_are OnLoop,
      ) refl

  pub written_is : written named ≡ canonical named
  unfolding canonical
  written_is =
      rw (
        spelled-append (head_lines named) (fuse_lines named ++ (f_lines named ++ (vertex_lines named OnR ++ (vertex_lines named OnW ++ (vertex_lines named OnV ++ marks))))),
        spelled-append (fuse_lines named) (f_lines named ++ (vertex_lines named OnR ++ (vertex_lines named OnW ++ (vertex_lines named OnV ++ marks)))),
        spelled-append (f_lines named) (vertex_lines named OnR ++ (vertex_lines named OnW ++ (vertex_lines named OnV ++ marks))),
        fuses_are,
        fs_are,
        behind_are,
      ) refl

-- a test that says whether two numbers are equal
same_truth : (a b : Bool) → (IsTrue a → IsTrue b) → (IsTrue b → IsTrue a) → a ≡ b
same_truth true true there back = refl
same_truth true false there back = sym (there refl)
same_truth false true there back = back refl
same_truth false false there back = refl

pub is_one_is : (test : Bool) (x y : Ratio) → IsTrue test ↔ (x ≡ y) → test ≡ same_ratio x y
is_one_is test x y says = same_truth test (same_ratio x y) (λ t. (same_ratio_is x y).1 (says.0 t)) (λ t. says.1 ((same_ratio_is x y).0 t))

-- what follows of a call that answers what another does
pub where_ok : {T E P Q : Type 0} (r s : Result T E) → s ≡ r → OnOk r P → (P → Q) → OnOk s Q
where_ok (Ok x) (Ok y) same p f = f p
where_ok (Ok x) (Err e) same p f = tt
where_ok (Err e) (Ok y) same p f = absurd (cc)
where_ok (Err e) (Err d) same p f = tt

-- a call that was refused left what stood in front
pub refused : {T E : Type 0} (r : Result T E) (e : E) (old new text : List ℕ) → r ≡ Err e → take (length old) new ≡ old → Extends r old new text
refused r e old new text is kept = rw is kept

-- the line of the labels
pub names_line_is : (names : List (List ℕ)) (e f g h : List ℕ) → f ≡ e ++ codes "labels" → g ≡ f ++ spaced_on names → h ≡ g ++ 10 ∷ [] → h ≡ e ++ spelled ((codes "labels" ∷ names) ∷ [])
names_line_is names e f g h one two three = line_more (codes "labels") names e f g h one two three

-- the line of the root
pub root_line_is : (root : ℕ) (b c d e : List ℕ) → c ≡ b ++ codes "root" → d ≡ c ++ 32 ∷ decimal root → e ≡ d ++ 10 ∷ [] → e ≡ b ++ spelled ((codes "root" ∷ decimal root ∷ []) ∷ [])
root_line_is root b c d e one two three = line_more (codes "root") (decimal root ∷ []) b c d e one (two ∙ ap (λ t. c ++ t) (sym (append-nil (32 ∷ decimal root)))) three

-- the head, line by line
pub head_is : (word : List ℕ) (root : ℕ) (names : List (List ℕ)) (a b e h : List ℕ) → b ≡ a ++ spelled ((codes "category" ∷ word ∷ []) ∷ []) → e ≡ b ++ spelled ((codes "root" ∷ decimal root ∷ []) ∷ []) → h ≡ e ++ spelled ((codes "labels" ∷ names) ∷ [])
    → h ≡ a ++ spelled ((codes "category" ∷ word ∷ []) ∷ (codes "root" ∷ decimal root ∷ []) ∷ (codes "labels" ∷ names) ∷ [])
head_is word root names a b e h one middle last =
    behind_again a b h (spelled ((codes "category" ∷ word ∷ []) ∷ [])) (spelled ((codes "root" ∷ decimal root ∷ []) ∷ []) ++ spelled ((codes "labels" ∷ names) ∷ [])) one (behind_again b e h (spelled ((codes "root" ∷ decimal root ∷ []) ∷ [])) (spelled ((codes "labels" ∷ names) ∷ [])) middle last)
    ∙ ap (λ t. a ++ t) (sym (spelled-append ((codes "category" ∷ word ∷ []) ∷ []) ((codes "root" ∷ decimal root ∷ []) ∷ (codes "labels" ∷ names) ∷ []) ∙ ap (λ t. spelled ((codes "category" ∷ word ∷ []) ∷ []) ++ t) (spelled-append ((codes "root" ∷ decimal root ∷ []) ∷ []) ((codes "labels" ∷ names) ∷ []))))
