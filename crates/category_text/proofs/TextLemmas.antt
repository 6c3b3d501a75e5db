-- Categories with one text are the same, and the same category has one text.
use Rattle.std.proofs.Common.{◌≡◌, ℕ, List, [], ◌∷◌, ◌++◌, Bool, ◌&&◌, ◌==◌, not, map, filter, refl, sym, subst, ◌∙◌, Result, Ok, Err, codes}
use Rattle.std.specs.Prelude.{IsOkAnd, nat_lt}
use Rattle.std.specs.Fmt.{decimal}
use Rattle.line_text.specs.Spelling.{spelled}
use Rattle.cyclo_core.specs.Ratio.{Ratio}
use Rattle.cyclo_text.specs.NumberWords.{spelled_number}
use Rattle.symbol_table.specs.Symbols.{f_admissible}
use Rattle.symbol_table.specs.declared.index.FIndex.{FIndex}
use Rattle.symbol_table.specs.declared.index.VIndex.{VIndex}
use Rattle.fusion_rules.specs.Names.{name_of}
use Rattle.category_text.specs.declared.kind.MarkKind.{MarkKind}
use Rattle.category_text.specs.declared.kind.MarkKind.TheVariants.{OnTwist, OnLoop}
use Rattle.category_text.specs.declared.kind.VertexKind.{VertexKind}
use Rattle.category_text.specs.declared.kind.VertexKind.TheVariants.{OnR, OnW, OnV}
use Rattle.category_text.specs.Named.{NamedSymbols}
use Rattle.category_text.specs.Reading.{Fault, category_of}
use Rattle.category_text.specs.Canonical.{counting, vertices, sixes, is_one, kind_word, mark_word, version_word, f_words, f_value, mark_value, vertex_value, canonical}
use Rattle.category_text.specs.Again.{SameSymbols, AllReadAgain, AllSettled, AllShort, OneText, SameText, TextsApart, TextsReadAgain, TextsSettled, TextsShort}
use Rattle.category_text.proofs.AgainLemmas.{read_again, short_text}
use Rattle.category_text.proofs.KeepLemmas.{all_said}

pub all_read_again : AllReadAgain
all_read_again x said = read_again x said

pub all_short : AllShort
all_short x said = short_text x said

-- what is the same as a third
joined : (x y z : NamedSymbols) → SameSymbols x z → SameSymbols y z → SameSymbols x y
joined x y z p q = record {
  root = p.root ∙ sym q.root;
  names = p.names ∙ sym q.names;
  count = p.count ∙ sym q.count;
  fuse = λ a b c. p.fuse a b c ∙ sym (q.fuse a b c);
  f = λ at. p.f at ∙ sym (q.f at);
  vertex = λ kind at. p.vertex kind at ∙ sym (q.vertex kind at);
  version = p.version ∙ sym q.version;
  mark = λ kind a. p.mark kind a ∙ sym (q.mark kind a);
}

both_read : (x y : NamedSymbols) (r : Result NamedSymbols Fault) → IsOkAnd r (SameSymbols x) → IsOkAnd r (SameSymbols y) → SameSymbols x y
both_read x y (Ok z) p q = joined x y z p q
both_read x y (Err fault) p q = absurd p

pub one_text : OneText
one_text x y x_said y_said same =
    both_read x y (category_of (canonical y)) (subst (λ text. IsOkAnd (category_of text) (SameSymbols x)) same (read_again x x_said)) (read_again y y_said)

-- The text by what it looks at: the version, the root, the names, the triples and the values.
module _ (version root : ℕ) (names : List (List ℕ)) (count : ℕ) (fuse : ℕ → ℕ → ℕ → Bool) (f : FIndex → Ratio) (vertex : VertexKind → VIndex → Ratio) (mark : MarkKind → ℕ → Ratio) where
  abbrev fuse_lines_by : List (List (List ℕ))
  fuse_lines_by =
      map (λ (at : VIndex). codes "fuse" ∷ name_of names at.a ∷ name_of names at.b ∷ name_of names at.c ∷ [])
      (filter (λ (at : VIndex). not (at.a == 0) && (not (at.b == 0) && fuse at.a at.b at.c)) (vertices count))

  abbrev f_lines_by : List (List (List ℕ))
  f_lines_by =
      map (λ (at : FIndex). f_words names at (f at))
      (filter (λ (at : FIndex). f_admissible fuse at.a at.b at.c at.d at.e at.f && not (is_one root (f at))) (sixes count))

  abbrev vertex_lines_by : VertexKind → List (List (List ℕ))
  vertex_lines_by kind =
      map (λ (at : VIndex). kind_word kind ∷ name_of names at.a ∷ name_of names at.b ∷ name_of names at.c ∷ spelled_number (vertex kind at) ∷ [])
      (filter (λ (at : VIndex). fuse at.a at.b at.c && not (is_one root (vertex kind at))) (vertices count))

  abbrev mark_lines_by : MarkKind → List (List (List ℕ))
  mark_lines_by kind =
      map (λ (a : ℕ). mark_word kind ∷ name_of names a ∷ spelled_number (mark kind a) ∷ []) (filter (λ (a : ℕ). nat_lt a count && not (is_one root (mark kind a))) (counting 0 count))

  abbrev text_by : List ℕ
  text_by =
      spelled (((codes "category" ∷ version_word version ∷ []) ∷ (codes "root" ∷ decimal root ∷ []) ∷ (codes "labels" ∷ names) ∷ [])
      ++ (fuse_lines_by ++ (f_lines_by ++ (vertex_lines_by OnR ++ (vertex_lines_by OnW ++ (vertex_lines_by OnV ++ (mark_lines_by OnTwist ++ mark_lines_by OnLoop)))))))

by_parts : (x : NamedSymbols) → canonical x ≡ text_by x.given.version x.root x.names x.given.count x.given.fuse (f_value x) (vertex_value x) (mark_value x)
unfolding canonical
by_parts x = refl

pub same_text : SameText
same_text x y same =
    by_parts x
    ∙ (λ t. text_by (same.version t) (same.root t) (same.names t) (same.count t) (λ a b c. same.fuse a b c t) (λ at. same.f at t) (λ kind at. same.vertex kind at t) (λ kind a. same.mark kind a t))
    ∙ sym (by_parts y)

settled_by : (x : NamedSymbols) (r : Result NamedSymbols Fault) → IsOkAnd r (SameSymbols x) → IsOkAnd r (λ y. canonical y ≡ canonical x)
settled_by x (Ok y) same = sym (same_text x y same)
settled_by x (Err fault) same = same

pub all_settled : AllSettled
all_settled x said = settled_by x (category_of (canonical x)) (read_again x said)

-- The same of every text that is read.
pub texts_again : TextsReadAgain
texts_again bytes x reads = read_again x (all_said bytes x reads)

pub texts_short : TextsShort
texts_short bytes x reads = short_text x (all_said bytes x reads)

pub texts_apart : TextsApart
texts_apart a b x y read_a read_b same = one_text x y (all_said a x read_a) (all_said b y read_b) same

pub texts_settled : TextsSettled
texts_settled bytes x reads = all_settled x (all_said bytes x reads)
