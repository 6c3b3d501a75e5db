-- A written start line is read again.
use Rattle.std.proofs.Common.{◌≡◌, ℕ, ◌<◌, List, [], ◌∷◌, ◌++◌, Bool, true, false, ◌&&◌, length, refl, sym, ap, ◌∙◌, arith, append_assoc, codes, if◌then◌else◌, Ok}
use Rattle.std.specs.Prelude.{nat_le, nat_lt}
use Rattle.std.specs.List.{onto_first, flat_map}
use Rattle.std.specs.Str.{bytes_eq}
use Rattle.std.proofs.lemmas.Bool.Decides.{nat_tests}
use Rattle.std.proofs.lemmas.Slice.Eq.{bytes_eq-Decides}
use Rattle.std.proofs.lemmas.List.{append-nil}
use Rattle.std.proofs.lemmas.Grind.{flat_map-append}
use Rattle.fusion_rules.specs.Names.{AreNames, all_name_bytes, is_name, is_name_byte, name_of}
use Rattle.fusion_rules.proofs.FoundLemmas.{label_again, name_at}
use Rattle.fusion_rules.proofs.NameLemmas.{spelled}
use Rattle.tree_shapes.specs.Labelled.{Labelled, Strand, Joined, size}
use Rattle.tree_shapes.specs.declared.limits.TheConstants.{STRAND_LIMIT}
use Rattle.program_text.specs.declared.piece.Piece.{Piece}
use Rattle.program_text.specs.declared.piece.Piece.TheVariants.{Open, Close, Colon, Label}
use Rattle.program_text.specs.Canonical.{opened, closed, tree_words}
use Rattle.program_text.specs.Form.{labels_below}
use Rattle.program_text.specs.Grammar.{start_of, tree_in}
use Rattle.program_text.specs.Steps.{◌>>=◌}
use Rattle.program_text.specs.Trees.{begins_label, runs_of, piece_of, pieces_onto, tree_of, tree_pieces}
use Rattle.program_text.specs.WellFormed.{IsAdmittedStart}
use Rattle.program_text.proofs.GapLemmas.{good_none}
use Rattle.program_text.proofs.TreeLemmas.{tree_again}
use Rattle.program_text.proofs.WordLemmas.{both}
use Rattle.program_text.proofs.WritingLemmas.{some_words}

-- Runs of words.

pub record HasRun (runs : List (List ℕ)) : Type 0 where
  pub first : List ℕ
  pub others : List (List ℕ)
  pub are : runs ≡ first ∷ others

some_runs : (c : ℕ) (cs : List ℕ) → HasRun (runs_of (c ∷ cs))
some_runs c cs = by_test (is_name_byte c && begins_label cs) (runs_of cs)
  where
    by_test : (b : Bool) (later : List (List ℕ)) → HasRun (if b then onto_first c later else (c ∷ []) ∷ later)
    by_test false later = record { first = c ∷ []; others = later; are = refl }
    by_test true [] = record { first = c ∷ []; others = []; are = refl }
    by_test true (x ∷ xs) = record { first = c ∷ x; others = xs; are = refl }

onto_front : (c : ℕ) (xs ys : List (List ℕ)) → HasRun xs → onto_first c (xs ++ ys) ≡ onto_first c xs ++ ys
onto_front c xs ys has = ap (λ zs. onto_first c (zs ++ ys)) has.are ∙ ap (λ zs. onto_first c zs ++ ys) (sym has.are)

-- a `)` stands alone behind any word
runs_close : (w rest : List ℕ) → runs_of (w ++ 41 ∷ rest) ≡ runs_of w ++ (41 ∷ []) ∷ runs_of rest
runs_close [] rest = refl
runs_close (c ∷ []) rest = by_test (is_name_byte c)
  where
    by_test : (b : Bool) → (if b && false then onto_first c ((41 ∷ []) ∷ runs_of rest) else (c ∷ []) ∷ (41 ∷ []) ∷ runs_of rest) ≡ (if b && false then onto_first c [] else (c ∷ []) ∷ []) ++ ((41 ∷ []) ∷ runs_of rest)
    by_test true = refl
    by_test false = refl
runs_close (c ∷ d ∷ ds) rest = by_test (is_name_byte c && is_name_byte d) (runs_close (d ∷ ds) rest)
  where
    by_test : (b : Bool) → runs_of ((d ∷ ds) ++ 41 ∷ rest) ≡ runs_of (d ∷ ds) ++ (41 ∷ []) ∷ runs_of rest
        → (if b then onto_first c (runs_of ((d ∷ ds) ++ 41 ∷ rest)) else (c ∷ []) ∷ runs_of ((d ∷ ds) ++ 41 ∷ rest))
        ≡ (if b then onto_first c (runs_of (d ∷ ds)) else (c ∷ []) ∷ runs_of (d ∷ ds)) ++ (41 ∷ []) ∷ runs_of rest
    by_test true again = ap (onto_first c) again ∙ onto_front c (runs_of (d ∷ ds)) ((41 ∷ []) ∷ runs_of rest) (some_runs d ds)
    by_test false again = ap (λ rs. (c ∷ []) ∷ rs) again

name_both : (c : ℕ) (cs : List ℕ) → all_name_bytes (c ∷ cs) ≡ true → (is_name_byte c ≡ true) × (all_name_bytes cs ≡ true)
name_both c cs e = by_test (is_name_byte c) refl e
  where
    by_test : (b : Bool) → is_name_byte c ≡ b → (if b then all_name_bytes cs else false) ≡ true → (is_name_byte c ≡ true) × (all_name_bytes cs ≡ true)
    by_test true is e = (is, e)
    by_test false is e = absurd (cc)

-- a name is one run
one_run : (c : ℕ) (cs : List ℕ) → all_name_bytes (c ∷ cs) ≡ true → runs_of (c ∷ cs) ≡ (c ∷ cs) ∷ []
one_run c [] e = by_test (is_name_byte c)
  where
    by_test : (b : Bool) → (if b && false then onto_first c [] else (c ∷ []) ∷ []) ≡ (c ∷ []) ∷ []
    by_test true = refl
    by_test false = refl
one_run c (d ∷ ds) e =
    let first = name_both c (d ∷ ds) e in
    let second = name_both d ds first.1 in
    ap (λ b. if b && is_name_byte d then onto_first c (runs_of (d ∷ ds)) else (c ∷ []) ∷ runs_of (d ∷ ds)) first.0
    ∙ ap (λ b. if b then onto_first c (runs_of (d ∷ ds)) else (c ∷ []) ∷ runs_of (d ∷ ds)) second.0
    ∙ ap (onto_first c) (one_run d ds first.1)

name_run : (w : List ℕ) → is_name w ≡ true → runs_of w ≡ w ∷ []
name_run [] is = absurd (cc)
name_run (c ∷ cs) is = one_run c cs (spelled (c ∷ cs) is).0

opened_runs : (ws : List (List ℕ)) → 0 < length ws → flat_map runs_of (opened ws) ≡ (40 ∷ []) ∷ flat_map runs_of ws
opened_runs [] some = absurd (omega arith)
opened_runs (w ∷ ws) some = refl

closed_runs : (ws : List (List ℕ)) (tail : List ℕ) → 0 < length ws → flat_map runs_of (closed ws (41 ∷ tail)) ≡ flat_map runs_of ws ++ (41 ∷ []) ∷ runs_of tail
closed_runs [] tail some = absurd (omega arith)
closed_runs (w ∷ []) tail some =
    append-nil (runs_of (w ++ 41 ∷ tail)) ∙ runs_close w tail ∙ ap (λ rs. rs ++ (41 ∷ []) ∷ runs_of tail) (sym (append-nil (runs_of w)))
closed_runs (w ∷ v ∷ ws) tail some =
    ap (λ rs. runs_of w ++ rs) (closed_runs (v ∷ ws) tail (omega arith)) ∙ sym (append_assoc (runs_of w) (flat_map runs_of (v ∷ ws)) ((41 ∷ []) ∷ runs_of tail))

-- the runs of a written tree
abbrev pub tree_runs : List (List ℕ) → Labelled → List (List ℕ)
tree_runs names (Strand a) = name_of names a ∷ []
tree_runs names (Joined l r q) = (40 ∷ []) ∷ (tree_runs names l ++ (tree_runs names r ++ ((41 ∷ []) ∷ (58 ∷ []) ∷ name_of names q ∷ [])))

module _ (names : List (List ℕ)) (are : AreNames names) where
  below_is : (a : ℕ) → nat_lt a (length names) ≡ true → a < length names
  below_is a e = grind (arith, nat_tests)

  words_runs : (t : Labelled) → labels_below (length names) t ≡ true → flat_map runs_of (tree_words names t) ≡ tree_runs names t
  words_runs (Strand a) below =
      append-nil (runs_of (name_of names a)) ∙ name_run (name_of names a) (name_at names a are.spelled (below_is a below))
  words_runs (Joined l r q) below =
      let labels = both (nat_lt q (length names)) (labels_below (length names) l && labels_below (length names) r) below in
      let children = both (labels_below (length names) l) (labels_below (length names) r) labels.1 in
      let tail : List ℕ = 58 ∷ name_of names q in
      let last : runs_of tail ≡ (58 ∷ []) ∷ name_of names q ∷ [] = ap (λ rs. (58 ∷ []) ∷ rs) (name_run (name_of names q) (name_at names q are.spelled (below_is q labels.0))) in
      flat_map-append runs_of (opened (tree_words names l)) (closed (tree_words names r) (41 ∷ tail))
      ∙ ap (λ rs. rs ++ flat_map runs_of (closed (tree_words names r) (41 ∷ tail))) (opened_runs (tree_words names l) (some_words names l))
      ∙ ap (λ rs. (40 ∷ []) ∷ (flat_map runs_of (tree_words names l) ++ rs)) (closed_runs (tree_words names r) tail (some_words names r))
      ∙ ap (λ rs. (40 ∷ []) ∷ (rs ++ (flat_map runs_of (tree_words names r) ++ (41 ∷ []) ∷ runs_of tail))) (words_runs l children.0)
      ∙ ap (λ rs. (40 ∷ []) ∷ (tree_runs names l ++ (rs ++ (41 ∷ []) ∷ runs_of tail))) (words_runs r children.1)
      ∙ ap (λ rs. (40 ∷ []) ∷ (tree_runs names l ++ (tree_runs names r ++ (41 ∷ []) ∷ rs))) last

  -- Pieces of runs.

  not_sign : (w sign : List ℕ) → all_name_bytes w ≡ true → all_name_bytes sign ≡ false → bytes_eq w sign ≡ false
  not_sign w sign all none = by_test (bytes_eq w sign) refl
    where
      by_test : (b : Bool) → bytes_eq w sign ≡ b → b ≡ false
      by_test false e = refl
      by_test true e = let h : all_name_bytes sign ≡ true = ap all_name_bytes (sym ((bytes_eq-Decides w sign).0 e)) ∙ all in absurd (cc)

  name_piece : (a : ℕ) → a < length names → piece_of names (name_of names a) ≡ Ok (Label a)
  name_piece a small =
      let w = name_of names a in
      let all = (spelled w (name_at names a are.spelled small)).0 in
      rw (not_sign w (codes "(") all refl, not_sign w (codes ")") all refl, not_sign w (codes ":") all refl, all, label_again names a are small) refl

  pieces_again : (t : Labelled) (before : List Piece) (more : List (List ℕ)) → labels_below (length names) t ≡ true
      → pieces_onto names before (tree_runs names t ++ more) ≡ pieces_onto names (before ++ tree_pieces t) more
  pieces_again (Strand a) before more below = rw (name_piece a (below_is a below)) refl
  pieces_again (Joined l r q) before more below =
      let labels = both (nat_lt q (length names)) (labels_below (length names) l && labels_below (length names) r) below in
      let children = both (labels_below (length names) l) (labels_below (length names) r) labels.1 in
      let close : List (List ℕ) = (41 ∷ []) ∷ (58 ∷ []) ∷ name_of names q ∷ [] in
      let begun : List Piece = before ++ Open ∷ [] in
      let left : List Piece = begun ++ tree_pieces l in
      let right : List Piece = left ++ tree_pieces r in
      let regrouped : (tree_runs names l ++ (tree_runs names r ++ close)) ++ more ≡ tree_runs names l ++ (tree_runs names r ++ (close ++ more)) =
      append_assoc (tree_runs names l) (tree_runs names r ++ close) more ∙ ap (λ rs. tree_runs names l ++ rs) (append_assoc (tree_runs names r) close more) in
      let last : pieces_onto names right (close ++ more) ≡ pieces_onto names (((right ++ Close ∷ []) ++ Colon ∷ []) ++ Label q ∷ []) more = rw (name_piece q (below_is q labels.0)) refl in
      let whole : ((right ++ Close ∷ []) ++ Colon ∷ []) ++ Label q ∷ [] ≡ before ++ tree_pieces (Joined l r q) = simp append_assoc in
      ap (pieces_onto names begun) regrouped
      ∙ pieces_again l begun (tree_runs names r ++ (close ++ more)) children.0
      ∙ pieces_again r left (close ++ more) children.1
      ∙ last ∙ ap (λ ps. pieces_onto names ps more) whole

  pub start_again : (fuse : ℕ → ℕ → ℕ → Bool) (t : Labelled) → IsAdmittedStart fuse (length names) t → start_of names fuse (codes "start" ∷ tree_words names t) ≡ Ok t
  unfolding start_of
  start_again fuse t is =
      let runs : flat_map runs_of (tree_words names t) ≡ tree_runs names t ++ [] = words_runs t is.labels ∙ sym (append-nil (tree_runs names t)) in
      let tree : tree_in names (codes "start" ∷ tree_words names t) ≡ Ok t =
      ap (λ rs. pieces_onto names [] rs >>= tree_of) runs ∙ ap (λ r. r >>= tree_of) (pieces_again t [] [] is.labels) ∙ tree_again t in
      let some : nat_le 2 (size t) ≡ true = (let s = is.some in grind (arith, nat_tests)) in
      let few : nat_le (size t) STRAND_LIMIT ≡ true = (let s = is.few in grind (arith, nat_tests)) in
      rw (tree, is.labels, some, few, good_none fuse t 0 is.admissible) refl
