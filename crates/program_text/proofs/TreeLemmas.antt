-- Trees of pieces.
use Rattle.std.proofs.Common.{◌≡◌, ℕ, zero, suc, ◌+◌, ◌-◌, ◌^◌, ◌<◌, ◌≤◌, List, [], ◌∷◌, ◌++◌, length, refl, sym, ap, ◌∙◌, arith, append_assoc, Option, Some, None, Result, Ok, Err}
use Rattle.std.specs.Prelude.{option_and_then, IfOk}
use Rattle.std.proofs.lemmas.List.{length-append, append-nil}
use Rattle.tree_shapes.specs.Labelled.{Labelled, Strand, Joined, size}
use Rattle.tree_shapes.specs.Views.{labelled}
use Rattle.tree_shapes.specs.declared.tree.Tree.{Tree}
use Rattle.program_text.specs.declared.fault.Stop.{Stop}
use Rattle.program_text.specs.declared.piece.Piece.{Piece}
use Rattle.program_text.specs.declared.piece.Piece.TheVariants.{Open, Close, Colon, Label}
use Rattle.program_text.specs.Answers.{Says}
use Rattle.program_text.specs.Trees.{closed, tree_at, alone, tree_of, tree_pieces, TreeAgain, TreeExact}

-- a node in front, by its children
pub node_front : (depth : ℕ) (pieces rest after last : List Piece) (l r : Labelled) → 0 < depth → pieces ≡ Open ∷ rest → tree_at (depth - 1) rest ≡ Some (l, after) → tree_at (depth - 1) after ≡ Some (r, last)
    → tree_at depth pieces ≡ closed l r last
node_front zero pieces rest after last l r some e f g = absurd (omega arith)
node_front (suc n) pieces rest after last l r some e f g =
    let less : suc n - 1 ≡ n = omega arith in
    ap (tree_at (suc n)) e
    ∙ ap (λ (o : Option (Labelled × List Piece)). option_and_then (λ (l : Labelled × List Piece). option_and_then (λ (r : Labelled × List Piece). closed l.0 r.0 r.1) (tree_at n l.1)) o) (ap (λ m. tree_at m rest) (sym less) ∙ f)
    ∙ ap (λ (o : Option (Labelled × List Piece)). option_and_then (λ (r : Labelled × List Piece). closed l r.0 r.1) o) (ap (λ m. tree_at m after) (sym less) ∙ g)

-- What a tree is written as is read again, and only that.

abbrev pub depth : Labelled → ℕ
depth (Strand a) = 1
depth (Joined l r q) = suc (depth l + depth r)

front_again : (t : Labelled) (n : ℕ) (rest : List Piece) → depth t ≤ n → tree_at n (tree_pieces t ++ rest) ≡ Some (t, rest)
front_again (Strand a) zero rest deep = absurd (omega arith)
front_again (Strand a) (suc n) rest deep = refl
front_again (Joined l r q) zero rest deep = absurd (omega arith)
front_again (Joined l r q) (suc n) rest deep =
    let tail : List Piece = Close ∷ Colon ∷ Label q ∷ [] in
    let regrouped : (tree_pieces l ++ (tree_pieces r ++ tail)) ++ rest ≡ tree_pieces l ++ (tree_pieces r ++ (tail ++ rest)) =
    append_assoc (tree_pieces l) (tree_pieces r ++ tail) rest ∙ ap (λ ps. tree_pieces l ++ ps) (append_assoc (tree_pieces r) tail rest) in
    ap (λ ps. tree_at (suc n) (Open ∷ ps)) regrouped
    ∙ ap (λ o. option_and_then (λ (l : Labelled × List Piece). option_and_then (λ (r : Labelled × List Piece). closed l.0 r.0 r.1) (tree_at n l.1)) o) (front_again l n (tree_pieces r ++ (tail ++ rest)) (omega arith))
    ∙ ap (λ o. option_and_then (λ (r : Labelled × List Piece). closed l r.0 r.1) o) (front_again r n (tail ++ rest) (omega arith))

deep_enough : (t : Labelled) → depth t ≤ length (tree_pieces t)
deep_enough (Strand a) = omega arith
deep_enough (Joined l r q) =
    omega (arith, deep_enough l, deep_enough r, length-append (tree_pieces l) (tree_pieces r ++ (Close ∷ Colon ∷ Label q ∷ [])), length-append (tree_pieces r) (Close ∷ Colon ∷ Label q ∷ []))

pub tree_again : TreeAgain
tree_again t = ap (λ ps. alone (tree_at (length (tree_pieces t)) ps)) (sym (append-nil (tree_pieces t))) ∙ ap alone (front_again t (length (tree_pieces t)) [] (deep_enough t))

closed_is : (l r t : Labelled) (ps rest : List Piece) → closed l r ps ≡ Some (t, rest) → (q : ℕ) × (t ≡ Joined l r q) × (ps ≡ Close ∷ Colon ∷ Label q ∷ rest)
closed_is l r t [] rest e = absurd (cc)
closed_is l r t (Open ∷ ps) rest e = absurd (cc)
closed_is l r t (Colon ∷ ps) rest e = absurd (cc)
closed_is l r t (Label q ∷ ps) rest e = absurd (cc)
closed_is l r t (Close ∷ []) rest e = absurd (cc)
closed_is l r t (Close ∷ Open ∷ ps) rest e = absurd (cc)
closed_is l r t (Close ∷ Close ∷ ps) rest e = absurd (cc)
closed_is l r t (Close ∷ Label q ∷ ps) rest e = absurd (cc)
closed_is l r t (Close ∷ Colon ∷ []) rest e = absurd (cc)
closed_is l r t (Close ∷ Colon ∷ Open ∷ ps) rest e = absurd (cc)
closed_is l r t (Close ∷ Colon ∷ Close ∷ ps) rest e = absurd (cc)
closed_is l r t (Close ∷ Colon ∷ Colon ∷ ps) rest e = absurd (cc)
closed_is l r t (Close ∷ Colon ∷ Label q ∷ ps) rest e =
    let both : (Joined l r q, ps) ≡ (t, rest) = cc in
    (q, ap (λ (p : Labelled × List Piece). p.0) (sym both), ap (λ (p : Labelled × List Piece). Close ∷ Colon ∷ Label q ∷ p.1) both)

front_exact : (n : ℕ) (ps : List Piece) (t : Labelled) (rest : List Piece) → tree_at n ps ≡ Some (t, rest) → ps ≡ tree_pieces t ++ rest
front_exact zero ps t rest e = absurd (cc)
front_exact (suc n) [] t rest e = absurd (cc)
front_exact (suc n) (Close ∷ ps) t rest e = absurd (cc)
front_exact (suc n) (Colon ∷ ps) t rest e = absurd (cc)
front_exact (suc n) (Label q ∷ ps) t rest e =
    let both : (Strand q, ps) ≡ (t, rest) = cc in
    ap (λ (p : Labelled × List Piece). tree_pieces p.0 ++ p.1) both
front_exact (suc n) (Open ∷ ps) t rest e = first (tree_at n ps) refl e (λ xs u more h. front_exact n xs u more h)
  where
    whole : (l r : Labelled × List Piece) → ps ≡ tree_pieces l.0 ++ l.1 → l.1 ≡ tree_pieces r.0 ++ r.1 → (q : ℕ) × (t ≡ Joined l.0 r.0 q) × (r.1 ≡ Close ∷ Colon ∷ Label q ∷ rest) → Open ∷ ps ≡ tree_pieces t ++ rest
    whole l r e f (q, is, last) =
        let tail : List Piece = Close ∷ Colon ∷ Label q ∷ [] in
        let regrouped : (tree_pieces l.0 ++ (tree_pieces r.0 ++ tail)) ++ rest ≡ tree_pieces l.0 ++ (tree_pieces r.0 ++ (tail ++ rest)) =
        append_assoc (tree_pieces l.0) (tree_pieces r.0 ++ tail) rest ∙ ap (λ ps. tree_pieces l.0 ++ ps) (append_assoc (tree_pieces r.0) tail rest) in
        ap (λ xs. Open ∷ xs) (e ∙ ap (λ xs. tree_pieces l.0 ++ xs) (f ∙ ap (λ xs. tree_pieces r.0 ++ xs) last) ∙ sym regrouped) ∙ ap (λ u. tree_pieces u ++ rest) (sym is)

    second : (l : Labelled × List Piece) (o : Option (Labelled × List Piece)) → tree_at n l.1 ≡ o → option_and_then (λ (r : Labelled × List Piece). closed l.0 r.0 r.1) o ≡ Some (t, rest) → ps ≡ tree_pieces l.0 ++ l.1
        → ((xs : List Piece) (u : Labelled) (more : List Piece) → tree_at n xs ≡ Some (u, more) → xs ≡ tree_pieces u ++ more) → Open ∷ ps ≡ tree_pieces t ++ rest
    second l None f e is again = absurd (cc)
    second l (Some r) f e is again = whole l r is (again l.1 r.0 r.1 f) (closed_is l.0 r.0 t r.1 rest e)

    first : (o : Option (Labelled × List Piece)) → tree_at n ps ≡ o → option_and_then (λ (l : Labelled × List Piece). option_and_then (λ (r : Labelled × List Piece). closed l.0 r.0 r.1) (tree_at n l.1)) o ≡ Some (t, rest)
        → ((xs : List Piece) (u : Labelled) (more : List Piece) → tree_at n xs ≡ Some (u, more) → xs ≡ tree_pieces u ++ more) → Open ∷ ps ≡ tree_pieces t ++ rest
    first None f e again = absurd (cc)
    first (Some l) f e again = second l (tree_at n l.1) refl e (again ps l.0 l.1 f) again

pub tree_exact : TreeExact
tree_exact ps t e = go (tree_at (length ps) ps) refl e
  where
    go : (o : Option (Labelled × List Piece)) → tree_at (length ps) ps ≡ o → alone o ≡ Ok t → ps ≡ tree_pieces t
    go None f e = absurd (cc)
    go (Some (u, p ∷ rest)) f e = absurd (cc)
    go (Some (u, [])) f e = let same : u ≡ t = cc in front_exact (length ps) ps u [] f ∙ append-nil (tree_pieces u) ∙ ap tree_pieces same

-- a tree has no more strands than pieces
strands_few : (t : Labelled) → size t ≤ length (tree_pieces t)
strands_few (Strand a) = omega arith
strands_few (Joined l r q) =
    omega (arith, strands_few l, strands_few r, length-append (tree_pieces l) (tree_pieces r ++ (Close ∷ Colon ∷ Label q ∷ [])), length-append (tree_pieces r) (Close ∷ Colon ∷ Label q ∷ []))

size_few : (ps : List Piece) (t : Labelled) → tree_of ps ≡ Ok t → size t ≤ length ps
size_few ps t e = let is = ap length (tree_exact ps t e) in omega (arith, strands_few t)

-- what a call answers has few strands, where there are few pieces
pub answer_fits : (ps : List Piece) (r : Result Tree Stop) → Says labelled r (tree_of ps) → length ps < 2 ^ 64 → IfOk r (λ tree. size (labelled tree) < 2 ^ 64)
answer_fits ps (Ok tree) says few = let h = size_few ps (labelled tree) says in omega arith
answer_fits ps (Err stop) says few = tt
