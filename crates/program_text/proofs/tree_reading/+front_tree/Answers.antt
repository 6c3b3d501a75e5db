use Rattle.std.proofs.Common.{◌≡◌, ◌∷◌, ◌-◌, sym, ap, ◌∙◌, arith, Some, List, Bor}
use Rattle.std.specs.Prelude.{option_map}
use Rattle.std.proofs.lemmas.Bool.Decides.{nat_tests}
use Rattle.tree_shapes.specs.Labelled.{Labelled}
use Rattle.tree_shapes.specs.Views.{labelled}
use Rattle.tree_shapes.specs.declared.tree.Tree.{Tree}
use Rattle.program_text.specs.declared.piece.Piece.{Piece}
use Rattle.program_text.specs.declared.piece.Piece.TheVariants.{Open}
use Rattle.program_text.specs.Trees.{tree_at}
use Rattle.program_text.proofs.TreeLemmas.{node_front}
use Rattle.program_text.proofs.tree_reading.+front_tree.Goals as goal

abbrev seen : Tree × Bor (List Piece) → Labelled × List Piece
seen front = (labelled front.0, front.1.now)

pub returns-in-Some-3 : goal.returns-in-Some-3
returns-in-Some-3 t c =
    let pieces : c.args.pieces.now ≡ Open ∷ c.in-Some.rest.now = c.in-Some.ensures.cases.0 ∙ ap (λ (p : Piece). p ∷ c.in-Some.rest.now) c.in-Open.is in
    let left : tree_at (c.args.depth - 1) c.in-Some.rest.now ≡ Some (labelled c.in-Some-2.left, c.in-Some-2.rest.now) = sym c.in_ok-left-in-Open.ensures ∙ ap (option_map seen) c.in-Some-2.is in
    let right : tree_at (c.args.depth - 1) c.in-Some-2.rest.now ≡ Some (labelled c.in-Some-3.right, c.in-Some-3.rest.now) = sym c.in_ok-right-in-Open.ensures ∙ ap (option_map seen) c.in-Some-3.is in
    rw (node_front c.args.depth c.args.pieces.now c.in-Some.rest.now c.in-Some-2.rest.now c.in-Some-3.rest.now (labelled c.in-Some-2.left) (labelled c.in-Some-3.right) (grind (arith, nat_tests)) pieces left right) c.close.ensures
