use Rattle.tree_shapes.specs.Views.{labelled}
use Rattle.program_text.proofs.WritingLemmas.{start_more}
use Rattle.program_text.proofs.writing.extend_start.Goals as goal

pub returns : goal.returns
returns c =
    start_more c.args.names.now (labelled c.args.start.now) c.args.out.now.items c.extend_from_slice.new.self.items c.extend_tree.new.out.items c.end_line.new.out.items
    c.in_ok-extend_from_slice.ensures.items c.in_ok-extend_tree.ensures c.in_ok-end_line.ensures
