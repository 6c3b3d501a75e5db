use Rattle.std.proofs.Common.{◌++◌, ap, ◌∙◌}
use Rattle.line_text.specs.Spelling.{spaced}
use Rattle.fusion_rules.specs.Names.{name_of}
use Rattle.tree_shapes.specs.declared.tree.Fork.{Fork}
use Rattle.tree_shapes.specs.Views.{labelled}
use Rattle.program_text.specs.Canonical.{tree_words}
use Rattle.program_text.proofs.WritingLemmas.{node_more}
use Rattle.program_text.proofs.writing.+extend_tree.Goals as goal

pub returns-in_ok-extend_from_slice-in-Node-2 : goal.returns-in_ok-extend_from_slice-in-Node-2
returns-in_ok-extend_from_slice-in-Node-2 t c = rw (c.in-Node.is)
    (node_more c.args.names.now (labelled c.in-Node.fork.value.left) (labelled c.in-Node.fork.value.right) c.in-Node.fork.value.label c.args.out.now.items
    c.push.new.self.items c.extend_tree.new.out.items c.push-in-Node.new.self.items c.extend_tree-in-Node.new.out.items c.extend_from_slice-in-Node.new.self.items c.extend_from_slice-in-Node-2.new.self.items
    c.in_ok-push-in-Node.ensures.items
    (c.in_ok-extend_tree-in-Node.ensures ∙ ap (λ (f : Fork). c.push.new.self.items ++ spaced (tree_words c.args.names.now (labelled f.left))) c.deref.ensures)
    c.in_ok-push-in-Node-2.ensures.items
    (c.in_ok-extend_tree-in-Node-2.ensures ∙ ap (λ (f : Fork). c.push-in-Node.new.self.items ++ spaced (tree_words c.args.names.now (labelled f.right))) c.deref-in-Node.ensures)
    c.in_ok-extend_from_slice-in-Node.ensures.items
    (c.in_ok-extend_from_slice-in-Node-2.ensures.items ∙ ap (λ w. c.extend_from_slice-in-Node.new.self.items ++ w)
    (c.as_bytes-in-Node.ensures.value ∙ c.name_or_empty-in-Node.ensures ∙ ap (λ (f : Fork). name_of c.args.names.now f.label) c.deref-in-Node-2.ensures)))
