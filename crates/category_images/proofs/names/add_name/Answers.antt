use Rattle.std.proofs.Common.{rules, ap₂, ◌∙◌}
use Rattle.fusion_rules.specs.Names.{name_fault}
use Rattle.category_images.proofs.NamesLemmas.{name_fresh}
use Rattle.category_images.proofs.names.add_name.Goals as goal

pub unreachable-requires : goal.unreachable-requires
unreachable-requires c =
    let fresh = ap₂ name_fault c.requires.before (c.deref.ensures.value ∙ c.in_ok-name.ensures) ∙ name_fresh c.args.k c.requires.below in
    search rules
