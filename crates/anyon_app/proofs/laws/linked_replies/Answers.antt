use Rattle.category_text.specs.Named.{named_draft}
use Rattle.anyon_app.proofs.LinkedLemmas.{linked_have_rows}
use Rattle.anyon_app.proofs.laws.linked_replies.Goals as goal

pub returns : goal.returns
returns c = linked_have_rows (named_draft c.args.names.now c.args.category.now) c.requires c.program_texts.ensures.well_formed c.linked_programs.ensures c.linked.ensures.rows
