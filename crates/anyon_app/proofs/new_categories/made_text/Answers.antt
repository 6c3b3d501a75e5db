use Rattle.std.proofs.Common.{Ok, ap, sym, ◌∙◌}
use Rattle.anyon_app.proofs.NewLemmas.{symbols_text}
use Rattle.anyon_app.proofs.new_categories.made_text.Goals as goal

pub returns-in-Ok : goal.returns-in-Ok
returns-in-Ok c = ap Ok (sym (symbols_text c.args.names.now c.args.category.now) ∙ sym (rw (c.new-text.ensures.items, c.draft.ensures.draft) at c.in-Ok.ensures.written))
