use Rattle.anyon_app.proofs.refusals.inadmissible_line.Goals as goal

pub returns : goal.returns
returns c = rw (c.word.ensures, c.format-line.ensures.text, c.format-gap.ensures.text) at c.refusal.ensures
