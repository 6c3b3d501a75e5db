use Rattle.outcome_report.specs.Labels.{label_names}
use Rattle.anyon_app.specs.Refusals.{symbol_word}
use Rattle.anyon_app.proofs.LineLemmas.{place_line_is}
use Rattle.anyon_app.proofs.refusals.place_text.Goals as goal

pub returns : goal.returns
returns c =
    rw (
      c.in_ok-push-2.ensures.items,
      c.in_ok-write_labels.ensures,
      c.as_slice.ensures.value,
      c.in_ok-extend_from_slice-2.ensures.items,
      c.as_bytes-2.ensures.value,
      c.symbol_word.ensures,
      c.in_ok-push.ensures.items,
      c.in_ok-extend_from_slice.ensures.items,
      c.as_bytes.ensures.value,
      c.in_ok-line.ensures.items,
    )
    (place_line_is c.args.command.now (symbol_word c.args.place.now.symbol) (label_names c.args.names.now c.args.place.now.index))
