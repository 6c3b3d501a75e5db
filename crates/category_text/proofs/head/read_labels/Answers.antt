use Rattle.std.proofs.Common.{◌∙◌, sym, arith}
use Rattle.std.proofs.lemmas.Result.{err_from_is_err_and}
use Rattle.std.proofs.lemmas.Option.{slice_get_within}
use Rattle.line_text.specs.Text.{words_of}
use Rattle.line_text.proofs.PartLemmas.{words_short}
use Rattle.category_text.proofs.LabelLemmas.{further, stops, ends, past}
use Rattle.category_text.proofs.head.read_labels.Goals as goal

pub returns-in_err-keep-clause-labels : goal.returns-in_err-keep-clause-labels
returns-in_err-keep-clause-labels c =
    let p = err_from_is_err_and c.from_residual.result c.from_residual.ensures.1 in
    rw (p.1, p.2) (stops c.in_err-keep.field-0.0 c.loop-word.names (words_of c.args.line.now.text.now) c.loop-word.place c.in-Some.word.now (sym c.if-not-has_word.false ∙ c.has_word.ensures)
    c.in-Some.ensures c.in_err-keep.ensures c.loop-word.invariant.spelled)

pub overflow_add-place : goal.overflow_add-place
overflow_add-place c =
    omega (arith, slice_get_within (words_of c.args.line.now.text.now) c.loop-word.place c.in-Some.word.now (sym c.in-Some.ensures), words_short c.args.line.now.text.now, c.args.line.now.short)

pub loop-word-smaller : goal.loop-word-smaller
loop-word-smaller c = omega (arith, slice_get_within (words_of c.args.line.now.text.now) c.loop-word.place c.in-Some.word.now (sym c.in-Some.ensures))

pub loop-word-preserved : goal.loop-word-preserved
loop-word-preserved c =
    let within = slice_get_within (words_of c.args.line.now.text.now) c.loop-word.place c.in-Some.word.now (sym c.in-Some.ensures) in
    let next = further c.loop-word.names c.keep.new.names (words_of c.args.line.now.text.now) c.loop-word.place c.in-Some.word.now (sym c.in-Some.ensures) c.in_ok-keep.ensures in
    record {
      from = omega arith;
      within = omega arith;
      kept = sym next.kept ∙ c.loop-word.invariant.kept;
      spelled = sym next.spelled ∙ c.loop-word.invariant.spelled;
    }

pub returns-in-Ok-clause-labels : goal.returns-in-Ok-clause-labels
returns-in-Ok-clause-labels c =
    sym (ends (words_of c.args.line.now.text.now) c.loop-word.names c.loop-word.place (sym c.if-not-has_word.false ∙ c.has_word.ensures) c.loop-word.invariant.within
    (past (words_of c.args.line.now.text.now) c.loop-word.place c.in_default.ensures) c.loop-word.invariant.kept c.loop-word.invariant.spelled)
    ∙ c.in-Ok.ensures.judged

pub returns-in-Err-clause-labels : goal.returns-in-Err-clause-labels
returns-in-Err-clause-labels c =
    sym (ends (words_of c.args.line.now.text.now) c.loop-word.names c.loop-word.place (sym c.if-not-has_word.false ∙ c.has_word.ensures) c.loop-word.invariant.within
    (past (words_of c.args.line.now.text.now) c.loop-word.place c.in_default.ensures) c.loop-word.invariant.kept c.loop-word.invariant.spelled)
    ∙ c.in-Err.ensures.judged
