use Rattle.std.proofs.Common.{◌∙◌, sym, arith}
use Rattle.std.proofs.lemmas.Result.{err_from_is_err_and}
use Rattle.std.proofs.lemmas.Option.{slice_get_within}
use Rattle.line_text.specs.Text.{words_of}
use Rattle.line_text.proofs.PartLemmas.{words_short}
use Rattle.program_text.proofs.RunLemmas.{word_read, word_stops, words_end}
use Rattle.program_text.proofs.pieces.read_pieces.Goals as goal

pub returns-in_err-push_pieces : goal.returns-in_err-push_pieces
returns-in_err-push_pieces c =
    let p = err_from_is_err_and c.from_residual.result c.from_residual.ensures.1 in
    rw (p.1, p.2) (word_stops c.args.names.now c.in_err-push_pieces.field-0.0 (words_of c.args.line.now.text.now) c.loop-word.place c.in-Some.word.now c.loop-word.pieces.items _
    (sym c.in-Some.ensures) c.in_err-push_pieces.ensures c.loop-word.invariant)

pub overflow_add-place : goal.overflow_add-place
overflow_add-place c =
    omega (arith, slice_get_within (words_of c.args.line.now.text.now) c.loop-word.place c.in-Some.word.now (sym c.in-Some.ensures), words_short c.args.line.now.text.now, c.args.line.now.short)

pub loop-word-smaller : goal.loop-word-smaller
loop-word-smaller c = omega (arith, slice_get_within (words_of c.args.line.now.text.now) c.loop-word.place c.in-Some.word.now (sym c.in-Some.ensures))

pub loop-word-preserved : goal.loop-word-preserved
loop-word-preserved c =
    word_read c.args.names.now (words_of c.args.line.now.text.now) c.loop-word.place c.in-Some.word.now c.loop-word.pieces.items c.push_pieces.new.pieces.items
    (sym c.in-Some.ensures) c.in_ok-push_pieces.ensures ∙ c.loop-word.invariant

pub returns : goal.returns
returns c =
    sym c.loop-word.invariant ∙ words_end c.args.names.now (words_of c.args.line.now.text.now) c.loop-word.place c.loop-word.pieces.items c.in_default.ensures
