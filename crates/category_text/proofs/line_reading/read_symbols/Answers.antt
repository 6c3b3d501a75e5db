use Rattle.std.proofs.Common.{sym, ap, subst, ◌∙◌, Option}
use Rattle.std.proofs.lemmas.Result.{err_from_is_err_and}
use Rattle.line_text.specs.Text.{words_of}
use Rattle.category_text.specs.Reading.{symbol_of}
use Rattle.category_text.specs.Answers.{Fails, body_said, left_of, setting}
use Rattle.category_text.specs.declared.symbol_line.SymbolLine.{SymbolLine}
use Rattle.category_text.proofs.BodyLemmas.{says_ok, symbol_fails, symbol_read}
use Rattle.category_text.proofs.line_reading.read_symbols.Goals as goal

pub returns-in_err-stop_on_line-clause-said : goal.returns-in_err-stop_on_line-clause-said
returns-in_err-stop_on_line-clause-said c =
    let p = err_from_is_err_and c.from_residual.result c.from_residual.ensures.1 in
    let symbol = c.in-Some.symbol in
    let before = setting c.args.names.now c.loop-next.draft in
    let whole = c.loop-next.invariant.said ∙ ap (λ (next : Option SymbolLine). body_said before (left_of next c.loop-next.lines.ahead)) c.in-Some.is in
    let fault = c.in_err-stop_on_line.field-0.0 in
    rw (p.1, p.2) (subst (Fails fault) (sym whole) (symbol_fails symbol.line.number symbol.line.text.now c.loop-next.lines.ahead before.said symbol.kind c.read_symbol.result (setting c.args.names.now c.read_symbol.new.draft) fault c.in_err-stop_on_line.ensures c.read_symbol.ensures.said symbol.is))

pub returns-in_err-next-clause-said : goal.returns-in_err-next-clause-said
returns-in_err-next-clause-said c =
    let p = err_from_is_err_and c.from_residual-in_err-next.result c.from_residual-in_err-next.ensures.1 in
    let symbol = c.in-Some.symbol in
    let before = setting c.args.names.now c.loop-next.draft in
    let next = setting c.args.names.now c.read_symbol.new.draft in
    let whole = c.loop-next.invariant.said ∙ ap (λ (next : Option SymbolLine). body_said before (left_of next c.loop-next.lines.ahead)) c.in-Some.is in
    let read = says_ok symbol.line.number c.read_symbol.result c.in_ok-stop_on_line.field-0 next (symbol_of symbol.kind before.said (words_of symbol.line.text.now)) c.in_ok-stop_on_line.ensures c.read_symbol.ensures.said in
    rw (p.1, p.2) (whole ∙ symbol_read symbol.line.number symbol.line.text.now c.loop-next.lines.ahead before next symbol.kind symbol.is read ∙ c.in_err-next.ensures.found next.said)

pub loop-next-preserved : goal.loop-next-preserved
loop-next-preserved c =
    let symbol = c.in-Some.symbol in
    let before = setting c.args.names.now c.loop-next.draft in
    let next = setting c.args.names.now c.read_symbol.new.draft in
    let whole = c.loop-next.invariant.said ∙ ap (λ (next : Option SymbolLine). body_said before (left_of next c.loop-next.lines.ahead)) c.in-Some.is in
    let read = says_ok symbol.line.number c.read_symbol.result c.in_ok-stop_on_line.field-0 next (symbol_of symbol.kind before.said (words_of symbol.line.text.now)) c.in_ok-stop_on_line.ensures c.read_symbol.ensures.said in
    record {
      said = whole ∙ symbol_read symbol.line.number symbol.line.text.now c.loop-next.lines.ahead before next symbol.kind symbol.is read ∙ c.in_ok-next.ensures.found next.said;
      rules = c.read_symbol.ensures.rules ∙ c.loop-next.invariant.rules;
    }
