use Rattle.std.proofs.Common.{sym, ap, ◌∙◌}
use Rattle.std.proofs.lemmas.Result.{err_from_is_err_and}
use Rattle.line_text.specs.Text.{words_of}
use Rattle.category_text.specs.Answers.{body_said, fusing}
use Rattle.category_text.specs.Reading.{fuse_of}
use Rattle.category_text.specs.declared.kind.LineKind.TheVariants.{Fusion, OfSymbol}
use Rattle.category_text.proofs.BodyLemmas.{first_symbol, fusion_read, fusion_refused, kind_refused, lined_ok, tells_ok}
use Rattle.category_text.proofs.line_reading.read_fusions.Goals as goal

pub returns-in_err-on_line-clause-said : goal.returns-in_err-on_line-clause-said
returns-in_err-on_line-clause-said c =
    let p = err_from_is_err_and c.from_residual-in_err-on_line.result c.from_residual-in_err-on_line.ensures.1 in
    let found = (rw c.in-Some.is at c.in_ok-line.ensures).0 in
    rw (p.1, p.2) (λ version ring. c.loop-line.invariant.said version ring ∙ ap (body_said (fusing version ring c.args.names.now c.loop-line.rules)) found
    ∙ kind_refused c.in-Some.line.number c.in-Some.line.text.now c.next_line.new.self.ahead (fusing version ring c.args.names.now c.loop-line.rules) c.line_kind.result c.in_err-on_line.field-0.0 c.in_err-on_line.ensures c.line_kind.ensures)

pub loop-line-preserved : goal.loop-line-preserved
loop-line-preserved c =
    let line = c.in-Some.line in
    let found = (rw c.in-Some.is at c.in_ok-line.ensures).0 in
    let is = sym c.line_kind.ensures ∙ lined_ok line.number c.line_kind.result Fusion (rw c.in-Fusion.is at c.in_ok-on_line.ensures) in
    record {
      said = λ version ring.
          let before = fusing version ring c.args.names.now c.loop-line.rules in
          let next = fusing version ring c.args.names.now c.read_triple.new.rules in
          c.loop-line.invariant.said version ring ∙ ap (body_said before) found
          ∙ fusion_read line.number line.text.now c.next_line.new.self.ahead before.said next is
          (tells_ok line.number c.read_triple.result c.in_ok-on_line-in-Fusion.field-0 next (fuse_of before.said (words_of line.text.now)) c.in_ok-on_line-in-Fusion.ensures (c.read_triple.ensures.said version ring));
      count = c.read_triple.ensures.count ∙ c.loop-line.invariant.count;
    }

pub returns-in_err-on_line-in-Fusion-clause-said : goal.returns-in_err-on_line-in-Fusion-clause-said
returns-in_err-on_line-in-Fusion-clause-said c =
    let line = c.in-Some.line in
    let p = err_from_is_err_and c.from_residual-in_err-on_line-in-Fusion.result c.from_residual-in_err-on_line-in-Fusion.ensures.1 in
    let found = (rw c.in-Some.is at c.in_ok-line.ensures).0 in
    let is = sym c.line_kind.ensures ∙ lined_ok line.number c.line_kind.result Fusion (rw c.in-Fusion.is at c.in_ok-on_line.ensures) in
    rw (p.1, p.2) (λ version ring.
    let before = fusing version ring c.args.names.now c.loop-line.rules in
    let next = fusing version ring c.args.names.now c.read_triple.new.rules in
    c.loop-line.invariant.said version ring ∙ ap (body_said before) found
    ∙ fusion_refused line.number line.text.now c.next_line.new.self.ahead before.said c.read_triple.result next c.in_err-on_line-in-Fusion.field-0.0 c.in_err-on_line-in-Fusion.ensures (c.read_triple.ensures.said version ring) is)

pub returns-in-OfSymbol-clause-said : goal.returns-in-OfSymbol-clause-said
returns-in-OfSymbol-clause-said c = λ version ring.
    let line = c.in-Some.line in
    let found = (rw c.in-Some.is at c.in_ok-line.ensures).0 in
    let is = sym c.line_kind.ensures ∙ lined_ok line.number c.line_kind.result (OfSymbol c.in-OfSymbol.kind) (rw c.in-OfSymbol.is at c.in_ok-on_line.ensures) in
    let before = fusing version ring c.args.names.now c.loop-line.rules in
    c.loop-line.invariant.said version ring ∙ ap (body_said before) found
    ∙ first_symbol line.number line.text.now c.next_line.new.self.ahead before.said c.in-OfSymbol.kind is
