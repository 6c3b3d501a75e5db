use Rattle.std.proofs.Common.{◌<◌, ◌∙◌, ap, Err, arith}
use Rattle.std.proofs.lemmas.Result.{err_from_is_err_and}
use Rattle.fusion_rules.specs.Fusion.{Fusion}
use Rattle.symbol_table.specs.Category.{draft_symbols}
use Rattle.word_runs.specs.Parts.{parts_of}
use Rattle.word_runs.specs.declared.fault.StepFault.TheVariants.{TooLarge}
use Rattle.comb_run.specs.Entries.{vector_of}
use Rattle.comb_run.specs.Evaluated.{projected_fits}
use Rattle.comb_run.specs.States.{state_of}
use Rattle.word_runs.proofs.EachLemmas.{err_same}
use Rattle.comb_run.proofs.PartLemmas.{parts_more, parts_none, labels_pass, labels_fail}
use Rattle.comb_run.proofs.parts.split.Goals as goal

pub returns-in_err-push_projection-clause-too_large : goal.returns-in_err-push_projection-clause-too_large
returns-in_err-push_projection-clause-too_large g c e =
    let s = draft_symbols (g.R.StarRing.ring c.args.category.now.ring) g.R.StarRing.held c.args.category.now in
    let state = c.args.state.now in
    let p = err_from_is_err_and c.from_residual.result c.from_residual.ensures.1 in
    let low : c.loop-q.q < c.args.category.now.rules.count = omega (arith, c.count-q-end.ensures.count, ap (λ (r : Fusion). r.count) c.rules.ensures) in
    parts_none s c.args.k (state_of s.ring state)
    (labels_fail (λ q. projected_fits s state.strands.items c.args.k q (vector_of s.ring state.strands.items state.vector)) s.count c.loop-q.q low
    (c.in_err-push_projection.ensures.too_large (ap Err (err_same c.from_residual.result c.in_err-push_projection.field-0.0 TooLarge (p.1 ∙ ap Err p.2) e))))

pub loop-q-preserved : goal.loop-q-preserved
loop-q-preserved g c =
    let s = draft_symbols (g.R.StarRing.ring c.args.category.now.ring) g.R.StarRing.held c.args.category.now in
    let state = c.args.state.now in
    record {
      value = parts_more s c.args.k (state_of s.ring state) c.loop-q.q (parts_of (state_of s.ring) c.loop-q.parts.items) (parts_of (state_of s.ring) c.push_projection.new.parts.items)
          c.in_ok-push_projection.ensures.value c.loop-q.invariant.value;
      parts = c.in_ok-push_projection.ensures.parts;
      fits = labels_pass (λ q. projected_fits s state.strands.items c.args.k q (vector_of s.ring state.strands.items state.vector)) c.loop-q.q c.in_ok-push_projection.ensures.fits c.loop-q.invariant.fits;
    }
