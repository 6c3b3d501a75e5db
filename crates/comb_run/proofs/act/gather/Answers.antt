use Rattle.std.proofs.Common.{arith, ◌≡◌, ◌∙◌, ◌++◌, ◌+◌, [], ◌∷◌, false, take, drop, ap, sym, Some, Err}
use Rattle.std.proofs.lemmas.Result.{err_from_is_err_and}
use Rattle.symbol_table.specs.Draft.{given}
use Rattle.symbol_table.specs.Category.{draft_symbols}
use Rattle.comb_laws.specs.Operators.{acted}
use Rattle.comb_run.specs.Operations.{kernel_at}
use Rattle.comb_laws.specs.Operators.{kernel_of}
use Rattle.word_runs.specs.declared.fault.StepFault.TheVariants.{TooLarge}
use Rattle.comb_run.specs.Evaluated.{acted_at}
use Rattle.comb_run.specs.Entries.{path_of, vector_of, items_of, entry_at}
use Rattle.amp_store.proofs.GatherLemmas.{gathered_step, fits_step}
use Rattle.comb_run.proofs.Gather.{items_more, among_item, vector_members}
use Rattle.comb_run.proofs.ActLemmas.{on_path}
use Rattle.comb_run.proofs.EntryLemmas.{put_there}
use Rattle.comb_run.proofs.KeyLemmas.{path_keyed, unit_same}
use Rattle.word_runs.proofs.EachLemmas.{err_same}
use Rattle.comb_run.proofs.Values.{acted_value}
use Rattle.comb_run.proofs.act.gather.Goals as goal

pub loop-target-preserved : goal.loop-target-preserved
loop-target-preserved g c =
    let base = c.args.category.now.ring in
    let r = g.R.StarRing.ring base in
    let laws = g.met.R.StarRing.laws base in
    let s = draft_symbols r g.R.StarRing.held c.args.category.now in
    let v = vector_of r c.args.action.now.strands.now c.args.vector.now in
    let a = c.target-item.result.items in
    let i = c.loop-target.target-index in
    let done = items_of (take i c.args.targets.now) in
    let S = acted_at s c.args.action.now.strands.now c.args.action.now.after.now c.args.action.now.gap (kernel_at s c.args.action.now.operator) v in
    let P = acted s c.args.action.now.strands.now c.args.action.now.after.now c.args.action.now.gap (kernel_of s c.args.action.now.operator) v in
    let stated : S a ≡ Some c.in_ok-value.value = c.in_ok-value.ensures.value in
    let value : c.in_ok-value.value ≡ P a =
    acted_value laws (given c.args.category.now) c.args.action.now.operator c.args.action.now.strands.now c.args.action.now.after.now c.args.action.now.gap v (vector_members laws c.args.action.now.strands.now c.args.vector.now c.requires.members) a c.in_ok-value.value stated in
    let after = c.args.action.now.after.now in
    let old = entry_at after c.loop-target.new in
    let new = entry_at after c.put_unless_zero.new.vector in
    let keyed : g.R.StarRing.held.is_zero c.in_ok-value.value ≡ false → path_of after (drop 2 a) ≡ a =
    (λ some. path_keyed s (unit_same c.args.category.now.rules c.requires.rules) after a (omega arith)
    (on_path s laws c.args.action.now.strands.now after c.args.action.now.gap (kernel_of s c.args.action.now.operator) v a (ap g.R.StarRing.held.is_zero (sym value) ∙ some))) in
    let put = put_there old new a (path_of after (drop 2 a)) c.in_ok-value.value (g.R.StarRing.held.is_zero c.in_ok-value.value) keyed (c.in_ok-put_unless_zero.ensures after) in
    let more : items_of (take (i + 1) c.args.targets.now) ≡ done ++ a ∷ [] = items_more c.args.targets.now i c.target-item.result c.target-item.is (omega arith) in
    record {
      entries = λ x. rw more (gathered_step g.R.StarRing.held P old new done a c.in_ok-value.value value put c.loop-target.invariant.entries x);
      fits = λ x. rw more (fits_step S done a c.in_ok-value.value stated c.loop-target.invariant.fits x);
      kept = c.in_ok-value.ensures.kept;
    }

pub returns-in_err-value-clause-too_large : goal.returns-in_err-value-clause-too_large
returns-in_err-value-clause-too_large g c e =
    let is = c.target-item.is in
    let p = err_from_is_err_and c.from_residual.result c.from_residual.ensures.1 in (
      c.target-item.result.items,
      rw is (among_item c.args.targets.now c.loop-target.target-index c.target-item.result (omega arith)),
      c.in_err-value.ensures.too_large (ap Err (err_same c.from_residual.result c.in_err-value.field-0.0 TooLarge (p.1 ∙ ap Err p.2) e)),
    )
