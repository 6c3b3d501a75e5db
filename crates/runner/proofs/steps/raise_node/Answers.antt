use Rattle.std.proofs.Common.{length, ap, sym, subst, arith, Err}
use Rattle.symbol_table.specs.Category.{draft_symbols}
use Rattle.amp_store.specs.Amplitudes.{AreAmplitudes}
use Rattle.word_runs.specs.declared.fault.StepFault.TheVariants.{TooLarge}
use Rattle.recouple.proofs.StateLemmas.{err_inj}
use Rattle.runner.specs.Trees.{IsTreeState}
use Rattle.runner.proofs.StepLemmas.{raised_is, raise_stops}
use Rattle.runner.proofs.steps.raise_node.Goals as goal

pub raise-requires-clause-gap : goal.raise-requires-clause-gap
raise-requires-clause-gap g c = omega (arith, c.requires.high, c.requires.state.of.leaves)

pub returns-in-Ok-clause-state : goal.returns-in-Ok-clause-state
returns-in-Ok-clause-state g c = record { of = c.in-Ok.ensures.of; long = ap length c.in-Ok.ensures.strands }

pub returns-in-Ok-clause-value : goal.returns-in-Ok-clause-value
returns-in-Ok-clause-value g c =
    let category = c.args.category.now in
    let s = draft_symbols (g.R.StarRing.ring category.ring) g.R.StarRing.held category in
    raised_is s c.args.k c.args.state.now (g.met.R.StarRing.laws category.ring) c.raise.new.self c.in-Ok.ensures.of (subst (AreAmplitudes s.held) c.amps.ensures c.in_order.ensures) c.in-Ok.ensures.strands c.in-Ok.ensures.shape
    c.in-Ok.ensures.amplitudes c.in-Ok.ensures.fits

pub returns-in-Err-clause-state : goal.returns-in-Err-clause-state
returns-in-Err-clause-state g c =
    let category = c.args.category.now in
    let s = draft_symbols (g.R.StarRing.ring category.ring) g.R.StarRing.held category in
    subst (λ x. IsTreeState s (length c.args.state.now.strands) x) (sym c.in-Err.ensures.err) c.requires.state

pub returns-in-Err-clause-too_large : goal.returns-in-Err-clause-too_large
returns-in-Err-clause-too_large g c e =
    let category = c.args.category.now in
    let s = draft_symbols (g.R.StarRing.ring category.ring) g.R.StarRing.held category in
    let w = c.in-Err.ensures.too_large (ap (λ f. Err f) (err_inj c.in-Err.fault TooLarge e)) in
    raise_stops s c.args.k c.args.state.now w.0 w.1 w.2
