use Rattle.std.proofs.Common.{◌∙◌, length, ap, sym, subst, arith, Err}
use Rattle.symbol_table.specs.Category.{draft_symbols}
use Rattle.word_runs.specs.declared.fault.StepFault.TheVariants.{TooLarge}
use Rattle.path_laws.proofs.ActLemmas.{length-swapped}
use Rattle.recouple.specs.States.{State}
use Rattle.recouple.proofs.StateLemmas.{err_inj}
use Rattle.runner.specs.Trees.{IsTreeState}
use Rattle.runner.proofs.StepLemmas.{exchanged_is, exchange_stops}
use Rattle.runner.proofs.steps.exchange_pair.Goals as goal

pub exchange-requires-clause-gap : goal.exchange-requires-clause-gap
exchange-requires-clause-gap g c = omega (arith, c.requires.high, c.requires.state.of.leaves)

pub returns-in-Ok-clause-state : goal.returns-in-Ok-clause-state
returns-in-Ok-clause-state g c = record {
  of = c.in-Ok.ensures.of;
  long = ap (λ (x : State g.row.R-Elem.Denot). length x.strands) c.in-Ok.ensures.state ∙ length-swapped c.args.state.now.strands c.args.k;
}

pub returns-in-Ok-clause-value : goal.returns-in-Ok-clause-value
returns-in-Ok-clause-value g c =
    let category = c.args.category.now in
    let s = draft_symbols (g.R.StarRing.ring category.ring) g.R.StarRing.held category in
    exchanged_is s c.args.k c.args.state.now c.args.sign c.exchange.new.state c.in-Ok.ensures.state c.in-Ok.ensures.fits

pub returns-in-Err-clause-state : goal.returns-in-Err-clause-state
returns-in-Err-clause-state g c =
    let category = c.args.category.now in
    let s = draft_symbols (g.R.StarRing.ring category.ring) g.R.StarRing.held category in
    subst (λ x. IsTreeState s (length c.args.state.now.strands) x) (sym c.in-Err.ensures.err) c.requires.state

pub returns-in-Err-clause-too_large : goal.returns-in-Err-clause-too_large
returns-in-Err-clause-too_large g c e =
    let category = c.args.category.now in
    let s = draft_symbols (g.R.StarRing.ring category.ring) g.R.StarRing.held category in
    exchange_stops s c.args.k c.args.state.now c.args.sign (c.in-Err.ensures.too_large (ap (λ f. Err f) (err_inj c.in-Err.fault TooLarge e)))
