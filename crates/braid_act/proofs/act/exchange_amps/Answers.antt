use Rattle.std.proofs.Common.{◌≡◌, ◌≤◌, List, ℕ, ap, sym, ◌∙◌, subst, arith, length, map, take, take_all, refl}
use Rattle.std.specs.List.{list_all}
use Rattle.std.specs.Prelude.{slice_get, Err}
use Rattle.std.proofs.lemmas.Result.{err_from_is_err_and}
use Rattle.symbol_table.specs.Category.{draft_symbols}
use Rattle.amp_store.specs.Amplitudes.{AreAmplitudes}
use Rattle.word_runs.specs.declared.fault.StepFault.TheVariants.{TooLarge}
use Rattle.recouple.proofs.PairLemmas.{pair_there}
use Rattle.recouple.proofs.StateLemmas.{err_inj}
use Rattle.braid_act.specs.Exchanges.{exchange_at}
use Rattle.braid_act.proofs.MapLemmas.{all_fails, all_next, put_next}
use Rattle.braid_act.proofs.StateLemmas.{has_entry, times}
use Rattle.braid_act.proofs.act.exchange_amps.Given.{Over}
use Rattle.braid_act.proofs.act.exchange_amps.Goals as goal

pub exchange_entry-requires-clause-entry : goal.exchange_entry-requires-clause-entry
exchange_entry-requires-clause-entry g c =
    let s = draft_symbols (g.R.StarRing.ring c.args.category.now.ring) g.R.StarRing.held c.args.category.now in
    let state = c.args.state.now in
    has_entry s state c.requires.of (subst (AreAmplitudes s.held) c.amps-amps.ensures c.len-place-end.ensures.amplitudes) c.args.k c.requires.low c.requires.gap
    (pair_there state.shape c.args.k c.requires.low c.requires.gap c.requires.pair) c.loop-place.place (c.entry.result.0.now.items, c.entry.result.1.now)
    (ap (λ es. slice_get es c.loop-place.place) (sym c.amps-amps.ensures) ∙ c.entry.ensures)

pub loop-place-preserved : goal.loop-place-preserved
loop-place-preserved g c =
    let s = draft_symbols (g.R.StarRing.ring c.args.category.now.ring) g.R.StarRing.held c.args.category.now in
    let symbol = exchange_at s c.args.sign c.args.state.now.strands c.args.k in
    let es = c.amps-amps.result.now in
    let i = c.loop-place.place in
    let e : List ℕ × g.row.R-Elem.Denot = (c.entry.result.0.now.items, c.entry.result.1.now) in
    record {
      made =
          put_next (λ (d : List ℕ × g.row.R-Elem.Denot). s.ring.product (symbol d.0) d.1) es i e c.loop-place.new c.exchange_entry.new.new (s.ring.product (symbol e.0) e.1) c.len-place-end.ensures.amplitudes.ordered c.entry.ensures
          c.loop-place.invariant.made refl c.in_ok-exchange_entry.ensures.entry;
      fits = all_next (λ (d : List ℕ × g.row.R-Elem.Denot). s.ring.product_fits (symbol d.0) d.1) es i e c.entry.ensures c.loop-place.invariant.fits c.in_ok-exchange_entry.ensures.fits;
    }

-- all keys are done
all_done : (g : Over) (c : goal.After-in_order g) → take c.loop-place.place c.amps-amps.result.now ≡ c.args.state.now.amps
all_done g c =
    let end : length c.amps-amps.result.now ≤ c.loop-place.place = omega (arith, c.len-place-end.ensures.len, c.loop-place-test.false) in
    take_all c.loop-place.place c.amps-amps.result.now end ∙ c.amps-amps.ensures

pub returns-clause-amps : goal.returns-clause-amps
returns-clause-amps g c =
    let s = draft_symbols (g.R.StarRing.ring c.args.category.now.ring) g.R.StarRing.held c.args.category.now in
    c.loop-place.invariant.made ∙ ap (map (times (exchange_at s c.args.sign c.args.state.now.strands c.args.k) s.ring.product)) (all_done g c)

pub returns-clause-fits : goal.returns-clause-fits
returns-clause-fits g c =
    let s = draft_symbols (g.R.StarRing.ring c.args.category.now.ring) g.R.StarRing.held c.args.category.now in
    ap (list_all (λ (d : List ℕ × g.row.R-Elem.Denot). s.ring.product_fits (exchange_at s c.args.sign c.args.state.now.strands c.args.k d.0) d.1)) (sym (all_done g c)) ∙ c.loop-place.invariant.fits

pub returns-in_err-exchange_entry-clause-too_large : goal.returns-in_err-exchange_entry-clause-too_large
returns-in_err-exchange_entry-clause-too_large g c h =
    let s = draft_symbols (g.R.StarRing.ring c.args.category.now.ring) g.R.StarRing.held c.args.category.now in
    let symbol = exchange_at s c.args.sign c.args.state.now.strands c.args.k in
    let e : List ℕ × g.row.R-Elem.Denot = (c.entry.result.0.now.items, c.entry.result.1.now) in
    let p = err_from_is_err_and c.from_residual.result c.from_residual.ensures.1 in
    let off = c.in_err-exchange_entry.ensures.too_large (ap (λ f. Err f) (sym p.2 ∙ err_inj p.0 TooLarge (sym p.1 ∙ h))) in
    ap (list_all (λ (d : List ℕ × g.row.R-Elem.Denot). s.ring.product_fits (symbol d.0) d.1)) (sym c.amps-amps.ensures)
    ∙ all_fails (λ (d : List ℕ × g.row.R-Elem.Denot). s.ring.product_fits (symbol d.0) d.1) c.amps-amps.result.now c.loop-place.place e c.entry.ensures off
