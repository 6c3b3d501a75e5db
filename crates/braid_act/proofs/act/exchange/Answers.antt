use Rattle.std.proofs.Common.{◌≡◌, List, ℕ, ap, sym, ◌∙◌, subst, length}
use Rattle.symbol_table.specs.Category.{draft_symbols}
use Rattle.symbol_table.specs.Symbols.{Symbols}
use Rattle.amp_store.specs.Amplitudes.{AreAmplitudes, amplitude_at}
use Rattle.comb_laws.specs.Operators.{swapped}
use Rattle.path_laws.proofs.ActLemmas.{length-swapped}
use Rattle.recouple.specs.States.{State, IsStateOf, comb}
use Rattle.tree_shapes.specs.Outlines.{size}
use Rattle.recouple.proofs.PairLemmas.{IsPair, pair_there}
use Rattle.braid_act.specs.Exchanges.{exchange_at, exchanged}
use Rattle.braid_act.proofs.BraidLemmas.{braid_is}
use Rattle.braid_act.proofs.StateLemmas.{from_times, of_after, some_after}
use Rattle.braid_act.proofs.act.exchange.Given.{Over}
use Rattle.braid_act.proofs.act.exchange.Goals as goal

-- what the calls left
module _ (g : Over) (c : goal.After-drop-state g) where
  abbrev E : Type 0
  E = g.row.R-Elem.Denot

  abbrev s : Symbols E
  s = draft_symbols (g.R.StarRing.ring c.args.category.now.ring) g.R.StarRing.held c.args.category.now

  abbrev now : State E
  now = c.args.state.now

  at : IsPair c.args.state.now.shape c.args.k
  at = pair_there c.args.state.now.shape c.args.k c.requires.low c.requires.gap c.requires.pair

  state_is : c.with_parts.result ≡ exchanged s c.args.sign c.args.k c.args.state.now
  state_is = λ j. record {
    strands = (c.with_parts.ensures.strands ∙ (c.in_ok-strands.ensures ∙ ap (λ (xs : List ℕ). swapped xs c.args.k) c.strands.ensures)) j;
    shape = (c.with_parts.ensures.shape ∙ (c.copy.ensures ∙ c.shape.ensures)) j;
    amps = (c.with_parts.ensures.amps ∙ c.in_ok-amps.ensures.amps) j;
  }

pub returns-clause-state : goal.returns-clause-state
returns-clause-state g c = state_is g c

pub returns-clause-of : goal.returns-clause-of
returns-clause-of g c =
    let s = draft_symbols (g.R.StarRing.ring c.args.category.now.ring) g.R.StarRing.held c.args.category.now in
    subst (IsStateOf s) (sym (state_is g c))
    (of_after s (g.met.R.StarRing.laws c.args.category.now.ring) c.all_labels.ensures.proper c.args.sign c.args.state.now c.requires.of c.args.k c.requires.low c.requires.gap (at g c))

pub returns-clause-stands : goal.returns-clause-stands
returns-clause-stands g c =
    let s = draft_symbols (g.R.StarRing.ring c.args.category.now.ring) g.R.StarRing.held c.args.category.now in
    ap (comb s) (state_is g c)
    ∙ braid_is s (g.met.R.StarRing.laws c.args.category.now.ring) c.all_labels.ensures.proper c.all_labels.ensures.equations c.args.sign c.args.state.now c.requires.of c.in_ok-amps.ensures.ordered c.args.k c.requires.low c.requires.gap (at g c)
    (subst (AreAmplitudes s.held) c.in_ok-amps.ensures.amps c.in_ok-amps.ensures.ordered_new)

pub returns-clause-some : goal.returns-clause-some
returns-clause-some g c some none =
    let s = draft_symbols (g.R.StarRing.ring c.args.category.now.ring) g.R.StarRing.held c.args.category.now in
    some_after s (g.met.R.StarRing.laws c.args.category.now.ring) c.all_labels.ensures.proper c.args.sign c.args.state.now c.requires.of c.args.k c.requires.low c.requires.gap (at g c) some
    (sym (c.with_parts.ensures.amps ∙ c.in_ok-amps.ensures.amps) ∙ none)

pub with_parts-requires-clause-leaves : goal.with_parts-requires-clause-leaves
with_parts-requires-clause-leaves g c =
    ap size (c.copy.ensures ∙ c.shape.ensures)
    ∙ (c.requires.of.leaves ∙ sym (ap length (c.in_ok-strands.ensures ∙ ap (λ (xs : List ℕ). swapped xs c.args.k) c.strands.ensures) ∙ length-swapped c.args.state.now.strands c.args.k))

pub with_parts-requires-clause-keys : goal.with_parts-requires-clause-keys
with_parts-requires-clause-keys g c key v e =
    let s = draft_symbols (g.R.StarRing.ring c.args.category.now.ring) g.R.StarRing.held c.args.category.now in
    let from = from_times (exchange_at s c.args.sign c.args.state.now.strands c.args.k) s.ring.product c.args.state.now.amps key v (ap (λ es. amplitude_at es key) (sym c.in_ok-amps.ensures.amps) ∙ e) in
    ap length (c.in_ok-strands.ensures ∙ ap (λ (xs : List ℕ). swapped xs c.args.k) c.strands.ensures)
    ∙ (length-swapped c.args.state.now.strands c.args.k ∙ (c.requires.of.over.keys key from.0 from.1).long)
