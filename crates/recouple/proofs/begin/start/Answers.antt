use Rattle.std.proofs.Common.{◌≡◌, ◌++◌, ◌∷◌, [], ◌∙◌, ℕ, List, length, ap, sym, subst}
use Rattle.std.specs.BTreeMap.{insert_entry}
use Rattle.ring_laws.specs.Ring.{Ring, RingLaws}
use Rattle.symbol_table.specs.Category.{draft_symbols}
use Rattle.symbol_table.specs.Symbols.{Symbols}
use Rattle.tree_shapes.specs.Labelled.{Labelled, leaves, node_labels}
use Rattle.tree_shapes.specs.Outlines.{outline_of}
use Rattle.tree_shapes.specs.Views.{labelled}
use Rattle.amp_store.specs.Amplitudes.{key_cmp}
use Rattle.comb_laws.proofs.StartLemmas.{length-leaves}
use Rattle.recouple.specs.States.{IsStateOf, comb}
use Rattle.recouple.proofs.StartLemmas.{outline_size, own_state, own_of, own_stands}
use Rattle.recouple.proofs.begin.start.Given.{Over}
use Rattle.recouple.proofs.begin.start.Goals as goal

pub with_parts-requires-clause-leaves : goal.with_parts-requires-clause-leaves
with_parts-requires-clause-leaves g c =
    let t = labelled c.args.tree.now in
    let strands : c.push_labels.new.strands.items ≡ leaves t = c.push_labels.ensures.strands ∙ ap (λ (xs : List ℕ). xs ++ leaves t) c.new-strands.ensures in
    ap Rattle.tree_shapes.specs.Outlines.size c.from_tree.ensures ∙ (outline_size t ∙ (sym (length-leaves t) ∙ ap length (sym strands)))

-- what is left is the tree's own state
module _ (g : Over) (c : goal.After-with_parts g) where
  abbrev E : Type 0
  E = g.row.R-Elem.Denot

  abbrev laws : RingLaws (g.R.StarRing.ring c.args.category.now.ring) g.R.StarRing.held
  laws = g.met.R.StarRing.laws c.args.category.now.ring

  abbrev s : Symbols E
  s = draft_symbols (g.R.StarRing.ring c.args.category.now.ring) g.R.StarRing.held c.args.category.now

  abbrev t : Labelled
  t = labelled c.args.tree.now

  strands_are : c.push_labels.new.strands.items ≡ leaves t
  strands_are = c.push_labels.ensures.strands ∙ ap (λ (xs : List ℕ). xs ++ leaves t) c.new-strands.ensures

  key_is : c.push_labels.new.key.items ≡ node_labels t
  key_is = c.push_labels.ensures.key ∙ ap (λ (xs : List ℕ). xs ++ node_labels t) c.new-key.ensures

  one_is : c.one.result ≡ s.ring.one
  one_is = c.one.ensures.value ∙ ap (λ (b : g.row.R.Denot). Ring.one (g.R.StarRing.ring b)) c.ring.ensures

  amps_are : c.with_parts.result.amps ≡ (node_labels t, s.ring.one) ∷ []
  amps_are = c.with_parts.ensures.amps ∙ (c.in_ok-put.ensures.ok ∙ (λ j. insert_entry key_cmp (c.new-amps.ensures j) (key_is j) (one_is j)))

  state_is : c.with_parts.result ≡ own_state s c.all_labels.ensures.proper laws t c.requires.admissible c.requires.some
  state_is = λ j. record {
    strands = (c.with_parts.ensures.strands ∙ strands_are) j;
    shape = (c.with_parts.ensures.shape ∙ c.from_tree.ensures) j;
    amps = amps_are j;
  }

pub returns-clause-of : goal.returns-clause-of
returns-clause-of g c =
    subst (IsStateOf (s g c)) (sym (state_is g c)) (own_of (s g c) c.all_labels.ensures.proper (laws g c) (t g c) c.requires.admissible c.requires.some)

pub returns-clause-stands : goal.returns-clause-stands
returns-clause-stands g c =
    ap (comb (s g c)) (state_is g c) ∙ own_stands (s g c) c.all_labels.ensures.proper (laws g c) (t g c) c.requires.admissible c.requires.some
