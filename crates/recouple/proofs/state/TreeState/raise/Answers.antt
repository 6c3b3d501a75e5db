use Rattle.std.proofs.Common.{◌≡◌, ◌∙◌, sym, ap, subst, length, List, ℕ, Some}
use Rattle.ring_laws.specs.Ring.{RingLaws}
use Rattle.symbol_table.specs.Symbols.{Symbols}
use Rattle.symbol_table.specs.Category.{draft_symbols}
use Rattle.tree_shapes.specs.Outlines.{raise_at}
use Rattle.amp_store.specs.Amplitudes.{AreAmplitudes, amplitude_of}
use Rattle.recouple.specs.Rotations.{IsRotation, IsKey, rotation_of}
use Rattle.recouple.specs.Raises.{AreOver, raised, raised_at}
use Rattle.recouple.specs.States.{State, IsStateOf, comb, stated_by}
use Rattle.std.specs.Prelude.{Err}
use Rattle.word_runs.specs.declared.fault.StepFault.TheVariants.{TooLarge}
use Rattle.symbol_table.specs.Draft.{given}
use Rattle.recouple.proofs.ValueLemmas.{factor_off}
use Rattle.recouple.proofs.RotationLemmas.{no_rotation}
use Rattle.recouple.proofs.StateLemmas.{rotation_fits, after, of_after, comb_after, some_after, err_inj}
use Rattle.recouple.proofs.state.TreeState.raise.Given.{Over}
use Rattle.recouple.proofs.state.TreeState.raise.Goals as goal

pub returns-in_default-clause-shape : goal.returns-in_default-clause-shape
returns-in_default-clause-shape g c =
    sym (no_rotation c.args.self.now.shape c.args.k c.requires.low c.requires.gap
    (ap (λ (x : State g.row.R-Elem.Denot). rotation_of x.shape c.args.k) (sym c.self.view_is) ∙ (sym c.rotation_at.ensures ∙ c.in_default.is)))

pub raise_amps-requires-clause-rotation : goal.raise_amps-requires-clause-rotation
raise_amps-requires-clause-rotation g c =
    let r = g.R.StarRing.ring c.args.category.now.ring in
    let s = draft_symbols r g.R.StarRing.held c.args.category.now in
    let now = c.args.self.now in
    let rotation = c.in-Some.rotation in
    let there : rotation_of now.shape c.args.k ≡ Some rotation =
    ap (λ (x : State g.row.R-Elem.Denot). rotation_of x.shape c.args.k) (sym c.self.view_is) ∙ (sym c.rotation_at.ensures ∙ c.in-Some.is) in
    let strands_is : c.as_slice.result.now ≡ now.strands = c.as_slice.ensures.value ∙ ap (λ (x : State g.row.R-Elem.Denot). x.strands) c.self.view_is in
    subst (λ (xs : List ℕ). IsRotation (length xs) rotation) (sym strands_is) (rotation_fits s now c.requires.of c.args.k c.requires.low c.requires.gap rotation there)

-- what the calls left
module _ (g : Over) (c : goal.After-raise g) where
  abbrev E : Type 0
  E = g.row.R-Elem.Denot

  abbrev laws : RingLaws (g.R.StarRing.ring c.args.category.now.ring) g.R.StarRing.held
  laws = g.met.R.StarRing.laws c.args.category.now.ring

  abbrev s : Symbols E
  s = draft_symbols (g.R.StarRing.ring c.args.category.now.ring) g.R.StarRing.held c.args.category.now

  abbrev now : State E
  now = c.args.self.now

  there : rotation_of now.shape c.args.k ≡ Some c.in-Some.rotation
  there = ap (λ (x : State E). rotation_of x.shape c.args.k) (sym c.self.view_is) ∙ (sym c.rotation_at.ensures ∙ c.in-Some.is)

  strands_is : c.as_slice.result.now ≡ now.strands
  strands_is = c.as_slice.ensures.value ∙ ap (λ (x : State E). x.strands) c.self.view_is

  amps_is : c.self.inside.amps ≡ now.amps
  amps_is = ap (λ (x : State E). x.amps) c.self.view_is

  over : AreOver s.ring s.count (length now.strands) c.in-Ok.raised
  over = subst (λ (xs : List ℕ). AreOver s.ring s.count (length xs) c.in-Ok.raised) strands_is c.in-Ok.ensures.over

  equal : amplitude_of s.ring c.in-Ok.raised ≡ raised s now.strands c.in-Some.rotation (amplitude_of s.ring now.amps)
  equal = c.in-Ok.ensures.amplitudes ∙ (λ j. raised s (strands_is j) c.in-Some.rotation (amplitude_of s.ring (amps_is j)))

  left_is : (record { strands = c.self.inside.strands.items; shape = c.raise.new.self; amps = c.in-Ok.raised })
      ≡ after s now c.requires.of c.args.k c.requires.low c.requires.gap c.in-Some.rotation there c.in-Ok.raised
  left_is = λ j. record {
    strands = ap (λ (x : State E). x.strands) c.self.view_is j;
    shape = (c.raise.ensures ∙ ap (λ (x : State E). raise_at c.args.k x.shape 0) c.self.view_is) j;
    amps = c.in-Ok.raised;
  }

pub returns-in-Ok-clause-of : goal.returns-in-Ok-clause-of
returns-in-Ok-clause-of g c =
    let now = c.args.self.now in
    let symbols = draft_symbols (g.R.StarRing.ring c.args.category.now.ring) g.R.StarRing.held c.args.category.now in
    let rotation = c.in-Some.rotation in
    subst (IsStateOf symbols) (sym (left_is g c))
    (of_after symbols now c.requires.of c.args.k c.requires.low c.requires.gap rotation (there g c) (laws g c)
    (λ key t. factor_off (laws g c) (given c.args.category.now) now.strands rotation key t) c.in-Ok.raised c.in-Ok.ensures.ordered_new (over g c) (equal g c))

pub returns-in-Ok-clause-keeps : goal.returns-in-Ok-clause-keeps
returns-in-Ok-clause-keeps g c =
    let now = c.args.self.now in
    let symbols = draft_symbols (g.R.StarRing.ring c.args.category.now.ring) g.R.StarRing.held c.args.category.now in
    ap (comb symbols) (left_is g c)
    ∙ comb_after symbols now c.requires.of c.args.k c.requires.low c.requires.gap c.in-Some.rotation (there g c) (laws g c) c.all_labels.ensures.proper c.all_labels.ensures.equations
    c.in-Ok.raised (subst (AreAmplitudes g.R.StarRing.held) (amps_is g c) c.in-Ok.ensures.ordered) c.in-Ok.ensures.ordered_new (over g c) (equal g c)

pub returns-in-Ok-clause-some : goal.returns-in-Ok-clause-some
returns-in-Ok-clause-some g c =
    let now = c.args.self.now in
    let symbols = draft_symbols (g.R.StarRing.ring c.args.category.now.ring) g.R.StarRing.held c.args.category.now in
    some_after symbols now c.requires.of c.args.k c.requires.low c.requires.gap c.in-Some.rotation (there g c) (laws g c) c.all_labels.ensures.proper c.all_labels.ensures.equations
    c.in-Ok.raised (subst (AreAmplitudes g.R.StarRing.held) (amps_is g c) c.in-Ok.ensures.ordered) (equal g c)

pub returns-in-Err-clause-too_large : goal.returns-in-Err-clause-too_large
returns-in-Err-clause-too_large g c e =
    let r = g.R.StarRing.ring c.args.category.now.ring in
    let s = draft_symbols r g.R.StarRing.held c.args.category.now in
    let now = c.args.self.now in
    let rotation = c.in-Some.rotation in
    let there : rotation_of now.shape c.args.k ≡ Some rotation =
    ap (λ (x : State g.row.R-Elem.Denot). rotation_of x.shape c.args.k) (sym c.self.view_is) ∙ (sym c.rotation_at.ensures ∙ c.in-Some.is) in
    let strands_is : c.as_slice.result.now ≡ now.strands = c.as_slice.ensures.value ∙ ap (λ (x : State g.row.R-Elem.Denot). x.strands) c.self.view_is in
    let amps_is : c.self.inside.amps ≡ now.amps = ap (λ (x : State g.row.R-Elem.Denot). x.amps) c.self.view_is in
    let w = c.in-Err.ensures.too_large (ap (λ f. Err f) (err_inj c.in-Err.fault TooLarge e)) in (
      w.0,
      subst (λ (xs : List ℕ). IsKey s.count (length xs) w.0) strands_is w.1,
      ap (λ o. stated_by s now.strands o (amplitude_of r now.amps) w.0) there ∙ ((λ j. raised_at s (sym strands_is j) rotation (amplitude_of r (sym amps_is j)) w.0) ∙ w.2),
    )
