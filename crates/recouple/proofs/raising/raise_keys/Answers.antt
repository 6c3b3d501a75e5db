use Rattle.std.proofs.Common.{arith, ◌≡◌, ◌≤◌, ◌++◌, ◌+◌, ◌∷◌, [], true, List, ℕ, Some, ap, sym, ◌∙◌, length, get_or, take, take_all}
use Rattle.symbol_table.specs.Category.{draft_symbols}
use Rattle.symbol_table.specs.Draft.{given}
use Rattle.amp_store.specs.Amplitudes.{amplitude_at, amplitude_of}
use Rattle.amp_store.specs.Gathered.{among}
use Rattle.amp_store.proofs.GatherLemmas.{gathered_step, fits_step}
use Rattle.recouple.specs.Raises.{raised, raised_at}
use Rattle.recouple.specs.Rotations.{IsKey}
use Rattle.recouple.specs.Targets.{key_at, keys_of}
use Rattle.recouple.specs.declared.sources.Source.{Source}
use Rattle.recouple.proofs.SourceLemmas.{among_again, among_item, among_last, gathered_same, key_at_is, key_long, keys_one, place_of}
use Rattle.recouple.proofs.ValueLemmas.{raised_value, amplitude_member}
use Rattle.recouple.proofs.raising.raise_keys.Goals as goal
use Rattle.recouple.proofs.raising.raise_keys.Goals.{then-may_differ+in_ok-raised_at+in_ok-put_unless_zero, else-may_differ}

abbrev none : Source
none = record { order = 0; place = 0; from = 0; to = 0 }

pub new_key-key-requires-clause-node : goal.new_key-key-requires-clause-node
new_key-key-requires-clause-node g c =
    let n = length c.args.strands.now in
    let amps = c.args.amps.now in
    let place = (get_or c.args.sources.now c.loop-i.i none).place in
    let is = key_at_is (g.R.StarRing.ring c.args.category.now.ring) c.args.category.now.rules.count n amps place c.requires.amps (c.requires.places c.loop-i.i none c.loop-i-test.true) in
    place_of n (length (key_at amps place)) c.args.rotation.now.node is.long c.requires.rotation.node

pub new_key-key-requires-clause-parent : goal.new_key-key-requires-clause-parent
new_key-key-requires-clause-parent g c =
    let n = length c.args.strands.now in
    let amps = c.args.amps.now in
    let place = (get_or c.args.sources.now c.loop-i.i none).place in
    let is = key_at_is (g.R.StarRing.ring c.args.category.now.ring) c.args.category.now.rules.count n amps place c.requires.amps (c.requires.places c.loop-i.i none c.loop-i-test.true) in
    place_of n (length (key_at amps place)) c.args.rotation.now.parent is.long c.requires.rotation.parent

pub raised_at-requires-clause-key : goal.raised_at-requires-clause-key
raised_at-requires-clause-key g c =
    c.requires.keys c.new_key-key.result.items
    (ap (λ (k : List ℕ). among k (keys_of c.args.rotation.now c.args.amps.now c.args.sources.now)) c.new_key-key.ensures
    ∙ among_item c.args.rotation.now c.args.amps.now c.args.sources.now c.loop-i.i none c.loop-i-test.true)

pub returns-in_err-raised_at-clause-too_large : goal.returns-in_err-raised_at-clause-too_large
returns-in_err-raised_at-clause-too_large g c _ = (
  c.new_key-key.result.items,
  c.requires.keys c.new_key-key.result.items
      (ap (λ (k : List ℕ). among k (keys_of c.args.rotation.now c.args.amps.now c.args.sources.now)) c.new_key-key.ensures
      ∙ among_item c.args.rotation.now c.args.amps.now c.args.sources.now c.loop-i.i none c.loop-i-test.true),
  c.in_err-raised_at.ensures.err,
)

pub loop-i-preserved : goal.loop-i-preserved
loop-i-preserved g c =
    let base = c.args.category.now.ring in
    let r = g.R.StarRing.ring base in
    let laws = g.met.R.StarRing.laws base in
    let s = draft_symbols r g.R.StarRing.held c.args.category.now in
    let strands = c.args.strands.now in
    let rotation = c.args.rotation.now in
    let amps = c.args.amps.now in
    let sources = c.args.sources.now in
    let v = amplitude_of r amps in
    let a = c.new_key-key.result.items in
    let i = c.loop-i.i in
    let done = keys_of rotation amps (take i sources) in
    let is : IsKey s.count (length strands) a = c.requires.keys a
    (ap (λ (k : List ℕ). among k (keys_of rotation amps sources)) c.new_key-key.ensures ∙ among_item rotation amps sources i none c.loop-i-test.true) in
    let more : keys_of rotation amps (take (i + 1) sources) ≡ done ++ a ∷ [] =
    keys_one rotation amps sources i none c.loop-i-test.true ∙ ap (λ (k : List ℕ). done ++ k ∷ []) (sym c.new_key-key.ensures) in
    elim c.if-may_differ.branch [
      | then-may_differ+in_ok-raised_at+in_ok-put_unless_zero w ↦
          let stated : raised_at s strands rotation v a ≡ Some w.raised_at.new.sum = w.in_ok-raised_at.ensures.ok in
          let value : w.raised_at.new.sum ≡ raised s strands rotation v a =
          raised_value laws (given c.args.category.now) strands rotation v (amplitude_member laws s.count (length strands) amps c.requires.amps) a w.raised_at.new.sum stated in
          record {
            entries = λ x. rw more (ap (λ n. amplitude_at n x) w.new-is
                ∙ gathered_step g.R.StarRing.held (raised s strands rotation v) (amplitude_at c.loop-i.new) (amplitude_at w.put_unless_zero.new.amps) done a w.raised_at.new.sum value
                w.in_ok-put_unless_zero.ensures c.loop-i.invariant.entries x);
            fits = λ x. rw more (fits_step (raised_at s strands rotation v) done a w.raised_at.new.sum stated c.loop-i.invariant.fits x);
            last = λ x long e. rw more (among_last x a done (ap (λ k. k.items) (sym w.last-is) ∙ e));
          }
      | else-may_differ w ↦
          let same : a ≡ c.loop-i.last.items = c.may_differ.ensures w.if-may_differ.false in
          let known : among a done ≡ true = c.loop-i.invariant.last a (key_long s.count (length strands) rotation.node a is c.requires.rotation.node) (sym same) in
          record {
            entries = λ x. rw more (ap (λ n. amplitude_at n x) w.new-is
                ∙ (c.loop-i.invariant.entries x ∙ gathered_same g.R.StarRing.held (raised s strands rotation v) done (done ++ a ∷ []) x (among_again x a done known)));
            fits = λ x h. c.loop-i.invariant.fits x (among_again x a done known ∙ (ap (among x) (sym more) ∙ h));
            last = λ x long e. rw more (sym (among_again x a done known) ∙ c.loop-i.invariant.last x long (ap (λ k. k.items) (sym w.last-is) ∙ e));
          }
    ]

pub returns-clause-fits : goal.returns-clause-fits
returns-clause-fits g c x h =
    let end : length c.args.sources.now ≤ c.loop-i.i = omega (arith, c.loop-i-test.false) in
    c.loop-i.invariant.fits x (ap (λ ks. among x (keys_of c.args.rotation.now c.args.amps.now ks)) (take_all c.loop-i.i c.args.sources.now end) ∙ h)
