use Rattle.std.proofs.Common.{◌≡◌, List, ℕ, ap, sym, ◌∙◌, length}
use Rattle.symbol_table.specs.Symbols.{Symbols}
use Rattle.symbol_table.specs.Category.{draft_symbols}
use Rattle.symbol_table.specs.Draft.{given}
use Rattle.amp_store.specs.Amplitudes.{amplitude_at, amplitude_of}
use Rattle.amp_store.specs.Gathered.{among, gathered}
use Rattle.recouple.specs.Raises.{raised}
use Rattle.recouple.specs.Targets.{keys_of, targets_of}
use Rattle.recouple.proofs.EndLemmas.{raised_known, raised_over, fits_all, fuses_low}
use Rattle.recouple.proofs.SourceLemmas.{gathered_same, targets_over}
use Rattle.recouple.proofs.raising.raise_amps.Given.{Over}
use Rattle.recouple.proofs.raising.raise_amps.Goals as goal

pub raise_keys-requires-clause-keys : goal.raise_keys-requires-clause-keys
raise_keys-requires-clause-keys g c x h =
    let s = draft_symbols (g.R.StarRing.ring c.args.category.now.ring) g.R.StarRing.held c.args.category.now in
    targets_over s c.args.strands.now c.args.rotation.now (length c.args.strands.now) c.args.amps.now c.requires.rotation c.requires.amps x
    (sym (c.in_ok-sources.ensures.keys x) ∙ (ap (λ ks. among x (keys_of c.args.rotation.now c.args.amps.now ks)) (sym c.as_slice.ensures.value) ∙ h))

module _ (g : Over) (c : goal.After-drop-sources g) where
  abbrev s : Symbols g.row.R-Elem.Denot
  s = draft_symbols (g.R.StarRing.ring c.args.category.now.ring) g.R.StarRing.held c.args.category.now

  -- the keys are those at which an amplitude may be
  are : (x : List ℕ) → among x (keys_of c.args.rotation.now c.args.amps.now c.as_slice.result.now) ≡ among x (targets_of s c.args.strands.now c.args.rotation.now c.args.amps.now)
  are x = ap (λ ks. among x (keys_of c.args.rotation.now c.args.amps.now ks)) c.as_slice.ensures.value ∙ c.in_ok-sources.ensures.keys x

  known : (x : List ℕ) → amplitude_at c.in-Ok.new x ≡ gathered g.R.StarRing.held (raised s c.args.strands.now c.args.rotation.now (amplitude_of s.ring c.args.amps.now)) (targets_of s c.args.strands.now c.args.rotation.now c.args.amps.now) x
  known x =
      c.in-Ok.ensures.entries x
      ∙ gathered_same g.R.StarRing.held (raised s c.args.strands.now c.args.rotation.now (amplitude_of s.ring c.args.amps.now)) (keys_of c.args.rotation.now c.args.amps.now c.as_slice.result.now)
      (targets_of s c.args.strands.now c.args.rotation.now c.args.amps.now) x (are x)

pub returns-in-Ok-clause-amplitudes : goal.returns-in-Ok-clause-amplitudes
returns-in-Ok-clause-amplitudes g c =
    raised_known (g.met.R.StarRing.laws c.args.category.now.ring) (given c.args.category.now) (λ a b u. fuses_low c.args.category.now.rules a b u) c.args.strands.now c.args.rotation.now c.requires.rotation
    c.args.amps.now c.requires.amps c.in-Ok.new (known g c)

pub returns-in-Ok-clause-over : goal.returns-in-Ok-clause-over
returns-in-Ok-clause-over g c =
    let base = c.args.category.now.ring in
    raised_over (g.met.R.StarRing.laws base) (given c.args.category.now) (λ a b u. fuses_low c.args.category.now.rules a b u) c.args.strands.now c.args.rotation.now c.requires.rotation
    c.args.amps.now c.requires.amps c.in-Ok.new (known g c)
    (targets_over (s g c) c.args.strands.now c.args.rotation.now (length c.args.strands.now) c.args.amps.now c.requires.rotation c.requires.amps)

pub returns-in-Ok-clause-fits : goal.returns-in-Ok-clause-fits
returns-in-Ok-clause-fits g c =
    fits_all (g.met.R.StarRing.laws c.args.category.now.ring) (given c.args.category.now) (λ a b u. fuses_low c.args.category.now.rules a b u) c.args.strands.now c.args.rotation.now c.requires.rotation
    c.args.amps.now c.requires.amps (λ x h. c.in-Ok.ensures.fits x (are g c x ∙ h))
