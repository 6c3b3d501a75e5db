use Rattle.std.proofs.Common.{◌<◌, ◌≤◌, ◌++◌, ◌∙◌, List, ℕ, ap, sym, arith, length, take_all}
use Rattle.std.proofs.lemmas.List.Sorted.{All-permutation}
use Rattle.symbol_table.specs.Category.{draft_symbols}
use Rattle.amp_store.specs.Gathered.{among}
use Rattle.recouple.specs.Targets.{row_of, targets_of}
use Rattle.recouple.specs.declared.sources.Source.{Source}
use Rattle.recouple.proofs.EndLemmas.{entry_has, key_there}
use Rattle.recouple.proofs.SourceLemmas.{among_moved, targets_one}
use Rattle.recouple.proofs.sources.sources_of.Goals as goal

pub push_row-requires-clause-key : goal.push_row-requires-clause-key
push_row-requires-clause-key g c =
    let e : List ℕ × g.row.R-Elem.Denot = (c.entry.result.0.now.items, c.entry.result.1.now) in
    let has = entry_has c.args.amps.now c.loop-place.place e c.entry.ensures in
    c.requires.amps.keys c.entry.result.0.now.items has.0 has.1

pub loop-place-preserved : goal.loop-place-preserved
loop-place-preserved g c =
    let s = draft_symbols (g.R.StarRing.ring c.args.category.now.ring) g.R.StarRing.held c.args.category.now in
    let e : List ℕ × g.row.R-Elem.Denot = (c.entry.result.0.now.items, c.entry.result.1.now) in
    let low : c.loop-place.place < length c.args.amps.now = omega (arith, c.len-place-end.ensures.len, c.loop-place-test.true) in
    record {
      keys = c.in_ok-push_row.ensures.keys c.args.amps.now (key_there c.args.amps.now c.loop-place.place e c.entry.ensures)
          ∙ (ap (λ l. l ++ row_of s c.args.strands.now c.args.rotation.now e.0) c.loop-place.invariant.keys
          ∙ sym (targets_one s c.args.strands.now c.args.rotation.now c.args.amps.now c.loop-place.place e c.entry.ensures));
      places = c.in_ok-push_row.ensures.places (length c.args.amps.now) low c.loop-place.invariant.places;
    }

pub returns-clause-keys : goal.returns-clause-keys
returns-clause-keys g c x =
    let s = draft_symbols (g.R.StarRing.ring c.args.category.now.ring) g.R.StarRing.held c.args.category.now in
    let end : length c.args.amps.now ≤ c.loop-place.place = omega (arith, c.len-place-end.ensures.len, c.loop-place-test.false) in
    among_moved c.args.rotation.now c.args.amps.now c.loop-place.sources.items c.sort_unstable.new.self.items c.sort_unstable.ensures.permutation x
    ∙ ap (among x) (c.loop-place.invariant.keys ∙ ap (targets_of s c.args.strands.now c.args.rotation.now) (take_all c.loop-place.place c.args.amps.now end))

pub returns-clause-places : goal.returns-clause-places
returns-clause-places g c =
    All-permutation (λ (s : Source). s.place < length c.args.amps.now) c.loop-place.sources.items c.sort_unstable.new.self.items c.sort_unstable.ensures.permutation c.loop-place.invariant.places
