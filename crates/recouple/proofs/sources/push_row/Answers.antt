use Rattle.std.proofs.Common.{◌≡◌, ◌<◌, ◌-◌, ◌∙◌, List, ℕ, append-nil, refl, ap, sym, subst, get_or, set}
use Rattle.std.specs.Prelude.{All}
use Rattle.std.proofs.lemmas.List.{set-set}
use Rattle.symbol_table.specs.Category.{draft_symbols}
use Rattle.recouple.specs.Raises.{has_factor}
use Rattle.recouple.specs.Rotations.{after}
use Rattle.recouple.specs.Targets.{keys_of}
use Rattle.recouple.specs.declared.sources.Source.{Source}
use Rattle.recouple.proofs.SourceLemmas.{all_pushed, row_pushed}
use Rattle.recouple.proofs.sources.push_row.Goals as goal

pub loop-to-init : goal.loop-to-init
loop-to-init g c =
    let key = c.args.key.now.items in
    let node = c.args.rotation.now.node - 1 in
    let parent = c.args.rotation.now.parent - 1 in
    record {
      changed = λ u. ap (λ (x : List ℕ). set x (c.args.rotation.now.parent - 1) u) c.after-changed.ensures
          ∙ set-set (set key node (get_or key parent 0)) parent 0 u;
      keys = λ es there. sym (append-nil (keys_of c.args.rotation.now es c.args.sources.now.items));
      places = λ n low all. all;
    }

pub loop-to-preserved : goal.loop-to-preserved
loop-to-preserved g c =
    let symbols = draft_symbols (g.R.StarRing.ring c.args.category.now.ring) g.R.StarRing.held c.args.category.now in
    let rotation = c.args.rotation.now in
    let strands = c.args.strands.now in
    let key = c.args.key.now.items in
    let node = c.args.rotation.now.node - 1 in
    let parent = c.args.rotation.now.parent - 1 in
    let to = c.loop-to.to in
    let before = c.loop-to.changed.items in
    let from = get_or c.as_slice.result.now (c.args.rotation.now.node - 1) 0 in
    let source : Source = record { order = c.loop-to.order; place = c.args.place; from = from; to = to } in
    let is : c.set_label.new.key.items ≡ after c.args.rotation.now c.args.key.now.items c.loop-to.to = c.set_label.ensures ∙ c.loop-to.invariant.changed to in
    record {
      changed = λ u. ap (λ (x : List ℕ). set x (c.args.rotation.now.parent - 1) u) c.set_label.ensures ∙ (set-set before parent to u ∙ c.loop-to.invariant.changed u);
      keys = λ es there.
          row_pushed symbols strands rotation es key c.set_label.new.key.items to source c.args.sources.now.items c.loop-to.sources.items c.push_source.new.sources.items c.in_ok-push_source.ensures is
          (ap (λ (xs : List ℕ). get_or xs (c.args.rotation.now.node - 1) 0) c.as_slice.ensures.value) refl there (c.loop-to.invariant.keys es there);
      places = λ n low all.
          subst (All (λ (s : Source). s.place < n)) (sym c.in_ok-push_source.ensures)
          (all_pushed (λ (s : Source). s.place < n) c.loop-to.sources.items source (has_factor symbols strands rotation c.set_label.new.key.items from) (c.loop-to.invariant.places n low all) low);
    }
