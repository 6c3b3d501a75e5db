use Rattle.std.proofs.Common.{◌<◌, ◌==◌, ◌∙◌, Bool, length, slice_index, ap, sym, List, ℕ}
use Rattle.std.proofs.lemmas.Bool.{eq-eqb}
use Rattle.amp_store.specs.Places.{amplitudes_in}
use Rattle.amp_store.proofs.CopyLemmas.{told_apart, said_of, kept_one, kept_none}
use Rattle.amp_store.proofs.entry.with_label.Goals as goal
use Rattle.amp_store.proofs.entry.with_label.Goals.{then-as_slice-place+in_ok-clone+in_ok-push, else-as_slice-place}

pub bounds-as_slice-place : goal.bounds-as_slice-place
bounds-as_slice-place g c =
    rw (c.as_slice.ensures.value)
    (said_of c.args.entries.now c.loop-entry.entry-index c.entry-item.result c.loop-entry-test.true c.entry-item.is (λ (a : List ℕ × g.row.R-Elem.Denot). c.args.place < length a.0) c.requires)

pub loop-entry-preserved : goal.loop-entry-preserved
loop-entry-preserved g c =
    let e = c.entry-item.result in
    let test : List ℕ × g.row.R-Elem.Denot → Bool = λ a. slice_index a.0 c.args.place == c.args.label in
    let tested = ap (λ (xs : List ℕ). slice_index xs c.args.place == c.args.label) c.as_slice.ensures.value in
    elim c.if-as_slice-place.branch [
      | then-as_slice-place+in_ok-clone+in_ok-push w ↦
          ap (λ v. amplitudes_in v.items) w.kept-is
          ∙ kept_one c.args.entries.now c.loop-entry.entry-index e c.loop-entry-test.true c.entry-item.is test c.loop-entry.kept.items w.push.new.self.items w.in_ok-clone.field-0 (sym tested ∙ eq-eqb _ _ w.if-as_slice-place.true) w.in_ok-clone.ensures.cases w.in_ok-push.ensures.items c.loop-entry.invariant
      | else-as_slice-place w ↦
          ap (λ v. amplitudes_in v.items) w.kept-is
          ∙ kept_none c.args.entries.now c.loop-entry.entry-index e c.loop-entry-test.true c.entry-item.is test c.loop-entry.kept.items (sym tested ∙ told_apart _ _ w.if-as_slice-place.false) c.loop-entry.invariant
    ]
