use Rattle.std.proofs.Common.{◌≡◌, ℕ, ◌+◌, ◌-◌, ◌<◌, ◌++◌, ◌∷◌, [], List, length, take, Option, subst, sym, ap, ◌∙◌, arith}
use Rattle.std.proofs.lemmas.Result.{err_from_is_err_and}
use Rattle.fusion_rules.specs.Fusion.{Fusion, fuses}
use Rattle.symbol_table.specs.Category.{draft_symbols}
use Rattle.symbol_table.specs.declared.law.Event.{Event}
use Rattle.law_events.specs.First.{event_at, first_over}
use Rattle.law_events.specs.Sides.{verdict}
use Rattle.shape_check.specs.Answers.{Passes}
use Rattle.shape_check.specs.Shapes.{law_of}
use Rattle.shape_check.proofs.WalkLemmas.{fault_here, labels_with, none_further, none_here, popped, settles_on, settles_with, whole_event}
use Rattle.shape_check.proofs.walk.+walk.Goals as goal

pub returns-in_default-clause-told : goal.returns-in_default-clause-told
returns-in_default-clause-told g t c =
    let draft = c.args.table.now.draft in
    let symbols = draft_symbols (g.R.StarRing.ring draft.ring) g.R.StarRing.held draft in
    let law = law_of c.args.shape in
    let stops = rw (c.rules.ensures, c.as_slice.ensures.value, c.requires.triples) at c.in_default.ensures.stops in
    let settled = rw c.requires.triples at c.requires.settled in
    none_further draft.rules.count (fuses draft.rules) law (verdict symbols law) c.args.more c.args.index.now.items c.args.from settled stops

pub returns-then-more-eq0-clause-told : goal.returns-then-more-eq0-clause-told
returns-then-more-eq0-clause-told g t c =
    let draft = c.args.table.now.draft in
    let symbols = draft_symbols (g.R.StarRing.ring draft.ring) g.R.StarRing.held draft in
    let law = law_of c.args.shape in
    let index = c.args.index.now.items in
    let fuse = fuses draft.rules in
    let wrong = event_at fuse law (verdict symbols law) in
    let further = rw (c.rules.ensures, c.as_slice.ensures.value) at c.in-Some.ensures.settles in
    let all = rw (c.as_slice.ensures.value, c.requires.triples) at c.in-Some.ensures.all in
    let settled = rw c.requires.triples at (settles_on fuse index c.args.triples.now 0 c.args.from c.in-Some.from c.requires.settled further) in
    let whole = whole_event fuse law (verdict symbols law) index c.in-Some.from (omega arith) all settled in
    let zero : first_over draft.rules.count wrong c.args.more index ≡ wrong index = ap (λ (k : ℕ). first_over draft.rules.count wrong k index) c.if-more-eq0.true in
    let P : Option Event → Type 0 = λ o. Passes c.judge.result o in
    subst P (whole ∙ sym zero) (rw c.as_slice-then-more-eq0.ensures.value at c.judge.ensures.told)

pub walk-requires : goal.walk-requires
walk-requires g t c κs within =
    let draft = c.args.table.now.draft in
    let index = c.args.index.now.items in
    let fuse = fuses draft.rules in
    let count : c.count-count.result ≡ draft.rules.count = c.count-count.ensures.count ∙ ap (λ (r : Fusion). r.count) c.rules-2.ensures in
    let below : c.loop-t.t < draft.rules.count = rw count at c.loop-t-test.true in
    let here : c.push.new.self.items ≡ index ++ c.loop-t.t ∷ [] = c.push.ensures.items ∙ ap (λ l. l ++ c.loop-t.t ∷ []) c.loop-t.invariant.same in
    let size : length c.push.new.self.items ≡ length index + 1 = c.push.ensures.len ∙ ap (λ (l : List ℕ). length l + 1) c.loop-t.invariant.same in
    let further = rw (c.rules.ensures, c.as_slice.ensures.value) at c.in-Some.ensures.settles in
    let settled = settles_with fuse index c.loop-t.t c.args.triples.now 0 c.in-Some.from (settles_on fuse index c.args.triples.now 0 c.args.from c.in-Some.from c.requires.settled further) in
    let labels = labels_with draft.rules.count index c.loop-t.t c.requires.labels below in
    (omega arith, (within.0, (within.1, (c.requires.triples, (omega arith, (omega arith, (rw (here, c.loop-t.invariant.draft) labels, rw (here, c.loop-t.invariant.draft) settled)))))))

pub returns-in_err-walk-clause-told : goal.returns-in_err-walk-clause-told
returns-in_err-walk-clause-told g t c =
    let draft = c.args.table.now.draft in
    let symbols = draft_symbols (g.R.StarRing.ring draft.ring) g.R.StarRing.held draft in
    let law = law_of c.args.shape in
    let index = c.args.index.now.items in
    let wrong = event_at (fuses draft.rules) law (verdict symbols law) in
    let count : c.count-count.result ≡ draft.rules.count = c.count-count.ensures.count ∙ ap (λ (r : Fusion). r.count) c.rules-2.ensures in
    let below : c.loop-t.t < draft.rules.count = rw count at c.loop-t-test.true in
    let here : c.push.new.self.items ≡ index ++ c.loop-t.t ∷ [] = c.push.ensures.items ∙ ap (λ l. l ++ c.loop-t.t ∷ []) c.loop-t.invariant.same in
    let told = rw (c.loop-t.invariant.draft, here) at c.in_err-walk.ensures.told in
    let p = err_from_is_err_and c.from_residual.result c.from_residual.ensures.1 in
    rw (p.1, p.2) (fault_here draft.rules.count wrong c.args.more index c.loop-t.t c.in_err-walk.field-0.0 below c.if-more-eq0.false c.loop-t.invariant.left told)

pub loop-t-preserved : goal.loop-t-preserved
loop-t-preserved g t c =
    let draft = c.args.table.now.draft in
    let symbols = draft_symbols (g.R.StarRing.ring draft.ring) g.R.StarRing.held draft in
    let law = law_of c.args.shape in
    let index = c.args.index.now.items in
    let wrong = event_at (fuses draft.rules) law (verdict symbols law) in
    let count : c.count-count.result ≡ draft.rules.count = c.count-count.ensures.count ∙ ap (λ (r : Fusion). r.count) c.rules-2.ensures in
    let below : c.loop-t.t < draft.rules.count = rw count at c.loop-t-test.true in
    let here : c.push.new.self.items ≡ index ++ c.loop-t.t ∷ [] = c.push.ensures.items ∙ ap (λ l. l ++ c.loop-t.t ∷ []) c.loop-t.invariant.same in
    let there : c.walk.new.index.items ≡ index ++ c.loop-t.t ∷ [] = c.in_ok-walk.ensures.same ∙ here in
    let told = rw (c.loop-t.invariant.draft, here) at c.in_ok-walk.ensures.told in
    record {
      draft = c.in_ok-walk.ensures.draft ∙ c.loop-t.invariant.draft;
      same = c.pop.ensures.rest ∙ (ap (λ (l : List ℕ). take (length l - 1) l) there ∙ popped index c.loop-t.t);
      left = none_here draft.rules.count wrong c.args.more index c.loop-t.t below c.loop-t.invariant.left told;
    }
