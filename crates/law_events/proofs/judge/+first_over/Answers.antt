use Rattle.std.proofs.Common.{rules, arith, ◌≡◌, ◌≢◌, ◌<◌, ◌+◌, ◌-◌, ◌++◌, ◌∷◌, [], ℕ, List, length, length-append, ap, ◌∙◌}
use Rattle.std.specs.Prelude.{All}
use Rattle.std.proofs.lemmas.List.Elements.{All-append, All-cons, All-nil}
use Rattle.symbol_table.specs.Laws.{form_of}
use Rattle.law_events.proofs.judge.+first_over.Goals as goal

-- one label more, and one less to come
longer : (index : List ℕ) (t more places : ℕ) → more ≢ 0 → length index + more ≡ places → length (index ++ t ∷ []) + (more - 1) ≡ places
longer index t more places some long = rw (length-append index (t ∷ [])) (omega arith)

pub first_over-found-requires : goal.first_over-found-requires
first_over-found-requires g t c κs within =
    let n = c.args.draft.now.rules.count in
    let label : c.loop-t.t < n = omega (arith, c.count-t-end.ensures, c.loop-t-test.true) in
    let labels : All (λ s. s < n) c.with.result =
    rw c.with.ensures
    (All-append (λ s. s < n) c.args.index (c.loop-t.t ∷ []) c.requires.labels
    (All-cons (λ s. s < n) c.loop-t.t [] label (All-nil (λ s. s < n)))) in
    let long : length c.with.result + (c.args.more - 1) ≡ (form_of c.args.law).places =
    rw c.with.ensures (longer c.args.index c.loop-t.t c.args.more (form_of c.args.law).places c.if-more-eq0.false c.requires.long) in
    (search rules, (within.0, (within.1.0, (within.1.1, (c.requires.judges, (long, labels))))))
