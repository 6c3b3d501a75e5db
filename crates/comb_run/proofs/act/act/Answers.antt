use Rattle.std.proofs.Common.{arith, subst, sym, ap, ◌∙◌, ◌≡◌, ◌<◌, ◌+◌, ℕ, List, All, length}
use Rattle.std.specs.Map.{keys_of}
use Rattle.std.specs.List.{AllByRecursion}
use Rattle.std.proofs.lemmas.Result.{IfOk-weaker}
use Rattle.arrayvec.specs.ArrayVec.{ArrayVec}
use Rattle.fusion_rules.specs.Fusion.{Fusion, AreRules}
use Rattle.symbol_table.specs.Category.{draft_symbols}
use Rattle.comb_run.specs.Operations.{kernel_at}
use Rattle.comb_laws.specs.Operators.{kernel_of}
use Rattle.comb_run.specs.Entries.{path_of, items_of, targets_of}
use Rattle.comb_laws.specs.Paths.{IsAlong}
use Rattle.comb_run.proofs.EntryLemmas.{keys_hold}
use Rattle.comb_run.proofs.Gather.{all_along}
use Rattle.comb_laws.proofs.PathFacts.{path_along}
use Rattle.comb_run.proofs.ActLemmas.{act_kept, act_vector, act_entries, act_fits, act_fails}
use Rattle.comb_run.proofs.act.act.Goals as goal

pub targets-requires-clause-places : goal.targets-requires-clause-places
targets-requires-clause-places g c x v is =
    let s = draft_symbols (g.R.StarRing.ring c.args.category.now.ring) g.R.StarRing.held c.args.category.now in
    let along = path_along s c.args.action.now.strands.now x c.requires.action.gap.some (c.requires.entries.paths x v is) in
    let long : length x ≡ length c.args.action.now.strands.now + 1 = along.long in
    let high : c.args.action.now.gap < length c.args.action.now.strands.now = c.requires.action.gap.high in
    omega arith

pub gather-requires-clause-targets : goal.gather-requires-clause-targets
gather-requires-clause-targets g c =
    let s = draft_symbols (g.R.StarRing.ring c.args.category.now.ring) g.R.StarRing.held c.args.category.now in
    let n = length c.args.action.now.strands.now in
    let keys : AllByRecursion (λ (p : ArrayVec ℕ). IsAlong c.args.category.now.rules.count n (path_of c.args.action.now.strands.now p.items)) (keys_of c.args.vector.now) =
    keys_hold (IsAlong c.args.category.now.rules.count n) c.args.action.now.strands.now c.args.vector.now (λ x v is. path_along s c.args.action.now.strands.now x c.requires.action.gap.some (c.requires.entries.paths x v is)) in
    let along = all_along c.args.category.now.rules.count n c.args.action.now.gap c.args.action.now.strands.now c.args.vector.now c.in_ok-targets.targets.items keys (c.in_ok-targets.ensures ∙ ap (λ m. targets_of m c.args.action.now.gap c.args.action.now.strands.now c.args.vector.now) (c.count.ensures.count ∙ ap (λ (r : Fusion). r.count) c.rules.ensures)) in
    subst (λ (ps : List (ArrayVec ℕ)). All (λ p. IsAlong c.args.category.now.rules.count n p.items) ps) (sym c.as_slice.ensures.value) along

pub gather-requires-clause-rules : goal.gather-requires-clause-rules
gather-requires-clause-rules g c = subst (λ (rules : Fusion). AreRules rules) c.rules.ensures c.count.ensures.rules

pub returns-clause-vector : goal.returns-clause-vector
returns-clause-vector g c =
    let base = c.args.category.now.ring in
    let s = draft_symbols (g.R.StarRing.ring base) g.R.StarRing.held c.args.category.now in
    let same : items_of c.as_slice.result.now ≡ targets_of s.count c.args.action.now.gap c.args.action.now.strands.now c.args.vector.now =
    ap items_of c.as_slice.ensures.value ∙ (c.in_ok-targets.ensures ∙ ap (λ m. targets_of m c.args.action.now.gap c.args.action.now.strands.now c.args.vector.now) (c.count.ensures.count ∙ ap (λ (r : Fusion). r.count) c.rules.ensures)) in
    let high : c.args.action.now.gap < length c.args.action.now.after.now = omega arith in
    IfOk-weaker c.gather.result _ _
    (λ new h. act_vector s (g.met.R.StarRing.laws base) c.args.action.now.strands.now c.args.action.now.after.now c.args.action.now.gap (kernel_of s c.args.action.now.operator) c.args.vector.now new
    (act_kept s (g.met.R.StarRing.laws base) c.args.action.now.strands.now c.args.action.now.after.now c.args.action.now.gap (kernel_of s c.args.action.now.operator) c.args.vector.now new c.requires.action.gap.low high (items_of c.as_slice.result.now) same h))
    c.gather.ensures.entries

pub returns-clause-entries : goal.returns-clause-entries
returns-clause-entries g c =
    let base = c.args.category.now.ring in
    let s = draft_symbols (g.R.StarRing.ring base) g.R.StarRing.held c.args.category.now in
    let same : items_of c.as_slice.result.now ≡ targets_of s.count c.args.action.now.gap c.args.action.now.strands.now c.args.vector.now =
    ap items_of c.as_slice.ensures.value ∙ (c.in_ok-targets.ensures ∙ ap (λ m. targets_of m c.args.action.now.gap c.args.action.now.strands.now c.args.vector.now) (c.count.ensures.count ∙ ap (λ (r : Fusion). r.count) c.rules.ensures)) in
    let high : c.args.action.now.gap < length c.args.action.now.after.now = omega arith in
    IfOk-weaker c.gather.result _ _
    (λ new h. act_entries s (g.met.R.StarRing.laws base) c.args.action.now.strands.now c.args.action.now.after.now c.args.action.now.gap (kernel_of s c.args.action.now.operator) c.args.vector.now new
    (act_kept s (g.met.R.StarRing.laws base) c.args.action.now.strands.now c.args.action.now.after.now c.args.action.now.gap (kernel_of s c.args.action.now.operator) c.args.vector.now new c.requires.action.gap.low high (items_of c.as_slice.result.now) same h))
    c.gather.ensures.entries

pub returns-clause-fits : goal.returns-clause-fits
returns-clause-fits g c =
    let base = c.args.category.now.ring in
    let s = draft_symbols (g.R.StarRing.ring base) g.R.StarRing.held c.args.category.now in
    let same : items_of c.as_slice.result.now ≡ targets_of s.count c.args.action.now.gap c.args.action.now.strands.now c.args.vector.now =
    ap items_of c.as_slice.ensures.value ∙ (c.in_ok-targets.ensures ∙ ap (λ m. targets_of m c.args.action.now.gap c.args.action.now.strands.now c.args.vector.now) (c.count.ensures.count ∙ ap (λ (r : Fusion). r.count) c.rules.ensures)) in
    let high : c.args.action.now.gap < length c.args.action.now.after.now = omega arith in
    IfOk-weaker c.gather.result _ _
    (λ new h. act_fits s (g.met.R.StarRing.laws base) c.args.action.now.strands.now c.args.action.now.after.now c.args.action.now.gap (kernel_at s c.args.action.now.operator) c.args.vector.now c.requires.action.gap.low high (items_of c.as_slice.result.now) same h)
    c.gather.ensures.fits

pub returns-clause-too_large : goal.returns-clause-too_large
returns-clause-too_large g c e =
    let base = c.args.category.now.ring in
    let s = draft_symbols (g.R.StarRing.ring base) g.R.StarRing.held c.args.category.now in
    let h = c.gather.ensures.too_large e in
    act_fails s (g.met.R.StarRing.laws base) c.args.action.now.strands.now c.args.action.now.after.now c.args.action.now.gap (kernel_at s c.args.action.now.operator) c.args.vector.now h.0 h.2
