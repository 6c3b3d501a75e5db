use Rattle.std.proofs.Common.{◌≡◌, ◌∙◌, ◌<◌, ◌≤◌, ◌++◌, ℕ, List, length, ap, sym, subst, arith}
use Rattle.std.specs.Prelude.{All}
use Rattle.fusion_rules.specs.Fusion.{Fusion, AreRules, fuses}
use Rattle.symbol_table.specs.Category.{draft_symbols}
use Rattle.tree_shapes.specs.Views.{labelled}
use Rattle.tree_shapes.specs.Labelled.{leaves, size}
use Rattle.tree_shapes.specs.declared.limits.TheConstants.{STRAND_LIMIT}
use Rattle.comb_laws.proofs.StartLemmas.{length-leaves, left_start, leaves_below, length-own, own_is_path}
use Rattle.comb_laws.proofs.UnitLemmas.{unit_times}
use Rattle.comb_run.specs.Entries.{AreEntries}
use Rattle.comb_run.proofs.StartLemmas.{left_is}
use Rattle.comb_run.proofs.start.start_state.Goals as goal

pub push_leaves-requires : goal.push_leaves-requires
push_leaves-requires g c =
    let tree = labelled c.args.tree.now in
    let few : size tree ≤ STRAND_LIMIT = c.requires.start.few in
    omega (arith, length-leaves tree, ap length c.new-strands.ensures)

pub start_vector-requires-clause-few : goal.start_vector-requires-clause-few
start_vector-requires-clause-few g c =
    let tree = labelled c.args.tree.now in
    let few : size tree ≤ STRAND_LIMIT = c.requires.start.few in
    omega (arith, length-own tree c.requires.left)

pub start_vector-requires-clause-path : goal.start_vector-requires-clause-path
start_vector-requires-clause-path g c =
    let category = c.args.category.now in
    let s = draft_symbols (g.R.StarRing.ring category.ring) g.R.StarRing.held category in
    let tree = labelled c.args.tree.now in
    let rules : AreRules category.rules = subst (λ (rules : Fusion). AreRules rules) c.rules.ensures c.count-count.ensures.rules in
    own_is_path s tree (unit_times category.rules rules) (left_start (fuses category.rules) category.rules.count tree (left_is (fuses category.rules) category.rules.count tree c.requires.start c.requires.left))

pub returns-clause-state : goal.returns-clause-state
returns-clause-state g c =
    let category = c.args.category.now in
    let s = draft_symbols (g.R.StarRing.ring category.ring) g.R.StarRing.held category in
    let tree = labelled c.args.tree.now in
    let rules : AreRules category.rules = subst (λ (rules : Fusion). AreRules rules) c.rules.ensures c.count-count.ensures.rules in
    let is : c.push_leaves.new.strands.items ≡ leaves tree = c.push_leaves.ensures ∙ ap (λ (xs : List ℕ). xs ++ leaves tree) c.new-strands.ensures in
    record {
      some = rules.some;
      long = ap length is ∙ length-leaves tree;
      few = c.requires.start.few;
      labels = subst (λ (xs : List ℕ). All (λ x. x < category.rules.count) xs) (sym is) (leaves_below category.rules.count tree c.requires.start.labels);
      entries = subst (λ (xs : List ℕ). AreEntries s xs c.in_ok-vector.vector) (sym is) c.in_ok-vector.ensures.entries;
    }
