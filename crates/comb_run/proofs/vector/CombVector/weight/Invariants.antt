use Rattle.std.proofs.Common.{◌≡◌}
use Rattle.std.specs.Prelude.{IsTrue}
use Rattle.std.specs.List.{AllByRecursion}
use Rattle.ring_laws.specs.Stated.{steps_over}
use Rattle.symbol_table.specs.Category.{draft_symbols}
use Rattle.comb_run.specs.Entries.{vector_of}
use Rattle.comb_run.specs.Evaluated.{weight_at}
use Rattle.comb_run.proofs.WeightLemmas.{entry_step, IsEntry}
use Rattle.comb_run.proofs.vector.CombVector.weight.Given as goal

-- what is left gives the weight
abbrev pub invariant-loop-key : goal.invariant-loop-key
invariant-loop-key g l =
    let r = g.R.StarRing.ring l.category.ring in
    let c = draft_symbols r g.R.StarRing.held l.category in
    record {
      steps : (goal.iterator-loop-key g).can_next l.key-iterator;
      ends : (goal.iterator-loop-key g).is_finite l.key-iterator;
      entries : AllByRecursion (IsEntry c l.strands) l.key-iterator;
      left : steps_over (entry_step c l.strands) l.key-iterator l.sum ≡ weight_at c l.strands (vector_of r l.strands l.self);
      is_member : IsTrue (r.member l.sum);
    }
