use Rattle.std.proofs.Common.{◌≡◌, ◌<◌, ◌++◌, length}
use Rattle.std.specs.List.{AllByRecursion}
use Rattle.comb_run.specs.Entries.{path_of, paths_of, items_of, rows_of_first, targets_of}
use Rattle.comb_run.proofs.vector.CombVector.targets.Given as goal

-- the paths so far, and those of what is left
abbrev pub invariant-loop-key : goal.invariant-loop-key
invariant-loop-key g l = record {
  steps : (goal.iterator-loop-key g).can_next l.key-iterator;
  ends : (goal.iterator-loop-key g).is_finite l.key-iterator;
  long : AllByRecursion (λ p. l.k < length (path_of l.strands p.items)) l.key-iterator;
  left : items_of l.paths.items ++ rows_of_first l.count l.k l.strands l.self (paths_of l.strands l.key-iterator) ≡ targets_of l.count l.k l.strands l.self;
}
