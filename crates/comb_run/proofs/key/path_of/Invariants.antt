use Rattle.std.proofs.Common.{◌≡◌, take}
use Rattle.comb_run.specs.Entries.{path_of}
use Rattle.comb_run.proofs.key.path_of.Given as goal

-- the path of the labels so far
abbrev pub invariant-loop-x : goal.invariant-loop-x
invariant-loop-x l = l.path.items ≡ path_of l.strands (take l.x-index l.key.items)
