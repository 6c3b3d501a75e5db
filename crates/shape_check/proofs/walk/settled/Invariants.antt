use Rattle.fusion_rules.specs.Fusion.{fuses}
use Rattle.shape_check.specs.Walk.{Settles}
use Rattle.shape_check.proofs.walk.settled.Given as goal

-- the triples that were looked at fuse
abbrev pub invariant-loop-k : goal.invariant-loop-k
invariant-loop-k l = Settles (fuses l.rules) l.index l.triples l.from l.k
