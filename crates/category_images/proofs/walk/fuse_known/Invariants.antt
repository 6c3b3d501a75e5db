use Rattle.std.proofs.Common.{◌≡◌, drop}
use Rattle.fusion_rules.specs.Fusion.{fuses}
use Rattle.law_events.specs.First.{fuse_known}
use Rattle.category_images.proofs.walk.fuse_known.Given as goal

-- what is left decides
abbrev pub invariant-loop-t : goal.invariant-loop-t
invariant-loop-t l = fuse_known (fuses l.rules) l.index (drop l.t-index l.triples) ≡ fuse_known (fuses l.rules) l.index l.triples
