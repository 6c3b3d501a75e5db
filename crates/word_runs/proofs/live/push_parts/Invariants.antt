use Rattle.std.proofs.Common.{◌≡◌, ◌++◌}
use Rattle.std.specs.List.{AllByRecursion}
use Rattle.std.specs.Vec.Iter.{into_iter_items}
use Rattle.word_runs.specs.Runs.{outcomes_of}
use Rattle.word_runs.specs.Parts.{parts_of}
use Rattle.word_runs.specs.Lives.{lives_of, AreOf}
use Rattle.word_runs.proofs.live.push_parts.Given as goal

-- the words so far and those of the parts that are left are the words of all
abbrev pub invariant-loop-part : goal.invariant-loop-part
invariant-loop-part g l =
    let seen = g.E.Engine.seen l.engine in
    record {
      value : lives_of seen l.next.items ++ outcomes_of l.place l.word (parts_of seen (into_iter_items l.part-iterator))
          ≡ lives_of seen l.fn.next.items ++ outcomes_of l.place l.word (parts_of seen l.fn.parts.items);
      of : AreOf (g.E.Engine.Of l.engine) l.next.items;
      left : AllByRecursion (λ p. g.E.Engine.Of l.engine p.state) (into_iter_items l.part-iterator);
    }
