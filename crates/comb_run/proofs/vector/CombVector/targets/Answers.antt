use Rattle.std.proofs.Common.{◌≡◌, ◌<◌, ◌∙◌, length, ap, sym}
use Rattle.std.specs.Map.{keys_of}
use Rattle.comb_run.proofs.EntryLemmas.{keys_hold, targets_one, targets_same, targets_none, targets_done}
use Rattle.comb_run.proofs.vector.CombVector.targets.Goals as goal

pub loop-key-init : goal.loop-key-init
loop-key-init g c =
    let keys : c.into_iter-key-iterator.result ≡ keys_of c.args.self.now =
    c.into_iter-key-iterator.ensures.into_iter_gives ∙ (c.keys-key-items.ensures.rest ∙ ap keys_of c.self.view_is) in
    record {
      steps = tt;
      ends = tt;
      long = rw keys (keys_hold (λ x. c.args.k < length x) c.args.strands.now c.args.self.now c.requires.places);
      left = targets_none c.args.count c.args.k c.args.strands.now c.args.self.now c.new-paths.result.items c.into_iter-key-iterator.result c.new-paths.ensures.items keys;
    }

pub push_row-requires : goal.push_row-requires
push_row-requires g c = rw c.path_of-path.ensures ((rw c.in-Some.ensures.steps at c.loop-key.invariant.long).0)

pub is_first-requires-clause-place : goal.is_first-requires-clause-place
is_first-requires-clause-place g c = rw c.path_of-path.ensures ((rw c.in-Some.ensures.steps at c.loop-key.invariant.long).0)

pub loop-key-preserved-in-Continue-1 : goal.loop-key-preserved-in-Continue-1
loop-key-preserved-in-Continue-1 g c = record {
  steps = tt;
  ends = tt;
  long = (rw c.in-Some.ensures.steps at c.loop-key.invariant.long).1;
  left = targets_one c.args.count c.args.k c.args.strands.now c.args.self.now c.loop-key.paths.items c.push_row.new.paths.items c.loop-key.key-iterator c.next.new.self c.in-Some.key.now c.path_of-path.result.items c.in-Some.ensures.steps c.path_of-path.ensures
      (sym c.is_first.ensures ∙ c.if-is_first.true) c.loop-key.invariant.left c.in_ok-push_row.ensures;
}

pub loop-key-preserved : goal.loop-key-preserved
loop-key-preserved g c = record {
  steps = tt;
  ends = tt;
  long = (rw c.in-Some.ensures.steps at c.loop-key.invariant.long).1;
  left = targets_same c.args.count c.args.k c.args.strands.now c.args.self.now c.loop-key.paths.items c.loop-key.key-iterator c.next.new.self c.in-Some.key.now c.path_of-path.result.items c.in-Some.ensures.steps c.path_of-path.ensures
      (sym c.is_first.ensures ∙ c.if-is_first.false) c.loop-key.invariant.left;
}

pub returns : goal.returns
returns g c = targets_done c.args.count c.args.k c.args.strands.now c.args.self.now c.loop-key.paths.items c.loop-key.key-iterator c.in-None.ensures.steps.0 c.loop-key.invariant.left
