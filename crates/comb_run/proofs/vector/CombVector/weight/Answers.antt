use Rattle.std.proofs.Common.{◌≡◌, ◌∙◌, subst, ap, List, ℕ}
use Rattle.std.specs.Prelude.{IsTrue}
use Rattle.arrayvec.specs.ArrayVec.{ArrayVec}
use Rattle.symbol_table.specs.Category.{draft_symbols}
use Rattle.comb_run.specs.Entries.{vector_of}
use Rattle.comb_run.specs.Evaluated.{weight_at}
use Rattle.comb_run.proofs.WeightLemmas.{IsMap, entry_step, begun, begun_entries, told_one}
use Rattle.comb_run.proofs.vector.CombVector.weight.Goals as goal

pub loop-key-init : goal.loop-key-init
loop-key-init g c =
    let base = c.args.category.now.ring in
    let s = draft_symbols (g.R.StarRing.ring base) g.R.StarRing.held c.args.category.now in
    let laws = g.met.R.StarRing.laws base in
    let same : c.into_iter-key-iterator.result ≡ c.args.self.now =
    c.into_iter-key-iterator.ensures.into_iter_gives ∙ (c.iter-key-items.ensures.rest ∙ c.self.view_is) in
    let inside : IsMap c.self.inside.entries.entries = record { ordered = c.iter-key-items.ensures.ordered; found = c.iter-key-items.ensures.found } in
    let is : IsMap c.args.self.now = subst (λ (es : List (ArrayVec ℕ × g.row.R-Elem.Denot)). IsMap es) c.self.view_is inside in
    record {
      steps = tt;
      ends = tt;
      entries = begun_entries s laws c.args.strands.now c.args.self.now c.requires is c.into_iter-key-iterator.result same;
      left = begun s laws c.args.strands.now c.args.self.now c.requires is c.into_iter-key-iterator.result c.zero-sum.result same (c.zero-sum.ensures.value ∙ ap (λ (b : g.row.R.Denot). (g.R.StarRing.ring b).zero) c.ring.ensures);
      is_member = subst (λ (b : g.row.R.Denot). IsTrue ((g.R.StarRing.ring b).member c.zero-sum.result)) c.ring.ensures c.zero-sum.ensures.member;
    }

pub add_path-requires-clause-path : goal.add_path-requires-clause-path
add_path-requires-clause-path g c = (rw c.in-Some.ensures.steps at c.loop-key.invariant.entries).0.path

pub add_path-requires-clause-value : goal.add_path-requires-clause-value
add_path-requires-clause-value g c = (rw c.in-Some.ensures.steps at c.loop-key.invariant.entries).0.member

pub loop-key-preserved : goal.loop-key-preserved
loop-key-preserved g c =
    let s = draft_symbols (g.R.StarRing.ring c.args.category.now.ring) g.R.StarRing.held c.args.category.now in
    record {
      steps = tt;
      ends = tt;
      entries = (rw c.in-Some.ensures.steps at c.loop-key.invariant.entries).1;
      left = told_one (entry_step s c.args.strands.now) c.loop-key.key-iterator c.next.new.self (c.in-Some.key.now, c.in-Some.value.now) c.loop-key.sum c.in_ok-sum.sum
          (weight_at s c.args.strands.now (vector_of s.ring c.args.strands.now c.args.self.now)) c.in-Some.ensures.steps c.in_ok-sum.ensures.value c.loop-key.invariant.left;
      is_member = c.in_ok-sum.ensures.member;
    }
