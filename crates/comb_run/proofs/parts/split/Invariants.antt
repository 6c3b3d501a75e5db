use Rattle.std.proofs.Common.{◌≡◌, true, length}
use Rattle.std.specs.Prelude.{All}
use Rattle.std.specs.List.{list_all}
use Rattle.symbol_table.specs.Category.{draft_symbols}
use Rattle.comb_laws.specs.Paths.{labels}
use Rattle.word_runs.specs.Parts.{parts_of}
use Rattle.comb_run.specs.Entries.{vector_of}
use Rattle.comb_run.specs.Evaluated.{projected_fits}
use Rattle.comb_run.specs.States.{state_of, IsState}
use Rattle.comb_run.proofs.PartLemmas.{parts_below}
use Rattle.comb_run.proofs.parts.split.Given as goal

-- the parts of the charges so far, whose items fit
abbrev pub invariant-loop-q : goal.invariant-loop-q
invariant-loop-q g l =
    let c = draft_symbols (g.R.StarRing.ring l.category.ring) g.R.StarRing.held l.category in
    record {
      value : parts_of (state_of c.ring) l.parts.items ≡ parts_below c l.k (state_of c.ring l.state) l.q;
      parts : All (λ part. IsState c (length l.state.strands.items) part.state) l.parts.items;
      fits : list_all (λ q. projected_fits c l.state.strands.items l.k q (vector_of c.ring l.state.strands.items l.state.vector)) (labels l.q) ≡ true;
    }
