use Rattle.std.proofs.lemmas.List.Sorted.{IsPermutation-map}
use Rattle.word_runs.specs.Lives.{live_of, lives_of}
use Rattle.run_laws.proofs.OrderLemmas.{sorted_lives}
use Rattle.outcome_rows.proofs.letters.sorted_ends.Goals as goal

pub returns-clause-stated : goal.returns-clause-stated
returns-clause-stated g c =
    let seen = g.E.Engine.seen c.args.engine.now in
    let made = c.in_ok-ends.ends.items in
    let sorted = c.sort_words.new.words.items in (
      lives_of seen made,
      c.in_ok-ends.ensures.stated,
      record {
        permutation = IsPermutation-map (live_of seen) made sorted c.in_ok-sort_words.ensures.permutation;
        order = sorted_lives seen sorted c.in_ok-sort_words.ensures.order;
      },
    )
