use Rattle.std.proofs.Common.{List, ℕ, arith, Bor}
use Rattle.line_text.proofs.WritingLemmas.{words_more}
use Rattle.line_text.proofs.writing.extend_words.Goals as goal

pub loop-word-preserved : goal.loop-word-preserved
loop-word-preserved c =
    words_more (λ (word : Bor (List ℕ)). word.now) c.args.words.now _ c.loop-word.word-index c.args.out.now.items c.loop-word.out.items c.write_word.new.out.items (omega arith) c.loop-word.invariant c.in_ok-write_word.ensures
