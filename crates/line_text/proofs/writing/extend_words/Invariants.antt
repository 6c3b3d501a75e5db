use Rattle.std.proofs.Common.{◌≡◌, ◌++◌, map, take}
use Rattle.line_text.specs.Writing.{spaced_on}
use Rattle.line_text.proofs.writing.extend_words.Given as goal

abbrev pub invariant-loop-word : goal.invariant-loop-word
invariant-loop-word l = l.out.items ≡ l.fn.out.items ++ spaced_on (take l.word-index (map (λ word. word.now) l.words))
