use Rattle.std.proofs.Common.{◌∙◌, ◌++◌, List, ℕ, ap, map, Bor}
use Rattle.line_text.proofs.WritingLemmas.{line_more}
use Rattle.line_text.proofs.writing.extend_line.Goals as goal

pub returns : goal.returns
returns c =
    line_more c.args.first.now (map (λ (word : Bor (List ℕ)). word.now) c.args.others.now) c.args.out.now.items c.extend_from_slice.new.self.items c.write_words.new.out.items c.end_line.new.out.items
    (c.in_ok-extend_from_slice.ensures.items ∙ ap (λ w. c.args.out.now.items ++ w) c.as_bytes.ensures.value) c.in_ok-write_words.ensures c.in_ok-end_line.ensures
