use Rattle.std.proofs.Common.{◌++◌, ◌∷◌, ◌∙◌, ap}
use Rattle.std.specs.Fmt.{decimal}
use Rattle.category_text.proofs.WritingLemmas.{root_line_is}
use Rattle.category_text.proofs.writing.write_root_line.Goals as goal

pub returns-clause-text : goal.returns-clause-text
returns-clause-text c =
    root_line_is c.args.ring.now c.args.text.now.items c.extend_from_slice.new.self.items c.write_plain_number.new.out.items c.end_line.new.out.items c.in_ok-extend_from_slice.ensures.items
    (c.in_ok-write_plain_number.ensures ∙ ap (λ n. c.extend_from_slice.new.self.items ++ 32 ∷ decimal n) (c.from.ensures ∙ c.root.ensures.value)) c.in_ok-end_line.ensures
