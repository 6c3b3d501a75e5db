use Rattle.category_text.specs.declared.kind.MarkKind.TheVariants.{OnTwist, OnLoop}
use Rattle.category_text.specs.Writing.{named_parts}
use Rattle.category_text.specs.Writing.{marks_text}
use Rattle.category_text.proofs.WritingLemmas.{behind_again}
use Rattle.category_text.proofs.writing.write_all_marks.Goals as goal

pub returns-clause-text : goal.returns-clause-text
returns-clause-text c =
    let named = named_parts c.args.parts in
    behind_again c.args.text.now.items c.write_marks.new.text.items _ (marks_text named OnTwist) (marks_text named OnLoop) c.in_ok-write_marks.ensures.text c.in_ok-write_marks-2.ensures.text

pub returns-clause-numbers : goal.returns-clause-numbers
returns-clause-numbers c = record { twist = c.in_ok-write_marks.ensures.numbers; loop_value = c.in_ok-write_marks-2.ensures.numbers }
