-- Programs that `linked` finishes have equal rows.
use Rattle.std.proofs.Common.{◌≡◌, ℕ, List, Some, Result, Ok, Err, length, refl, subst, ◌∙◌}
use Rattle.io_ports.specs.Ports.{Files}
use Rattle.category_text.specs.Named.{NamedSymbols}
use Rattle.program_text.specs.Laws.{AllWellFormed}
use Rattle.program_text.specs.Program.{Program}
use Rattle.program_text.specs.WellFormed.{IsProgram}
use Rattle.word_moves.specs.Reading.{Fault, moves_of}
use Rattle.word_moves.specs.Verdicts.{LinkedIsMoved, verdict_of}
use Rattle.word_moves.specs.declared.moves.BraidMove.{BraidMove}
use Rattle.word_moves.specs.declared.moves.Verdict.{Verdict}
use Rattle.word_moves.specs.declared.moves.Verdict.TheVariants as verdict
use Rattle.move_laws.specs.Linked.{LinkedHaveEqualRows}
use Rattle.anyon_app.specs.declared.texts.Kind.TheVariants.{Program as ProgramText, SecondProgram, Moves}
use Rattle.anyon_app.specs.Replies.{Reply, done}
use Rattle.anyon_app.specs.Refusals.{moves_line, too_long, verdict_line}
use Rattle.anyon_app.specs.Work.{Says, reply_of, judged}
use Rattle.anyon_app.specs.Verdicts.{symbols_in, unless}
use Rattle.anyon_app.specs.Programs.{program_work}
use Rattle.anyon_app.specs.Linked.{judged_moves, linked_report, linked_work, moves_of_text, moves_or, moves_work}
use Rattle.anyon_app.specs.Laws.{HaveEqualRows, IsProgramText, LinkedHaveRows}
use Rattle.anyon_app.proofs.LawLemmas.{refused_apart, some_same, was_read}
use Rattle.anyon_app.proofs.RunLemmas.{same_category, was_admitted, was_program}

no_moves : (r : Result (List BraidMove) Fault) (reply : Reply) (report : List ℕ) → moves_or r ≡ Err reply → reply ≡ done report → ⊥
no_moves (Ok moves) reply report is e = absurd cc
no_moves (Err fault) reply report is e =
    let same : moves_line fault.line fault.cause ≡ reply = cc in
    refused_apart (moves_line fault.line fault.cause).bytes report (same ∙ e)

-- only the verdict that programs are linked gives a report
is_linked : (v : Verdict) (files : Files) (report : List ℕ) → reply_of (judged (unless (verdict_line v)) (λ _. Says (done linked_report))) files ≡ Some (done report) → v ≡ verdict.Linked
is_linked verdict.Linked files report went = refl
is_linked verdict.StartDiffers files report went = absurd (refused_apart _ report (some_same _ (done report) went))
is_linked (verdict.NoMove number) files report went = absurd (refused_apart _ report (some_same _ (done report) went))
is_linked (verdict.EndDiffers place) files report went = absurd (refused_apart _ report (some_same _ (done report) went))

module _ (named : NamedSymbols) (counts : length named.names ≡ named.given.count) (well : AllWellFormed) (moved : LinkedIsMoved) (rows : LinkedHaveEqualRows (symbols_in named)) where
  program_of : (files : Files) (name : List ℕ) (p : Program) → IsProgramText files name named p → IsProgram named.given.fuse named.given.count p
  program_of files name p is = subst (λ n. IsProgram named.given.fuse n p) counts (well named.names named.given.fuse is.text p is.reads)

  -- of the category as it was read
  over_read : (files : Files) (first second moves report : List ℕ)
      → reply_of (program_work ProgramText first named (λ p. program_work SecondProgram second named (λ q. moves_work moves (judged_moves p q)))) files ≡ Some (done report)
      → HaveEqualRows files first second named
  over_read files first second moves report went =
      let one = was_program ProgramText named (λ p. program_work SecondProgram second named (λ q. moves_work moves (judged_moves p q))) files first report went in
      let other = was_program SecondProgram named (λ q. moves_work moves (judged_moves one.plan q)) files second report one.went in
      let list = was_read (too_long Moves) moves_of_text (judged_moves one.plan other.plan) files moves report
      (λ line e. refused_apart _ line e) (λ text reply is e. no_moves (moves_of text) reply report is e) other.went in
      let is = (moved one.plan other.plan list.value).0 (is_linked (verdict_of one.plan other.plan list.value) files report list.went) in
      record {
        p = one.plan;
        q = other.plan;
        first_is = one.is;
        second_is = other.is;
        equal = rows one.plan other.plan (program_of files first one.plan one.is) (program_of files second other.plan other.is) is.0 (list.value, is.1);
      }

  pub linked_have_rows : LinkedHaveRows named
  unfolding linked_work
  linked_have_rows files category first second moves report is went =
      let admitted = was_admitted (λ n. program_work ProgramText first n (λ p. program_work SecondProgram second n (λ q. moves_work moves (judged_moves p q)))) files category report went in
      let same = same_category files category admitted.named named admitted.is is in
      over_read files first second moves report
      (subst (λ n. reply_of (program_work ProgramText first n (λ p. program_work SecondProgram second n (λ q. moves_work moves (judged_moves p q)))) files ≡ Some (done report)) same admitted.went)
