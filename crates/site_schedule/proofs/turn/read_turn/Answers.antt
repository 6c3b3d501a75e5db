use Rattle.std.proofs.Common.{◌≡◌, ap, sym, length, ◌∙◌}
use Rattle.std.specs.Vec.{with_items}
use Rattle.std.proofs.lemmas.List.{with_items_is}
use Rattle.program_text.specs.Program.{program_of}
use Rattle.run_laws.specs.Turns.{after_turn, next_of}
use Rattle.site_schedule.specs.Queues.{all_left}
use Rattle.site_schedule.specs.declared.progress.Progress.{Progress}
use Rattle.site_schedule.proofs.BehindLemmas.{behind_next}
use Rattle.site_schedule.proofs.turn.read_turn.Goals as goal

pub returns-clause-behind : goal.returns-clause-behind
returns-clause-behind c =
    let queues = c.deref_mut.ensures.value in
    let old = c.args.progress.now in
    let new : Progress = record { turns = c.push.new.items; queues = with_items old.queues c.take_next.new.queues; marks = c.mark_letter.new.marks } in
    let count : length c.take_next.new.queues ≡ length old.queues.items = c.take_next.ensures.count ∙ ap length queues in
    let items : new.queues.items ≡ c.take_next.new.queues = with_items_is old.queues c.take_next.new.queues (count ∙ sym old.queues.ok.0) in
    let left : all_left new.queues.items ≡ after_turn c.in_ok-site.site (all_left old.queues.items) =
    ap all_left items ∙ c.take_next.ensures.left ∙ ap (λ q. after_turn c.in_ok-site.site (all_left q)) queues in
    behind_next (program_of c.args.plan.now) old new c.in_ok-site.site c.in_ok-letter.letter c.requires.behind
    (ap (λ q. next_of c.in_ok-site.site (all_left q)) (sym queues) ∙ sym c.take_next.ensures.letter ∙ c.in_ok-letter.ensures.ok_part)
    left (ap length items ∙ count) c.in_ok-mark_letter.ensures c.in_ok-push.ensures
