use Rattle.std.proofs.Common.{sym, ap, arith, ◌∙◌}
use Rattle.site_schedule.specs.Queues.{all_left, letters_left}
use Rattle.site_schedule.proofs.QueueLemmas.{first_of, next_at, none_beyond, same_at, same_beyond, taken_at}
use Rattle.run_laws.specs.Turns.{after_turn, next_of}
use Rattle.site_schedule.proofs.queues.take_next.Goals as goal

pub returns-then-queues-site-clause-letter : goal.returns-then-queues-site-clause-letter
returns-then-queues-site-clause-letter c = sym (none_beyond letters_left c.args.queues.now c.args.site (let e = c.from-site.ensures in omega arith))

pub returns-then-queues-site-clause-left : goal.returns-then-queues-site-clause-left
returns-then-queues-site-clause-left c = same_beyond letters_left c.args.queues.now c.args.site (let e = c.from-site.ensures in omega arith)

pub returns-in_err-letter-clause-letter : goal.returns-in_err-letter-clause-letter
returns-in_err-letter-clause-letter c =
    c.from_residual.ensures
    ∙ sym (ap (λ i. next_of i (all_left c.args.queues.now)) (sym c.from-site.ensures)
    ∙ next_at letters_left c.args.queues.now c.from-site.result c.index-queues-site.result c.if-queues-site.false ∙ ap first_of c.in_err-letter.ensures)

pub returns-in_err-letter-clause-left : goal.returns-in_err-letter-clause-left
returns-in_err-letter-clause-left c =
    same_at letters_left c.args.queues.now c.from-site.result c.index-queues-site.result c.if-queues-site.false c.in_err-letter.ensures
    ∙ ap (λ i. after_turn i (all_left c.args.queues.now)) c.from-site.ensures

pub returns-clause-letter : goal.returns-clause-letter
returns-clause-letter c =
    sym (ap (λ i. next_of i (all_left c.args.queues.now)) (sym c.from-site.ensures)
    ∙ next_at letters_left c.args.queues.now c.from-site.result c.index-queues-site.result c.if-queues-site.false ∙ ap first_of c.in_ok-letter.ensures)

pub returns-clause-left : goal.returns-clause-left
returns-clause-left c =
    taken_at letters_left c.args.queues.now c.from-site.result c.index-queues-site.result c.in_ok-letter.later c.in_ok-letter.letter c.if-queues-site.false c.in_ok-letter.ensures
    ∙ ap (λ i. after_turn i (all_left c.args.queues.now)) c.from-site.ensures
