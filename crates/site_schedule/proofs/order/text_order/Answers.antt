use Rattle.std.proofs.Common.{◌≡◌, sym, ap, subst, ◌∙◌, arith, ◌++◌, length, drop, []}
use Rattle.std.proofs.lemmas.List.{append-nil, drop_all, length-map}
use Rattle.program_text.specs.Program.{program_of, site_of}
use Rattle.run_laws.specs.Turns.{text_order_from}
use Rattle.site_schedule.specs.Legal.{IsLegal}
use Rattle.site_schedule.proofs.LegalLemmas.{text_legal}
use Rattle.site_schedule.proofs.QueueLemmas.{order_by_count, own_commands}
use Rattle.site_schedule.proofs.SiteLemmas.{few_sites}
use Rattle.site_schedule.proofs.order.text_order.Goals as goal

pub overflow_add-number : goal.overflow_add-number
overflow_add-number c =
    let few = few_sites (program_of c.args.plan.now) c.requires in
    let same = length-map c.args.plan.now.sites.items site_of in
    let number = c.loop-site.invariant.number in
    let low = c.loop-site-test.true in
    let items = ap length c.deref-site-items.ensures.value in
    omega arith

whole : goal.returns-clause-turns
whole c =
    let end = c.loop-site-test.false in
    let items = ap length c.deref-site-items.ensures.value in
    let done : drop c.loop-site.site-index c.args.plan.now.sites.items ≡ [] = drop_all c.loop-site.site-index c.args.plan.now.sites.items (omega arith) in
    sym (append-nil c.loop-site.turns.items)
    ∙ ap (λ l. c.loop-site.turns.items ++ text_order_from c.loop-site.number (own_commands l)) (sym done)
    ∙ c.loop-site.invariant.order ∙ sym (order_by_count 0 0 (own_commands c.args.plan.now.sites.items))

pub returns-clause-turns : goal.returns-clause-turns
returns-clause-turns c = whole c

pub returns-clause-legal : goal.returns-clause-legal
returns-clause-legal c = subst (IsLegal (program_of c.args.plan.now)) (sym (whole c)) (text_legal (program_of c.args.plan.now) c.requires)
