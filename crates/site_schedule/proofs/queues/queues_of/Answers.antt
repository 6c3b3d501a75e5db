use Rattle.std.proofs.Common.{◌≡◌, ap, ◌∙◌, arith}
use Rattle.program_text.specs.Letters.{letters, measurements}
use Rattle.site_schedule.proofs.QueueLemmas.{queues_next, place_fits}
use Rattle.site_schedule.proofs.queues.queues_of.Goals as goal

pub overflow_add-place : goal.overflow_add-place
overflow_add-place c =
    let measured : c.count_measurements-place.result ≡ measurements c.site-item.result.commands.items = c.count_measurements-place.ensures ∙ ap measurements c.as_slice-left.ensures.value in
    let items = c.deref-site-items.ensures.value in
    let fits = place_fits c.args.plan.now.sites.items c.deref-site-items.result.now c.loop-site.site-index c.loop-site.place c.count_measurements-place.result c.site-item.result items c.loop-site-test.true c.site-item.is measured c.loop-site.invariant.few in
    omega (arith, fits)

pub loop-site-preserved : goal.loop-site-preserved
loop-site-preserved c =
    let measured : c.count_measurements-place.result ≡ measurements c.site-item.result.commands.items = c.count_measurements-place.ensures ∙ ap measurements c.as_slice-left.ensures.value in
    let items = c.deref-site-items.ensures.value in record {
      letters = queues_next c.args.plan.now.sites.items c.deref-site-items.result.now c.loop-site.site-index c.loop-site.place c.count_measurements-place.result c.site-item.result _ _ _ items c.loop-site-test.true c.site-item.is measured
          c.in_ok-push.ensures (ap (letters c.loop-site.place) c.as_slice-left.ensures.value) ∙ c.loop-site.invariant.letters;
      few = (let fits = place_fits c.args.plan.now.sites.items c.deref-site-items.result.now c.loop-site.site-index c.loop-site.place c.count_measurements-place.result c.site-item.result items c.loop-site-test.true c.site-item.is measured c.loop-site.invariant.few in omega (arith, fits));
    }
