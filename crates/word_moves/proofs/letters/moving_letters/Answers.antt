use Rattle.std.proofs.Common.{◌∙◌, arith}
use Rattle.word_moves.proofs.LetterLemmas.{few_letters, own_commands, site_fits, site_letters}
use Rattle.word_moves.proofs.letters.moving_letters.Goals as goal

pub loop-site-preserved : goal.loop-site-preserved
loop-site-preserved c =
    let sites = c.args.plan.now.sites.items in
    let items = c.deref-site-items.result.now in
    let same = c.deref-site-items.ensures.value in
    let fits = (site_fits sites items c.loop-site.site-index c.loop-site.place c.site-item.result c.deref.result.now same c.loop-site-test.true c.site-item.is c.deref.ensures.value c.loop-site.invariant.few).1 in
    let place = c.in_ok-place.ensures.place in record {
      letters = site_letters sites items c.loop-site.site-index c.loop-site.place c.in_ok-place.place c.site-item.result c.deref.result.now c.loop-site.letters.items c.push_letters.new.letters.items
          same c.loop-site-test.true c.site-item.is c.deref.ensures.value place c.in_ok-place.ensures.letters
          ∙ c.loop-site.invariant.letters;
      few = omega (arith, fits, place);
    }

pub returns-clause-few : goal.returns-clause-few
returns-clause-few c = few_letters c.loop-site.letters.items _ (own_commands c.args.plan.now.sites.items) c.loop-site.invariant.letters c.requires
