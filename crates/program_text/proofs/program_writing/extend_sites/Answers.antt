use Rattle.std.proofs.Common.{◌++◌, ◌∷◌, length, map, ap, ◌∙◌, arith}
use Rattle.line_text.specs.Spelling.{spelled}
use Rattle.program_text.specs.declared.plan.Site.{Site}
use Rattle.program_text.specs.Letters.{measurements}
use Rattle.program_text.specs.Program.{outcome_of, site_of}
use Rattle.program_text.specs.Written.{lines_from, site_words}
use Rattle.program_text.proofs.WrittenLemmas.{site_fits, site_more, site_place_more}
use Rattle.program_text.proofs.program_writing.extend_sites.Goals as goal

pub extend_site-requires : goal.extend_site-requires
extend_site-requires c =
    let fits = site_fits c.args.sites.now c.site-item.result c.loop-site.site-index c.loop-site-test.true in
    let same = ap (λ (s : Site). length s.commands.items) c.site-item.is in
    omega (arith, c.loop-site.invariant.place, c.requires)

pub loop-site-preserved : goal.loop-site-preserved
loop-site-preserved c =
    let names = c.args.names.now in
    let outcomes = map outcome_of c.args.outcomes.now in
    let place = c.loop-site.place in
    let mid = c.loop-site.out.items in
    record {
      text = site_more names outcomes place c.args.sites.now c.site-item.result c.loop-site.site-index c.args.out.now.items mid c.extend_site.new.out.items c.loop-site-test.true c.loop-site.invariant.place c.loop-site.invariant.text
          (c.in_ok-place.ensures.text ∙ ap (λ (s : Site). mid ++ spelled (site_words (site_of s) ∷ lines_from names outcomes place s.commands.items)) c.site-item.is);
      place =
          let more = site_place_more c.args.sites.now c.site-item.result c.loop-site.site-index c.loop-site-test.true in
          let same = ap (λ (s : Site). measurements s.commands.items) c.site-item.is in
          omega (arith, c.in_ok-place.ensures.place, c.loop-site.invariant.place);
    }
