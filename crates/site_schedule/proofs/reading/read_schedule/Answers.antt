use Rattle.std.proofs.Common.{arith}
use Rattle.std.proofs.lemmas.List.{length-map}
use Rattle.program_text.specs.Program.{program_of, site_of}
use Rattle.site_schedule.proofs.LegalLemmas.{told_legal}
use Rattle.site_schedule.proofs.SiteLemmas.{few_sites}
use Rattle.site_schedule.proofs.reading.read_schedule.Goals as goal

pub read_text-requires-clause-sites : goal.read_text-requires-clause-sites
read_text-requires-clause-sites c =
    let few = few_sites (program_of c.args.plan.now) c.requires.well_formed in
    let same = length-map c.args.plan.now.sites.items site_of in
    omega (arith, few, same)

pub returns-clause-legal : goal.returns-clause-legal
returns-clause-legal c = told_legal (program_of c.args.plan.now) c.args.bytes.now c.read_text.result c.read_text.ensures
