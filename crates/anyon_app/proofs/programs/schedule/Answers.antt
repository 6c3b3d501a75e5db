use Rattle.std.proofs.Common.{◌∙◌, ap, subst, map, string_bytes}
use Rattle.program_text.specs.Program.{program_of}
use Rattle.program_text.specs.declared.plan.Site.{Site}
use Rattle.site_schedule.specs.Reading.{schedule_of}
use Rattle.anyon_app.specs.Refusals.{schedule_line}
use Rattle.anyon_app.specs.Stages.{StopsWith}
use Rattle.anyon_app.proofs.ScheduleLemmas.{schedule_stops, site_names}
use Rattle.anyon_app.proofs.programs.schedule.Goals as goal

pub returns-in-Err-clause-gives : goal.returns-in-Err-clause-gives
returns-in-Err-clause-gives c =
    let plan = program_of c.args.plan.now in
    let names = ap (map (λ (s : Site). string_bytes s.name)) c.deref.ensures.value ∙ site_names c.args.plan.now.sites.items in
    schedule_stops plan c.in-Err.fault c.schedule_line.result (schedule_of plan c.args.text.now) c.in-Err.ensures.schedule
    (subst (λ ns. StopsWith (schedule_line ns c.in-Err.fault) c.schedule_line.result) names c.schedule_line.ensures.line) c.schedule_line.ensures.memory
