use Rattle.anyon_app.specs.Comb.{comb_work}
use Rattle.anyon_app.specs.Run.{run_by_work, run_work}
use Rattle.anyon_app.proofs.RunLemmas.{alike, comb_reports, run_by_reports, run_reports}
use Rattle.anyon_app.proofs.laws.run_replies.Goals as goal

pub returns-clause-run : goal.returns-clause-run
returns-clause-run c = run_reports

pub returns-clause-run_by : goal.returns-clause-run_by
returns-clause-run_by c = run_by_reports

pub returns-clause-comb : goal.returns-clause-comb
returns-clause-comb c = comb_reports

pub returns-clause-schedules : goal.returns-clause-schedules
returns-clause-schedules c first second =
    alike (λ category program. run_by_work category program first) (λ category program. run_by_work category program second) (run_by_reports first) (run_by_reports second)

pub returns-clause-text : goal.returns-clause-text
returns-clause-text c schedule = alike run_work (λ category program. run_by_work category program schedule) run_reports (run_by_reports schedule)

pub returns-clause-engines : goal.returns-clause-engines
returns-clause-engines c = alike run_work comb_work run_reports comb_reports
