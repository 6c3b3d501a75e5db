use Rattle.anyon_app.proofs.LawLemmas.{accepted_is_lawful, lawful_is_accepted, format_settles, formatted_alike}
use Rattle.anyon_app.proofs.RunLemmas.{comb_lawful, run_by_lawful, run_lawful, trees_by_lawful, trees_lawful}
use Rattle.anyon_app.proofs.laws.category_replies.Goals as goal

pub returns-clause-accepted : goal.returns-clause-accepted
returns-clause-accepted c = accepted_is_lawful

pub returns-clause-complete : goal.returns-clause-complete
returns-clause-complete c = lawful_is_accepted c.canonical_texts.ensures.said

pub returns-clause-finished_comb : goal.returns-clause-finished_comb
returns-clause-finished_comb c = comb_lawful

pub returns-clause-finished_run : goal.returns-clause-finished_run
returns-clause-finished_run c = run_lawful

pub returns-clause-finished_run_by : goal.returns-clause-finished_run_by
returns-clause-finished_run_by c = run_by_lawful

pub returns-clause-finished_trees : goal.returns-clause-finished_trees
returns-clause-finished_trees c = trees_lawful

pub returns-clause-finished_trees_by : goal.returns-clause-finished_trees_by
returns-clause-finished_trees_by c = trees_by_lawful

pub returns-clause-settled : goal.returns-clause-settled
returns-clause-settled c = format_settles c.canonical_texts.ensures.texts_settled

pub returns-clause-alike : goal.returns-clause-alike
returns-clause-alike c = formatted_alike c.canonical_texts.ensures.texts_apart
