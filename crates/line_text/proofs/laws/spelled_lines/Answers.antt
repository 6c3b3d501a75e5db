use Rattle.line_text.proofs.SpellingLemmas.{found_again, words_again}
use Rattle.line_text.proofs.PlainLemmas.{number_again, number_exact}
use Rattle.line_text.proofs.laws.spelled_lines.Goals as goal

pub returns-clause-lines_again : goal.returns-clause-lines_again
returns-clause-lines_again c = found_again

pub returns-clause-words_again : goal.returns-clause-words_again
returns-clause-words_again c = words_again

pub returns-clause-number_again : goal.returns-clause-number_again
returns-clause-number_again c = number_again

pub returns-clause-number_exact : goal.returns-clause-number_exact
returns-clause-number_exact c = number_exact
