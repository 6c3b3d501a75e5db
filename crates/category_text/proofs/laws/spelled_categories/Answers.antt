use Rattle.category_text.proofs.BackLemmas.{text_again}
use Rattle.category_text.proofs.laws.spelled_categories.Goals as goal

pub returns : goal.returns
returns c = record { spelled_again = text_again }
