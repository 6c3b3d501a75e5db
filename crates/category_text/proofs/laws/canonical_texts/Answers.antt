use Rattle.category_text.proofs.KeepLemmas.{all_said}
use Rattle.category_text.proofs.TextLemmas.{all_read_again, all_settled, all_short, one_text, same_text, texts_again, texts_apart, texts_settled, texts_short}
use Rattle.category_text.proofs.laws.canonical_texts.Goals as goal

pub returns : goal.returns
returns c = record {
  read_again = all_read_again;
  short = all_short;
  one_text = one_text;
  same_text = same_text;
  settled = all_settled;
  said = all_said;
  texts_again = texts_again;
  texts_short = texts_short;
  texts_apart = texts_apart;
  texts_settled = texts_settled;
}
