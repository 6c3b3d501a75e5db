use Rattle.std.proofs.Common.{rules}
use Rattle.fusion_rules.proofs.NameLemmas.{name_utf8, utf8_ok}
use Rattle.fusion_rules.proofs.name.small_name.Goals as goal

pub returns-in_err-text : goal.returns-in_err-text
returns-in_err-text c = absurd (utf8_ok c.from_utf8.result _ _ _ c.from_utf8.ensures.cases (name_utf8 c.args.word.now (search rules)) c.in_err-text.ensures.variant)
