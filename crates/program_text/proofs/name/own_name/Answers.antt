use Rattle.std.proofs.Common.{sym, ap}
use Rattle.std.specs.Result.{is_ok}
use Rattle.fusion_rules.proofs.NameLemmas.{name_utf8, utf8_ok}
use Rattle.program_text.proofs.name.own_name.Goals as goal

pub unreachable-requires : goal.unreachable-requires
unreachable-requires c = utf8_ok c.from_utf8.result _ _ _ c.from_utf8.ensures.cases (name_utf8 c.args.word.now c.requires) (sym (ap is_ok c.in-Err.is))
