use Rattle.std.proofs.Common.{◌∙◌, ap}
use Rattle.cyclo_core.specs.Ratio.{same_ratio}
use Rattle.category_text.proofs.WritingLemmas.{is_one_is}
use Rattle.category_text.proofs.writing.is_one.Goals as goal

pub returns : goal.returns
returns c = is_one_is c.same.result c.args.value.now c.one.result c.same.ensures.value ∙ ap (same_ratio c.args.value.now) c.one.ensures.value
