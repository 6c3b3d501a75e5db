use Rattle.std.proofs.Common.{sym, ap, ◌∙◌}
use Rattle.fusion_rules.specs.Names.{label_of}
use Rattle.fusion_rules.specs.Held.{texts}
use Rattle.fusion_rules.proofs.NameLemmas.{not_among, label_text}
use Rattle.fusion_rules.proofs.names.Names.number.Goals as goal

pub returns-in_err-small : goal.returns-in_err-small
returns-in_err-small c =
    let none = not_among (texts c.self.inside.set.keys) c.args.name.now c.self.invariant.spelled c.in_err-small.ensures in
    c.from_residual.ensures ∙ sym none ∙ ap (λ l. label_of l c.args.name.now) c.self.view_is

pub returns-in_err-index : goal.returns-in_err-index
returns-in_err-index c =
    c.from_residual-in_err-index.ensures ∙ c.in_err-index.ensures.index ∙ label_text c.in_ok-small.small.bytes c.self.inside.set.keys
    ∙ ap (λ q. label_of (texts c.self.inside.set.keys) q) c.in_ok-small.ensures.1 ∙ ap (λ l. label_of l c.args.name.now) c.self.view_is

pub returns : goal.returns
returns c =
    c.in_ok-index.ensures.index ∙ label_text c.in_ok-small.small.bytes c.self.inside.set.keys
    ∙ ap (λ q. label_of (texts c.self.inside.set.keys) q) c.in_ok-small.ensures.1 ∙ ap (λ l. label_of l c.args.name.now) c.self.view_is
