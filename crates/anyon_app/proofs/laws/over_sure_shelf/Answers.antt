use Rattle.std.proofs.Common.{inl, refl}
use Rattle.anyon_app.proofs.Reached.{is_there, no_rise}
use Rattle.anyon_app.proofs.laws.over_sure_shelf.Goals as goal

pub returns-clause-read : goal.returns-clause-read
returns-clause-read g c fault =
    let failed = c.anyon.ensures.unread fault in
    let there = is_there _ _ failed.name c.requires (failed.reached _ refl) in
    no_rise _ _ _ _ failed.name c.anyon.ensures.kept there failed.rose

pub returns-clause-answered : goal.returns-clause-answered
returns-clause-answered g c is = c.anyon.ensures.answered is _ (inl refl)

pub returns-clause-unwritten_reply : goal.returns-clause-unwritten_reply
returns-clause-unwritten_reply g c fault = c.anyon.ensures.unwritten_reply fault _ (inl refl)
