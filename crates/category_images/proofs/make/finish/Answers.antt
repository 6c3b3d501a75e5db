use Rattle.category_images.proofs.MadeLemmas.{is_made, made_holds, made_lawful}
use Rattle.category_images.proofs.make.finish.Goals as goal

pub seal-requires-clause-lawful : goal.seal-requires-clause-lawful
seal-requires-clause-lawful g c =
    let lawful = c.is_lawful.ensures in
    made_lawful (g.P.Pattern.number c.args.pattern.now) (g.P.Pattern.wanted c.args.pattern.now) c.args.made c.requires.filled.of (g.P.Pattern.stated c.args.pattern.now) c.requires.filled lawful.marks lawful.ring lawful.held lawful.category

pub seal-requires-clause-holds : goal.seal-requires-clause-holds
seal-requires-clause-holds g c =
    let lawful = c.is_lawful.ensures in
    made_holds (g.P.Pattern.number c.args.pattern.now) (g.P.Pattern.wanted c.args.pattern.now) c.args.made c.requires.filled.of (g.P.Pattern.stated c.args.pattern.now) c.requires.filled lawful.marks lawful.ring lawful.held lawful.category

pub returns : goal.returns
returns g c =
    let lawful = c.is_lawful.ensures in
    rw c.seal.ensures
    (is_made (g.P.Pattern.number c.args.pattern.now) (g.P.Pattern.wanted c.args.pattern.now) c.args.made c.requires.filled.of (g.P.Pattern.stated c.args.pattern.now) c.requires.filled lawful.marks lawful.ring lawful.held lawful.category)
