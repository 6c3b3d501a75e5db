use Rattle.cyclo_core.specs.Image.{image_of as number_image}
use Rattle.cyclo_core.specs.Ratio.{held, ring_at}
use Rattle.category_images.specs.Answers.{symbols_of_root}
use Rattle.category_images.proofs.MarkLemmas.{draft_marks, image_marks}
use Rattle.category_images.proofs.image.ImagePattern.is_lawful.Goals as goal

pub returns-clause-category : goal.returns-clause-category
returns-clause-category c =
    let from = c.args.self.now.from.now in
    let k = c.args.self.now.k in
    let maps = rw (c.root.ensures.value, c.ring.ensures) at c.images.ensures.maps in
    let undone = rw (c.root.ensures.value, c.ring.ensures) at c.images.ensures.undone in
    let inverses = rw (c.root.ensures.value, c.ring.ensures) at c.images.ensures.inverses in
    let l = inverses k c.requires.valid in
    c.images-2.ensures.category (number_image from.ring k) (number_image from.ring l.0) (maps k c.requires.valid) (undone k l.0 c.requires.valid l.2)

pub returns-clause-marks : goal.returns-clause-marks
returns-clause-marks c =
    let from = c.args.self.now.from.now in
    let k = c.args.self.now.k in
    let maps = rw (c.root.ensures.value, c.ring.ensures) at c.images.ensures.maps in
    let over = rw c.draft.ensures.draft at c.version-version.ensures.members in
    image_marks (symbols_of_root from) (number_image from.ring k) (maps k c.requires.valid) (draft_marks (ring_at from.ring) held from over.versioned)
