use Rattle.category_images.proofs.value.value_of.Goals as goal

pub returns-in-H-clause-value : goal.returns-in-H-clause-value
returns-in-H-clause-value c = rw c.in-H.is (rw c.turned.ensures at c.h.ensures.value)

pub returns-in-S-clause-value : goal.returns-in-S-clause-value
returns-in-S-clause-value c = rw c.in-S.is (rw c.three-in-S.ensures at c.s.ensures.value)
