use Rattle.std.proofs.Common.{sym}
use Rattle.comb_run.proofs.vector.value_at.Goals as goal

pub copy-requires : goal.copy-requires
copy-requires g c = record { member = c.requires.members c.args.path.now.items c.in-Some.value.now (sym c.in-Some.ensures) }

pub returns-in-Some-clause-member : goal.returns-in-Some-clause-member
returns-in-Some-clause-member g c = rw c.copy.ensures.value (c.requires.members c.args.path.now.items c.in-Some.value.now (sym c.in-Some.ensures))
