use Rattle.std.proofs.Common.{◌≡◌, ℕ, ◌+◌, ◌-◌, false, get_or, length}
use Rattle.site_schedule.proofs.marks.reach.Given as goal

abbrev pub invariant-loop-marks : goal.invariant-loop-marks
invariant-loop-marks l = (other : ℕ) → get_or l.marks.items other false ≡ get_or l.fn.marks.items other false

abbrev pub decreases-loop-marks : goal.decreases-loop-marks
decreases-loop-marks l = l.place + 1 - length l.marks.items
