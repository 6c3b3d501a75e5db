-- Numbers of given numerators over a given denominator.
use Rattle.std.specs.Prelude.{Bool, ◌&&◌, nat_le, if◌then◌else◌, List, Result, Ok, Err, ℤ, pos, negsuc, neg_ℤ, unsigned_abs}
use Rattle.ring_laws.specs.Whole.{int_equal}
use Rattle.poly_core.specs.Table.{at, all_below}
use Rattle.cyclo_core.specs.Ratio.{Ratio, most, reduced}
use Rattle.cyclo_core.specs.declared.fault.NumberFault.{NumberFault}
use Rattle.cyclo_core.specs.declared.fault.NumberFault.TheVariants.{TooBig, ZeroDenominator}

-- whether all magnitudes are at most 2^127 - 1
unfoldable pub are_small : List ℤ → ℤ → Bool
are_small numerators denominator = all_below 16 (λ j. nat_le (unsigned_abs (at numerators j)) most) && nat_le (unsigned_abs denominator) most

-- x, or its negative where the denominator is negative
abbrev pub signed_by : ℤ → ℤ → ℤ
signed_by (pos d) x = x
signed_by (negsuc d) x = neg_ℤ x

-- the number of sixteen numerators over a denominator, or why there is none
unfoldable pub number_of : List ℤ → ℤ → Result Ratio NumberFault
number_of numerators denominator =
    if are_small numerators denominator then (if int_equal denominator (pos 0) then Err ZeroDenominator else Ok (reduced (λ j. signed_by denominator (at numerators j)) (unsigned_abs denominator))) else Err TooBig
