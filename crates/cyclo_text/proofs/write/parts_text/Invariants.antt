use Rattle.std.proofs.Common.{◌≡◌, take}
use Rattle.std.specs.Prelude.{map}
use Rattle.std.specs.Fmt.{signed_decimal}
use Rattle.std.specs.List.{join_with_byte}
use Rattle.cyclo_text.specs.NumberWords.{comma}
use Rattle.cyclo_text.proofs.write.parts_text.Given as goal

abbrev pub invariant-loop-j : goal.invariant-loop-j
invariant-loop-j l = l.text.items ≡ join_with_byte comma (map signed_decimal (take l.j l.number.numerators))
