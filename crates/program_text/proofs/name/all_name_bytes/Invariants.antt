use Rattle.std.proofs.Common.{◌≡◌, drop}
use Rattle.fusion_rules.specs.Names.{all_name_bytes}
use Rattle.program_text.proofs.name.all_name_bytes.Given as goal

abbrev pub invariant-loop-byte : goal.invariant-loop-byte
invariant-loop-byte l = all_name_bytes (drop l.byte-index l.word) ≡ all_name_bytes l.word
