use Rattle.std.proofs.Common.{◌≡◌, drop}
use Rattle.io_ports.specs.Memory.{contents_of, files_of}
use Rattle.io_ports.proofs.memory.text_of.Given as goal

abbrev pub invariant-loop-key : goal.invariant-loop-key
invariant-loop-key l = files_of (contents_of (drop l.key-index l.files)) l.name ≡ files_of (contents_of l.files) l.name
