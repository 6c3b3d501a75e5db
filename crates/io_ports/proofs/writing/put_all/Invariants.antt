use Rattle.std.proofs.Common.{◌≡◌, [], length, ◌-◌, ◌≤◌, take}
use Rattle.std.specs.Io.KnownBytes.{Appends}
use Rattle.io_ports.proofs.writing.put_all.Given as goal

abbrev pub invariant-loop-done : goal.invariant-loop-done
invariant-loop-done g l = record {
  within : l.done ≤ length l.bytes;
  so_far : Appends (g.W.Sink.taken l.fn.sink) (g.W.Sink.taken l.sink) (take l.done l.bytes);
  later : g.W.Sink.faults l.fn.sink ≤ g.W.Sink.faults l.sink;
  none : l.bytes ≡ [] → l.sink ≡ l.fn.sink;
}

abbrev pub decreases-loop-done : goal.decreases-loop-done
decreases-loop-done g l = length l.bytes - l.done
