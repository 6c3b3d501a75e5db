use Rattle.std.proofs.Common.{◌≡◌, ◌<◌, ap, length, List, ℕ, arith}
use Rattle.amp_store.proofs.EditLemmas.{entries_put}
use Rattle.amp_store.proofs.tests.put.Goals as goal

pub returns : goal.returns
returns c =
    let long : length c.key.result.items ≡ 2 = ap (λ (k : List ℕ). length k) c.key.ensures in
    rw c.in_ok-put.ensures.ok
    (entries_put c.key.result.items c.in_ok-value.value (λ (e : List ℕ × _). 1 < length e.0) c.args.amps.now
    (omega (arith, long)) (λ k same. let as_long : length c.key.result.items ≡ length k = ap (λ (k : List ℕ). length k) same in omega (arith, long, as_long)) c.requires)
