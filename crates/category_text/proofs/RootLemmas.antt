-- No root above the limit is accepted.
use Rattle.std.proofs.Common.{◌≡◌, ℕ, ◌<◌, Bool, true, false, ◌&&◌, ltb, refl, arith}
use Rattle.std.specs.Prelude.{nat_le}
use Rattle.std.proofs.lemmas.Bool.Decides.{nat_tests}
use Rattle.poly_core.specs.Rho.{is_accepted}
use Rattle.poly_core.specs.declared.limits.TheConstants.{ROOT_LIMIT}

pub large_root : (n : ℕ) → ROOT_LIMIT < n → is_accepted n ≡ false
unfolding is_accepted
large_root n large =
    let small : nat_le n ROOT_LIMIT ≡ false = grind (arith, nat_tests) in
    rw small (by_test (ltb 0 n))
  where
    by_test : (b : Bool) → (b && false) ≡ false
    by_test true = refl
    by_test false = refl
