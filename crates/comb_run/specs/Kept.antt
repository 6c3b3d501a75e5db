-- Kernels of one operator that are kept by their six labels.
use Rattle.std.specs.Prelude.{◌≡◌, ℕ, List, [], ◌∷◌, Option, Some, None, IsTrue}
use Rattle.std.specs.Str.{bytes_eq}
use Rattle.std.specs.Map.{lookup}
use Rattle.arrayvec.specs.ArrayVec.{ArrayVec}
use Rattle.ring_laws.specs.Ring.{Ring}
use Rattle.comb_run.specs.Evaluated.{KernelAt}
use Rattle.comb_run.specs.declared.kernel.Place.{Place}

-- the six labels of a place
abbrev pub labels_of : Place → List ℕ
labels_of at = at.p ∷ at.a ∷ at.b ∷ at.y ∷ at.t ∷ at.u ∷ []

-- what is kept at these labels
abbrev pub kept_at : {E : Type 0} → List (ArrayVec ℕ × E) → List ℕ → Option E
kept_at es labels = lookup (λ key. bytes_eq labels key.items) es

-- what a kernel gives at six labels
abbrev pub given_at : {E : Type 0} → KernelAt E → List ℕ → Option E
given_at kernel (p ∷ a ∷ b ∷ y ∷ t ∷ u ∷ []) = kernel p a b y t u
given_at kernel labels = None

-- Every kept value is what the kernel gives at its six labels, and a member of the ring.
pub record AreKept {E : Type 0} (r : Ring E) (kernel : KernelAt E) (es : List (ArrayVec ℕ × E)) : Type 0 where
  pub values : (labels : List ℕ) (v : E) → kept_at es labels ≡ Some v → given_at kernel labels ≡ Some v
  pub members : (labels : List ℕ) (v : E) → kept_at es labels ≡ Some v → IsTrue (r.member v)
