-- Kernels that are kept: what a map has at six labels, and one more kernel.
use Rattle.std.proofs.Common.{◌≡◌, ℕ, Bool, true, false, List, Some, cond, refl, ap, sym, ◌∙◌}
use mathlib.Core.Path.{fun_ext}
use Rattle.std.specs.Prelude.{if◌then◌else◌, IsTrue}
use Rattle.std.specs.Str.{bytes_eq}
use Rattle.std.specs.Map.{lookup}
use Rattle.std.specs.BTreeMap.{is_at}
use Rattle.std.specs.Ordering.{nat_cmp, is_eq}
use Rattle.std.specs.Cmp.Lexicographic.{slice_cmp}
use Rattle.std.proofs.lemmas.Map.Text.{is_eq-slice_cmp}
use Rattle.arrayvec.specs.ArrayVec.{ArrayVec}
use Rattle.ring_laws.specs.Ring.{Ring}
use Rattle.comb_laws.proofs.PathFacts.{same_path}
use Rattle.comb_run.specs.Evaluated.{KernelAt}
use Rattle.comb_run.specs.Kept.{kept_at, given_at, AreKept}

-- a look-up in the map is what is kept
pub kept_is : {E : Type 0} (es : List (ArrayVec ℕ × E)) (x : List ℕ) → lookup (is_at (λ (k : ArrayVec ℕ). slice_cmp nat_cmp x k.items)) es ≡ kept_at es x
kept_is es x = ap (λ test. lookup test es) (fun_ext (λ (k : ArrayVec ℕ). is_eq-slice_cmp x k.items))

-- a map with one more value
pub kept_put : {E : Type 0} (new old : List (ArrayVec ℕ × E)) (l x : List ℕ) (v : E)
    → lookup (is_at (λ (k : ArrayVec ℕ). slice_cmp nat_cmp x k.items)) new ≡ cond (is_eq (slice_cmp nat_cmp l x)) (Some v) (lookup (is_at (λ (k : ArrayVec ℕ). slice_cmp nat_cmp x k.items)) old)
    → kept_at new x ≡ (if bytes_eq l x then Some v else kept_at old x)
kept_put new old l x v h = sym (kept_is new x) ∙ (h ∙ (λ j. cond (is_eq-slice_cmp l x j) (Some v) (kept_is old x j)))

-- the fact is kept with one more kernel
pub kept_more : {E : Type 0} (r : Ring E) (kernel : KernelAt E) (new old : List (ArrayVec ℕ × E)) (l : List ℕ) (v : E)
    → ((x : List ℕ) → kept_at new x ≡ (if bytes_eq l x then Some v else kept_at old x))
    → given_at kernel l ≡ Some v → IsTrue (r.member v) → AreKept r kernel old → AreKept r kernel new
kept_more {E} r kernel new old l v made gives is before = record {
  values = λ x w there. one x w (bytes_eq l x) refl (sym (made x) ∙ there);
  members = λ x w there. two x w (bytes_eq l x) refl (sym (made x) ∙ there);
}
  where
    one : (x : List ℕ) (w : E) (b : Bool) → bytes_eq l x ≡ b → (if b then Some v else kept_at old x) ≡ Some w → given_at kernel x ≡ Some w
    one x w true same e = ap (given_at kernel) (sym (same_path l x same)) ∙ (gives ∙ e)
    one x w false other e = before.values x w e

    two : (x : List ℕ) (w : E) (b : Bool) → bytes_eq l x ≡ b → (if b then Some v else kept_at old x) ≡ Some w → IsTrue (r.member w)
    two x w true same e = let here : v ≡ w = cc in ap r.member (sym here) ∙ is
    two x w false other e = before.members x w e
