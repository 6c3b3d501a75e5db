-- Lists whose codes rise.
use Rattle.std.proofs.Common.{◌≡◌, ℕ, zero, suc, ◌+◌, ◌*◌, ◌≤◌, List, [], ◌∷◌, ◌++◌, Bool, true, false, map, filter, arith, if◌then◌else◌}
use Rattle.std.specs.List.{flat_map}
use Rattle.symbol_table.specs.Index.{v_index}
use Rattle.symbol_table.specs.declared.index.FIndex.{FIndex}
use Rattle.symbol_table.specs.declared.index.VIndex.{VIndex}
use Rattle.category_text.specs.Canonical.{counting, vertices, sixes, behind}

-- codes that rise from k on and stay below m
abbrev pub Rises : {A : Type 0} → (A → ℕ) → ℕ → ℕ → List A → Type 0
Rises code k m [] = k ≤ m
Rises code k m (x ∷ xs) = (k ≤ code x) × Rises code (code x + 1) m xs

rises_from : {A : Type 0} (code : A → ℕ) (j k m : ℕ) (xs : List A) → Rises code k m xs → j ≤ k → Rises code j m xs
rises_from code j k m [] s le = omega arith
rises_from code j k m (x ∷ xs) s le = (let low = s.0 in omega arith, s.1)

rises_to : {A : Type 0} (code : A → ℕ) (k m o : ℕ) (xs : List A) → Rises code k m xs → m ≤ o → Rises code k o xs
rises_to code k m o [] s le = omega arith
rises_to code k m o (x ∷ xs) s le = (s.0, rises_to code (code x + 1) m o xs s.1 le)

pub rises_within : {A : Type 0} (code : A → ℕ) (j k m o : ℕ) (xs : List A) → Rises code k m xs → j ≤ k → m ≤ o → Rises code j o xs
rises_within code j k m o xs s low high = rises_to code j m o xs (rises_from code j k m xs s low) high

pub rises_append : {A : Type 0} (code : A → ℕ) (k m o : ℕ) (xs ys : List A) → Rises code k m xs → Rises code m o ys → Rises code k o (xs ++ ys)
rises_append code k m o [] ys s r = rises_from code k m o ys r s
rises_append code k m o (x ∷ xs) ys s r = (s.0, rises_append code (code x + 1) m o xs ys s.1 r)

pub rises_filter : {A : Type 0} (code : A → ℕ) (p : A → Bool) (k m : ℕ) (xs : List A) → Rises code k m xs → Rises code k m (filter p xs)
rises_filter code p k m [] s = s
rises_filter code p k m (x ∷ xs) s = go (p x) (rises_filter code p (code x + 1) m xs s.1)
  where
    go : (b : Bool) → Rises code (code x + 1) m (filter p xs) → Rises code k m (if b then x ∷ filter p xs else filter p xs)
    go true later = (s.0, later)
    go false later = rises_from code k (code x + 1) m (filter p xs) later (let low = s.0 in omega arith)

pub rises_map : {A B : Type 0} (of : A → ℕ) (code : B → ℕ) (g : A → B) (base : ℕ) → ((x : A) → code (g x) ≡ base + of x) → (k m : ℕ) (xs : List A) → Rises of k m xs → Rises code (base + k) (base + m) (map g xs)
rises_map of code g base is k m [] s = omega arith
rises_map of code g base is k m (x ∷ xs) s =
    let e = is x in (
      let low = s.0 in omega arith,
      rises_from code (code (g x) + 1) (base + (of x + 1)) (base + m) (map g xs) (rises_map of code g base is (of x + 1) m xs s.1) (omega arith),
    )

-- lists one behind the other, each between the starts of its code and of the next
pub rises_flat : {A B : Type 0} (of : A → ℕ) (code : B → ℕ) (start : ℕ → ℕ) → ((i j : ℕ) → i ≤ j → start i ≤ start j) → (f : A → List B) → ((x : A) → Rises code (start (of x)) (start (of x + 1)) (f x))
    → (k m : ℕ) (xs : List A) → Rises of k m xs → Rises code (start k) (start m) (flat_map f xs)
rises_flat of code start mono f each k m [] s = mono k m s
rises_flat of code start mono f each k m (x ∷ xs) s =
    rises_append code (start k) (start (of x + 1)) (start m) (f x) (flat_map f xs)
    (rises_from code (start k) (start (of x)) (start (of x + 1)) (f x) (each x) (mono k (of x) s.0))
    (rises_flat of code start mono f each (of x + 1) m xs s.1)

-- Labels below sixteen, as digits.
abbrev pub itself : ℕ → ℕ
itself c = c

abbrev pub v_code : VIndex → ℕ
v_code t = t.a * 256 + t.b * 16 + t.c

abbrev pub f_code : FIndex → ℕ
f_code t = t.a * 1048576 + t.b * 65536 + t.c * 4096 + t.d * 256 + t.e * 16 + t.f

pub rises_counting : (from k : ℕ) → Rises itself from (from + k) (counting from k)
rises_counting from zero = omega arith
rises_counting from (suc k) = (omega arith, rises_to itself (from + 1) (from + 1 + k) (from + suc k) (counting (from + 1) k) (rises_counting (from + 1) k) (omega arith))

abbrev pub v_row : ℕ → ℕ → ℕ → List VIndex
v_row n a b = map (λ (c : ℕ). v_index a b c) (counting 0 n)

abbrev pub v_plane : ℕ → ℕ → List VIndex
v_plane n a = flat_map (λ (b : ℕ). v_row n a b) (counting 0 n)

row_rises : (n a b : ℕ) → n ≤ 16 → Rises v_code (a * 256 + b * 16) (a * 256 + (b + 1) * 16) (v_row n a b)
row_rises n a b few =
    rises_within v_code (a * 256 + b * 16) (a * 256 + b * 16 + 0) (a * 256 + b * 16 + (0 + n)) (a * 256 + (b + 1) * 16) (v_row n a b)
    (rises_map itself v_code (λ (c : ℕ). v_index a b c) (a * 256 + b * 16) (λ c. refl_sum a b c) 0 (0 + n) (counting 0 n) (rises_counting 0 n)) (omega arith) (omega arith)
  where
    refl_sum : (a b c : ℕ) → v_code (v_index a b c) ≡ a * 256 + b * 16 + c
    refl_sum a b c = omega arith

plane_rises : (n a : ℕ) → n ≤ 16 → Rises v_code (a * 256) ((a + 1) * 256) (v_plane n a)
plane_rises n a few =
    rises_within v_code (a * 256) (a * 256 + 0 * 16) (a * 256 + (0 + n) * 16) ((a + 1) * 256) (v_plane n a)
    (rises_flat itself v_code (λ b. a * 256 + b * 16) (λ i j le. omega arith) (λ (b : ℕ). v_row n a b) (λ b. row_rises n a b few) 0 (0 + n) (counting 0 n) (rises_counting 0 n)) (omega arith) (omega arith)

pub vertices_rise : (n : ℕ) → n ≤ 16 → Rises v_code 0 (n * 256) (vertices n)
vertices_rise n few =
    rises_within v_code 0 (0 * 256) ((0 + n) * 256) (n * 256) (vertices n)
    (rises_flat itself v_code (λ a. a * 256) (λ i j le. omega arith) (λ (a : ℕ). v_plane n a) (λ a. plane_rises n a few) 0 (0 + n) (counting 0 n) (rises_counting 0 n)) (omega arith) (omega arith)

behind_rises : (n : ℕ) (x : VIndex) → n ≤ 16 → Rises f_code (v_code x * 4096) ((v_code x + 1) * 4096) (map (behind x) (vertices n))
behind_rises n x few =
    rises_within f_code (v_code x * 4096) (v_code x * 4096 + 0) (v_code x * 4096 + n * 256) ((v_code x + 1) * 4096) (map (behind x) (vertices n))
    (rises_map v_code f_code (behind x) (v_code x * 4096) (λ y. digits x y) 0 (n * 256) (vertices n) (vertices_rise n few)) (omega arith) (omega arith)
  where
    digits : (x y : VIndex) → f_code (behind x y) ≡ v_code x * 4096 + v_code y
    digits x y = omega arith

pub sixes_rise : (n : ℕ) → n ≤ 16 → Rises f_code 0 (n * 1048576) (sixes n)
sixes_rise n few =
    rises_within f_code 0 (0 * 4096) (n * 256 * 4096) (n * 1048576) (sixes n)
    (rises_flat v_code f_code (λ i. i * 4096) (λ i j le. omega arith) (λ (x : VIndex). map (behind x) (vertices n)) (λ x. behind_rises n x few) 0 (n * 256) (vertices n) (vertices_rise n few)) (omega arith) (omega arith)
