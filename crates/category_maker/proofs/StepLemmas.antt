-- What stands on the way, label by label.
use Rattle.std.proofs.Common.{◌≡◌, ◌⊎◌, ℕ, ◌+◌, ◌*◌, ◌%◌, ◌<◌, ◌≤◌, List, [], Bool, true, false, ◌&&◌, ◌||◌, ◌==◌, refl, ap, ap₂, sym, ◌∙◌, arith, inl, inr, if◌then◌else◌, Option, Some, None}
use mathlib.Core.Path.{fun_ext}
use Rattle.std.specs.Prelude.{nat_lt, not}
use Rattle.cyclo_core.specs.Ratio.{Ratio}
use Rattle.symbol_table.specs.Draft.{DraftValue, SetsVertex, given, mark_at}
use Rattle.std.specs.Map.{lookup}
use Rattle.std.specs.BTreeMap.{is_at}
use Rattle.symbol_table.specs.declared.index.FIndex.{FIndex}
use Rattle.symbol_table.specs.declared.index.VIndex.{VIndex}
use Rattle.symbol_table.specs.Index.{f_cmp, f_index, v_cmp, v_index, v_same}
use Rattle.category_text.specs.Named.{NamedSymbols, named_draft}
use Rattle.std.proofs.lemmas.Bool.{cases_eq, cases_lt}
use Rattle.std.proofs.lemmas.Bool.Decides.{nat_tests}
use Rattle.std.proofs.Math.Nat.{mod-eq_of_lt, mod-lt}
use Rattle.fusion_rules.specs.Fusion.{Fusion, are_labels, fuses, is_triple, is_unit_triple, unit_fuses}
use Rattle.category_maker.specs.MadeCategory.{group_fuses, label_names, made_category, root_power}
use Rattle.category_maker.specs.Steps.{IsSetUpTo, fuses_up_to, is_before, r_up_to}

-- with the unit on the left or the right the sum is the other label
pub unit_sums : (n x y z : ℕ) → (x == 0 || y == 0) ≡ true → unit_fuses n x y z ≡ group_fuses n x y z
unit_sums n x y z unit =
    elim (cases_lt x n) [
      | inl hx ↦
          elim (cases_lt y n) [
            | inl hy ↦ inside hx hy
            | inr ge ↦ grind (arith, nat_tests)
          ]
      | inr ge ↦ grind (arith, nat_tests)
    ]
  where
    sums : x < n → y < n → x + y < n → (x + y) % n ≡ x + y
    sums hx hy h = mod-eq_of_lt h

    by_sum : (s : ℕ) → s ≡ x + y → (are_labels n x y z && is_unit_triple x y z) ≡ (are_labels n x y z && z == s)
    by_sum s e = grind (arith, nat_tests)

    inside : x < n → y < n → unit_fuses n x y z ≡ group_fuses n x y z
    inside hx hy = let small : x + y < n = grind (arith, nat_tests) in by_sum ((x + y) % n) (sums hx hy small)

-- where one of two labels is none, nothing fuses
pub none_outside : (n x y z : ℕ) → (nat_lt x n && nat_lt y n) ≡ false → unit_fuses n x y z ≡ group_fuses n x y z
none_outside n x y z out = grind (arith, nat_tests)

chosen : (b c : Bool) (p q : Bool) → (b ≡ c) ⊎ (p ≡ q) → (if b then p else q) ≡ (if c then p else q)
chosen b c p q (inl e) = ap (λ t. if t then p else q) e
chosen true true p q (inr e) = refl
chosen true false p q (inr e) = e
chosen false true p q (inr e) = sym e
chosen false false p q (inr e) = refl

-- two marks in the order of labels are one, where only unit triples and no labels stand between
pub marks_alike : (n a b a' b' x y z : ℕ) → ((is_before a b x y ≡ is_before a' b' x y) ⊎ ((x == 0 || y == 0) || not (nat_lt x n && nat_lt y n)) ≡ true) → fuses_up_to n a b x y z ≡ fuses_up_to n a' b' x y z
marks_alike n a b a' b' x y z (inl e) = ap (λ t. if t then group_fuses n x y z else unit_fuses n x y z) e
marks_alike n a b a' b' x y z (inr off) = chosen (is_before a b x y) (is_before a' b' x y) (group_fuses n x y z) (unit_fuses n x y z) (inr (sym (same (x == 0 || y == 0) refl)))
  where
    same : (t : Bool) → (x == 0 || y == 0) ≡ t → unit_fuses n x y z ≡ group_fuses n x y z
    same true e = unit_sums n x y z e
    same false e = none_outside n x y z (grind (arith, nat_tests))

-- one triple more
pub sum_added : (n a b x y z : ℕ) → 0 < a → 0 < b → a < n → b < n → (is_triple a b ((a + b) % n) x y z || fuses_up_to n a b x y z) ≡ fuses_up_to n a (b + 1) x y z
sum_added n a b x y z pa pb ha hb =
    elim (cases_eq x a) [
      | inl ex ↦
          elim (cases_eq y b) [
            | inl ey ↦ here ((x + y) % n) ((a + b) % n) (mod-lt (a + b) (omega arith)) (ap₂ (λ i j. (i + j) % n) ex ey) ex ey
            | inr ny ↦ there ((x + y) % n) ((a + b) % n) (inr ny)
          ]
      | inr nx ↦ there ((x + y) % n) ((a + b) % n) (inl nx)
    ]
  where
    here : (s t : ℕ) → t < n → s ≡ t → x ≡ a → y ≡ b
        → (is_triple a b t x y z || (if is_before a b x y then are_labels n x y z && z == s else unit_fuses n x y z)) ≡ (if is_before a (b + 1) x y then are_labels n x y z && z == s else unit_fuses n x y z)
    here s t lt e ex ey = grind (arith, nat_tests)

    there : (s t : ℕ) → ((x ≡ a → ⊥) ⊎ (y ≡ b → ⊥))
        → (is_triple a b t x y z || (if is_before a b x y then are_labels n x y z && z == s else unit_fuses n x y z)) ≡ (if is_before a (b + 1) x y then are_labels n x y z && z == s else unit_fuses n x y z)
    there s t (inl nx) = grind (arith, nat_tests)
    there s t (inr ny) = grind (arith, nat_tests)

pick : {A : Type 0} (t u w : Bool) (v p : A) → w ≡ (t || u) → (t ≡ true → v ≡ p) → (if t then Some v else (if u then Some p else None)) ≡ (if w then Some p else None)
pick true u w v p e same = ap Some (same refl) ∙ ap (λ b. if b then Some p else None) (sym e)
pick false u w v p e same = ap (λ b. if b then Some p else None) (sym e)

-- one value more
r_more : (n a b x y z : ℕ) → a < n → b < n
    → (if v_same (v_index a b ((a + b) % n)) (v_index x y z) then Some (root_power n ((a * b) % n)) else r_up_to n a b x y z) ≡ r_up_to n a (b + 1) x y z
r_more n a b x y z ha hb =
    pick (v_same (v_index a b ((a + b) % n)) (v_index x y z)) (is_before a b x y && group_fuses n x y z) (is_before a (b + 1) x y && group_fuses n x y z) (root_power n ((a * b) % n)) (root_power n ((x * y) % n))
    (elim (cases_eq x a) [
      | inl ex ↦
          elim (cases_eq y b) [
            | inl ey ↦ here ((x + y) % n) ((a + b) % n) (mod-lt (a + b) (omega arith)) (ap₂ (λ i j. (i + j) % n) ex ey) ex ey
            | inr ny ↦ there ((x + y) % n) ((a + b) % n) (inr ny)
          ]
      | inr nx ↦ there ((x + y) % n) ((a + b) % n) (inl nx)
    ])
    (λ e. let ex : a ≡ x = grind (arith, nat_tests) in let ey : b ≡ y = grind (arith, nat_tests) in ap₂ (λ i j. root_power n ((i * j) % n)) ex ey)
  where
    here : (s t : ℕ) → t < n → s ≡ t → x ≡ a → y ≡ b
        → (is_before a (b + 1) x y && (are_labels n x y z && z == s)) ≡ (v_same (v_index a b t) (v_index x y z) || (is_before a b x y && (are_labels n x y z && z == s)))
    here s t lt e ex ey = grind (arith, nat_tests)

    there : (s t : ℕ) → ((x ≡ a → ⊥) ⊎ (y ≡ b → ⊥))
        → (is_before a (b + 1) x y && (are_labels n x y z && z == s)) ≡ (v_same (v_index a b t) (v_index x y z) || (is_before a b x y && (are_labels n x y z && z == s)))
    there s t (inl nx) = grind (arith, nat_tests)
    there s t (inr ny) = grind (arith, nat_tests)

pub power_set : (n a b : ℕ) (old new : DraftValue ℕ Ratio) (value : Ratio) (entries : List (VIndex × Ratio)) → a < n → b < n → IsSetUpTo n a b old → value ≡ root_power n ((a * b) % n)
    → new ≡ record old { set_r = entries } → SetsVertex (v_index a b ((a + b) % n)) value (given old).set_r (given new).set_r → IsSetUpTo n a (b + 1) new
power_set n a b old new value entries ha hb before is e sets = record {
  version = ap (λ d. d.version) e ∙ before.version;
  ring = ap (λ d. d.ring) e ∙ before.ring;
  count = ap (λ d. d.rules.count) e ∙ before.count;
  fuse = λ x y z. ap (λ d. fuses d.rules x y z) e ∙ before.fuse x y z;
  f = ap (λ d. d.set_f) e ∙ before.f;
  r = λ x y z.
      sets x y z
      ∙ ap₂ (λ v o. if v_same (v_index a b ((a + b) % n)) (v_index x y z) then Some v else o) is (before.r x y z)
      ∙ r_more n a b x y z ha hb;
  w = ap (λ d. d.set_w) e ∙ before.w;
  v = ap (λ d. d.set_v) e ∙ before.v;
  twist = ap (λ d. d.set_twist) e ∙ before.twist;
  loop_value = ap (λ d. d.set_loop) e ∙ before.loop_value;
}

-- the values of all second labels are set, or of all labels
same_r : (n a b a' b' x y z : ℕ) → (is_before a b x y && group_fuses n x y z) ≡ (is_before a' b' x y && group_fuses n x y z) → r_up_to n a b x y z ≡ r_up_to n a' b' x y z
same_r n a b a' b' x y z e = ap (λ t. if t then Some (root_power n ((x * y) % n)) else None) e

pub row_set : (n a b : ℕ) (draft : DraftValue ℕ Ratio) → n ≤ b → IsSetUpTo n a b draft → IsSetUpTo n (a + 1) 0 draft
row_set n a b draft end s = record {
  version = s.version;
  ring = s.ring;
  count = s.count;
  fuse = s.fuse;
  f = s.f;
  r = λ x y z. s.r x y z ∙ same_r n a b (a + 1) 0 x y z (alike x y z ((x + y) % n));
  w = s.w;
  v = s.v;
  twist = s.twist;
  loop_value = s.loop_value;
}
  where
    inside : (x y : ℕ) → y < n → is_before a b x y ≡ is_before (a + 1) 0 x y
    inside x y below = grind (arith, nat_tests)

    outside : (x y z t : ℕ) → n ≤ y → (are_labels n x y z && z == t) ≡ false
    outside x y z t above = grind (arith, nat_tests)

    none : (p q g : Bool) → g ≡ false → (p && g) ≡ (q && g)
    none p q g e = grind (arith, nat_tests)

    alike : (x y z t : ℕ) → (is_before a b x y && (are_labels n x y z && z == t)) ≡ (is_before (a + 1) 0 x y && (are_labels n x y z && z == t))
    alike x y z t =
        elim (cases_lt y n) [
          | inl below ↦ ap (λ p. p && (are_labels n x y z && z == t)) (inside x y below)
          | inr above ↦ none _ _ _ (outside x y z t above)
        ]

-- nothing is set yet
pub none_set : (n : ℕ) (rules : Fusion) → rules.count ≡ n → ((x y z : ℕ) → fuses rules x y z ≡ group_fuses n x y z)
    → IsSetUpTo n 0 0 (record { version = 1; ring = n; rules = rules; set_f = []; set_r = []; set_w = []; set_v = []; set_twist = []; set_loop = [] })
none_set n rules count fuse = record {
  version = refl;
  ring = refl;
  count = count;
  fuse = fuse;
  f = refl;
  r = λ x y z. sym (ap (λ t. if t && group_fuses n x y z then Some (root_power n ((x * y) % n)) else None) (none x y));
  w = refl;
  v = refl;
  twist = refl;
  loop_value = refl;
}
  where
    none : (x y : ℕ) → is_before 0 0 x y ≡ false
    none x y = grind (arith, nat_tests)

-- the draft with all values is what the category gives
pub named_is : (n : ℕ) (names : List (List ℕ)) (draft : DraftValue ℕ Ratio) → names ≡ label_names n → IsSetUpTo n n 0 draft → named_draft names draft ≡ made_category n
named_is n names draft en s =
    ap (λ r. record (named_draft names draft) { root = r }) s.ring
    ∙ ap (λ ns. named ns draft.version draft.rules.count (fuses draft.rules) draft.set_f (given draft).set_r draft.set_w draft.set_v draft.set_twist draft.set_loop) en
    ∙ ap (λ v. named (label_names n) v draft.rules.count (fuses draft.rules) draft.set_f (given draft).set_r draft.set_w draft.set_v draft.set_twist draft.set_loop) s.version
    ∙ ap (λ k. named (label_names n) 1 k (fuses draft.rules) draft.set_f (given draft).set_r draft.set_w draft.set_v draft.set_twist draft.set_loop) s.count
    ∙ ap (λ f. named (label_names n) 1 n f draft.set_f (given draft).set_r draft.set_w draft.set_v draft.set_twist draft.set_loop) (fun_ext (λ x. fun_ext (λ y. fun_ext (λ z. s.fuse x y z))))
    ∙ ap (λ f. named (label_names n) 1 n (group_fuses n) f (given draft).set_r draft.set_w draft.set_v draft.set_twist draft.set_loop) s.f
    ∙ ap (λ r. named (label_names n) 1 n (group_fuses n) [] r draft.set_w draft.set_v draft.set_twist draft.set_loop) (fun_ext (λ x. fun_ext (λ y. fun_ext (λ z. s.r x y z ∙ all_set x y z ((x + y) % n)))))
    ∙ ap (λ w. named (label_names n) 1 n (group_fuses n) [] (made_category n).given.set_r w draft.set_v draft.set_twist draft.set_loop) s.w
    ∙ ap (λ v. named (label_names n) 1 n (group_fuses n) [] (made_category n).given.set_r [] v draft.set_twist draft.set_loop) s.v
    ∙ ap (λ t. named (label_names n) 1 n (group_fuses n) [] (made_category n).given.set_r [] [] t draft.set_loop) s.twist
    ∙ ap (λ t. named (label_names n) 1 n (group_fuses n) [] (made_category n).given.set_r [] [] [] t) s.loop_value
  where
    named : List (List ℕ) → ℕ → ℕ → (ℕ → ℕ → ℕ → Bool) → List (FIndex × Ratio) → (ℕ → ℕ → ℕ → Option Ratio) → List (VIndex × Ratio) → List (VIndex × Ratio) → List (ℕ × Ratio) → List (ℕ × Ratio) → NamedSymbols
    named ns v k fuse f r w vs twists loops = record {
      root = n;
      names = ns;
      given = record {
        version = v;
        count = k;
        fuse = fuse;
        set_f = λ a b c d e i. lookup (is_at (f_cmp (f_index a b c d e i))) f;
        set_r = r;
        set_w = λ a b c. lookup (is_at (v_cmp (v_index a b c))) w;
        set_v = λ a b c. lookup (is_at (v_cmp (v_index a b c))) vs;
        set_twist = mark_at twists;
        set_loop = mark_at loops;
      };
    }

    before_end : (x y z t : ℕ) → (is_before n 0 x y && (are_labels n x y z && z == t)) ≡ (are_labels n x y z && z == t)
    before_end x y z t =
        elim (cases_lt x n) [
          | inl below ↦ ap (λ p. p && (are_labels n x y z && z == t)) (inside x y below)
          | inr above ↦ none (is_before n 0 x y) (are_labels n x y z && z == t) (outside x y z t above)
        ]
      where
        inside : (x y : ℕ) → x < n → is_before n 0 x y ≡ true
        inside x y below = grind (arith, nat_tests)

        outside : (x y z t : ℕ) → n ≤ x → (are_labels n x y z && z == t) ≡ false
        outside x y z t above = grind (arith, nat_tests)

        none : (p g : Bool) → g ≡ false → (p && g) ≡ g
        none p g e = grind (arith, nat_tests)

    all_set : (x y z t : ℕ) → (if is_before n 0 x y && (are_labels n x y z && z == t) then Some (root_power n ((x * y) % n)) else None) ≡ (if are_labels n x y z && z == t then Some (root_power n ((x * y) % n)) else None)
    all_set x y z t = ap (λ b. if b then Some (root_power n ((x * y) % n)) else None) (before_end x y z t)

-- All triples of a first label are there; none but those of the unit; all.
pub row_added : (n a b x y z : ℕ) → n ≤ b → fuses_up_to n a b x y z ≡ fuses_up_to n (a + 1) 1 x y z
row_added n a b x y z end = marks_alike n a b (a + 1) 1 x y z (by_second (cases_lt y n))
  where
    inside : 0 < y → y < n → is_before a b x y ≡ is_before (a + 1) 1 x y
    inside some below = grind (arith, nat_tests)

    unit : y ≡ 0 → ((x == 0 || y == 0) || not (nat_lt x n && nat_lt y n)) ≡ true
    unit e = grind (arith, nat_tests)

    outside : n ≤ y → ((x == 0 || y == 0) || not (nat_lt x n && nat_lt y n)) ≡ true
    outside above = grind (arith, nat_tests)

    by_first : y < n → (y ≡ 0) ⊎ (y ≡ 0 → ⊥) → (is_before a b x y ≡ is_before (a + 1) 1 x y) ⊎ (((x == 0 || y == 0) || not (nat_lt x n && nat_lt y n)) ≡ true)
    by_first below (inl e) = inr (unit e)
    by_first below (inr ne) = inl (inside (omega arith) below)

    by_second : (y < n) ⊎ (n ≤ y) → (is_before a b x y ≡ is_before (a + 1) 1 x y) ⊎ (((x == 0 || y == 0) || not (nat_lt x n && nat_lt y n)) ≡ true)
    by_second (inl below) = by_first below (cases_eq y 0)
    by_second (inr above) = inr (outside above)

pub none_added : (n x y z : ℕ) → unit_fuses n x y z ≡ fuses_up_to n 1 1 x y z
none_added n x y z = by_mark (is_before 1 1 x y) refl
  where
    unit : is_before 1 1 x y ≡ true → (x == 0 || y == 0) ≡ true
    unit e = grind (arith, nat_tests)

    by_mark : (t : Bool) → is_before 1 1 x y ≡ t → unit_fuses n x y z ≡ (if t then group_fuses n x y z else unit_fuses n x y z)
    by_mark true e = unit_sums n x y z (unit e)
    by_mark false e = refl

pub all_added : (n a x y z : ℕ) → n ≤ a → fuses_up_to n a 1 x y z ≡ group_fuses n x y z
all_added n a x y z end = by_mark (is_before a 1 x y) refl
  where
    outside : is_before a 1 x y ≡ false → (nat_lt x n && nat_lt y n) ≡ false
    outside e = grind (arith, nat_tests)

    by_mark : (t : Bool) → is_before a 1 x y ≡ t → (if t then group_fuses n x y z else unit_fuses n x y z) ≡ group_fuses n x y z
    by_mark true e = refl
    by_mark false e = none_outside n x y z (outside e)
