-- The program of a number is well formed.
use Rattle.std.proofs.Common.{◌≡◌, ℕ, zero, suc, ◌+◌, ◌%◌, ◌<◌, ◌≤◌, List, [], ◌∷◌, ◌++◌, Bool, true, false, ◌&&◌, ◌==◌, map, refl, ap, ap₂, sym, subst, ◌∙◌, arith, inl, codes, if◌then◌else◌}
use Rattle.std.specs.Prelude.{nat_lt}
use Rattle.std.specs.List.{AllByRecursion}
use Rattle.std.proofs.lemmas.Bool.Decides.{nat_tests}
use Rattle.std.proofs.Math.Nat.{mod-add-mod, mod-eq_of_lt, mod-lt}
use Rattle.fusion_rules.specs.Fusion.{are_labels}
use Rattle.fusion_rules.specs.Names.{is_name}
use Rattle.category_text.specs.Canonical.{counting}
use Rattle.tree_shapes.specs.Labelled.{is_admissible, label, leaves, size}
use Rattle.program_text.specs.declared.plan.Sign.TheVariants.{Plus, Minus}
use Rattle.program_text.specs.declared.plan.Command.{Command}
use Rattle.program_text.specs.declared.plan.Command.TheVariants.{Braid, Raise, Measure, BraidWhen}
use Rattle.program_text.specs.Form.{labels_below}
use Rattle.program_text.specs.Letters.{gap_in}
use Rattle.program_text.specs.Program.{ProgramOutcome}
use Rattle.program_text.specs.WellFormed.{AreTold, IsAdmittedStart, IsProgram, IsSite, IsTold}
use Rattle.category_maker.specs.declared.commands.TheConstants.{COMMANDS}
use Rattle.category_maker.specs.MadeCategory.{group_fuses}
use Rattle.category_maker.specs.MadeProgram.{comb, command_at, commands_from, made_program, made_site, strands_sum}
use Rattle.category_maker.proofs.RoundLemmas.{commands_few, size-comb}

lt_test : (a b : ℕ) → a < b → nat_lt a b ≡ true
lt_test a b h = grind (arith, nat_tests)

-- The start.
module _ (n : ℕ) (some : 0 < n) where
  sum_more : (k : ℕ) → strands_sum n (k + 2) ≡ strands_sum n (k + 1) + (k + 2) % n
  sum_more k = let next : k + 2 ≡ suc (k + 1) = omega arith in let last : (k + 1) + 1 ≡ k + 2 = omega arith in ap (strands_sum n) next ∙ ap (λ m. strands_sum n (k + 1) + m % n) last

  top_label : (k : ℕ) → label (comb n k) ≡ strands_sum n (k + 1) % n
  top_label zero =
      let small : 1 % n < n = mod-lt 1 some in
      let one : 0 + 1 % n ≡ 1 % n = omega arith in
      sym (ap (λ m. m % n) one ∙ mod-eq_of_lt small)
  top_label (suc k) = let next : k + 2 ≡ suc k + 1 = omega arith in ap (λ m. strands_sum n m % n) next

  sums : (k : ℕ) → strands_sum n (k + 2) % n ≡ (label (comb n k) + (k + 2) % n) % n
  sums k =
      ap (λ m. m % n) (sum_more k)
      ∙ sym (mod-add-mod (strands_sum n (k + 1)) n ((k + 2) % n))
      ∙ ap (λ m. (m + (k + 2) % n) % n) (sym (top_label k))

  sum_fuses : (a b c t : ℕ) → a < n → b < n → c < n → c ≡ t → (are_labels n a b c && c == t) ≡ true
  sum_fuses a b c t ha hb hc e = grind (arith, nat_tests)

  admissible : (k : ℕ) → is_admissible (group_fuses n) (comb n k) ≡ true
  admissible zero = refl
  admissible (suc k) =
      let left : label (comb n k) < n = subst (λ m. m < n) (sym (top_label k)) (mod-lt (strands_sum n (k + 1)) some) in
      ap₂ (λ x y. x && (y && true))
      (sum_fuses (label (comb n k)) ((k + 2) % n) (strands_sum n (k + 2) % n) ((label (comb n k) + (k + 2) % n) % n) left (mod-lt (k + 2) some) (mod-lt (strands_sum n (k + 2)) some) (sums k))
      (admissible k)

  below : (k : ℕ) → labels_below n (comb n k) ≡ true
  below zero = lt_test (1 % n) n (mod-lt 1 some)
  below (suc k) =
      ap₂ (λ x y. x && y) (lt_test (strands_sum n (k + 2) % n) n (mod-lt (strands_sum n (k + 2)) some))
      (ap₂ (λ x y. x && y) (below k) (lt_test ((k + 2) % n) n (mod-lt (k + 2) some)))

  start : (k : ℕ) → 1 ≤ k → k ≤ 15 → IsAdmittedStart (group_fuses n) n (comb n k)
  start k low high =
      let strands = size-comb n k in record {
        some = omega arith;
        few = omega arith;
        labels = below k;
        admissible = admissible k;
      }

-- The commands.
by_tests : (P : Command → Type 0) (gap : ℕ) → P (Braid gap Plus) → P (Raise gap) → P (Braid gap Minus) → P (Measure gap) → (a b c : Bool) → P (if a then Braid gap Plus else (if b then Raise gap else (if c then Braid gap Minus else Measure gap)))
by_tests P gap p q r s true b c = p
by_tests P gap p q r s false true c = q
by_tests P gap p q r s false false true = r
by_tests P gap p q r s false false false = s

abbrev pub IsUntested : Command → Type 0
IsUntested (Braid gap sign) = Unit {0}
IsUntested (Raise gap) = Unit {0}
IsUntested (Measure gap) = Unit {0}
IsUntested (BraidWhen gap sign place label) = ⊥

-- at a gap of eight strands from the first on, without a test
abbrev IsPlain : ℕ → Command → Type 0
IsPlain first command = (first ≤ gap_in command) × (gap_in command < first + 7) × IsUntested command

plain_at : (first j : ℕ) → IsPlain first (command_at first j)
plain_at first j =
    let small : j % 7 < 7 = mod-lt j (omega arith) in
    let low : first ≤ first + j % 7 = omega arith in
    let high : first + j % 7 < first + 7 = omega arith in
    by_tests (IsPlain first) (first + j % 7) (low, high, tt) (low, high, tt) (low, high, tt) (low, high, tt) (j % 4 == 0) (j % 4 == 1) (j % 4 == 2)

all_plain : (first from count : ℕ) → AllByRecursion (IsPlain first) (map (command_at first) (counting from count))
all_plain first from zero = tt
all_plain first from (suc count) = (plain_at first from, all_plain first (from + 1) count)

pub commands_plain : (first count : ℕ) → AllByRecursion (IsPlain first) (commands_from first count)
unfolding commands_from
commands_plain first count = all_plain first 0 count

pub all_with : {A : Type 0} (P Q : A → Type 0) → ((x : A) → P x → Q x) → (xs : List A) → AllByRecursion P xs → AllByRecursion Q xs
all_with P Q f [] all = tt
all_with P Q f (x ∷ xs) all = (f x all.0, all_with P Q f xs all.1)

all_append : {A : Type 0} (P : A → Type 0) (xs ys : List A) → AllByRecursion P xs → AllByRecursion P ys → AllByRecursion P (xs ++ ys)
all_append P [] ys p q = q
all_append P (x ∷ xs) ys p q = (p.0, all_append P xs ys p.1 q)

pub untested : (first count : ℕ) → AllByRecursion IsUntested (commands_from first count)
untested first count = all_with (IsPlain first) IsUntested (λ c is. is.2) (commands_from first count) (commands_plain first count)

module _ (version count : ℕ) (outcomes : List ProgramOutcome) (strands : List ℕ) where
  told : (before : List Command) (c : Command) → IsUntested c → IsTold version count outcomes strands before c
  told before (Braid gap sign) is = tt
  told before (Raise gap) is = tt
  told before (Measure gap) is = tt
  told before (BraidWhen gap sign place label) is = absurd is

  all_told : (before cs : List Command) → AllByRecursion IsUntested cs → AreTold version count outcomes strands before cs
  all_told before [] all = tt
  all_told before (c ∷ cs) all = (told before c all.0, all_told (before ++ c ∷ []) cs all.1)

site_is : (strands first : ℕ) (name : List ℕ) → is_name name ≡ true → 1 ≤ first → first + 7 ≤ strands → IsSite strands (made_site name first)
site_is strands first name spelled some inside = record {
  name = spelled;
  some = some;
  order = omega arith;
  inside = inside;
  gaps = all_with (IsPlain first) (λ c. (first ≤ gap_in c) × (gap_in c < first + 7)) (λ c is. (is.0, is.1)) (commands_from first COMMANDS) (commands_plain first COMMANDS);
}

pub made_well_formed : (n : ℕ) → 0 < n → IsProgram (group_fuses n) n (made_program n)
made_well_formed n some =
    let strands = size-comb n 15 in record {
      version = inl refl;
      start = start n some 15 (omega arith) (omega arith);
      some = omega arith;
      sites = (site_is (size (comb n 15)) 1 (codes "A") refl (omega arith) (omega arith), refl, (site_is (size (comb n 15)) 9 (codes "B") refl (omega arith) (omega arith), refl, tt));
      few = commands_few n;
      outcomes = tt;
      tests = all_told 1 n [] (leaves (comb n 15)) [] (commands_from 1 COMMANDS ++ (commands_from 9 COMMANDS ++ [])) (all_append IsUntested (commands_from 1 COMMANDS) (commands_from 9 COMMANDS ++ []) (untested 1 COMMANDS) (all_append IsUntested (commands_from 9 COMMANDS) [] (untested 9 COMMANDS) tt));
      first_version = λ e. refl;
    }
