-- A part stands for the comb projection.
use Rattle.std.proofs.Common.{◌≡◌, ℕ, ◌-◌, ◌<◌, Bool, true, false, List, [], ◌∷◌, Option, Some, None, unwrap_or, length, refl, ap, sym, ◌∙◌, arith, slice_index}
use mathlib.Core.Path.{fun_ext}
use Rattle.std.specs.Prelude.{if◌then◌else◌, ◌==◌, IsTrue}
use Rattle.std.specs.List.{filter}
use Rattle.std.specs.Str.{bytes_eq}
use Rattle.std.proofs.lemmas.Slice.Eq.{bytes_eq-Decides}
use Rattle.ring_laws.specs.Ring.{RingLaws}
use Rattle.ring_laws.proofs.SumLemmas as S
use Rattle.symbol_table.specs.AllLabels.{IsProper, HasEquations, mark}
use Rattle.symbol_table.specs.Symbols.{Symbols}
use Rattle.tree_shapes.specs.Contexts.{place}
use Rattle.tree_shapes.specs.Outlines.{size}
use Rattle.comb_laws.specs.Operators.{charge_kernel, projected}
use Rattle.comb_laws.specs.declared.operator.Operator.TheVariants.{Project}
use Rattle.comb_laws.specs.Paths.{Path, is_path}
use Rattle.tree_laws.specs.Entries.{listed, values}
use Rattle.tree_laws.specs.Operators as T
use Rattle.tree_laws.specs.Trees.{stands_for}
use Rattle.tree_laws.proofs.Keys.{Key}
use Rattle.tree_laws.proofs.Pairs.{split_is}
use Rattle.path_laws.proofs.ActLemmas.{acted_by_place, after_is, kernel_off}
use Rattle.amp_store.specs.Amplitudes.{AreAmplitudes, amplitude_at}
use Rattle.amp_store.proofs.CopyLemmas.{amplitudes_part}
use Rattle.recouple.specs.Raises.{AreOver}
use Rattle.recouple.specs.States.{State, IsStateOf, comb}
use Rattle.recouple.proofs.CombLemmas.{value_is}
use Rattle.recouple.proofs.RotationLemmas.{listed_get}
use Rattle.recouple.proofs.EntryLemmas.{comb_stands}
use Rattle.recouple.proofs.PairLemmas.{IsPair}
use Rattle.recouple.proofs.ValueLemmas.{amplitude_member}
use Rattle.charge_project.specs.Splits.{part_at}

-- an amplitude of a part
pub part_amplitude : {E : Type 0} (es : List (List ℕ × E)) (g q : ℕ) (key : List ℕ) → amplitude_at (filter (λ e. slice_index e.0 g == q) es) key ≡ (if slice_index key g == q then amplitude_at es key else None)
part_amplitude {E} [] g q key = nothing (slice_index key g == q)
  where
    nothing : (b : Bool) → ◌≡◌ {A = Option E} None (if b then None else None)
    nothing true = refl
    nothing false = refl
part_amplitude {E} (e ∷ es) g q key = pick (slice_index e.0 g == q) (bytes_eq key e.0) refl refl (part_amplitude es g q key)
  where
    pick : (d b : Bool) → (slice_index e.0 g == q) ≡ d → bytes_eq key e.0 ≡ b → amplitude_at (filter (λ f. slice_index f.0 g == q) es) key ≡ (if slice_index key g == q then amplitude_at es key else None)
        → amplitude_at (if d then e ∷ filter (λ f. slice_index f.0 g == q) es else filter (λ f. slice_index f.0 g == q) es) key
        ≡ (if slice_index key g == q then (if bytes_eq key e.0 then Some e.1 else amplitude_at es key) else None)
    pick true true test is rest =
        let same : key ≡ e.0 = (bytes_eq-Decides key e.0).0 is in
        let here : (slice_index key g == q) ≡ true = ap (λ x. slice_index x g == q) same ∙ test in
        rw (is, here) refl
    pick true false test is rest = rw is rest
    pick false true test is rest =
        let same : key ≡ e.0 = (bytes_eq-Decides key e.0).0 is in
        let here : (slice_index key g == q) ≡ false = ap (λ x. slice_index x g == q) same ∙ test in
        rest ∙ rw (is, here) refl
    pick false false test is rest = rw is rest

pub in_part : {E : Type 0} (es : List (List ℕ × E)) (g q : ℕ) (key : List ℕ) (v : E) → amplitude_at (filter (λ e. slice_index e.0 g == q) es) key ≡ Some v → amplitude_at es key ≡ Some v
in_part {E} es g q key v e = pick (slice_index key g == q) (sym (part_amplitude es g q key) ∙ e)
  where
    pick : (b : Bool) → (if b then amplitude_at es key else None) ≡ Some v → amplitude_at es key ≡ Some v
    pick true h = h
    pick false h = absurd (cc)

module _ {E : Type 0} (c : Symbols E) (laws : RingLaws c.ring c.held) (proper : IsProper c) (equations : HasEquations c) (s : State E) (is : IsStateOf c s) (order : AreAmplitudes c.held s.amps) (k : ℕ) (low : 0 < k) (high : k < size s.shape)
    (at : IsPair s.shape k) (q : ℕ) where
  abbrev o : E → E → E
  o = c.ring.product

  abbrev st : ℕ → ℕ
  st = slice_index s.strands

  abbrev part : List (List ℕ × E)
  part = State.amps (part_at k s q)

  from_part : (key : List ℕ) (v : E) → amplitude_at part key ≡ Some v → amplitude_at s.amps key ≡ Some v
  from_part key v e = in_part s.amps (k - 1) q key v e

  part_over : AreOver c.ring c.count (length s.strands) part
  part_over = record { members = λ key v e. is.over.members key v (from_part key v e); keys = λ key v e. is.over.keys key v (from_part key v e) }

  -- a part is a state of the category
  pub part_of : IsStateOf c (part_at k s q)
  part_of = record { leaves = is.leaves; labels = is.labels; over = part_over; admissible = λ key v e. is.admissible key v (from_part key v e) }

  value_by : (b : Bool) (v : Option E) → IsTrue (c.ring.member (unwrap_or v c.ring.zero)) → unwrap_or (if b then v else None) c.ring.zero ≡ o (mark c b) (unwrap_or v c.ring.zero)
  value_by true v m = sym (laws.product_comm _ _ ∙ laws.product-one _ m)
  value_by false v m = sym (S.zero-product laws _)

  part_values : (key : Key) → values c.ring (size s.shape - 1) part key ≡ o (mark c (key k == q)) (values c.ring (size s.shape - 1) s.amps key)
  part_values key =
      let L = listed 1 (size s.shape - 1) key in
      let label : slice_index (listed 1 (size s.shape - 1) key) (k - 1) ≡ key k = listed_get (size s.shape - 1) key k low (omega arith) in
      value_is c.ring part L
      ∙ (ap (λ v. unwrap_or v c.ring.zero) (part_amplitude s.amps (k - 1) q L)
      ∙ (value_by (slice_index L (k - 1) == q) (amplitude_at s.amps L) (amplitude_member laws c.count (length s.strands) s.amps is.over L)
      ∙ (λ j. o (mark c (label j == q)) (sym (value_is c.ring s.amps L) j))))

  abbrev old : (ℕ → ℕ) → E
  old = values c.ring (size s.shape - 1) s.amps

  -- on paths a part stands for the comb projection by place, which the comb projection is
  project_at : (x : Path) → is_path c s.strands x ≡ true → comb c (part_at k s q) x ≡ projected c s.strands k q (comb c s) x
  project_at x on =
      let i = place at.around 0 in
      let X = slice_index x in
      let short : k < length s.strands = omega (arith, is.leaves) in
      let part_order = amplitudes_part (λ (e : List ℕ × E). slice_index e.0 (k - 1) == q) c.held s.amps order in
      comb_stands c (part_at k s q) part_of part_order laws x on
      ∙ ((λ j. stands_for c s.shape st (λ key. part_values key j) X)
      ∙ ((λ j. stands_for c (at.is j) st (λ key. o (mark c (key (at.gap j) == q)) (old key)) X)
      ∙ (split_is c laws proper equations at.around st X old q
      ∙ ((λ j. T.projected c st i q (stands_for c (sym at.is j) st old) X)
      ∙ sym (acted_by_place c laws proper (charge_kernel c q) (kernel_off c laws proper (Project q)) s.strands s.strands i k at.gap short (after_is (Project q) s.strands i k at.gap short) (comb c s) (stands_for c s.shape st old)
      (λ y there. comb_stands c s is order laws y there) x on)))))

  -- a part stands for the comb projection on its label
  pub project_is : comb c (part_at k s q) ≡ projected c s.strands k q (comb c s)
  project_is = fun_ext (λ x. pick x (is_path c s.strands x) refl)
    where
      pick : (x : Path) (b : Bool) → is_path c s.strands x ≡ b → comb c (part_at k s q) x ≡ projected c s.strands k q (comb c s) x
      pick x true on = project_at x on
      pick x false off = rw off refl
