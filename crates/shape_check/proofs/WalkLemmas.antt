-- A walk over the indices of a law.
use Rattle.std.proofs.Common.{◌≡◌, ◌≢◌, ℕ, zero, suc, ◌+◌, ◌-◌, ◌<◌, ◌≤◌, Bool, true, false, List, [], ◌∷◌, ◌++◌, length, drop, take, get_or, length-append, Option, None, refl, sym, ap, ◌∙◌, arith, append_assoc, append-nil, true≢false}
use Rattle.std.specs.Prelude.{◌&&◌, All}
use Rattle.std.specs.Option.{option_or}
use Rattle.std.proofs.lemmas.List.{at_drop_more, at_drop_all, get_or_append_left}
use Rattle.std.proofs.Math.Seq.{take-append_seam}
use Rattle.std.proofs.lemmas.List.Elements.{All-append, All-cons, All-nil}
use Rattle.std.proofs.lemmas.Bool.Decides.{nat_tests}
use Rattle.fusion_rules.specs.First.{first_from, first_below}
use Rattle.symbol_table.specs.Laws.{form_of, fuse_all, fuses_at}
use Rattle.symbol_table.specs.declared.law.Event.{Event}
use Rattle.symbol_table.specs.declared.law.Law.{Law}
use Rattle.symbol_table.specs.declared.law.Kind.{Kind}
use Rattle.symbol_table.specs.declared.law.Triple.{Triple}
use Rattle.law_events.specs.First.{all_within, event_at, event_of, first_over, within}
use Rattle.law_events.proofs.Left.{first_more, law_within, next, none_over}
use Rattle.shape_check.specs.declared.ShapeFault.{ShapeFault}
use Rattle.shape_check.specs.declared.ShapeFault.TheVariants as fault
use Rattle.shape_check.specs.Answers.{IsFault}
use Rattle.shape_check.specs.Walk.{Settles, Stops}

within_is : (n : ℕ) (t : Triple) → within n t ≡ true → (t.a < n) × (t.b < n) × (t.c < n)
within_is n t h = grind (arith, nat_tests)

-- labels that follow change nothing at a triple within
same_within : (fuse : ℕ → ℕ → ℕ → Bool) (index rest : List ℕ) (t : Triple) → within (length index) t ≡ true → fuses_at fuse (index ++ rest) t ≡ fuses_at fuse index t
same_within fuse index rest t h =
    let w = within_is (length index) t h in
    rw (get_or_append_left index rest 0 t.a w.0, get_or_append_left index rest 0 t.b w.1, get_or_append_left index rest 0 t.c w.2) refl

-- one triple more is settled
pub settled_more : (fuse : ℕ → ℕ → ℕ → Bool) (index : List ℕ) (ts : List Triple) (d : Triple) (from k : ℕ) → k < length ts → within (length index) (get_or ts k d) ≡ true
    → fuses_at fuse index (get_or ts k d) ≡ true → Settles fuse index ts from k → Settles fuse index ts from (k + 1)
settled_more fuse index ts d from k in' inside fuses h = λ rest.
    let here : fuses_at fuse (index ++ rest) (get_or ts k d) ≡ true = same_within fuse index rest (get_or ts k d) inside ∙ fuses in
    let step : fuse_all fuse (index ++ rest) (drop k ts) ≡ fuse_all fuse (index ++ rest) (drop (k + 1) ts) = at_drop_more (fuse_all fuse (index ++ rest)) ts k d in' ∙ rw here refl in
    sym step ∙ h rest

-- or it stops all
pub stopped_here : (fuse : ℕ → ℕ → ℕ → Bool) (index : List ℕ) (ts : List Triple) (d : Triple) (from k : ℕ) → k < length ts → within (length index) (get_or ts k d) ≡ true
    → fuses_at fuse index (get_or ts k d) ≡ false → Settles fuse index ts from k → Stops fuse index ts from
stopped_here fuse index ts d from k in' inside fuses h = λ rest.
    let here : fuses_at fuse (index ++ rest) (get_or ts k d) ≡ false = same_within fuse index rest (get_or ts k d) inside ∙ fuses in
    let step : fuse_all fuse (index ++ rest) (drop k ts) ≡ false = at_drop_more (fuse_all fuse (index ++ rest)) ts k d in' ∙ rw here refl in
    sym (h rest) ∙ step

both_true : (a b : Bool) → (a && b) ≡ true → (a ≡ true) × (b ≡ true)
both_true true true h = (refl, refl)
both_true true false h = absurd (true≢false (sym h))
both_true false b h = absurd (true≢false (sym h))

-- where all triples lie within, each does
each_within : (n : ℕ) (ts : List Triple) (d : Triple) (k : ℕ) → all_within n ts ≡ true → k < length ts → within n (get_or ts k d) ≡ true
each_within n [] d k all in' = absurd (omega arith)
each_within n (t ∷ ts) d zero all in' = (both_true (within n t) (all_within n ts) all).0
each_within n (t ∷ ts) d (suc k) all in' = each_within n ts d k (both_true (within n t) (all_within n ts) all).1 (omega arith)

-- so where one doesn't, not all do
pub not_all_within : (n : ℕ) (ts : List Triple) (d : Triple) (k : ℕ) → k < length ts → within n (get_or ts k d) ≡ false → all_within n ts ≡ true → length ts ≤ k
not_all_within n ts d k in' outside all = absurd (true≢false (sym (each_within n ts d k all in') ∙ outside))

-- what is settled stays so with labels that follow, and what is settled further on is settled
pub settles_with : (fuse : ℕ → ℕ → ℕ → Bool) (index : List ℕ) (t : ℕ) (ts : List Triple) (from to : ℕ) → Settles fuse index ts from to → Settles fuse (index ++ t ∷ []) ts from to
settles_with fuse index t ts from to h = λ rest.
    let same : (index ++ t ∷ []) ++ rest ≡ index ++ (t ∷ rest) = append_assoc index (t ∷ []) rest in
    rw same (h (t ∷ rest))

pub settles_on : (fuse : ℕ → ℕ → ℕ → Bool) (index : List ℕ) (ts : List Triple) (one two three : ℕ) → Settles fuse index ts one two → Settles fuse index ts two three → Settles fuse index ts one three
settles_on fuse index ts one two three g h = λ rest. h rest ∙ g rest

-- at the end of the triples nothing is left to settle
pub settles_end : (fuse : ℕ → ℕ → ℕ → Bool) (index : List ℕ) (ts : List Triple) (from k : ℕ) → length ts ≤ k → Settles fuse index ts from k → Settles fuse index ts from (length ts)
settles_end fuse index ts from k end h = λ rest.
    at_drop_all (fuse_all fuse (index ++ rest)) ts (length ts) (omega arith) ∙ (sym (at_drop_all (fuse_all fuse (index ++ rest)) ts k end) ∙ h rest)

-- labels that are stopped go on to no event
pub none_further : (n : ℕ) (fuse : ℕ → ℕ → ℕ → Bool) (law : Law) (verdict : List ℕ → Option Kind) (more : ℕ) (index : List ℕ) (from : ℕ)
    → Settles fuse index (form_of law).triples 0 from → Stops fuse index (form_of law).triples from → first_over n (event_at fuse law verdict) more index ≡ None
none_further n fuse law verdict more index from settled stops =
    none_over n (event_at fuse law verdict) more index
    (λ rest.
    let not : fuse_all fuse (index ++ rest) (form_of law).triples ≡ false = sym (settled rest) ∙ stops rest in
    rw not refl)

-- a whole index that goes on is admissible
pub whole_event : (fuse : ℕ → ℕ → ℕ → Bool) (law : Law) (verdict : List ℕ → Option Kind) (index : List ℕ) (to : ℕ) → length index ≡ (form_of law).places
    → (all_within (length index) (form_of law).triples ≡ true → length (form_of law).triples ≤ to) → Settles fuse index (form_of law).triples 0 to
    → event_of law index (verdict index) ≡ event_at fuse law verdict index
whole_event fuse law verdict index to long all settled =
    let inside : all_within (length index) (form_of law).triples ≡ true = ap (λ n. all_within n (form_of law).triples) long ∙ law_within law in
    let end : fuse_all fuse (index ++ []) (drop to (form_of law).triples) ≡ true = at_drop_all (fuse_all fuse (index ++ [])) (form_of law).triples to (all inside) in
    let admissible : fuse_all fuse index (form_of law).triples ≡ true = ap (λ (i : List ℕ). fuse_all fuse i (form_of law).triples) (sym (append-nil index)) ∙ (sym (settled []) ∙ end) in
    rw admissible refl

-- a fault with a label is the first over all that are left
pub fault_here : (n : ℕ) (wrong : List ℕ → Option Event) (more : ℕ) (index : List ℕ) (t : ℕ) (found : ShapeFault) → t < n → more ≢ 0
    → first_from (λ s. first_over n wrong (more - 1) (index ++ s ∷ [])) t (n - t) ≡ first_below n (λ s. first_over n wrong (more - 1) (index ++ s ∷ []))
    → IsFault found (first_over n wrong (more - 1) (index ++ t ∷ [])) → IsFault found (first_over n wrong more index)
fault_here n wrong more index t (fault.Law event) h some left told =
    let each = λ (s : ℕ). first_over n wrong (more - 1) (index ++ s ∷ []) in
    let rest = first_from each (t + 1) (n - (t + 1)) in
    first_more n wrong more index some ∙ (sym left ∙ (next each t n h ∙ ap (λ o. option_or o rest) told))
fault_here n wrong more index t fault.Memory h some left told = tt

-- where nothing is wrong with a label, the first is over those behind it
pub none_here : (n : ℕ) (wrong : List ℕ → Option Event) (more : ℕ) (index : List ℕ) (t : ℕ) → t < n
    → first_from (λ s. first_over n wrong (more - 1) (index ++ s ∷ [])) t (n - t) ≡ first_below n (λ s. first_over n wrong (more - 1) (index ++ s ∷ []))
    → first_over n wrong (more - 1) (index ++ t ∷ []) ≡ None
    → first_from (λ s. first_over n wrong (more - 1) (index ++ s ∷ [])) (t + 1) (n - (t + 1)) ≡ first_below n (λ s. first_over n wrong (more - 1) (index ++ s ∷ []))
none_here n wrong more index t h left none =
    let each = λ (s : ℕ). first_over n wrong (more - 1) (index ++ s ∷ []) in
    let rest = first_from each (t + 1) (n - (t + 1)) in
    sym (ap (λ o. option_or o rest) none) ∙ (sym (next each t n h) ∙ left)

-- one label more behind labels
pub labels_with : (n : ℕ) (index : List ℕ) (t : ℕ) → All (λ s. s < n) index → t < n → All (λ s. s < n) (index ++ t ∷ [])
labels_with n index t labels label = All-append (λ s. s < n) index (t ∷ []) labels (All-cons (λ s. s < n) t [] label (All-nil (λ s. s < n)))

-- and taken away again
pub popped : (index : List ℕ) (t : ℕ) → take (length (index ++ t ∷ []) - 1) (index ++ t ∷ []) ≡ index
popped index t =
    let n : length (index ++ t ∷ []) - 1 ≡ length index = simp length-append (omega arith) in
    ap (λ k. take k (index ++ t ∷ [])) n ∙ take-append_seam index (t ∷ [])
