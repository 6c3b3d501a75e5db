-- A value put at one index.
use Rattle.std.proofs.Common.{◌≡◌, ℕ, Bool, true, false, ◌==◌, List, Option, Some, None, refl, sym, ap, subst, ◌∙◌, true≢false, inl, inr, Result, Ok, Err}
use Rattle.std.specs.Prelude.{if◌then◌else◌, is_some, slice_index, OnOk, ◌⊎◌}
use Rattle.std.proofs.lemmas.Bool.{eqb-true, eq-eqb, and_parts}
use Rattle.ring_laws.proofs.StatedLemmas.{some_inj}
use Rattle.cyclo_core.specs.Ratio.{Ratio}
use Rattle.symbol_table.specs.Symbols.{Symbols}
use Rattle.symbol_table.specs.Index.{f_same, v_same}
use Rattle.symbol_table.specs.declared.index.FIndex.{FIndex}
use Rattle.symbol_table.specs.declared.index.VIndex.{VIndex}
use Rattle.symbol_table.specs.declared.draft.SetFault.{SetFault}
use Rattle.symbol_table.specs.declared.draft.SetFault.TheVariants as fault
use Rattle.symbol_table.specs.declared.draft.MarkFault.{MarkFault}
use Rattle.symbol_table.specs.declared.draft.MarkFault.TheVariants as mark
use Rattle.symbol_table.specs.Draft.{DraftValue, Marks, Sets, SetsF, SetsMark, SetsVertex, given, mark_fault, set_fault, with_f, with_loop, with_r, with_twist, with_v, with_w}
use Rattle.symbol_table.specs.Derived.{DerivedValue, PutsH, h_put, s_put, with_h, with_s}
use Rattle.category_images.specs.Places.{value_at}
use Rattle.category_images.specs.Making.{Puts, Stands, f_at, h_at, stood, v_at}
use Rattle.category_images.specs.declared.place.Symbol.{Symbol}
use Rattle.category_images.specs.declared.place.Symbol.TheVariants.{F, R, W, V, H, S, Twist, Loop}
use Rattle.category_images.specs.declared.making.Making.{Making}

same_six : (x y : FIndex) → f_same x y ≡ true → (x.a ≡ y.a) × (x.b ≡ y.b) × (x.c ≡ y.c) × (x.d ≡ y.d) × (x.e ≡ y.e) × (x.f ≡ y.f)
same_six x y is =
    let p = and_parts (x.a == y.a) _ is in
    let q = and_parts (x.b == y.b) _ p.1 in
    let r = and_parts (x.c == y.c) _ q.1 in
    let s = and_parts (x.d == y.d) _ r.1 in
    let t = and_parts (x.e == y.e) (x.f == y.f) s.1 in
    (eqb-true x.a y.a p.0, eqb-true x.b y.b q.0, eqb-true x.c y.c r.0, eqb-true x.d y.d s.0, eqb-true x.e y.e t.0, eqb-true x.f y.f t.1)

same_three : (x y : VIndex) → v_same x y ≡ true → (x.a ≡ y.a) × (x.b ≡ y.b) × (x.c ≡ y.c)
same_three x y is =
    let p = and_parts (x.a == y.a) _ is in
    let q = and_parts (x.b == y.b) (x.c == y.c) p.1 in
    (eqb-true x.a y.a p.0, eqb-true x.b y.b q.0, eqb-true x.c y.c q.1)

same_self : (a : ℕ) → (a == a) ≡ true
same_self a = eq-eqb a a refl

six_self : (x : FIndex) → f_same x x ≡ true
six_self x = rw (same_self x.a, same_self x.b, same_self x.c, same_self x.d, same_self x.e, same_self x.f) refl

three_self : (x : VIndex) → v_same x x ≡ true
three_self x = rw (same_self x.a, same_self x.b, same_self x.c) refl

-- two symbols at their indices are one
abbrev same : Symbol → List ℕ → Symbol → List ℕ → Bool
same F i F j = f_same (f_at i) (f_at j)
same R i R j = v_same (v_at i) (v_at j)
same W i W j = v_same (v_at i) (v_at j)
same V i V j = v_same (v_at i) (v_at j)
same H i H j = f_same (h_at i) (h_at j)
same S i S j = v_same (v_at i) (v_at j)
same Twist i Twist j = slice_index i 0 == slice_index j 0
same Loop i Loop j = slice_index i 0 == slice_index j 0
same s i t j = false

is_same : (s : Symbol) (i : List ℕ) → same s i s i ≡ true
is_same F i = six_self (f_at i)
is_same R i = three_self (v_at i)
is_same W i = three_self (v_at i)
is_same V i = three_self (v_at i)
is_same H i = six_self (h_at i)
is_same S i = three_self (v_at i)
is_same Twist i = same_self (slice_index i 0)
is_same Loop i = same_self (slice_index i 0)

six_value : {E : Type 0} (g : ℕ → ℕ → ℕ → ℕ → ℕ → ℕ → E) (x y : FIndex) → f_same x y ≡ true → g y.a y.b y.c y.d y.e y.f ≡ g x.a x.b x.c x.d x.e x.f
six_value g x y is = let l = same_six x y is in rw (l.0, l.1, l.2, l.3, l.4, l.5) refl

three_value : {E : Type 0} (g : ℕ → ℕ → ℕ → E) (x y : VIndex) → v_same x y ≡ true → g y.a y.b y.c ≡ g x.a x.b x.c
three_value g x y is = let l = same_three x y is in rw (l.0, l.1, l.2) refl

one_value : {E : Type 0} (g : ℕ → E) (x y : ℕ) → (x == y) ≡ true → g y ≡ g x
one_value g x y is = ap g (sym (eqb-true x y is))

-- and then they have one value
same_value : {E : Type 0} (w : Symbols E) (s : Symbol) (i : List ℕ) (t : Symbol) (j : List ℕ) → same s i t j ≡ true → value_at w t j ≡ value_at w s i
same_value w F i F j is = six_value w.f (f_at i) (f_at j) is
same_value w R i R j is = three_value w.r (v_at i) (v_at j) is
same_value w W i W j is = three_value w.w (v_at i) (v_at j) is
same_value w V i V j is = three_value w.v (v_at i) (v_at j) is
same_value w H i H j is = six_value (λ a b c d e f. w.h a b c d f e) (h_at i) (h_at j) is
same_value w S i S j is = three_value w.s (v_at i) (v_at j) is
same_value w Twist i Twist j is = one_value w.twist (slice_index i 0) (slice_index j 0) is
same_value w Loop i Loop j is = one_value w.loop_value (slice_index i 0) (slice_index j 0) is
same_value w s i t j is = absurd (true≢false (sym is))

module _ (s : Symbol) (i : List ℕ) (z : Ratio) (old : Making) where
  -- the new values are the old ones with this one in its place
  abbrev Changes : Making → Type 0
  Changes new = (t : Symbol) (j : List ℕ) → stood new t j ≡ (if same s i t j then Some z else stood old t j)

  is_put : (new : Making) → new.draft.version ≡ old.draft.version → new.draft.ring ≡ old.draft.ring → new.draft.rules ≡ old.draft.rules → Changes new → Puts s i z old new
  is_put new version ring rules changes = record {
    version = version;
    ring = ring;
    rules = rules;
    stands = ap is_some (changes s i) ∙ here (same s i s i) (is_same s i);
    keeps = λ t j stands. ap is_some (changes t j) ∙ kept (same s i t j) (stood old t j) stands;
    right = λ w is right t j value stands. rightly w is (same s i t j) t j value (same_value w s i t j) (right t j value) (sym (changes t j) ∙ stands);
  }
    where
      here : (b : Bool) → b ≡ true → is_some (if b then Some z else stood old s i) ≡ true
      here true e = refl
      here false e = absurd (true≢false (sym e))

      kept : (b : Bool) (before : Option Ratio) → is_some before ≡ true → is_some (if b then Some z else before) ≡ true
      kept true before stands = refl
      kept false before stands = stands

      rightly : (w : Symbols Ratio) → z ≡ value_at w s i → (b : Bool) (t : Symbol) (j : List ℕ) (value : Ratio) → (b ≡ true → value_at w t j ≡ value_at w s i)
          → (stood old t j ≡ Some value → value ≡ value_at w t j) → (if b then Some z else stood old t j) ≡ Some value → value ≡ value_at w t j
      rightly w is true t j value one right stands = sym (some_inj z value stands) ∙ is ∙ sym (one refl)
      rightly w is false t j value one right stands = right stands

  -- where a value stands nothing changes
  is_kept : Stands old s i → Puts s i z old old
  is_kept stands = record {
    version = refl;
    ring = refl;
    rules = refl;
    stands = stands;
    keeps = λ t j before. before;
    right = λ w is right. right;
  }

  pub kept_draft : (d : DraftValue ℕ Ratio) → d ≡ old.draft → Stands old s i → Puts s i z old (record old { draft = d })
  kept_draft d e stands = subst (λ (x : DraftValue ℕ Ratio). Puts s i z old (record old { draft = x })) (sym e) (is_kept stands)

module _ (i : List ℕ) (z : Ratio) (old : Making) where
  f_changes : SetsF (f_at i) z (given old.draft).set_f (given (with_f old.draft (f_at i) z)).set_f → Changes F i z old (record old { draft = with_f old.draft (f_at i) z })
  f_changes sets F j = sets (slice_index j 0) (slice_index j 1) (slice_index j 2) (slice_index j 3) (slice_index j 4) (slice_index j 5)
  f_changes sets t j = refl

  pub f_is_put : (d : DraftValue ℕ Ratio) → d ≡ with_f old.draft (f_at i) z → SetsF (f_at i) z (given old.draft).set_f (given d).set_f → Puts F i z old (record old { draft = d })
  f_is_put d e sets =
      subst (λ (x : DraftValue ℕ Ratio). SetsF (f_at i) z (given old.draft).set_f (given x).set_f → Puts F i z old (record old { draft = x })) (sym e)
      (λ here. is_put F i z old _ refl refl refl (f_changes here)) sets

  r_changes : SetsVertex (v_at i) z (given old.draft).set_r (given (with_r old.draft (v_at i) z)).set_r → Changes R i z old (record old { draft = with_r old.draft (v_at i) z })
  r_changes sets R j = sets (slice_index j 0) (slice_index j 1) (slice_index j 2)
  r_changes sets t j = refl

  pub r_is_put : (d : DraftValue ℕ Ratio) → d ≡ with_r old.draft (v_at i) z → SetsVertex (v_at i) z (given old.draft).set_r (given d).set_r → Puts R i z old (record old { draft = d })
  r_is_put d e sets =
      subst (λ (x : DraftValue ℕ Ratio). SetsVertex (v_at i) z (given old.draft).set_r (given x).set_r → Puts R i z old (record old { draft = x })) (sym e)
      (λ here. is_put R i z old _ refl refl refl (r_changes here)) sets

  w_changes : SetsVertex (v_at i) z (given old.draft).set_w (given (with_w old.draft (v_at i) z)).set_w → Changes W i z old (record old { draft = with_w old.draft (v_at i) z })
  w_changes sets W j = sets (slice_index j 0) (slice_index j 1) (slice_index j 2)
  w_changes sets t j = refl

  pub w_is_put : (d : DraftValue ℕ Ratio) → d ≡ with_w old.draft (v_at i) z → SetsVertex (v_at i) z (given old.draft).set_w (given d).set_w → Puts W i z old (record old { draft = d })
  w_is_put d e sets =
      subst (λ (x : DraftValue ℕ Ratio). SetsVertex (v_at i) z (given old.draft).set_w (given x).set_w → Puts W i z old (record old { draft = x })) (sym e)
      (λ here. is_put W i z old _ refl refl refl (w_changes here)) sets

  v_changes : SetsVertex (v_at i) z (given old.draft).set_v (given (with_v old.draft (v_at i) z)).set_v → Changes V i z old (record old { draft = with_v old.draft (v_at i) z })
  v_changes sets V j = sets (slice_index j 0) (slice_index j 1) (slice_index j 2)
  v_changes sets t j = refl

  pub v_is_put : (d : DraftValue ℕ Ratio) → d ≡ with_v old.draft (v_at i) z → SetsVertex (v_at i) z (given old.draft).set_v (given d).set_v → Puts V i z old (record old { draft = d })
  v_is_put d e sets =
      subst (λ (x : DraftValue ℕ Ratio). SetsVertex (v_at i) z (given old.draft).set_v (given x).set_v → Puts V i z old (record old { draft = x })) (sym e)
      (λ here. is_put V i z old _ refl refl refl (v_changes here)) sets

  twist_changes : SetsMark (slice_index i 0) z (given old.draft).set_twist (given (with_twist old.draft (slice_index i 0) z)).set_twist → Changes Twist i z old (record old { draft = with_twist old.draft (slice_index i 0) z })
  twist_changes sets Twist j = sets (slice_index j 0)
  twist_changes sets t j = refl

  pub twist_is_put : (d : DraftValue ℕ Ratio) → d ≡ with_twist old.draft (slice_index i 0) z → SetsMark (slice_index i 0) z (given old.draft).set_twist (given d).set_twist → Puts Twist i z old (record old { draft = d })
  twist_is_put d e sets =
      subst (λ (x : DraftValue ℕ Ratio). SetsMark (slice_index i 0) z (given old.draft).set_twist (given x).set_twist → Puts Twist i z old (record old { draft = x })) (sym e)
      (λ here. is_put Twist i z old _ refl refl refl (twist_changes here)) sets

  loop_changes : SetsMark (slice_index i 0) z (given old.draft).set_loop (given (with_loop old.draft (slice_index i 0) z)).set_loop → Changes Loop i z old (record old { draft = with_loop old.draft (slice_index i 0) z })
  loop_changes sets Loop j = sets (slice_index j 0)
  loop_changes sets t j = refl

  pub loop_is_put : (d : DraftValue ℕ Ratio) → d ≡ with_loop old.draft (slice_index i 0) z → SetsMark (slice_index i 0) z (given old.draft).set_loop (given d).set_loop → Puts Loop i z old (record old { draft = d })
  loop_is_put d e sets =
      subst (λ (x : DraftValue ℕ Ratio). SetsMark (slice_index i 0) z (given old.draft).set_loop (given x).set_loop → Puts Loop i z old (record old { draft = x })) (sym e)
      (λ here. is_put Loop i z old _ refl refl refl (loop_changes here)) sets

  h_changes : PutsH (h_at i) z (h_put old.derived) (h_put (with_h old.derived (h_at i) z)) → Changes H i z old (record old { derived = with_h old.derived (h_at i) z })
  h_changes sets H j = sets (slice_index j 0) (slice_index j 1) (slice_index j 2) (slice_index j 3) (slice_index j 4) (slice_index j 5)
  h_changes sets t j = refl

  pub h_is_put : (d : DerivedValue Ratio) → d ≡ with_h old.derived (h_at i) z → PutsH (h_at i) z (h_put old.derived) (h_put d) → Puts H i z old (record old { derived = d })
  h_is_put d e sets =
      subst (λ (x : DerivedValue Ratio). PutsH (h_at i) z (h_put old.derived) (h_put x) → Puts H i z old (record old { derived = x })) (sym e)
      (λ here. is_put H i z old _ refl refl refl (h_changes here)) sets

  s_changes : SetsVertex (v_at i) z (s_put old.derived) (s_put (with_s old.derived (v_at i) z)) → Changes S i z old (record old { derived = with_s old.derived (v_at i) z })
  s_changes sets S j = sets (slice_index j 0) (slice_index j 1) (slice_index j 2)
  s_changes sets t j = refl

  pub s_is_put : (d : DerivedValue Ratio) → d ≡ with_s old.derived (v_at i) z → SetsVertex (v_at i) z (s_put old.derived) (s_put d) → Puts S i z old (record old { derived = d })
  s_is_put d e sets =
      subst (λ (x : DerivedValue Ratio). SetsVertex (v_at i) z (s_put old.derived) (s_put x) → Puts S i z old (record old { derived = x })) (sym e)
      (λ here. is_put S i z old _ refl refl refl (s_changes here)) sets

repeated : {E : Type 0} (admissible : Bool) (before : Option E) → set_fault admissible before ≡ Some fault.Repeated → is_some before ≡ true
repeated true (Some x) e = refl
repeated true None e = absurd cc
repeated false before e = absurd cc

repeated_mark : {E : Type 0} (before : Option E) → mark_fault before ≡ Some mark.Repeated → is_some before ≡ true
repeated_mark (Some x) e = refl
repeated_mark None e = absurd cc

module _ (s : Symbol) (i : List ℕ) (z : Ratio) (old : Making) (d wanted : DraftValue ℕ Ratio) (Q : Type 0) (puts : d ≡ wanted → Q → Puts s i z old (record old { draft = d })) where
  -- what a setter's answer says, in which a value that stood before is as good
  pub after_set : {B X : Type 0} (admissible : Bool) (set : Result (Unit {0}) SetFault) (r : Result B X) → OnOk r ((set ≡ Ok tt) ⊎ (set ≡ Err fault.Repeated))
      → Sets set (set_fault admissible (stood old s i)) old.draft d wanted → OnOk set Q → OnOk r (Puts s i z old (record old { draft = d }))
  after_set admissible set (Err x) settled told sets = tt
  after_set admissible set (Ok x) (inl done) told sets =
      let there = rw done at told in puts there.1 (rw done at sets)
  after_set admissible set (Ok x) (inr stands) told sets =
      let there = rw stands at told in kept_draft s i z old d there.1 (repeated admissible (stood old s i) there.0)

  pub after_mark : {B X : Type 0} (set : Result (Unit {0}) MarkFault) (r : Result B X) → OnOk r ((set ≡ Ok tt) ⊎ (set ≡ Err mark.Repeated))
      → Marks set (mark_fault (stood old s i)) old.draft d wanted → OnOk set Q → OnOk r (Puts s i z old (record old { draft = d }))
  after_mark set (Err x) settled told sets = tt
  after_mark set (Ok x) (inl done) told sets =
      let there = rw done at told in puts there.1 (rw done at sets)
  after_mark set (Ok x) (inr stands) told sets =
      let there = rw stands at told in kept_draft s i z old d there.1 (repeated_mark (stood old s i) there.0)

-- and what a put of H or S does
pub after_put : {B X : Type 0} (s : Symbol) (i : List ℕ) (z : Ratio) (old new : Making) (r : Result B X) (P Q : Type 0) → (P → Q → Puts s i z old new) → OnOk r P → OnOk r Q → OnOk r (Puts s i z old new)
after_put s i z old new (Ok x) P Q puts p q = puts p q
after_put s i z old new (Err x) P Q puts p q = tt
