-- From values that stand at every admissible index to the symbols of the draft.
use Rattle.std.proofs.Common.{◌≡◌, ℕ, Bool, true, false, ◌&&◌, ◌==◌, List, [], ◌∷◌, Option, Some, None, refl, sym, ap, subst, ◌∙◌, true≢false}
use Rattle.std.specs.Prelude.{if◌then◌else◌, is_some, nat_lt, unwrap_or}
use Rattle.std.proofs.lemmas.Bool.{and_parts, ltb-true}
use Rattle.ring_laws.specs.Ring.{Ring, Held}
use Rattle.cyclo_core.specs.Ratio.{Ratio, held, ring_at}
use Rattle.fusion_rules.specs.Fusion.{Fusion, fuses}
use Rattle.symbol_table.specs.Index.{AreThreeLabels}
use Rattle.symbol_table.specs.Symbols.{Given, Symbols, f_admissible, f_of, mark_of, symbols_of, vertex_of}
use Rattle.symbol_table.specs.Draft.{given}
use Rattle.symbol_table.specs.Derived.{HoldsSymbols, h_put, s_put}
use Rattle.symbol_table.specs.Laws.{IsLawful}
use Rattle.image_laws.specs.Category.{AreOfCategory, given_of}
use Rattle.category_images.specs.Answers.{IsMade, symbols_of_root}
use Rattle.category_images.specs.Making.{AllStand, AreFilled, IsOf, StandOver, Stands, stood}
use Rattle.category_images.specs.Patterns.{HasMarks}
use Rattle.category_images.specs.Places.{first_place, symbols_in, value_at}
use Rattle.category_images.specs.declared.place.Symbol.{Symbol}
use Rattle.category_images.specs.declared.place.Symbol.TheVariants.{F, R, W, V, H, S, Twist, Loop}
use Rattle.category_images.specs.declared.making.Making.{Making}
use Rattle.category_images.proofs.RuleLemmas.{three_of}

if_same : {E : Type 0} (b c : Bool) (x y z : E) → b ≡ c → (c ≡ true → x ≡ y) → (if b then x else z) ≡ (if c then y else z)
if_same true true x y z e same = same refl
if_same true false x y z e same = absurd (true≢false e)
if_same false true x y z e same = absurd (true≢false (sym e))
if_same false false x y z e same = refl

-- What is given twice alike, as far as symbols see it: the values at admissible indices alone, and what isn't set is 1.
pub record AreAlike {E : Type 0} (one : E) (g k : Given E) : Type 0 where
  pub version : g.version ≡ k.version
  pub count : g.count ≡ k.count
  pub fuse : (a b e : ℕ) → g.fuse a b e ≡ k.fuse a b e
  pub f : (a b c d e f : ℕ) → f_admissible k.fuse a b c d e f ≡ true → g.set_f a b c d e f ≡ k.set_f a b c d e f
  pub r : (a b e : ℕ) → k.fuse a b e ≡ true → g.set_r a b e ≡ k.set_r a b e
  pub w : (a b e : ℕ) → k.fuse a b e ≡ true → g.set_w a b e ≡ k.set_w a b e
  pub v : (a b e : ℕ) → k.fuse a b e ≡ true → g.set_v a b e ≡ k.set_v a b e
  pub twist : (a : ℕ) → nat_lt a k.count ≡ true → unwrap_or (g.set_twist a) one ≡ unwrap_or (k.set_twist a) one
  pub loop_value : (a : ℕ) → nat_lt a k.count ≡ true → unwrap_or (g.set_loop a) one ≡ unwrap_or (k.set_loop a) one

-- it has the same symbols
symbols_same : {E : Type 0} (ring : Ring E) (held : Held E) (g k : Given E) → AreAlike ring.one g k → symbols_of ring held g ≡ symbols_of ring held k
symbols_same {E} ring held g k alike = λ t. record {
  version = alike.version t;
  ring = ring;
  held = held;
  count = alike.count t;
  fuse = fuse t;
  f = f t;
  h = λ a b c d f' e.
      if f_admissible (fuse t) a b c d e f'
      then ring.product (ring.product (ring.product (ring.product (ring.conjugate (f t a b c d e f')) (w t b c f')) (w t a f' d)) (v t a b e)) (v t e c d)
      else ring.zero;
  r = r t;
  s = λ a b c.
      if fuse t a b c
      then ring.product (ring.product (ring.conjugate (r t b a c)) (w t a b c)) (v t b a c)
      else ring.zero;
  w = w t;
  v = v t;
  twist = twist t;
  loop_value = loop_value t;
}
  where
    fuse : g.fuse ≡ k.fuse
    fuse = λ t a b e. alike.fuse a b e t

    f : f_of ring g ≡ f_of ring k
    f = λ t a b c d e f'.
        if_same (f_admissible g.fuse a b c d e f') (f_admissible k.fuse a b c d e f') (unwrap_or (g.set_f a b c d e f') ring.one) (unwrap_or (k.set_f a b c d e f') ring.one) ring.zero
        (ap (λ (x : ℕ → ℕ → ℕ → Bool). f_admissible x a b c d e f') fuse) (λ is. ap (λ (o : Option E). unwrap_or o ring.one) (alike.f a b c d e f' is)) t

    vertex : (x y : ℕ → ℕ → ℕ → Option E) → ((a b e : ℕ) → k.fuse a b e ≡ true → x a b e ≡ y a b e) → vertex_of ring g x ≡ vertex_of ring k y
    vertex x y same = λ t a b e.
        if_same (g.fuse a b e) (k.fuse a b e) (unwrap_or (x a b e) ring.one) (unwrap_or (y a b e) ring.one) ring.zero (alike.fuse a b e)
        (λ is. ap (λ (o : Option E). unwrap_or o ring.one) (same a b e is)) t

    r : vertex_of ring g g.set_r ≡ vertex_of ring k k.set_r
    r = vertex g.set_r k.set_r alike.r

    w : vertex_of ring g g.set_w ≡ vertex_of ring k k.set_w
    w = vertex g.set_w k.set_w alike.w

    v : vertex_of ring g g.set_v ≡ vertex_of ring k k.set_v
    v = vertex g.set_v k.set_v alike.v

    mark : (x y : ℕ → Option E) → ((a : ℕ) → nat_lt a k.count ≡ true → unwrap_or (x a) ring.one ≡ unwrap_or (y a) ring.one) → mark_of ring g x ≡ mark_of ring k y
    mark x y same = λ t a.
        if_same (nat_lt a g.count) (nat_lt a k.count) (unwrap_or (x a) ring.one) (unwrap_or (y a) ring.one) ring.zero (ap (nat_lt a) alike.count) (same a) t

    twist : mark_of ring g g.set_twist ≡ mark_of ring k k.set_twist
    twist = mark g.set_twist k.set_twist alike.twist

    loop_value : mark_of ring g g.set_loop ≡ mark_of ring k k.set_loop
    loop_value = mark g.set_loop k.set_loop alike.loop_value

the_value : {E : Type 0} (o : Option E) (v : E) → is_some o ≡ true → ((z : E) → o ≡ Some z → z ≡ v) → o ≡ Some v
the_value (Some x) v some right = ap Some (right x refl)
the_value None v some right = absurd (true≢false (sym some))

or_one : {E : Type 0} (o : Option E) (one v : E) → ((z : E) → o ≡ Some z → z ≡ v) → v ≡ one → unwrap_or o one ≡ v
or_one (Some x) one v right is = right x refl
or_one None one v right is = sym is

and_true : (x y z u : Bool) → (x && (y && (z && u))) ≡ true → (x && (y && (z && (u && true)))) ≡ true
and_true true true true true e = refl
and_true true true true false e = e
and_true true true false u e = e
and_true true false z u e = e
and_true false y z u e = e

turned : (x y z u : Bool) → (x && (y && (z && u))) ≡ true → (x ≡ true) × (y ≡ true) × (z ≡ true) × (u ≡ true)
turned x y z u e = let p = and_parts x _ e in let q = and_parts y _ p.1 in let r = and_parts z u q.1 in (p.0, q.0, r.0, r.1)

one_true : (x : Bool) → x ≡ true → (x && true) ≡ true
one_true true e = refl
one_true false e = e

fused_labels : (g : Fusion) (a b e : ℕ) → fuses g a b e ≡ true → AreThreeLabels g.count a b e
fused_labels g a b e is = let parts = and_parts _ _ is in three_of g.count a b e parts.0

module _ (root : ℕ) (w : Symbols Ratio) (made : Making) (of : IsOf root w made) where
  labels : (a b e : ℕ) → w.fuse a b e ≡ true → AreThreeLabels w.count a b e
  labels a b e is = subst (λ n. AreThreeLabels n a b e) of.count (fused_labels made.draft.rules a b e (of.fuse a b e ∙ is))

  there : (symbol : Symbol) (i : List ℕ) → Stands made symbol i → stood made symbol i ≡ Some (value_at w symbol i)
  there symbol i stands = the_value (stood made symbol i) (value_at w symbol i) stands (of.right symbol i)

  six_there : (a b c d e f : ℕ) → f_admissible w.fuse a b c d e f ≡ true → StandOver root w made F 6 [] → (given made.draft).set_f a b c d e f ≡ Some (w.f a b c d e f)
  six_there a b c d e f is stand =
      let parts = turned (w.fuse a b e) (w.fuse e c d) (w.fuse b c f) (w.fuse a f d) is in
      let abe = labels a b e parts.0 in
      let ecd = labels e c d parts.1 in
      let afd = labels a f d parts.3 in
      there F (a ∷ b ∷ c ∷ d ∷ e ∷ f ∷ []) (stand a abe.0 b abe.1 c ecd.1 d ecd.2 e abe.2 f afd.1 (and_true (w.fuse a b e) (w.fuse e c d) (w.fuse b c f) (w.fuse a f d) is))

  h_there : (a b c d f e : ℕ) → f_admissible w.fuse a b c d e f ≡ true → StandOver root w made H 6 [] → h_put made.derived a b c d f e ≡ Some (w.h a b c d f e)
  h_there a b c d f e is stand =
      let parts = turned (w.fuse a b e) (w.fuse e c d) (w.fuse b c f) (w.fuse a f d) is in
      let abe = labels a b e parts.0 in
      let ecd = labels e c d parts.1 in
      let afd = labels a f d parts.3 in
      there H (a ∷ b ∷ c ∷ d ∷ f ∷ e ∷ []) (stand a abe.0 b abe.1 c ecd.1 d ecd.2 f afd.1 e abe.2 (and_true (w.fuse a b e) (w.fuse e c d) (w.fuse b c f) (w.fuse a f d) is))

  r_there : (a b e : ℕ) → w.fuse a b e ≡ true → StandOver root w made R 3 [] → (given made.draft).set_r a b e ≡ Some (w.r a b e)
  r_there a b e is stand = let l = labels a b e is in there R (a ∷ b ∷ e ∷ []) (stand a l.0 b l.1 e l.2 (one_true (w.fuse a b e) is))

  w_there : (a b e : ℕ) → w.fuse a b e ≡ true → StandOver root w made W 3 [] → (given made.draft).set_w a b e ≡ Some (w.w a b e)
  w_there a b e is stand = let l = labels a b e is in there W (a ∷ b ∷ e ∷ []) (stand a l.0 b l.1 e l.2 (one_true (w.fuse a b e) is))

  v_there : (a b e : ℕ) → w.fuse a b e ≡ true → StandOver root w made V 3 [] → (given made.draft).set_v a b e ≡ Some (w.v a b e)
  v_there a b e is stand = let l = labels a b e is in there V (a ∷ b ∷ e ∷ []) (stand a l.0 b l.1 e l.2 (one_true (w.fuse a b e) is))

  s_there : (a b e : ℕ) → w.fuse a b e ≡ true → StandOver root w made S 3 [] → s_put made.derived a b e ≡ Some (w.s a b e)
  s_there a b e is stand = let l = labels a b e is in there S (a ∷ b ∷ e ∷ []) (stand a l.0 b l.1 e l.2 (one_true (w.fuse a b e) is))

  module _ (stated : Symbol → List ℕ → Option Ratio) (filled : AreFilled root w stated (symbols_in w.version) made) (marks : HasMarks w) (ring : w.ring ≡ ring_at root) (same_held : w.held ≡ held) (category : AreOfCategory w) where
    -- the values of a twist or a loop value at each label: in version 2 they stand, else they are 1
    AreMarks : (ℕ → Option Ratio) → (ℕ → Ratio) → Type 0
    AreMarks set mark = (a : ℕ) → nat_lt a w.count ≡ true → unwrap_or (set a) w.ring.one ≡ mark a

    if_true : {E : Type 0} (b : Bool) (x y : E) → b ≡ true → (if b then x else y) ≡ x
    if_true true x y e = refl
    if_true false x y e = absurd (true≢false (sym e))

    marked : (b : Bool) → (w.version == 2) ≡ b → AllStand root w made (if b then Twist ∷ Loop ∷ [] else [])
        → AreMarks (given made.draft).set_twist w.twist × AreMarks (given made.draft).set_loop w.loop_value
    unfolding AreMarks
    marked true version stand = (
      λ a low. ap (λ (o : Option Ratio). unwrap_or o w.ring.one) (there Twist (a ∷ []) (stand.0 a (ltb-true a w.count low) refl)),
      λ a low. ap (λ (o : Option Ratio). unwrap_or o w.ring.one) (there Loop (a ∷ []) (stand.1.0 a (ltb-true a w.count low) refl)),
    )
    marked false version stand = (
      λ a low. or_one ((given made.draft).set_twist a) w.ring.one (w.twist a) (of.right Twist (a ∷ [])) (marks.twist version a ∙ if_true (nat_lt a w.count) w.ring.one w.ring.zero low),
      λ a low. or_one ((given made.draft).set_loop a) w.ring.one (w.loop_value a) (of.right Loop (a ∷ [])) (marks.loop_value version a ∙ if_true (nat_lt a w.count) w.ring.one w.ring.zero low),
    )

    alike : AreAlike w.ring.one (given made.draft) (given_of w)
    unfolding AreMarks
    alike = record {
      version = of.version;
      count = of.count;
      fuse = of.fuse;
      f = λ a b c d e f is. six_there a b c d e f is filled.stand.0;
      r = λ a b e is. r_there a b e is filled.stand.1.0;
      w = λ a b e is. w_there a b e is filled.stand.1.1.0;
      v = λ a b e is. v_there a b e is filled.stand.1.1.1.0;
      twist = let both = marked (w.version == 2) refl filled.stand.1.1.1.1.1.1 in both.0;
      loop_value = let both = marked (w.version == 2) refl filled.stand.1.1.1.1.1.1 in both.1;
    }

    -- the symbols of the draft are the wanted ones
    pub are_wanted : symbols_of_root made.draft ≡ w
    are_wanted =
        ap (λ (r : Ring Ratio). symbols_of r held (given made.draft)) (ap ring_at of.ring ∙ sym ring)
        ∙ ap (λ (x : Held Ratio). symbols_of w.ring x (given made.draft)) (sym same_held)
        ∙ symbols_same w.ring w.held (given made.draft) (given_of w) alike
        ∙ category.given

    pub is_made : IsMade root w (first_place w stated) made.draft
    is_made = record { root = of.ring; symbols = are_wanted; fits = filled.none }

    pub made_lawful : IsLawful (symbols_of_root made.draft)
    made_lawful = subst (λ (c : Symbols Ratio). IsLawful c) (sym are_wanted) category.lawful

    HasPut : Symbols Ratio → Type 0
    HasPut c = ((a b m d f e : ℕ) → f_admissible c.fuse a b m d e f ≡ true → h_put made.derived a b m d f e ≡ Some (c.h a b m d f e))
        × ((a b e : ℕ) → c.fuse a b e ≡ true → s_put made.derived a b e ≡ Some (c.s a b e))

    pub made_holds : HoldsSymbols (ring_at made.draft.ring) (given made.draft) made.derived
    unfolding HasPut
    made_holds =
        let puts = subst HasPut (sym are_wanted) (λ a b m d f e is. h_there a b m d f e is filled.stand.1.1.1.1.0, λ a b e is. s_there a b e is filled.stand.1.1.1.1.1.0) in
        record { h = puts.0; s = puts.1 }
