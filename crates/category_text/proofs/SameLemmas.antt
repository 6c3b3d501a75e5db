-- The triples and values of a canonical text are those of the category.
use Rattle.std.proofs.Common.{◌≡◌, ℕ, List, [], ◌∷◌, ◌++◌, Bool, true, false, ◌||◌, map, filter, refl, ap, subst, ◌∙◌, arith, inl, inr, if◌then◌else◌, Some}
use Rattle.std.proofs.lemmas.Bool.Decides.{nat_tests}
use Rattle.cyclo_core.specs.Ratio.{Ratio, ring_at}
use Rattle.cyclo_core.specs.CycloLaws.{same_ratio_is}
use Rattle.fusion_rules.specs.Fusion.{is_triple}
use Rattle.symbol_table.specs.declared.index.VIndex.{VIndex}
use Rattle.category_text.specs.declared.kind.Symbol.{Symbol}
use Rattle.category_text.specs.Named.{NamedSymbols}
use Rattle.category_text.specs.Canonical.{is_one}
use Rattle.category_text.specs.Spelled.{fused_with, set_with, fused_all, set_all}
use Rattle.category_text.proofs.FreshLemmas.{Each}
use Rattle.category_text.proofs.InLemmas.{In}
use Rattle.category_text.proofs.PairLemmas.{value_of, valued}
use Rattle.category_text.proofs.IndexLemmas.{set_of, same_symbol, same_symbol_is, same_symbol_self, set_of_with}

-- Triples.
fused_stays : (said : NamedSymbols) (ts : List VIndex) (a b c : ℕ) → said.given.fuse a b c ≡ true → (fused_all said ts).given.fuse a b c ≡ true
fused_stays said [] a b c e = e
fused_stays said (t ∷ ts) a b c e = fused_stays (fused_with said t) ts a b c (rw e (either (is_triple t.a t.b t.c a b c)))
  where
    either : (v : Bool) → (v || true) ≡ true
    either true = refl
    either false = refl

triple_self : (a b c : ℕ) → is_triple a b c a b c ≡ true
triple_self a b c = grind (arith, nat_tests)

pub fused_in : (said : NamedSymbols) (ts : List VIndex) (t : VIndex) → In t ts → (fused_all said ts).given.fuse t.a t.b t.c ≡ true
fused_in said [] t h = absurd h
fused_in said (u ∷ ts) t (inl e) =
    subst (λ (w : VIndex). (fused_all said (u ∷ ts)).given.fuse w.a w.b w.c ≡ true) e
    (fused_stays (fused_with said u) ts u.a u.b u.c (rw (triple_self u.a u.b u.c) refl))
fused_in said (u ∷ ts) t (inr h) = fused_in (fused_with said u) ts t h

pub fused_out : (said : NamedSymbols) (ts : List VIndex) (a b c : ℕ) → Each (λ (t : VIndex). is_triple t.a t.b t.c a b c ≡ false) ts → (fused_all said ts).given.fuse a b c ≡ said.given.fuse a b c
fused_out said [] a b c none = refl
fused_out said (t ∷ ts) a b c none = fused_out (fused_with said t) ts a b c none.1 ∙ rw none.0 refl

-- what a filter keeps passes its test
pub each_filter : {A : Type 0} (P : A → Type 0) (p : A → Bool) → ((x : A) → p x ≡ true → P x) → (xs : List A) → Each P (filter p xs)
each_filter P p passes [] = tt
each_filter P p passes (x ∷ xs) = go (p x) refl (each_filter P p passes xs)
  where
    go : (b : Bool) → p x ≡ b → Each P (filter p xs) → Each P (if b then x ∷ filter p xs else filter p xs)
    go true e later = (passes x e, later)
    go false e later = later

pub each_map : {A B : Type 0} (P : B → Type 0) (Q : A → Type 0) (g : A → B) → ((x : A) → Q x → P (g x)) → (xs : List A) → Each Q xs → Each P (map g xs)
each_map P Q g leads [] all = tt
each_map P Q g leads (x ∷ xs) all = (leads x all.0, each_map P Q g leads xs all.1)

pub each_append : {A : Type 0} (P : A → Type 0) (xs ys : List A) → Each P xs → Each P ys → Each P (xs ++ ys)
each_append P [] ys all more = more
each_append P (x ∷ xs) ys all more = (all.0, each_append P xs ys all.1 more)

-- Values.
module _ (x : NamedSymbols) where
  pub set_stays : (said : NamedSymbols) (ss : List Symbol) (s : Symbol) → set_of said.given s ≡ Some (value_of x s) → set_of (set_all said (map (valued x) ss)).given s ≡ Some (value_of x s)
  set_stays said [] s e = e
  set_stays said (t ∷ ss) s e =
      set_stays (set_with said t (value_of x t)) ss s (set_of_with said.given t s (value_of x t) ∙ go (same_symbol t s) refl)
    where
      go : (b : Bool) → same_symbol t s ≡ b → (if b then Some (value_of x t) else set_of said.given s) ≡ Some (value_of x s)
      go true f = ap (λ u. Some (value_of x u)) (same_symbol_is t s f)
      go false f = e

  pub set_in : (said : NamedSymbols) (ss : List Symbol) (s : Symbol) → In s ss → set_of (set_all said (map (valued x) ss)).given s ≡ Some (value_of x s)
  set_in said [] s h = absurd h
  set_in said (t ∷ ss) s (inl e) =
      set_stays (set_with said t (value_of x t)) ss s
      (set_of_with said.given t s (value_of x t) ∙ rw (same t s e) (ap (λ u. Some (value_of x u)) e))
    where
      same : (t s : Symbol) → t ≡ s → same_symbol t s ≡ true
      same t s e = subst (λ u. same_symbol t u ≡ true) e (same_symbol_self t)
  set_in said (t ∷ ss) s (inr h) = set_in (set_with said t (value_of x t)) ss s h

  pub set_out : (said : NamedSymbols) (ss : List Symbol) (s : Symbol) → Each (λ t. same_symbol t s ≡ false) ss → set_of (set_all said (map (valued x) ss)).given s ≡ set_of said.given s
  set_out said [] s none = refl
  set_out said (t ∷ ss) s none =
      set_out (set_with said t (value_of x t)) ss s none.1 ∙ set_of_with said.given t s (value_of x t) ∙ rw none.0 refl

-- a value that is 1
pub one_is : (root : ℕ) (v : Ratio) → is_one root v ≡ true → v ≡ (ring_at root).one
one_is root v e = (same_ratio_is v (ring_at root).one).0 e
