-- What can be said has labels below the number of its names.
use Rattle.std.specs.Prelude.{nat_lt}
use Rattle.std.proofs.lemmas.Bool.Decides.{nat_tests}
use Rattle.std.proofs.Common.{◌≡◌, ℕ, ◌<◌, ◌≤◌, Bool, true, false, ◌&&◌, length, refl, subst, arith}
use Rattle.symbol_table.specs.Index.{AreThreeLabels, AreSixLabels}
use Rattle.symbol_table.specs.Symbols.{f_admissible}
use Rattle.category_text.specs.declared.kind.Symbol.{Symbol}
use Rattle.category_text.specs.declared.kind.Symbol.TheVariants.{OfF, OfR, OfW, OfV, OfTwist, OfLoop}
use Rattle.category_text.specs.Named.{NamedSymbols}
use Rattle.category_text.specs.Answers.{SymbolBelow}
use Rattle.category_text.specs.Again.{IsSaid}
use Rattle.category_text.proofs.IndexLemmas.{admitted}

pub left_of : (a b : Bool) → (a && b) ≡ true → a ≡ true
left_of true b e = refl
left_of false b e = e

pub right_of : (a b : Bool) → (a && b) ≡ true → b ≡ true
right_of true b e = e
right_of false b e = absurd (cc)

-- the labels of an admissible symbol, where only labels fuse
module _ (fuse : ℕ → ℕ → ℕ → Bool) (n : ℕ) (labels : (a b c : ℕ) → fuse a b c ≡ true → AreThreeLabels n a b c) where
  pub six_labels : (a b c d e f : ℕ) → f_admissible fuse a b c d e f ≡ true → AreSixLabels n a b c d e f
  six_labels a b c d e f allowed =
      let p = labels a b e (left_of (fuse a b e) _ allowed) in
      let rest = right_of (fuse a b e) _ allowed in
      let q = labels e c d (left_of (fuse e c d) _ rest) in
      let more = right_of (fuse e c d) _ rest in
      let r = labels b c f (left_of (fuse b c f) _ more) in
      (p.0, p.1, q.1, q.2, p.2, r.2)

module _ (x : NamedSymbols) (said : IsSaid x) where
  pub few : x.given.count ≤ 12
  few = let f = said.names.few in let c = said.counted in omega arith

  pub labels_named : (a b c : ℕ) → x.given.fuse a b c ≡ true → AreThreeLabels (length x.names) a b c
  labels_named a b c e = subst (λ n. AreThreeLabels n a b c) said.counted (said.labels a b c e)

  below : (a : ℕ) → nat_lt a x.given.count ≡ true → a < x.given.count
  below a e = grind (arith, nat_tests)

  pub symbol_labels : (s : Symbol) → admitted x.given.count x.given.fuse s ≡ true → SymbolBelow x.given.count s
  symbol_labels (OfF at) e = six_labels x.given.fuse x.given.count said.labels at.a at.b at.c at.d at.e at.f e
  symbol_labels (OfR at) e = said.labels at.a at.b at.c e
  symbol_labels (OfW at) e = said.labels at.a at.b at.c e
  symbol_labels (OfV at) e = said.labels at.a at.b at.c e
  symbol_labels (OfTwist a) e = below a e
  symbol_labels (OfLoop a) e = below a e

  pub symbol_named : (s : Symbol) → admitted x.given.count x.given.fuse s ≡ true → SymbolBelow (length x.names) s
  symbol_named s e = subst (λ n. SymbolBelow n s) said.counted (symbol_labels s e)
