-- What a draft, its names and the numbers read on the way give can be said.
use Rattle.std.proofs.Common.{◌≡◌, ℕ, zero, suc, ◌<◌, List, [], Bool, true, false, ◌&&◌, ◌||◌, ◌==◌, None, length, refl, sym, ap, ◌∙◌, arith}
use Rattle.std.specs.Prelude.{IsTrue}
use Rattle.std.proofs.lemmas.Bool.Decides.{nat_tests}
use Rattle.poly_core.specs.Rho.{is_accepted}
use Rattle.cyclo_core.specs.Ratio.{Ratio}
use Rattle.fusion_rules.specs.Names.{AreNames}
use Rattle.fusion_rules.specs.Fusion.{Fusion, AreRules, fuses, unit_fuses, are_labels, stands_at, is_unit_triple}
use Rattle.symbol_table.specs.Draft.{DraftValue, IsVersioned, given, f_index_admissible, mark_at}
use Rattle.symbol_table.specs.Index.{AreThreeLabels}
use Rattle.symbol_table.specs.declared.index.FIndex.{FIndex}
use Rattle.symbol_table.specs.declared.index.VIndex.{VIndex}
use Rattle.category_text.specs.declared.kind.MarkKind.{MarkKind}
use Rattle.category_text.specs.declared.kind.MarkKind.TheVariants.{OnTwist, OnLoop}
use Rattle.category_text.specs.declared.kind.VertexKind.{VertexKind}
use Rattle.category_text.specs.declared.kind.VertexKind.TheVariants.{OnR, OnW, OnV}
use Rattle.category_text.specs.Named.{NamedSymbols, named_draft}
use Rattle.category_text.specs.Canonical.{f_value, mark_value, marks_of, vertex_value}
use Rattle.category_text.specs.Writing.{AllNumbers}
use Rattle.category_text.specs.Again.{IsNumberOf, IsSaid}
use Rattle.category_text.proofs.SaidLemmas.{left_of, six_labels}

are_below : (n a b c : ℕ) → are_labels n a b c ≡ true → AreThreeLabels n a b c
are_below n a b c e = (grind (arith, nat_tests), grind (arith, nat_tests), grind (arith, nat_tests))

-- with the unit in front or behind exactly the unit triples
unit_rules : (g : Fusion) → AreRules g → (a b c : ℕ) → IsTrue (a == 0 || b == 0) → fuses g a b c ≡ unit_fuses g.count a b c
unit_rules g are a b c unit = go (are_labels g.count a b c) refl
  where
    front : (b c : ℕ) → (b == c) ≡ is_unit_triple 0 b c
    front b c = grind (arith, nat_tests)

    back : (a c : ℕ) → (a == c) ≡ is_unit_triple a 0 c
    back a c = grind (arith, nat_tests)

    by_unit : (a b : ℕ) → AreThreeLabels g.count a b c → IsTrue (a == 0 || b == 0) → stands_at g.table a b c ≡ is_unit_triple a b c
    by_unit zero b labels unit = are.left_unit b c labels.1 labels.2 ∙ front b c
    by_unit (suc a) zero labels unit = are.right_unit (suc a) c labels.0 labels.2 ∙ back (suc a) c
    by_unit (suc a) (suc b) labels unit = absurd (grind (arith, nat_tests))

    go : (v : Bool) → are_labels g.count a b c ≡ v → (v && stands_at g.table a b c) ≡ (v && is_unit_triple a b c)
    go true e = by_unit a b (are_below g.count a b c e) unit
    go false e = refl

module _ (names : List (List ℕ)) (draft : DraftValue ℕ Ratio) where
  abbrev said : NamedSymbols
  said = named_draft names draft

  labels : (a b c : ℕ) → fuses draft.rules a b c ≡ true → AreThreeLabels draft.rules.count a b c
  labels a b c e = are_below draft.rules.count a b c (left_of (are_labels draft.rules.count a b c) _ e)

  f_number : AllNumbers said → (at : FIndex) → IsTrue (f_index_admissible (given draft) at) → IsNumberOf draft.ring (f_value said at)
  f_number all at allowed =
      let (a, b, c, d, e, f) = six_labels (fuses draft.rules) draft.rules.count labels at.a at.b at.c at.d at.e at.f allowed in
      all.f at.a a at.b b at.c c at.d d at.e e at.f f allowed

  vertex_number : AllNumbers said → (kind : VertexKind) (at : VIndex) → IsTrue (fuses draft.rules at.a at.b at.c) → IsNumberOf draft.ring (vertex_value said kind at)
  vertex_number all OnR at allowed = let (a, b, c) = labels at.a at.b at.c allowed in all.vertex.r at.a a at.b b at.c c allowed
  vertex_number all OnW at allowed = let (a, b, c) = labels at.a at.b at.c allowed in all.vertex.w at.a a at.b b at.c c allowed
  vertex_number all OnV at allowed = let (a, b, c) = labels at.a at.b at.c allowed in all.vertex.v at.a a at.b b at.c c allowed

  mark_number : AllNumbers said → (kind : MarkKind) (a : ℕ) → a < draft.rules.count → IsNumberOf draft.ring (mark_value said kind a)
  mark_number all OnTwist a label = all.mark.twist a label
  mark_number all OnLoop a label = all.mark.loop_value a label

  none_marked : (draft.set_twist ≡ []) × (draft.set_loop ≡ []) → (kind : MarkKind) (a : ℕ) → marks_of (given draft) kind a ≡ None
  none_marked none OnTwist a = ap (λ marks. mark_at marks a) none.0
  none_marked none OnLoop a = ap (λ marks. mark_at marks a) none.1

  pub draft_said : AreNames names → length names ≡ draft.rules.count → is_accepted draft.ring ≡ true → AreRules draft.rules → IsVersioned draft.version draft.set_twist draft.set_loop → AllNumbers said → IsSaid said
  draft_said are counted accepted rules versioned all = record {
    names = are;
    some = (let some = rules.some in omega arith);
    counted = sym counted;
    accepted = accepted;
    units = unit_rules draft.rules rules;
    labels = labels;
    f = f_number all;
    vertex = vertex_number all;
    version = versioned.known;
    mark = mark_number all;
    unmarked = λ first. none_marked (versioned.first first);
  }
