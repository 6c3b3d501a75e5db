-- Symbols that are lawful: those of the unit alone, and those of the Fibonacci category.
use Rattle.std.proofs.Common.{◌≡◌, Bool, true, false, ◌&&◌, refl, sym, true≢false}
use Rattle.std.specs.Prelude.{ℤ, IsTrue}
use Rattle.ring_laws.specs.Whole.{whole_ring, whole_held, int_equal}
use Rattle.ring_laws.specs.WholeLaws.{int_equal_is}
use Rattle.fusion_rules.proofs.Worked.{one_label_passes}
use Rattle.fusion_rules.proofs.PassLemmas.{no_fault_passes}
use Rattle.symbol_table.specs.Symbols.{Symbols}
use Rattle.symbol_table.specs.Laws.{IsLawful, laws_of}
use Rattle.symbol_table.specs.Category.{IsCategory, draft_symbols}
use Rattle.symbol_table.proofs.Fib.{Whole5, num, fib, fib2, held5, fuse5}
use Rattle.symbol_table.proofs.Tested.{tried_laws}
use Rattle.symbol_table.proofs.Worked.{unit_draft, unit_derived, unit_holds}

both : (a b : Bool) → IsTrue (a && b) → IsTrue a × IsTrue b
both true b h = (refl, h)
both false b h = absurd (true≢false (sym h))

pub equal_sound : (x y : Whole5) → held5.equal x y ≡ true → x ≡ y
equal_sound x y h =
    let one = both (int_equal x.c0 y.c0) (int_equal x.c1 y.c1 && (int_equal x.c2 y.c2 && int_equal x.c3 y.c3)) h in
    let two = both (int_equal x.c1 y.c1) (int_equal x.c2 y.c2 && int_equal x.c3 y.c3) one.1 in
    let three = both (int_equal x.c2 y.c2) (int_equal x.c3 y.c3) two.1 in
    λ t. num ((int_equal_is x.c0 y.c0).0 one.0 t) ((int_equal_is x.c1 y.c1).0 two.0 t) ((int_equal_is x.c2 y.c2).0 three.0 t) ((int_equal_is x.c3 y.c3).0 three.1 t)

equal_complete : (x y : Whole5) → x ≡ y → held5.equal x y ≡ true
equal_complete x y e = rw (e, (int_equal_is y.c0 y.c0).1 refl, (int_equal_is y.c1 y.c1).1 refl, (int_equal_is y.c2 y.c2).1 refl, (int_equal_is y.c3 y.c3).1 refl) refl

-- the Fibonacci category is lawful
pub fib_lawful : IsLawful fib
fib_lawful = record {
  rules = no_fault_passes 2 fuse5 refl;
  laws = tried_laws fib equal_sound equal_complete (laws_of 1) refl;
}

-- the Fibonacci category of version 2 is lawful too
pub fib2_lawful : IsLawful fib2
fib2_lawful = record {
  rules = no_fault_passes 2 fuse5 refl;
  laws = tried_laws fib2 equal_sound equal_complete (laws_of 2) refl;
}

abbrev pub unit_alone : Symbols ℤ
unit_alone = draft_symbols whole_ring whole_held unit_draft

-- the unit alone is a category
pub unit_category : IsCategory whole_ring whole_held unit_draft unit_derived
unit_category = record {
  lawful = record {
    rules = one_label_passes;
    laws = tried_laws unit_alone (λ x y. (int_equal_is x y).0) (λ x y. (int_equal_is x y).1) (laws_of 1) refl;
  };
  holds = unit_holds;
}
