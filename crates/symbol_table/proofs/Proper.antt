-- The symbols of what is given are proper: members of the ring, and zero where not admissible.
use Rattle.std.proofs.Common.{◌≡◌, ℕ, Bool, true, false, Option, Some, None, List}
use Rattle.std.specs.Prelude.{if◌then◌else◌, unwrap_or, IsTrue, IfSome}
use Rattle.std.specs.Map.{lookup}
use Rattle.std.proofs.lemmas.Map.Views.{IfSome-lookup_from_All}
use Rattle.ring_laws.specs.Ring.{Ring, Held}
use Rattle.ring_laws.proofs.SumLemmas.{if_no}
use Rattle.symbol_table.specs.Index.{AreThreeLabels}
use Rattle.symbol_table.specs.Symbols.{Given, IsOfRing, f_admissible, symbols_of}
use Rattle.symbol_table.specs.Draft.{AreMembers, DraftValue, IsOver, given}
use Rattle.symbol_table.specs.AllLabels.{IsProper}
use Rattle.symbol_table.proofs.MemberLemmas.{HasZero, h_member, s_member}

-- every value that was set is a member
pub record GivesMembers {E : Type 0} (ring : Ring E) (g : Given E) : Type 0 where
  pub f : (a b m d e f : ℕ) → IfSome (g.set_f a b m d e f) (λ x. IsTrue (ring.member x))
  pub r : (a b e : ℕ) → IfSome (g.set_r a b e) (λ x. IsTrue (ring.member x))
  pub w : (a b e : ℕ) → IfSome (g.set_w a b e) (λ x. IsTrue (ring.member x))
  pub v : (a b e : ℕ) → IfSome (g.set_v a b e) (λ x. IsTrue (ring.member x))

module _ {E : Type 0} (ring : Ring E) (held : Held E) (basic : HasZero ring) where
  value_is : (b : Bool) (o : Option E) → IfSome o (λ x. IsTrue (ring.member x)) → IsTrue (ring.member (if b then unwrap_or o ring.one else ring.zero))
  value_is true None h = basic.one_is
  value_is true (Some x) h = h
  value_is false o h = basic.zero_is

  pub is_proper : (g : Given E) → GivesMembers ring g → ((a b e : ℕ) → g.fuse a b e ≡ true → AreThreeLabels g.count a b e)
      → ((a b e : ℕ) → g.fuse a b e ≡ g.fuse b a e) → IsProper (symbols_of ring held g)
  is_proper g members labels commutes = record {
    labels = labels;
    commutes = commutes;
    f_is = λ a b m d e f. value_is (f_admissible g.fuse a b m d e f) (g.set_f a b m d e f) (members.f a b m d e f);
    h_is = λ a b m d f e. h_member ring basic g a b m d f e;
    r_is = λ a b e. value_is (g.fuse a b e) (g.set_r a b e) (members.r a b e);
    s_is = λ a b e. s_member ring basic g a b e;
    w_is = λ a b e. value_is (g.fuse a b e) (g.set_w a b e) (members.w a b e);
    v_is = λ a b e. value_is (g.fuse a b e) (g.set_v a b e) (members.v a b e);
    f_off = λ a b m d e f off. if_no (f_admissible g.fuse a b m d e f) _ ring.zero off;
    h_off = λ a b m d f e off. if_no (f_admissible g.fuse a b m d e f) _ ring.zero off;
    r_off = λ a b e off. if_no (g.fuse a b e) _ ring.zero off;
    s_off = λ a b e off. if_no (g.fuse a b e) _ ring.zero off;
    w_off = λ a b e off. if_no (g.fuse a b e) _ ring.zero off;
    v_off = λ a b e off. if_no (g.fuse a b e) _ ring.zero off;
  }

  -- every F is of the ring
  pub is_of_ring : (g : Given E) → GivesMembers ring g → IsOfRing (symbols_of ring held g)
  is_of_ring g members a b k d e f = value_is (f_admissible g.fuse a b k d e f) (g.set_f a b k d e f) (members.f a b k d e f)

-- the values of a draft
found_member : {K E : Type 0} (ring : Ring E) (test : K → Bool) (entries : List (K × E)) → AreMembers ring entries → IfSome (lookup test entries) (λ x. IsTrue (ring.member x))
found_member ring test entries are = IfSome-lookup_from_All (λ x. IsTrue (ring.member x)) test entries are

pub gives_members : {D E : Type 0} (ring : Ring E) (draft : DraftValue D E) → IsOver ring draft → GivesMembers ring (given draft)
gives_members ring draft over = record {
  f = λ a b m d e f. found_member ring _ draft.set_f over.f;
  r = λ a b e. found_member ring _ draft.set_r over.r;
  w = λ a b e. found_member ring _ draft.set_w over.w;
  v = λ a b e. found_member ring _ draft.set_v over.v;
}
