-- Twists and loop values of categories of version 1.
use Rattle.std.proofs.Common.{◌≡◌, ℕ, Bool, true, false, ◌==◌, List, [], sym, ap, ◌∙◌, true≢false, inl, inr}
use Rattle.std.specs.Prelude.{if◌then◌else◌, nat_lt, unwrap_or, ◌⊎◌}
use Rattle.std.proofs.lemmas.Bool.{eq-eqb}
use Rattle.ring_laws.specs.Ring.{Ring, Held}
use Rattle.cyclo_core.specs.ImageLaws.{IsStarMap}
use Rattle.symbol_table.specs.Symbols.{Symbols}
use Rattle.symbol_table.specs.Draft.{DraftValue, IsVersioned, mark_at}
use Rattle.symbol_table.specs.Category.{draft_symbols}
use Rattle.image_laws.specs.Images.{image_of}
use Rattle.category_images.specs.Patterns.{HasMarks}

first_version : (version : ℕ) → (version ≡ 1) ⊎ (version ≡ 2) → (version == 2) ≡ false → version ≡ 1
first_version version (inl first) other = first
first_version version (inr second) other = absurd (true≢false (sym (eq-eqb version 2 second) ∙ other))

-- none is set in version 1, so that all are 1
pub draft_marks : {R E : Type 0} (ring : Ring E) (held : Held E) (draft : DraftValue R E) → IsVersioned draft.version draft.set_twist draft.set_loop → HasMarks (draft_symbols ring held draft)
draft_marks {E = E} ring held draft versioned = record {
  twist = λ other a. none draft.set_twist ((versioned.first (first_version draft.version versioned.known other)).0) a;
  loop_value = λ other a. none draft.set_loop ((versioned.first (first_version draft.version versioned.known other)).1) a;
}
  where
    none : (set : List (ℕ × E)) → set ≡ [] → (a : ℕ) → (if nat_lt a draft.rules.count then unwrap_or (mark_at set a) ring.one else ring.zero) ≡ (if nat_lt a draft.rules.count then ring.one else ring.zero)
    none set empty a = ap (λ (s : List (ℕ × E)). if nat_lt a draft.rules.count then unwrap_or (mark_at s a) ring.one else ring.zero) empty

-- maps of rings keep 1
pub image_marks : {E : Type 0} (c : Symbols E) (F : E → E) → IsStarMap c.ring F → HasMarks c → HasMarks (image_of F c)
image_marks {E} c F map marks = record {
  twist = λ other a. ap F (marks.twist other a) ∙ kept (nat_lt a c.count);
  loop_value = λ other a. ap F (marks.loop_value other a) ∙ kept (nat_lt a c.count);
}
  where
    kept : (b : Bool) → F (if b then c.ring.one else c.ring.zero) ≡ (if b then c.ring.one else c.ring.zero)
    kept true = map.one
    kept false = map.zero
