use Rattle.std.proofs.Common.{◌≡◌, ℕ, ◌<◌, ◌++◌, ◌-◌, length, take}
use Rattle.category_text.specs.Writing.{named_parts}
use Rattle.category_text.specs.Canonical.{counting}
use Rattle.category_text.specs.Writing.{texts, group_text, plane, GroupNumber, InPlane}
use Rattle.category_text.proofs.writing.write_group.Given as goal

abbrev pub invariant-loop-a : goal.invariant-loop-a
invariant-loop-a l = record {
  text : l.text.items ++ texts (λ (k : ℕ). plane l.parts.draft.now.rules.count (group_text (named_parts l.parts) l.group) k) (counting l.a (length l.parts.names.now - l.a)) ≡ l.fn.text.items ++ texts (λ (k : ℕ). plane l.parts.draft.now.rules.count (group_text (named_parts l.parts) l.group) k) (counting 0 (length l.parts.names.now));
  front : take (length l.fn.text.items) l.text.items ≡ l.fn.text.items;
  numbers : (k : ℕ) → k < l.a → InPlane l.parts.draft.now.rules.count (GroupNumber (named_parts l.parts) l.group) k;
}
