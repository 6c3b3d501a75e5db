use Rattle.std.proofs.Common.{◌≡◌, ℕ, ◌<◌, ◌++◌, ◌-◌, length, take}
use Rattle.category_text.specs.Writing.{named_parts}
use Rattle.category_text.specs.Canonical.{counting}
use Rattle.category_text.specs.Writing.{texts, group_text, row, GroupNumber, InRow}
use Rattle.category_text.proofs.writing.write_plane.Given as goal

abbrev pub invariant-loop-b : goal.invariant-loop-b
invariant-loop-b l = record {
  text : l.text.items ++ texts (λ (k : ℕ). row l.parts.draft.now.rules.count (group_text (named_parts l.parts) l.group) l.a k) (counting l.b (length l.parts.names.now - l.b)) ≡ l.fn.text.items ++ texts (λ (k : ℕ). row l.parts.draft.now.rules.count (group_text (named_parts l.parts) l.group) l.a k) (counting 0 (length l.parts.names.now));
  front : take (length l.fn.text.items) l.text.items ≡ l.fn.text.items;
  numbers : (k : ℕ) → k < l.b → InRow l.parts.draft.now.rules.count (GroupNumber (named_parts l.parts) l.group) l.a k;
}
