use Rattle.std.proofs.Common.{◌≡◌, ℕ, ◌<◌, ◌++◌, ◌-◌, length, take}
use Rattle.symbol_table.specs.Index.{v_index}
use Rattle.category_text.specs.Writing.{named_parts}
use Rattle.category_text.specs.Canonical.{counting}
use Rattle.category_text.specs.Writing.{texts, behind_text, BehindNumber}
use Rattle.category_text.proofs.writing.write_f_rows.Given as goal

abbrev pub invariant-loop-c : goal.invariant-loop-c
invariant-loop-c l = record {
  text : l.text.items ++ texts (λ (k : ℕ). behind_text (named_parts l.parts) (v_index l.a l.b k)) (counting l.c (length l.parts.names.now - l.c)) ≡ l.fn.text.items ++ texts (λ (k : ℕ). behind_text (named_parts l.parts) (v_index l.a l.b k)) (counting 0 (length l.parts.names.now));
  front : take (length l.fn.text.items) l.text.items ≡ l.fn.text.items;
  numbers : (k : ℕ) → k < l.c → BehindNumber (named_parts l.parts) (v_index l.a l.b k);
}
