-- Symbols with a number of its own at each index, for worked values.
use Rattle.std.specs.Prelude.{◌+◌, ◌*◌, true, pos, Some, None}
use Rattle.symbol_table.specs.Symbols.{Given, Symbols, symbols_of}
use Rattle.symbol_table.proofs.Fib.{Whole5, num, ring5, held5}

-- No category: three labels that all fuse. Each value has another number at each index and a part that the conjugate
-- turns, so that no two labels, no two symbols and no conjugate can be exchanged unseen.
abbrev pub distinct_given : Given Whole5
distinct_given = record {
  version = 1;
  count = 3;
  fuse = λ a b c. true;
  set_f = λ a b c d e f. Some (num (pos (a + 2 * b + 3 * c + 4 * d + 5 * e + 6 * f)) (pos 1) (pos 0) (pos 0));
  set_r = λ a b c. Some (num (pos (a + 3 * b + 5 * c)) (pos 2) (pos 0) (pos 0));
  set_w = λ a b c. Some (num (pos (a + 2 * b + 5 * c)) (pos 3) (pos 0) (pos 0));
  set_v = λ a b c. Some (num (pos (a + 4 * b + 2 * c)) (pos 5) (pos 0) (pos 0));
  set_twist = λ a. None;
  set_loop = λ a. None;
}

abbrev pub distinct : Symbols Whole5
distinct = symbols_of ring5 held5 distinct_given
