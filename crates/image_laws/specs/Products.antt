-- The product of two categories: a label is a pair of labels, and every symbol is the product of two.
use Rattle.std.specs.Prelude.{ℕ, ◌*◌, ◌/◌, ◌%◌, ◌&&◌}
use Rattle.symbol_table.specs.Symbols.{Symbols}

module _ {E : Type 0} (c d : Symbols E) where
  -- The pair (i, j) has the number i K + j, with K the second's number of labels. So these are the labels of a pair.
  abbrev pub first_of : ℕ → ℕ
  first_of a = a / d.count

  abbrev pub second_of : ℕ → ℕ
  second_of a = a % d.count

  abbrev both_of : E → E → E
  both_of = c.ring.product

  -- the version and the ring are those of both
  abbrev pub product_of : Symbols E
  product_of = record {
    version = c.version;
    ring = c.ring;
    held = c.held;
    count = c.count * d.count;
    fuse = λ a b e. c.fuse (first_of a) (first_of b) (first_of e) && d.fuse (second_of a) (second_of b) (second_of e);
    f = λ a b m k e f.
        both_of (c.f (first_of a) (first_of b) (first_of m) (first_of k) (first_of e) (first_of f))
        (d.f (second_of a) (second_of b) (second_of m) (second_of k) (second_of e) (second_of f));
    h = λ a b m k f e.
        both_of (c.h (first_of a) (first_of b) (first_of m) (first_of k) (first_of f) (first_of e))
        (d.h (second_of a) (second_of b) (second_of m) (second_of k) (second_of f) (second_of e));
    r = λ a b e. both_of (c.r (first_of a) (first_of b) (first_of e)) (d.r (second_of a) (second_of b) (second_of e));
    s = λ a b e. both_of (c.s (first_of a) (first_of b) (first_of e)) (d.s (second_of a) (second_of b) (second_of e));
    w = λ a b e. both_of (c.w (first_of a) (first_of b) (first_of e)) (d.w (second_of a) (second_of b) (second_of e));
    v = λ a b e. both_of (c.v (first_of a) (first_of b) (first_of e)) (d.v (second_of a) (second_of b) (second_of e));
    twist = λ a. both_of (c.twist (first_of a)) (d.twist (second_of a));
    loop_value = λ a. both_of (c.loop_value (first_of a)) (d.loop_value (second_of a));
  }
