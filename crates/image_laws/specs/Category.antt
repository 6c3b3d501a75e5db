-- What makes symbols at all labels those of a category.
use Rattle.std.specs.Prelude.{◌≡◌, Some}
use Rattle.symbol_table.specs.Symbols.{Given, Symbols, symbols_of}
use Rattle.symbol_table.specs.Laws.{IsLawful}

-- what gives each of these symbols: every F, R, w and v, every twist and every loop value is set
abbrev pub given_of : {E : Type 0} → Symbols E → Given E
given_of c = record {
  version = c.version;
  count = c.count;
  fuse = c.fuse;
  set_f = λ a b m d e f. Some (c.f a b m d e f);
  set_r = λ a b e. Some (c.r a b e);
  set_w = λ a b e. Some (c.w a b e);
  set_v = λ a b e. Some (c.v a b e);
  set_twist = λ a. Some (c.twist a);
  set_loop = λ a. Some (c.loop_value a);
}

-- The symbols are lawful; and they are those of what is given: 0 where they aren't admissible, with H and S by their
-- formulas.
pub record AreOfCategory {E : Type 0} (c : Symbols E) : Type 0 where
  pub lawful : IsLawful c
  pub given : symbols_of c.ring c.held (given_of c) ≡ c
