-- The canonical text, tried on small categories.
use Rattle.std.proofs.Common.{◌≡◌, [], ◌∷◌, refl, codes, arith}
use Rattle.std.specs.Prelude.{pos, negsuc}
use Rattle.std.specs.Fmt.{digits}
use Rattle.poly_core.specs.Gcd.{totient, gcd}
use Rattle.line_text.specs.Spelling.{ArePlainLines}
use Rattle.cyclo_core.specs.Content.{content}
use Rattle.cyclo_core.specs.Ratio.{Ratio, reduced}
use Rattle.cyclo_text.specs.NumberWords.{spelled_number, trimmed, number_of, halves_of, number_over, value_of, is_part, is_natural, part_value}
use Rattle.symbol_table.specs.Index.{v_index, f_index}
use Rattle.category_text.specs.declared.kind.Symbol.TheVariants.{OfF, OfR, OfTwist, OfLoop}
use Rattle.category_text.specs.Named.{NamedSymbols, only_units, with_fusion, with_symbol}
use Rattle.category_text.specs.Canonical.{canonical}
use Rattle.category_text.specs.Spelled.{head_alone, fused_all, lines_over, FreshTriples, FreshSymbols}

-- the unit alone
unit_alone : canonical (record { root = 1; names = codes "1" ∷ []; given = only_units 1 1 }) ≡ codes "category 1\nroot 1\nlabels 1\n"
unfolding canonical digits spelled_number trimmed
unit_alone = refl

-- two labels: the triples, one value that is 1, and one of each kind that isn't
two : NamedSymbols
two = record {
  root = 4;
  names = codes "1" ∷ codes "t" ∷ [];
  given =
      with_symbol (with_symbol (with_symbol (with_fusion (only_units 1 2) 1 1 0) (OfR (v_index 1 1 0)) (record { numerators = pos 0 ∷ pos 1 ∷ pos 0 ∷ pos 0 ∷ pos 0 ∷ pos 0 ∷ pos 0 ∷ pos 0 ∷ pos 0 ∷ pos 0 ∷ pos 0 ∷ pos 0 ∷ pos 0 ∷ pos 0 ∷ pos 0 ∷ pos 0 ∷ []; denominator = 1 })) (OfF (f_index 1 1 1 1 0 0)) (record { numerators = negsuc 0 ∷ pos 0 ∷ pos 0 ∷ pos 0 ∷ pos 0 ∷ pos 0 ∷ pos 0 ∷ pos 0 ∷ pos 0 ∷ pos 0 ∷ pos 0 ∷ pos 0 ∷ pos 0 ∷ pos 0 ∷ pos 0 ∷ pos 0 ∷ []; denominator = 1 }))
      (OfR (v_index 0 1 1)) (record { numerators = pos 1 ∷ pos 0 ∷ pos 0 ∷ pos 0 ∷ pos 0 ∷ pos 0 ∷ pos 0 ∷ pos 0 ∷ pos 0 ∷ pos 0 ∷ pos 0 ∷ pos 0 ∷ pos 0 ∷ pos 0 ∷ pos 0 ∷ pos 0 ∷ []; denominator = 1 });
}

two_labels : canonical two ≡ codes "category 1\nroot 4\nlabels 1 t\nfuse t t 1\nf t t t t 1 1 -1\nr t t 1 0,1\n"
unfolding canonical digits spelled_number trimmed two
two_labels = refl

-- What a spelled text asks for, met by the unit alone, and by a triple and a value over the head of `two`.
i : Ratio
i = record { numerators = pos 0 ∷ pos 1 ∷ pos 0 ∷ pos 0 ∷ pos 0 ∷ pos 0 ∷ pos 0 ∷ pos 0 ∷ pos 0 ∷ pos 0 ∷ pos 0 ∷ pos 0 ∷ pos 0 ∷ pos 0 ∷ pos 0 ∷ pos 0 ∷ []; denominator = 1 }

unit_lines : ArePlainLines (lines_over (head_alone 1 1 (codes "1" ∷ [])) [] [])
unfolding digits
unit_lines = (record { plain = refl; counts = refl; short = omega arith }, (record { plain = refl; counts = refl; short = omega arith }, (record { plain = refl; counts = refl; short = omega arith }, tt)))

one_triple : FreshTriples (head_alone 1 4 two.names) (v_index 1 1 0 ∷ [])
unfolding two
one_triple = (omega arith, omega arith, omega arith, refl, refl, refl, tt)

one_value : FreshSymbols (fused_all (head_alone 1 4 two.names) (v_index 1 1 0 ∷ [])) ((OfR (v_index 1 1 0), i) ∷ [])
unfolding two i digits spelled_number trimmed number_of halves_of number_over value_of is_part is_natural part_value reduced content totient gcd
one_value = (refl, (omega arith, omega arith, omega arith), refl, refl, tt)

-- the second version: twists before loop values, and none that is 1
marked : NamedSymbols
marked = record {
  root = 4;
  names = codes "1" ∷ codes "t" ∷ [];
  given = with_symbol (with_symbol (with_symbol (only_units 2 2) (OfLoop 1) i) (OfTwist 1) i) (OfTwist 0) (record { numerators = pos 1 ∷ pos 0 ∷ pos 0 ∷ pos 0 ∷ pos 0 ∷ pos 0 ∷ pos 0 ∷ pos 0 ∷ pos 0 ∷ pos 0 ∷ pos 0 ∷ pos 0 ∷ pos 0 ∷ pos 0 ∷ pos 0 ∷ pos 0 ∷ []; denominator = 1 });
}

marked_labels : canonical marked ≡ codes "category 2\nroot 4\nlabels 1 t\ntwist t 0,1\nloop t 0,1\n"
unfolding canonical digits spelled_number trimmed marked i
marked_labels = refl
