-- What a number is spelled with: printable bytes, at most 695.
use Rattle.std.proofs.Common.{◌≡◌, ℕ, zero, suc, ◌+◌, ◌*◌, ◌<◌, ◌≤◌, List, [], ◌∷◌, true, length, map, refl, sym, subst, arith, inl, inr}
use Rattle.std.specs.Prelude.{ℤ, pos, negsuc, unsigned_abs}
use Rattle.std.specs.Fmt.{decimal, signed_decimal}
use Rattle.std.specs.List.{join_with_byte}
use Rattle.std.proofs.lemmas.Bool.{cases_eq}
use Rattle.std.proofs.lemmas.List.{length-append}
use Rattle.std.proofs.lemmas.Fmt.{decimal_digit}
use Rattle.poly_core.specs.Table.{at}
use Rattle.cyclo_core.specs.Ratio.{Ratio, most}
use Rattle.cyclo_text.specs.NumberWords.{comma, slash, trimmed, spelled_number}
use Rattle.cyclo_text.proofs.TrimLemmas.{spelled-whole, spelled-over}
use Rattle.line_text.specs.Spelling.{is_plain_word}
use Rattle.line_text.proofs.PlainWordLemmas.{IsWord, word_bytes, word_append, plain_cons, decimal_word}

decimal_small : (n : ℕ) → n ≤ most → IsWord (decimal n) 39
decimal_small n fits = decimal_word n 39 (omega arith) (omega arith) (omega arith)

signed_word : (z : ℤ) → unsigned_abs z ≤ most → IsWord (signed_decimal z) 40
signed_word (pos zero) fits = subst (λ w. IsWord w 40) (sym (decimal_digit 0 (omega arith))) (record { plain = refl; short = omega arith })
signed_word (pos (suc n)) fits = let w = decimal_small (suc n) fits in record { plain = w.plain; short = omega (arith, w.short) }
signed_word (negsuc n) fits = let w = decimal_small (suc n) fits in record { plain = plain_cons 45 (decimal (suc n)) (omega arith) (omega arith) (word_bytes (decimal (suc n)) w.plain); short = omega (arith, w.short) }

abbrev pub AreSmall : List ℤ → Type 0
AreSmall zs = (j : ℕ) → unsigned_abs (at zs j) ≤ most

abbrev pub parts_text : List ℤ → List ℕ
parts_text zs = join_with_byte comma (map signed_decimal zs)

-- parts with commas between them: 41 bytes a part, less the last comma
parts_word : (z : ℤ) (zs : List ℤ) → AreSmall (z ∷ zs) → (is_plain_word (parts_text (z ∷ zs)) ≡ true) × (length (parts_text (z ∷ zs)) + 1 ≤ 41 * length (z ∷ zs))
parts_word z [] small = let w = signed_word z (small 0) in (w.plain, omega (arith, w.short))
parts_word z (y ∷ ys) small =
    let w = signed_word z (small 0) in
    let rest = parts_word y ys (λ j. small (suc j)) in (
      word_append (signed_decimal z) (comma ∷ parts_text (y ∷ ys)) w.plain (plain_cons comma (parts_text (y ∷ ys)) (omega arith) (omega arith) (word_bytes (parts_text (y ∷ ys)) rest.0)),
      (let more = rest.1 in omega (arith, w.short, more, length-append (signed_decimal z) (comma ∷ parts_text (y ∷ ys)))),
    )

-- A number of at least one part and at most sixteen, of magnitudes up to the greatest, over a denominator that isn't 0.
pub record IsSpellable (x : Ratio) : Type 0 where
  pub some : 0 < length (trimmed x.numerators)
  pub few : length (trimmed x.numerators) ≤ 16
  pub small : AreSmall (trimmed x.numerators)
  pub positive : 0 < x.denominator
  pub bounded : x.denominator ≤ most

some_parts : (zs : List ℤ) → 0 < length zs → length zs ≤ 16 → AreSmall zs → IsWord (parts_text zs) 655
some_parts [] some few small = absurd (omega arith)
some_parts (z ∷ zs) some few small = let w = parts_word z zs small in record { plain = w.0; short = (let short = w.1 in omega arith) }

pub number_word : (x : Ratio) → IsSpellable x → IsWord (spelled_number x) 695
number_word x is =
    let zs = trimmed x.numerators in
    let front = some_parts zs is.some is.few is.small in
    let under = decimal_small x.denominator is.bounded in
    elim (cases_eq x.denominator 1) [
      | inl one ↦ subst (λ w. IsWord w 695) (sym (spelled-whole x one)) (record { plain = front.plain; short = omega (arith, front.short) })
      | inr ne ↦
          subst (λ w. IsWord w 695) (sym (spelled-over x ne)) (record {
            plain = word_append (parts_text zs) (slash ∷ decimal x.denominator) front.plain (plain_cons slash (decimal x.denominator) (omega arith) (omega arith) (word_bytes (decimal x.denominator) under.plain));
            short = omega (arith, front.short, under.short, length-append (parts_text zs) (slash ∷ decimal x.denominator));
          })
    ]
