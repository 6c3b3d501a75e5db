-- From the head and the body to the whole text.
use Rattle.std.proofs.Common.{◌≡◌, ℕ, List, length, false, sym, ap, ◌∙◌, Ok}
use Rattle.line_text.specs.Text.{Found, reading_of}
use Rattle.fusion_rules.specs.Fusion.{Fusion, fuses, unit_fuses}
use Rattle.category_text.specs.Named.{only_units}
use Rattle.symbol_table.specs.Symbols.{Given}
use Rattle.cyclo_core.specs.Ratio.{Ratio}
use Rattle.category_text.specs.Reading.{SoFar, head_of, begun, category_of}
use Rattle.category_text.specs.Answers.{body_said, fusing}
use Rattle.category_text.proofs.SymbolLemmas.{begun_given}

-- the rules that have the unit triples alone are the beginning
begun_is : (version ring : ℕ) (names : List (List ℕ)) (rules : Fusion) (count : ℕ) → rules.count ≡ count → count ≡ length names → ((a b c : ℕ) → fuses rules a b c ≡ unit_fuses count a b c)
    → begun version ring names ≡ fusing version ring names rules
begun_is version ring names rules count counted named triples =
    ap (λ (g : Given Ratio). record { said = record { root = ring; names = names; given = record g { version = version } }; has_symbols = false })
    (sym (begun_given rules count counted triples ∙ ap (only_units 1) named))

pub whole_said : (bytes : List ℕ) (version ring : ℕ) (names : List (List ℕ)) (found : List Found) (rules : Fusion) (count : ℕ) → head_of (reading_of 0 bytes) ≡ Ok (((version, ring), names), found) → rules.count ≡ count → count ≡ length names
    → ((a b c : ℕ) → fuses rules a b c ≡ unit_fuses count a b c) → category_of bytes ≡ body_said (fusing version ring names rules) found
unfolding category_of
whole_said bytes version ring names found rules count head counted named triples =
    rw head (ap (λ (s : SoFar). body_said s found) (begun_is version ring names rules count counted named triples))
