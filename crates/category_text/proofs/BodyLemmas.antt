-- What a line gives to the text from there on.
use Rattle.std.proofs.Common.{◌≡◌, ℕ, List, ◌∷◌, true, false, refl, sym, ap, subst, ◌∙◌, Option, Some, None, Result, Ok, Err}
use Rattle.line_text.specs.Text.{Found, Counted, words_of}
use Rattle.category_text.specs.declared.fault.CategoryCause.{CategoryCause}
use Rattle.category_text.specs.declared.fault.CategoryCause.TheVariants.{Misplaced}
use Rattle.category_text.specs.declared.kind.Kind.{Kind}
use Rattle.category_text.specs.declared.kind.LineKind.{LineKind}
use Rattle.category_text.specs.declared.kind.LineKind.TheVariants.{Fusion, OfSymbol}
use Rattle.category_text.specs.Named.{NamedSymbols, with_fusion}
use Rattle.category_text.specs.Reading.{Fault, SoFar, fused, fuse_of, fusion_fault, labels_at, sized, symbol_of, line_kind, line_of}
use Rattle.category_text.specs.declared.fault.CategoryFault.{CategoryFault}
use Rattle.category_text.specs.declared.fault.CategoryFault.TheVariants.{At, Memory}
use Rattle.category_text.specs.declared.fault.Refused.{Refused}
use Rattle.category_text.specs.declared.fault.Stop.{Stop}
use Rattle.category_text.specs.declared.fault.Stop.TheVariants.{Cause}
use Rattle.cyclo_core.specs.Ratio.{Ratio}
use Rattle.symbol_table.specs.Symbols.{Given}
use Rattle.symbol_table.specs.declared.index.VIndex.{VIndex}
use Rattle.fusion_rules.specs.Fusion.{Fusion as Rules}
use Rattle.category_text.specs.Answers.{Fails, Says, Tells, body_said, fault_at, fusing, lined_at, may, rules_given, told_at}

abbrev pub fault_in : ℕ → CategoryCause → Fault
fault_in line cause = record { line = line; cause = cause }

-- while fuse lines are read, and behind the first symbol line
abbrev pub early : NamedSymbols → SoFar
early said = record { said = said; has_symbols = false }

abbrev pub late : NamedSymbols → SoFar
late said = record { said = said; has_symbols = true }

module _ (line : ℕ) (text : List ℕ) (more : List Found) where
  line_read : (before next : SoFar) → line_of before (words_of text) ≡ Ok next → body_said before (Counted line text ∷ more) ≡ body_said next more
  line_read before next e = rw e refl

  line_stops : (before : SoFar) (cause : CategoryCause) → line_of before (words_of text) ≡ Err cause → body_said before (Counted line text ∷ more) ≡ Err (fault_in line cause)
  line_stops before cause e = rw e refl

  kind_stops_line : (before : SoFar) (cause : CategoryCause) → line_kind (words_of text) ≡ Err cause → line_of before (words_of text) ≡ Err cause
  unfolding line_of
  kind_stops_line before cause e = rw e refl

  fusion_line : (said : NamedSymbols) → line_kind (words_of text) ≡ Ok Fusion → line_of (early said) (words_of text) ≡ fuse_of said (words_of text)
  unfolding line_of
  fusion_line said e = rw e refl

  late_line : (said : NamedSymbols) → line_kind (words_of text) ≡ Ok Fusion → line_of (late said) (words_of text) ≡ Err Misplaced
  unfolding line_of
  late_line said e = rw e refl

  symbol_line : (before : SoFar) (kind : Kind) → line_kind (words_of text) ≡ Ok (OfSymbol kind) → line_of before (words_of text) ≡ symbol_of kind before.said (words_of text)
  unfolding line_of
  symbol_line before kind e = rw e refl

  pub kind_stops : (before : SoFar) (cause : CategoryCause) → line_kind (words_of text) ≡ Err cause → body_said before (Counted line text ∷ more) ≡ Err (fault_in line cause)
  kind_stops before cause e = line_stops before cause (kind_stops_line before cause e)

  pub fusion_read : (said : NamedSymbols) (next : SoFar) → line_kind (words_of text) ≡ Ok Fusion → fuse_of said (words_of text) ≡ Ok next → body_said (early said) (Counted line text ∷ more) ≡ body_said next more
  fusion_read said next e f = line_read (early said) next (fusion_line said e ∙ f)

  pub fusion_stops : (said : NamedSymbols) (cause : CategoryCause) → line_kind (words_of text) ≡ Ok Fusion → fuse_of said (words_of text) ≡ Err cause → body_said (early said) (Counted line text ∷ more) ≡ Err (fault_in line cause)
  fusion_stops said cause e f = line_stops (early said) cause (fusion_line said e ∙ f)

  pub fusion_late : (said : NamedSymbols) → line_kind (words_of text) ≡ Ok Fusion → body_said (late said) (Counted line text ∷ more) ≡ Err (fault_in line Misplaced)
  fusion_late said e = line_stops (late said) Misplaced (late_line said e)

  pub symbol_read : (before next : SoFar) (kind : Kind) → line_kind (words_of text) ≡ Ok (OfSymbol kind) → symbol_of kind before.said (words_of text) ≡ Ok next → body_said before (Counted line text ∷ more) ≡ body_said next more
  symbol_read before next kind e f = line_read before next (symbol_line before kind e ∙ f)

  pub symbol_stops : (before : SoFar) (cause : CategoryCause) (kind : Kind) → line_kind (words_of text) ≡ Ok (OfSymbol kind) → symbol_of kind before.said (words_of text) ≡ Err cause → body_said before (Counted line text ∷ more) ≡ Err (fault_in line cause)
  symbol_stops before cause kind e f = line_stops before cause (symbol_line before kind e ∙ f)

  -- the first symbol line may stand behind fuse lines or behind symbol lines
  pub first_symbol : (said : NamedSymbols) (kind : Kind) → line_kind (words_of text) ≡ Ok (OfSymbol kind) → body_said (early said) (Counted line text ∷ more) ≡ body_said (late said) (Counted line text ∷ more)
  first_symbol said kind e = rw (symbol_line (early said) kind e, symbol_line (late said) kind e) refl

-- What calls for one line tell.
pub lined_ok : {X : Type 0} (n : ℕ) (r : Result X CategoryCause) (x : X) → ◌≡◌ {A = Result X Refused} (Ok x) (lined_at n r) → r ≡ Ok x
lined_ok n (Ok y) x e = let same : x ≡ y = cc in ap Ok (sym same)
lined_ok n (Err cause) x e = absurd (cc)

lined_err : {X : Type 0} (n : ℕ) (cause : CategoryCause) (refused : Refused) → ◌≡◌ {A = Result X Refused} (Err refused) (Err (record { line = n; cause = cause })) → fault_in n cause ≡ fault_at refused
lined_err n cause refused e = let same : refused ≡ record { line = n; cause = cause } = cc in ap fault_at (sym same)

pub tells_ok : (n : ℕ) (r : Result Unit CategoryCause) (u : Unit) (next : SoFar) (stated : Result SoFar CategoryCause) → ◌≡◌ {A = Result Unit Refused} (Ok u) (lined_at n r) → Tells (λ _. next) r stated → stated ≡ Ok next
tells_ok n (Ok v) u next stated e told = told
tells_ok n (Err cause) u next stated e told = absurd (cc)

pub says_ok : (n : ℕ) (r : Result Unit Stop) (u : Unit) (next : SoFar) (stated : Result SoFar CategoryCause) → ◌≡◌ {A = Result Unit CategoryFault} (Ok u) (told_at n r) → Says (λ _. next) r stated → stated ≡ Ok next
says_ok n (Ok v) u next stated e told = told
says_ok n (Err Stop.Memory) u next stated e told = absurd (cc)
says_ok n (Err (Cause cause)) u next stated e told = absurd (cc)

module _ (n : ℕ) (text : List ℕ) (more : List Found) where
  pub kind_refused : (before : SoFar) (r : Result LineKind CategoryCause) (refused : Refused) → ◌≡◌ {A = Result LineKind Refused} (Err refused) (lined_at n r) → r ≡ line_kind (words_of text) → body_said before (Counted n text ∷ more) ≡ Err (fault_at refused)
  kind_refused before (Ok kind) refused e f = absurd (cc)
  kind_refused before (Err cause) refused e f = kind_stops n text more before cause (sym f) ∙ ap Err (lined_err {X = LineKind} n cause refused e)

  pub fusion_refused : (said : NamedSymbols) (r : Result Unit CategoryCause) (next : SoFar) (refused : Refused) → ◌≡◌ {A = Result Unit Refused} (Err refused) (lined_at n r) → Tells (λ _. next) r (fuse_of said (words_of text)) → line_kind (words_of text) ≡ Ok Fusion
      → body_said (early said) (Counted n text ∷ more) ≡ Err (fault_at refused)
  fusion_refused said (Ok u) next refused e told kind = absurd (cc)
  fusion_refused said (Err cause) next refused e told kind = fusion_stops n text more said cause kind told ∙ ap Err (lined_err {X = Unit} n cause refused e)

  pub symbol_fails : (said : NamedSymbols) (kind : Kind) (r : Result Unit Stop) (next : SoFar) (fault : CategoryFault) → ◌≡◌ {A = Result Unit CategoryFault} (Err fault) (told_at n r) → Says (λ _. next) r (symbol_of kind said (words_of text)) → line_kind (words_of text) ≡ Ok (OfSymbol kind)
      → Fails fault (body_said (late said) (Counted n text ∷ more))
  symbol_fails said kind (Ok u) next fault e told is = absurd (cc)
  symbol_fails said kind (Err Stop.Memory) next fault e told is = let same : Memory ≡ fault = cc in subst (λ f. Fails f (body_said (late said) (Counted n text ∷ more))) same tt
  symbol_fails said kind (Err (Cause cause)) next fault e told is = let same : At n cause ≡ fault = cc in subst (λ f. Fails f (body_said (late said) (Counted n text ∷ more))) same (symbol_stops n text more (late said) cause kind is told)

-- The triple of a fuse line.
module _ (version ring : ℕ) (names words : List (List ℕ)) (old new : Rules) (at : VIndex) (size : sized 4 words ≡ Ok tt) (labels : labels_at names words 1 ≡ Ok at) where
  pub triple_read : may (fusion_fault (rules_given old) at) ≡ Ok tt → rules_given new ≡ with_fusion (rules_given old) at.a at.b at.c → fuse_of (fusing version ring names old).said words ≡ Ok (fusing version ring names new)
  unfolding fuse_of
  triple_read free grown = rw (size, labels) (go (fusion_fault (rules_given old) at) free)
    where
      go : (fault : Option CategoryCause) → may fault ≡ Ok tt → fused (fusing version ring names old).said at fault ≡ Ok (fusing version ring names new)
      go None e = ap (λ (g : Given Ratio). Ok (record { said = record { root = ring; names = names; given = record g { version = version } }; has_symbols = false })) (sym grown)
      go (Some cause) e = absurd (cc)

  pub triple_stops : (cause : CategoryCause) → may (fusion_fault (rules_given old) at) ≡ Err cause → fuse_of (fusing version ring names old).said words ≡ Err cause
  unfolding fuse_of
  triple_stops cause refused = rw (size, labels) (go (fusion_fault (rules_given old) at) refused)
    where
      go : (fault : Option CategoryCause) → may fault ≡ Err cause → fused (fusing version ring names old).said at fault ≡ Err cause
      go None e = absurd (cc)
      go (Some c) e = e'
        where
          e' : ◌≡◌ {A = Result SoFar CategoryCause} (Err c) (Err cause)
          e' = let same : c ≡ cause = cc in ap Err same
