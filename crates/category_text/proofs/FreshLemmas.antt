-- The symbols that have a line are new, each with a number that is read again.
use Rattle.std.proofs.Common.{◌≡◌, ℕ, ◌+◌, ◌≤◌, List, [], ◌∷◌, Bool, true, false, length, map, refl, sym, ap, subst, ◌∙◌, arith, if◌then◌else◌, Some, None, Ok}
use Rattle.cyclo_core.specs.Ratio.{Ratio}
use Rattle.cyclo_text.specs.NumberWords.{number_of, spelled_number}
use Rattle.symbol_table.specs.Symbols.{Given}
use Rattle.symbol_table.specs.declared.index.VIndex.{VIndex}
use Rattle.category_text.specs.declared.kind.Symbol.{Symbol}
use Rattle.category_text.specs.declared.kind.Symbol.TheVariants.{OfF, OfR, OfW, OfV, OfTwist, OfLoop}
use Rattle.category_text.specs.Named.{NamedSymbols, has_symbol, with_symbol, with_fusion}
use Rattle.category_text.specs.Answers.{SymbolBelow}
use Rattle.category_text.specs.Spelled.{fused_with, fused_all, set_with, head_alone, FreshSymbols}
use Rattle.category_text.proofs.RiseLemmas.{Rises}
use Rattle.category_text.proofs.PairLemmas.{code, value_of, valued}
use Rattle.category_text.proofs.IndexLemmas.{set_of, admitted, same_symbol, same_symbol_is, set_of_with, fuse_with, version_with, can_set}

-- what is true of every element
abbrev pub Each : {A : Type 0} → (A → Type 0) → List A → Type 0
Each P [] = Unit {0}
Each P (x ∷ xs) = P x × Each P xs

-- no symbol is set from a code on
abbrev pub Unset : ℕ → Given Ratio → Type 0
Unset k g = (s : Symbol) → k ≤ code s → set_of g s ≡ None

unset_with : (g : Given Ratio) (s : Symbol) (v : Ratio) (k : ℕ) → Unset k g → k ≤ code s → Unset (code s + 1) (with_symbol g s v)
unset_with g s v k un le t low = set_of_with g s t v ∙ go (same_symbol s t) refl
  where
    go : (b : Bool) → same_symbol s t ≡ b → (if b then Some v else set_of g t) ≡ None
    go true e = absurd (let same : code s ≡ code t = ap code (same_symbol_is s t e) in omega arith)
    go false e = un t (omega arith)

-- of the version, labels below so many names, admitted, and a number that is read again
pub record IsReady (x : NamedSymbols) (n root : ℕ) (fuse : ℕ → ℕ → ℕ → Bool) (s : Symbol) : Type 0 where
  pub below : SymbolBelow n s
  pub known : has_symbol x.given.version s ≡ true
  pub allowed : admitted x.given.count fuse s ≡ true
  pub read : number_of root (spelled_number (value_of x s)) ≡ Ok (value_of x s)

pub fresh_symbols : (x said : NamedSymbols) (k m : ℕ) (ss : List Symbol) → Each (IsReady x (length said.names) said.root said.given.fuse) ss → Rises code k m ss → Unset k said.given → said.given.version ≡ x.given.version
    → FreshSymbols said (map (valued x) ss)
fresh_symbols x said k m [] ready s un same = tt
fresh_symbols x said k m (s ∷ ss) (ready, more) (low, rest) un same = (
  rw same ready.known,
  ready.below,
  can_set said.given x.given.count s ready.allowed (un s low),
  ready.read,
  fresh_symbols x (set_with said s (value_of x s)) (code s + 1) m ss
      (subst (λ fuse. Each (IsReady x (length said.names) said.root fuse) ss) (sym (fuse_with said.given s (value_of x s))) more) rest
      (unset_with said.given s (value_of x s) k un low) (version_with said.given s (value_of x s) ∙ same),
)

-- triples set nothing
set_of_fused : (g : Given Ratio) (a b c : ℕ) (s : Symbol) → set_of (with_fusion g a b c) s ≡ set_of g s
set_of_fused g a b c (OfF at) = refl
set_of_fused g a b c (OfR at) = refl
set_of_fused g a b c (OfW at) = refl
set_of_fused g a b c (OfV at) = refl
set_of_fused g a b c (OfTwist at) = refl
set_of_fused g a b c (OfLoop at) = refl

pub set_of_fused_all : (said : NamedSymbols) (ts : List VIndex) (s : Symbol) → set_of (fused_all said ts).given s ≡ set_of said.given s
set_of_fused_all said [] s = refl
set_of_fused_all said (t ∷ ts) s = set_of_fused_all (fused_with said t) ts s ∙ set_of_fused said.given t.a t.b t.c s

pub set_of_head : (version root : ℕ) (names : List (List ℕ)) (s : Symbol) → set_of (head_alone version root names).given s ≡ None
set_of_head version root names (OfF at) = refl
set_of_head version root names (OfR at) = refl
set_of_head version root names (OfW at) = refl
set_of_head version root names (OfV at) = refl
set_of_head version root names (OfTwist at) = refl
set_of_head version root names (OfLoop at) = refl

pub unset_fused : (version root : ℕ) (names : List (List ℕ)) (ts : List VIndex) (s : Symbol) → set_of (fused_all (head_alone version root names) ts).given s ≡ None
unset_fused version root names ts s = set_of_fused_all (head_alone version root names) ts s ∙ set_of_head version root names s
