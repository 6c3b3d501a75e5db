-- Each law of lawful symbols, and each law of the list.
use Rattle.std.proofs.Common.{◌≡◌, ℕ, List, arith, subst}
use Rattle.std.specs.Prelude.{All, slice_index_or}
use Rattle.symbol_table.specs.Symbols.{Symbols}
use Rattle.symbol_table.specs.Laws.{IsLawful, LawHolds, laws_of}
use Rattle.symbol_table.specs.declared.law.Law.{Law}
use Rattle.symbol_table.specs.declared.law.Law.TheVariants.{UnitF, UnitR, UnitW, RealW, InverseW, NormR, DeriveH, DeriveS, InverseF, InverseH, Rigid, Pentagon, HexagonOne, HexagonTwo, UnitTwist, Twist, UnitLoop, LoopSum, LoopF}

-- what a version says of a law: of those of twists and loop values nothing but in version 2
abbrev pub InVersion : ℕ → (Law → Type 0) → Law → Type 0
InVersion version P UnitTwist = version ≡ 2 → P UnitTwist
InVersion version P Twist = version ≡ 2 → P Twist
InVersion version P UnitLoop = version ≡ 2 → P UnitLoop
InVersion version P LoopSum = version ≡ 2 → P LoopSum
InVersion version P LoopF = version ≡ 2 → P LoopF
InVersion version P law = P law

-- what holds of each law of the second version
in_second : (version : ℕ) (P : Law → Type 0) → version ≡ 2 → All P (laws_of version) → All P (laws_of 2)
in_second version P is all = subst (λ v. All P (laws_of v)) is all

-- what holds of each law of a version holds of every law that it has
pub each_law : (version : ℕ) (P : Law → Type 0) → All P (laws_of version) → (law : Law) → InVersion version P law
each_law version P all UnitF = all 0 UnitF (omega arith)
each_law version P all UnitR = all 1 UnitF (omega arith)
each_law version P all UnitW = all 2 UnitF (omega arith)
each_law version P all RealW = all 3 UnitF (omega arith)
each_law version P all InverseW = all 4 UnitF (omega arith)
each_law version P all NormR = all 5 UnitF (omega arith)
each_law version P all DeriveH = all 6 UnitF (omega arith)
each_law version P all DeriveS = all 7 UnitF (omega arith)
each_law version P all InverseF = all 8 UnitF (omega arith)
each_law version P all InverseH = all 9 UnitF (omega arith)
each_law version P all Rigid = all 10 UnitF (omega arith)
each_law version P all Pentagon = all 11 UnitF (omega arith)
each_law version P all HexagonOne = all 12 UnitF (omega arith)
each_law version P all HexagonTwo = all 13 UnitF (omega arith)
each_law version P all UnitTwist = λ is. in_second version P is all 14 UnitF (omega arith)
each_law version P all Twist = λ is. in_second version P is all 15 UnitF (omega arith)
each_law version P all UnitLoop = λ is. in_second version P is all 16 UnitF (omega arith)
each_law version P all LoopSum = λ is. in_second version P is all 17 UnitF (omega arith)
each_law version P all LoopF = λ is. in_second version P is all 18 UnitF (omega arith)

-- what holds of every law holds of the laws of a list
pub all_of : (P : Law → Type 0) → ((law : Law) → P law) → (laws : List Law) → All P laws
all_of P h laws = λ k d _. h (slice_index_or laws k d)

-- lawful symbols obey each law of their version
pub obeys : {E : Type 0} (c : Symbols E) → IsLawful c → (law : Law) → InVersion c.version (LawHolds c) law
obeys c lawful = each_law c.version (LawHolds c) lawful.laws
