use Rattle.std.proofs.Common.{arith, refl}
use Rattle.symbol_table.specs.Laws.{HasEveryLaw, laws_of}
use Rattle.symbol_table.specs.declared.law.Law.TheVariants.{UnitF, UnitR, UnitW, RealW, InverseW, NormR, DeriveH, DeriveS, InverseF, InverseH, Rigid, Pentagon, HexagonOne, HexagonTwo, UnitTwist, Twist, UnitLoop, LoopSum, LoopF}
use Rattle.symbol_table.proofs.laws.every_law.Goals as goal

every : HasEveryLaw (laws_of 2)
every UnitF = (0, omega arith, refl)
every UnitR = (1, omega arith, refl)
every UnitW = (2, omega arith, refl)
every RealW = (3, omega arith, refl)
every InverseW = (4, omega arith, refl)
every NormR = (5, omega arith, refl)
every DeriveH = (6, omega arith, refl)
every DeriveS = (7, omega arith, refl)
every InverseF = (8, omega arith, refl)
every InverseH = (9, omega arith, refl)
every Rigid = (10, omega arith, refl)
every Pentagon = (11, omega arith, refl)
every HexagonOne = (12, omega arith, refl)
every HexagonTwo = (13, omega arith, refl)
every UnitTwist = (14, omega arith, refl)
every Twist = (15, omega arith, refl)
every UnitLoop = (16, omega arith, refl)
every LoopSum = (17, omega arith, refl)
every LoopF = (18, omega arith, refl)

pub returns-clause-all : goal.returns-clause-all
returns-clause-all c = every
