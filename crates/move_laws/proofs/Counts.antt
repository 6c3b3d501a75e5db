-- What moves leave of letters alone: their gaps, and how many of them measure.
use Rattle.std.proofs.Common.{◌≡◌, ℕ, suc, ◌+◌, ◌<◌, ◌≤◌, List, [], ◌∷◌, ◌++◌, Some, refl, ap, arith}
use Rattle.std.specs.List.{AllByRecursion}
use Rattle.program_text.specs.Letters.{gap_in, letter_at, letters, measurements, outcomes_of}
use Rattle.program_text.specs.Program.{ProgramSite}
use Rattle.program_text.specs.WellFormed.{AreSites, IsGapOf, commands_in}
use Rattle.program_text.specs.declared.letter.Letter.{Letter}
use Rattle.program_text.specs.declared.letter.Letter.TheVariants.{Crossing, Charge, Tested, Still}
use Rattle.program_text.specs.declared.plan.Command.{Command}
use Rattle.program_text.specs.declared.plan.Command.TheVariants.{Braid, Raise, Measure, BraidWhen}
use Rattle.comb_laws.proofs.PathFacts.{along_append}
use Rattle.word_moves.specs.Moves.{moved, moving}
use Rattle.word_moves.specs.declared.moves.BraidMove.{BraidMove}
use Rattle.move_laws.specs.Linked.{AreAtGaps, IsAtGap, MovesKeepGaps}
use Rattle.move_laws.proofs.Fronts.{HoldsOfFronts, front_holds, moved_holds}

-- a gap between two of n strands
pub record IsBetween (n k : ℕ) : Type 0 where
  pub above : 0 < k
  pub below : k < n

pub gaps_apart : (n : ℕ) (before rest : List Letter) → AreAtGaps n (before ++ rest) → AreAtGaps n before × AreAtGaps n rest
gaps_apart n [] rest at = (tt, at)
gaps_apart n (l ∷ before) rest at = let parts = gaps_apart n before rest at.1 in ((at.0, parts.0), parts.1)

fronts_at_gaps : (n : ℕ) → HoldsOfFronts n (λ ls ls'. AreAtGaps n ls → AreAtGaps n ls')
fronts_at_gaps n = record {
  cancel = λ i s rest at. at.1.1;
  insert = λ k s rest low high at. (record { above = low; below = high }, (record { above = low; below = high }, at));
  far = λ i j s t rest apart at. (at.1.0, (at.0, at.1.1));
  yb = λ i j s rest next at. (at.1.0, (at.0, (record { above = at.1.0.above; below = at.1.0.below }, at.1.1.1)));
}

pub moves_keep_gaps : MovesKeepGaps
moves_keep_gaps n move ls ls' made =
    moved_holds n (λ ls ls'. AreAtGaps n ls → AreAtGaps n ls') move
    (λ before rest rest' front at.
    let parts = gaps_apart n before rest at in
    along_append (IsAtGap n) before rest' parts.0 (front_holds n (λ ls ls'. AreAtGaps n ls → AreAtGaps n ls') (fronts_at_gaps n) move rest rest' front parts.1))
    ls ls' made

-- how many letters measure
abbrev pub charges : List Letter → ℕ
charges [] = 0
charges (Crossing k sign ∷ ls) = charges ls
charges (Charge k place ∷ ls) = suc (charges ls)
charges (Tested k sign place label ∷ ls) = charges ls
charges (Still k ∷ ls) = charges ls

charges_behind : (before rest rest' : List Letter) → charges rest ≡ charges rest' → charges (before ++ rest) ≡ charges (before ++ rest')
charges_behind [] rest rest' same = same
charges_behind (Crossing k sign ∷ before) rest rest' same = charges_behind before rest rest' same
charges_behind (Charge k place ∷ before) rest rest' same = ap (λ m. suc m) (charges_behind before rest rest' same)
charges_behind (Tested k sign place label ∷ before) rest rest' same = charges_behind before rest rest' same
charges_behind (Still k ∷ before) rest rest' same = charges_behind before rest rest' same

front_charges : (n : ℕ) → HoldsOfFronts n (λ ls ls'. charges ls ≡ charges ls')
front_charges n = record {
  cancel = λ i s rest. refl;
  insert = λ k s rest low high. refl;
  far = λ i j s t rest apart. refl;
  yb = λ i j s rest next. refl;
}

pub moves_keep_charges : (n : ℕ) (move : BraidMove) (ls ls' : List Letter) → moved n move ls ≡ Some ls' → charges ls ≡ charges ls'
moves_keep_charges n move ls ls' made =
    moved_holds n (λ ls ls'. charges ls ≡ charges ls') move
    (λ before rest rest' front. charges_behind before rest rest' (front_holds n (λ ls ls'. charges ls ≡ charges ls') (front_charges n) move rest rest' front))
    ls ls' made

-- the letters of commands
pub charges_of_letters : (p : ℕ) (cs : List Command) → charges (letters p cs) ≡ measurements cs
charges_of_letters p [] = refl
charges_of_letters p (Braid k sign ∷ cs) = charges_of_letters (p + 0) cs
charges_of_letters p (Raise k ∷ cs) = charges_of_letters (p + 0) cs
charges_of_letters p (Measure k ∷ cs) = ap (λ m. suc m) (charges_of_letters (p + 1) cs)
charges_of_letters p (BraidWhen k sign place label ∷ cs) = charges_of_letters (p + 0) cs

pub charges_of_moving : (ls : List Letter) → charges (moving ls) ≡ charges ls
charges_of_moving [] = refl
charges_of_moving (Crossing k sign ∷ ls) = charges_of_moving ls
charges_of_moving (Charge k place ∷ ls) = ap (λ m. suc m) (charges_of_moving ls)
charges_of_moving (Tested k sign place label ∷ ls) = charges_of_moving ls
charges_of_moving (Still k ∷ ls) = charges_of_moving ls

pub moving_at_gaps : (n : ℕ) (ls : List Letter) → AreAtGaps n ls → AreAtGaps n (moving ls)
moving_at_gaps n [] at = tt
moving_at_gaps n (Crossing k sign ∷ ls) at = (at.0, moving_at_gaps n ls at.1)
moving_at_gaps n (Charge k place ∷ ls) at = (at.0, moving_at_gaps n ls at.1)
moving_at_gaps n (Tested k sign place label ∷ ls) at = (at.0, moving_at_gaps n ls at.1)
moving_at_gaps n (Still k ∷ ls) at = moving_at_gaps n ls at.1

-- the commands of sites are at gaps, and so are their letters
abbrev AreBetween : ℕ → List Command → Type 0
AreBetween n cs = AllByRecursion (λ command. IsBetween n (gap_in command)) cs

commands_between : (n : ℕ) (site : ProgramSite) (cs : List Command) → 1 ≤ site.first → site.last ≤ n → AllByRecursion (IsGapOf site) cs → AreBetween n cs
commands_between n site [] some inside gaps = tt
commands_between n site (command ∷ cs) some inside gaps =
    let low : site.first ≤ gap_in command = gaps.0.0 in
    let high : gap_in command < site.last = gaps.0.1 in
    (record { above = omega arith; below = omega arith }, commands_between n site cs some inside gaps.1)

sites_between : (n : ℕ) (before sites : List ProgramSite) → AreSites n before sites → AreBetween n (commands_in sites)
sites_between n before [] are = tt
sites_between n before (site ∷ sites) are =
    along_append (λ command. IsBetween n (gap_in command)) site.commands (commands_in sites)
    (commands_between n site site.commands are.0.some are.0.inside are.0.gaps) (sites_between n (before ++ site ∷ []) sites are.2)

letter_at_gap : (n p : ℕ) (command : Command) → IsBetween n (gap_in command) → IsAtGap n (letter_at p command)
letter_at_gap n p (Braid k sign) at = record { above = at.above; below = at.below }
letter_at_gap n p (Raise k) at = record { above = at.above; below = at.below }
letter_at_gap n p (Measure k) at = record { above = at.above; below = at.below }
letter_at_gap n p (BraidWhen k sign place label) at = record { above = at.above; below = at.below }

letters_at_gaps : (n p : ℕ) (cs : List Command) → AreBetween n cs → AreAtGaps n (letters p cs)
letters_at_gaps n p [] at = tt
letters_at_gaps n p (command ∷ cs) at = (letter_at_gap n p command at.0, letters_at_gaps n (p + outcomes_of command) cs at.1)

pub sites_at_gaps : (n : ℕ) (sites : List ProgramSite) → AreSites n [] sites → AreAtGaps n (letters 0 (commands_in sites))
sites_at_gaps n sites are = letters_at_gaps n 0 (commands_in sites) (sites_between n [] sites are)
