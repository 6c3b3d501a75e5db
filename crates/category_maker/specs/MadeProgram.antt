-- The program of a number.
use Rattle.std.specs.Prelude.{ℕ, zero, suc, ◌+◌, ◌-◌, ◌%◌, ◌==◌, List, [], ◌∷◌, map, codes, if◌then◌else◌}
use Rattle.category_text.specs.Canonical.{counting}
use Rattle.tree_shapes.specs.Labelled.{Labelled, Strand, Joined}
use Rattle.program_text.specs.declared.plan.Sign.TheVariants.{Plus, Minus}
use Rattle.program_text.specs.declared.plan.Command.{Command}
use Rattle.program_text.specs.declared.plan.Command.TheVariants.{Braid, Raise, Measure}
use Rattle.program_text.specs.Program.{Program, ProgramSite}
use Rattle.category_maker.specs.declared.commands.TheConstants.{COMMANDS}
use Rattle.category_maker.specs.declared.start.TheConstants.{STRANDS}

-- the sum of the labels of the strands 1 to k, of which strand k has the label k mod n
abbrev pub strands_sum : ℕ → ℕ → ℕ
strands_sum n zero = 0
strands_sum n (suc k) = strands_sum n k + (k + 1) % n

-- the left-combed tree with k nodes over the strands from 1 on, each node with the sum of its strands modulo n
abbrev pub comb : ℕ → ℕ → Labelled
comb n zero = Strand (1 % n)
comb n (suc k) = Joined (comb n k) (Strand ((k + 2) % n)) (strands_sum n (k + 2) % n)

-- a braid, a raise, a braid of the other sign and a measurement, by the rest modulo 4
abbrev pub turn_command : ℕ → ℕ → Command
turn_command rest gap = if rest == 0 then Braid gap Plus else (if rest == 1 then Raise gap else (if rest == 2 then Braid gap Minus else Measure gap))

-- command j of a site with this first strand
abbrev pub command_at : ℕ → ℕ → Command
command_at first j = turn_command (j % 4) (first + j % 7)

-- so many commands of a site
unfoldable pub commands_from : ℕ → ℕ → List Command
commands_from first count = map (command_at first) (counting 0 count)

-- a site of eight strands
abbrev pub made_site : List ℕ → ℕ → ProgramSite
made_site name first = record { name = name; first = first; last = first + 7; commands = commands_from first COMMANDS }

-- sixteen strands, and the sites `A` and `B` with eight each
abbrev pub made_program : ℕ → Program
made_program n = record {
  version = 1;
  start = comb n (STRANDS - 1);
  sites = made_site (codes "A") 1 ∷ made_site (codes "B") 9 ∷ [];
  outcomes = [];
}
