-- The definitions, tried on small values.
use Rattle.std.proofs.Common.{◌≡◌, true, false, [], ◌∷◌, refl, codes}
use Rattle.std.specs.Fmt.{digits}
use Rattle.line_text.specs.Spelling.{spelled}
use Rattle.poly_core.specs.Gcd.{gcd}
use Rattle.poly_core.specs.Rho.{degree, order, rho}
use Rattle.poly_core.specs.Roots.{root_at}
use Rattle.cyclo_core.specs.Content.{content}
use Rattle.cyclo_core.specs.Sums.{int_sum}
use Rattle.cyclo_core.specs.Ratio.{reduced, ring_at}
use Rattle.cyclo_text.specs.NumberWords.{spelled_number, trimmed}
use Rattle.category_text.specs.Canonical.{canonical}
use Rattle.tree_shapes.specs.Labelled.{Joined, Strand}
use Rattle.program_text.specs.declared.plan.Sign.TheVariants.{Plus, Minus}
use Rattle.program_text.specs.declared.plan.Command.TheVariants.{Braid, Raise, Measure}
use Rattle.category_maker.specs.declared.commands.TheConstants.{COMMANDS}
use Rattle.category_maker.specs.declared.start.TheConstants.{STRANDS}
use Rattle.category_maker.specs.MadeCategory.{group_fuses, label_names, made_category, root_power}
use Rattle.category_maker.specs.MadeProgram.{comb, commands_from, command_at}
use Rattle.category_maker.specs.MadeSchedule.{rounds_of, schedule_lines}

-- how large it is
sizes : (STRANDS ≡ 16) × (COMMANDS ≡ 1024)
sizes = (refl, refl)

names : label_names 3 ≡ codes "g0" ∷ codes "g1" ∷ codes "g2" ∷ []
unfolding digits
names = refl

sums : (group_fuses 3 2 2 1 ≡ true) × (group_fuses 3 2 2 2 ≡ false) × (group_fuses 3 3 0 0 ≡ false)
sums = (refl, refl, refl)

-- z^4 is -1 - z - z^2 - z^3 where z has order 5, and z z^4 is 1
fourth_power : spelled_number (root_power 5 4) ≡ codes "-1,-1,-1,-1"
unfolding root_power reduced content gcd rho root_at digits spelled_number trimmed
fourth_power = refl

inverse : (ring_at 5).product (root_power 5 1) (root_power 5 4) ≡ (ring_at 5).one
unfolding root_power reduced content gcd rho root_at degree order int_sum
inverse = refl

two_labels : canonical (made_category 2) ≡ codes "category 1\nroot 2\nlabels g0 g1\nfuse g1 g1 g0\nr g1 g1 g0 -1\n"
unfolding canonical digits spelled_number trimmed root_power reduced content gcd rho root_at
two_labels = refl

-- four strands of three labels
four_strands : comb 3 3 ≡ Joined (Joined (Joined (Strand 1) (Strand 2) 0) (Strand 0) 0) (Strand 1) 1
four_strands = refl

-- the first commands of the second site, and its eighth
first_commands : commands_from 9 4 ≡ Braid 9 Plus ∷ Raise 10 ∷ Braid 11 Minus ∷ Measure 12 ∷ []
unfolding commands_from
first_commands = refl

eighth_command : command_at 9 7 ≡ Measure 9
eighth_command = refl

two_rounds : (spelled (schedule_lines 2) ≡ codes "schedule 1\nA B\nA B\n") × (rounds_of 2 ≡ 0 ∷ 1 ∷ 0 ∷ 1 ∷ [])
two_rounds = (refl, refl)
