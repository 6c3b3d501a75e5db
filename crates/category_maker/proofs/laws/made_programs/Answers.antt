use Rattle.std.proofs.Common.{arith, subst, sym, ℕ}
use Rattle.program_text.specs.WellFormed.{IsProgram}
use Rattle.program_text.proofs.BackTextLemmas.{programs_again}
use Rattle.category_maker.specs.MadeCategory.{group_fuses, label_names}
use Rattle.category_maker.specs.MadeProgram.{made_program}
use Rattle.category_maker.proofs.ProgramLemmas.{made_well_formed}
use Rattle.category_maker.proofs.NamesLemmas.{names_are}
use Rattle.category_maker.proofs.RoundLemmas.{length-names}
use Rattle.category_maker.proofs.laws.made_programs.Goals as goal

pub returns : goal.returns
returns c = record {
  well_formed = λ n low high. made_well_formed n (omega arith);
  read = λ n low high.
      programs_again (label_names n) (group_fuses n) (made_program n) (names_are n high)
      (subst (λ (m : ℕ). IsProgram (group_fuses n) m (made_program n)) (sym (length-names n)) (made_well_formed n (omega arith)));
}
