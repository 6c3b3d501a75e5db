use Rattle.std.proofs.Common.{map, ap}
use Rattle.program_text.specs.Program.{outcome_of, program_of, site_of}
use Rattle.program_text.proofs.WrittenLemmas.{whole_more}
use Rattle.program_text.proofs.program_writing.extend_program.Goals as goal

pub returns : goal.returns
returns c =
    whole_more c.args.names.now (program_of c.args.plan.now) c.count_strands-strands.result (map outcome_of c.deref.result.now) (map site_of c.deref-2.result.now)
    c.args.out.now.items c.extend_plain.new.out.items c.extend_start.new.out.items c.extend_body.new.out.items
    c.count_strands-strands.ensures (ap (map outcome_of) c.deref.ensures.value) (ap (map site_of) c.deref-2.ensures.value)
    c.in_ok-extend_plain.ensures c.in_ok-extend_start.ensures c.in_ok-extend_body.ensures
