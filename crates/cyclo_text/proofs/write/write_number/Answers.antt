use Rattle.cyclo_text.proofs.ReadBack.{number_back}
use Rattle.cyclo_text.proofs.LengthLemmas.{spelled_short}
use Rattle.cyclo_text.proofs.write.write_number.Goals as goal

pub returns-in_err-text-clause-read_back : goal.returns-in_err-text-clause-read_back
returns-in_err-text-clause-read_back c =
    let e = c.denominator-denominator.ensures in
    λ root accepted member. number_back root c.args.n.now accepted member e.held e.positive e.full

pub returns-clause-read_back : goal.returns-clause-read_back
returns-clause-read_back c =
    let e = c.denominator-denominator.ensures in
    λ root accepted member. number_back root c.args.n.now accepted member e.held e.positive e.full

pub returns-in_err-text-clause-short : goal.returns-in_err-text-clause-short
returns-in_err-text-clause-short c =
    let e = c.denominator-denominator.ensures in
    spelled_short c.args.n.now e.held e.full

pub returns-clause-short : goal.returns-clause-short
returns-clause-short c =
    let e = c.denominator-denominator.ensures in
    spelled_short c.args.n.now e.held e.full
