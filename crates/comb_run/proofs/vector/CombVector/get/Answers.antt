use Rattle.std.proofs.Common.{◌≡◌, ◌∙◌, true, false, drop, ap, sym, List, ℕ}
use Rattle.std.specs.Str.{bytes_eq}
use Rattle.comb_run.specs.Entries.{path_of}
use Rattle.comb_run.proofs.EntryLemmas.{got_is, none_got}
use Rattle.comb_run.proofs.vector.CombVector.get.Goals as goal

pub returns-then-not-is_over : goal.returns-then-not-is_over
returns-then-not-is_over g c =
    let off : bytes_eq (path_of c.args.strands.now (drop 2 c.args.path.now.items)) c.args.path.now.items ≡ false =
    ap (λ (x : List ℕ). bytes_eq (path_of c.args.strands.now (drop 2 x)) x) (sym c.as_slice.ensures.value) ∙ (sym c.is_over.ensures ∙ c.if-not-is_over.true) in
    sym (none_got c.args.strands.now c.args.self.now c.args.path.now.items c.requires off)

pub returns : goal.returns
returns g c =
    let on : bytes_eq (path_of c.args.strands.now (drop 2 c.args.path.now.items)) c.args.path.now.items ≡ true =
    ap (λ (x : List ℕ). bytes_eq (path_of c.args.strands.now (drop 2 x)) x) (sym c.as_slice.ensures.value) ∙ (sym c.is_over.ensures ∙ c.if-not-is_over.false) in
    rw (← c.self.view_is)
    (c.get.ensures.value ∙ got_is c.args.strands.now c.self.inside.entries.entries c.key_of.result.items c.args.path.now.items
    (ap (λ (key : List ℕ). bytes_eq (path_of c.args.strands.now key) c.args.path.now.items) c.key_of.ensures ∙ on))
