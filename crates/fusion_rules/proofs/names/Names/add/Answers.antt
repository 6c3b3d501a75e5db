use Rattle.std.proofs.Common.{◌≡◌, length, arith, sym, ap, ◌∙◌, refl}
use Rattle.std.proofs.lemmas.List.{length-map}
use Rattle.fusion_rules.proofs.NameLemmas.{New, full, known, fresh, last_index, any_is, none_is}
use Rattle.fusion_rules.proofs.names.Names.add.Goals as goal

pub returns-then-len-eq-LABEL_LIMIT : goal.returns-then-len-eq-LABEL_LIMIT
returns-then-len-eq-LABEL_LIMIT c = (full c.self.inside.set.keys _ c.args.name.now c.self.view_is c.in-Some.ensures.0 (omega (arith, c.len.ensures.len)), refl)

pub returns-then-not-is_new : goal.returns-then-not-is_new
returns-then-not-is_new c =
    known c.self.inside.set.keys c.insert_full.new.self.keys c.in-Some.small _ c.args.name.now c.self.view_is c.in-Some.ensures.1 c.in-Some.ensures.0 (omega (arith, c.len.ensures.len))
    (any_is _ c.in-Ok.is_new c.in-Ok.ensures.added c.if-not-is_new.true) c.in-Ok.ensures.keys

fresh_name : (c : goal.After-row_known-1) → New c.args.self.now c.args.name.now c.insert_full.new.self.keys
fresh_name c =
    fresh c.self.inside.set.keys c.insert_full.new.self.keys c.in-Some.small _ c.args.name.now c.self.view_is c.in-Some.ensures.1 c.in-Some.ensures.0 (omega (arith, c.len.ensures.len))
    c.self.invariant (none_is _ c.in-Ok.is_new c.in-Ok.ensures.added c.if-not-is_new.false) c.in-Ok.ensures.keys

pub invariant_of-self-2 : goal.invariant_of-self-2
invariant_of-self-2 c = (fresh_name c).names

pub returns : goal.returns
returns c =
    let new = fresh_name c in
    let index : c.in-Ok.index ≡ length c.self.inside.set.keys = c.in-Ok.ensures.index ∙ last_index c.self.inside.set.keys c.in-Some.small (none_is _ c.in-Ok.is_new c.in-Ok.ensures.added c.if-not-is_new.false) in
    (new.fault, index ∙ sym (length-map c.self.inside.set.keys (λ k. k.bytes)) ∙ ap length c.self.view_is, new.grown)
