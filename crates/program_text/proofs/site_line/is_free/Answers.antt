use Rattle.std.proofs.Common.{◌≡◌, map, ap, sym, ◌∙◌, List, true, false}
use Rattle.program_text.specs.Grammar.{all_apart}
use Rattle.program_text.specs.Program.{site_of}
use Rattle.program_text.specs.declared.plan.Site.{Site}
use Rattle.program_text.proofs.DraftLemmas.{apart_none, apart_with}
use Rattle.program_text.proofs.site_line.is_free.Goals as goal

pub returns-else-not-draft : goal.returns-else-not-draft
returns-else-not-draft c =
    let draft = c.args.draft.now in
    let all : all_apart c.args.name.now c.args.first c.args.last (map site_of draft.earlier.items) ≡ true =
    ap (λ (sites : List Site). all_apart c.args.name.now c.args.first c.args.last (map site_of sites)) (sym c.deref.ensures.value) ∙ sym c.all_apart.ensures ∙ c.if-all_apart.true in
    c.is_apart.ensures ∙ sym (apart_with c.args.name.now c.args.first c.args.last draft.has_site (map site_of draft.earlier.items) (site_of draft.current) c.if-not-draft.false all)

pub returns-else-all_apart : goal.returns-else-all_apart
returns-else-all_apart c =
    let draft = c.args.draft.now in
    let none : all_apart c.args.name.now c.args.first c.args.last (map site_of draft.earlier.items) ≡ false =
    ap (λ (sites : List Site). all_apart c.args.name.now c.args.first c.args.last (map site_of sites)) (sym c.deref.ensures.value) ∙ sym c.all_apart.ensures ∙ c.if-all_apart.false in
    c.if-all_apart.false ∙ sym (apart_none c.args.name.now c.args.first c.args.last draft.has_site (map site_of draft.earlier.items) (site_of draft.current) none)
