use Rattle.std.proofs.Common.{◌≡◌, ◌<◌, ◌-◌, arith, sym, ap, ◌∙◌}
use Rattle.std.proofs.lemmas.Result.{err_from_is_err_and}
use Rattle.std.proofs.lemmas.List.{length_push}
use Rattle.std.proofs.lemmas.List.Elements.{All-push}
use Rattle.fusion_rules.specs.Fusion.{Fusion, fuses}
use Rattle.law_events.specs.First.{fuse_known}
use Rattle.category_images.specs.Places.{triples}
use Rattle.category_images.proofs.WalkLemmas.{fuse_known_same, one_more, stuck_fills, walk_ends, walk_stops, whole_index}
use Rattle.category_images.proofs.walk.+fill_more.Goals as goal

pub returns-then-not-fuse_known : goal.returns-then-not-fuse_known
returns-then-not-fuse_known g t c =
    let w = g.P.Pattern.wanted c.args.pattern.now in
    let known = rw (c.rules.ensures, c.as_slice.ensures.value, c.triples.ensures, c.law.ensures.triples) at (sym {b = fuse_known (fuses c.rules.result.now) c.as_slice.result.now c.triples.result.now} c.fuse_known.ensures ∙ c.if-not-fuse_known.true) in
    stuck_fills (g.P.Pattern.number c.args.pattern.now) w (g.P.Pattern.stated c.args.pattern.now) (tt {0}) c.args.symbol c.args.more c.args.index c.args.made.now c.requires.of
    (sym (fuse_known_same (fuses c.args.made.now.draft.rules) w.fuse c.requires.of.fuse c.args.index (triples c.args.symbol)) ∙ known)

pub fill_at-requires-clause-admissible : goal.fill_at-requires-clause-admissible
fill_at-requires-clause-admissible g t c =
    let w = g.P.Pattern.wanted c.args.pattern.now in
    let known = rw (c.rules.ensures, c.as_slice.ensures.value, c.triples.ensures, c.law.ensures.triples) at (sym {b = fuse_known (fuses c.rules.result.now) c.as_slice.result.now c.triples.result.now} c.fuse_known.ensures ∙ c.if-not-fuse_known.false) in
    whole_index w.fuse c.args.symbol c.args.index (omega arith)
    (sym (fuse_known_same (fuses c.args.made.now.draft.rules) w.fuse c.requires.of.fuse c.args.index (triples c.args.symbol)) ∙ known)

pub fill_more-requires : goal.fill_more-requires
fill_more-requires g t c =
    let w = g.P.Pattern.wanted c.args.pattern.now in
    let few : c.loop-t.t < w.count = omega (arith, c.count-t-end.ensures.count, ap (λ (r : Fusion). r.count) c.rules-2.ensures, c.requires.of.count) in
    λ κs lives. (
      omega arith,
      (
        lives,
        (
          c.requires.valid,
          (
            c.loop-t.invariant.of,
            (
              c.requires.belongs,
              (
                rw c.with.ensures (omega (arith, length_push c.args.index c.loop-t.t)),
                rw c.with.ensures (All-push (λ x. x < w.count) c.args.index c.loop-t.t c.requires.labels few),
              ),
            ),
          ),
        ),
      ),
    )

pub returns-in_err-fill_more : goal.returns-in_err-fill_more
returns-in_err-fill_more g t c =
    let w = g.P.Pattern.wanted c.args.pattern.now in
    let few : c.loop-t.t < w.count = omega (arith, c.count-t-end.ensures.count, ap (λ (r : Fusion). r.count) c.rules-2.ensures, c.requires.of.count) in
    let p = err_from_is_err_and c.from_residual.result c.from_residual.ensures.1 in
    rw (p.1, p.2)
    (walk_stops (g.P.Pattern.number c.args.pattern.now) w (g.P.Pattern.stated c.args.pattern.now) c.args.symbol c.args.more c.args.index c.args.made.now c.loop-t.t c.loop-t.made _
    c.if-more-eq0.false few c.loop-t.invariant (rw c.with.ensures at c.in_err-fill_more.ensures))

pub loop-t-preserved : goal.loop-t-preserved
loop-t-preserved g t c =
    let w = g.P.Pattern.wanted c.args.pattern.now in
    let few : c.loop-t.t < w.count = omega (arith, c.count-t-end.ensures.count, ap (λ (r : Fusion). r.count) c.rules-2.ensures, c.requires.of.count) in
    one_more (g.P.Pattern.number c.args.pattern.now) w (g.P.Pattern.stated c.args.pattern.now) c.args.symbol (c.args.more - 1) c.args.index c.args.made.now c.loop-t.t c.loop-t.made c.fill_more.new.made
    few c.loop-t.invariant (rw c.with.ensures at c.in_ok-fill_more.ensures)

pub returns : goal.returns
returns g t c =
    let w = g.P.Pattern.wanted c.args.pattern.now in
    let all : c.loop-t.t ≡ w.count = omega (arith, c.count-t-end.ensures.count, ap (λ (r : Fusion). r.count) c.rules-2.ensures, c.requires.of.count) in
    walk_ends (g.P.Pattern.number c.args.pattern.now) w (g.P.Pattern.stated c.args.pattern.now) c.args.symbol c.args.more c.args.index c.args.made.now c.loop-t.t c.loop-t.made
    c.if-more-eq0.false all c.loop-t.invariant
