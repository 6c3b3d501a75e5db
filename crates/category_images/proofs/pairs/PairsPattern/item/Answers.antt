use Rattle.std.proofs.Common.{◌≡◌, ℕ, ◌<◌, List, map, subst, sym, ap, ap₂, ◌∙◌, true}
use Rattle.std.specs.Prelude.{◌/◌, ◌%◌, All}
use Rattle.fusion_rules.specs.Fusion.{Fusion, fuses}
use Rattle.symbol_table.specs.Laws.{fuse_all}
use Rattle.category_images.specs.Answers.{symbols_of_root, wanted_product}
use Rattle.category_images.specs.Places.{triples, value_at}
use Rattle.category_images.proofs.PairLemmas.{first_fuses, firsts_low, product_gives, product_value, second_fuses, seconds_low, value_along}
use Rattle.category_images.proofs.pairs.PairsPattern.item.Goals as goal

pub value_of-first-requires-clause-labels : goal.value_of-first-requires-clause-labels
value_of-first-requires-clause-labels c =
    let one = c.args.self.now.one.now in
    let two = c.args.self.now.two.now in
    let i = c.args.index.now in
    let k = c.count-k.ensures.count ∙ ap (λ (g : Fusion). g.count) c.rules.ensures in
    let firsts = c.as_slice.ensures.value ∙ c.firsts.ensures ∙ ap (λ (n : ℕ). map (λ a. a / n) i) k in
    let rules = rw c.rules.ensures at c.count-k.ensures.rules in
    subst (λ (xs : List ℕ). All (λ t. t < one.rules.count) xs) (sym firsts) (firsts_low one.rules.count two.rules.count rules.some i c.requires.labels)

pub value_of-first-requires-clause-admissible : goal.value_of-first-requires-clause-admissible
value_of-first-requires-clause-admissible c =
    let one = c.args.self.now.one.now in
    let two = c.args.self.now.two.now in
    let i = c.args.index.now in
    let k = c.count-k.ensures.count ∙ ap (λ (g : Fusion). g.count) c.rules.ensures in
    let firsts = c.as_slice.ensures.value ∙ c.firsts.ensures ∙ ap (λ (n : ℕ). map (λ a. a / n) i) k in
    subst (λ (xs : List ℕ). fuse_all (fuses one.rules) xs (triples c.args.symbol) ≡ true) (sym firsts)
    (first_fuses (symbols_of_root one) (symbols_of_root two) c.args.symbol i c.requires.long c.requires.admissible)

pub value_of-second-requires-clause-labels : goal.value_of-second-requires-clause-labels
value_of-second-requires-clause-labels c =
    let one = c.args.self.now.one.now in
    let two = c.args.self.now.two.now in
    let i = c.args.index.now in
    let k = c.count-k.ensures.count ∙ ap (λ (g : Fusion). g.count) c.rules.ensures in
    let seconds = c.as_slice-2.ensures.value ∙ c.seconds.ensures ∙ ap (λ (n : ℕ). map (λ a. a % n) i) k in
    let rules = rw c.rules.ensures at c.count-k.ensures.rules in
    subst (λ (xs : List ℕ). All (λ t. t < two.rules.count) xs) (sym seconds) (seconds_low one.rules.count two.rules.count rules.some i c.requires.labels)

pub value_of-second-requires-clause-admissible : goal.value_of-second-requires-clause-admissible
value_of-second-requires-clause-admissible c =
    let one = c.args.self.now.one.now in
    let two = c.args.self.now.two.now in
    let i = c.args.index.now in
    let k = c.count-k.ensures.count ∙ ap (λ (g : Fusion). g.count) c.rules.ensures in
    let seconds = c.as_slice-2.ensures.value ∙ c.seconds.ensures ∙ ap (λ (n : ℕ). map (λ a. a % n) i) k in
    subst (λ (xs : List ℕ). fuse_all (fuses two.rules) xs (triples c.args.symbol) ≡ true) (sym seconds)
    (second_fuses (symbols_of_root one) (symbols_of_root two) c.args.symbol i c.requires.long c.requires.admissible)

pub returns-clause-stated : goal.returns-clause-stated
returns-clause-stated c =
    let one = c.args.self.now.one.now in
    let two = c.args.self.now.two.now in
    let i = c.args.index.now in
    let k = c.count-k.ensures.count ∙ ap (λ (g : Fusion). g.count) c.rules.ensures in
    let firsts = c.as_slice.ensures.value ∙ c.firsts.ensures ∙ ap (λ (n : ℕ). map (λ a. a / n) i) k in
    let seconds = c.as_slice-2.ensures.value ∙ c.seconds.ensures ∙ ap (λ (n : ℕ). map (λ a. a % n) i) k in
    let first = c.value_of-first.ensures.value ∙ ap (λ (xs : List ℕ). value_at (symbols_of_root one) c.args.symbol xs) firsts in
    let second = c.value_of-second.ensures.value ∙ ap (λ (xs : List ℕ). value_at (symbols_of_root two) c.args.symbol xs) seconds in
    let given = product_gives (symbols_of_root one).ring c.mul.result c.value_of-first.result c.value_of-second.result (rw c.ring.ensures at c.mul.ensures.fits) (rw c.ring.ensures at c.mul.ensures.value) in
    rw (first, second) at given

pub returns-clause-value : goal.returns-clause-value
returns-clause-value c =
    let one = c.args.self.now.one.now in
    let two = c.args.self.now.two.now in
    let i = c.args.index.now in
    let k = c.count-k.ensures.count ∙ ap (λ (g : Fusion). g.count) c.rules.ensures in
    let firsts = c.as_slice.ensures.value ∙ c.firsts.ensures ∙ ap (λ (n : ℕ). map (λ a. a / n) i) k in
    let seconds = c.as_slice-2.ensures.value ∙ c.seconds.ensures ∙ ap (λ (n : ℕ). map (λ a. a % n) i) k in
    let first = c.value_of-first.ensures.value ∙ ap (λ (xs : List ℕ). value_at (symbols_of_root one) c.args.symbol xs) firsts in
    let second = c.value_of-second.ensures.value ∙ ap (λ (xs : List ℕ). value_at (symbols_of_root two) c.args.symbol xs) seconds in
    let ring = (symbols_of_root one).ring in
    value_along c.mul.result (ring.product c.value_of-first.result c.value_of-second.result) (value_at (wanted_product one two) c.args.symbol i)
    (ap₂ ring.product first second ∙ product_value (symbols_of_root one) (symbols_of_root two) c.args.symbol i c.requires.long)
    (rw c.ring.ensures at c.mul.ensures.value)
