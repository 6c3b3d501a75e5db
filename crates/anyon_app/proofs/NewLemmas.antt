-- The canonical text of a new category is that of its symbols.
use Rattle.std.proofs.Common.{◌≡◌, ℕ, zero, suc, ◌+◌, ◌*◌, ◌<◌, ◌≤◌, ◌&&◌, ◌==◌, Bool, List, [], ◌∷◌, length, true, false, nat_eq, nat_lt, Option, Some, None, Result, Ok, Err, refl, sym, ap, subst, ◌∙◌, arith, codes, if◌then◌else◌}
use Rattle.std.specs.Prelude.{nat_le}
use Rattle.std.proofs.lemmas.Bool.Decides.{nat_tests}
use Rattle.std.proofs.lemmas.List.{length-append}
use Rattle.cyclo_core.specs.Image.{is_exponent}
use Rattle.program_text.specs.Steps.{◌>>=◌}
use Rattle.anyon_app.specs.declared.stop.Stop.{Stop}
use Rattle.anyon_app.specs.declared.stop.Stop.TheVariants.{RefusalLine, LimitLine, Unread, Memory}
use Rattle.anyon_app.specs.Stages.{Gives, GivesUp}
use Rattle.anyon_app.specs.Refusals.{exponent_line}
use Rattle.cyclo_core.specs.Ratio.{Ratio, held, ring_at}
use Rattle.symbol_table.specs.Symbols.{Symbols}
use Rattle.symbol_table.specs.Draft.{DraftValue, given}
use Rattle.category_text.specs.Canonical.{canonical}
use Rattle.category_text.specs.Named.{NamedSymbols, named_draft}
use Rattle.category_text.proofs.SymbolTexts.{text_of_symbols}
use Rattle.fusion_rules.specs.declared.label.TheConstants.{LABEL_LIMIT}
use Rattle.image_laws.specs.Category.{given_of}
use Rattle.image_laws.specs.Products.{product_of}
use Rattle.anyon_app.specs.Verdicts.{symbols_in}
use Rattle.image_laws.proofs.GivenLemmas.{are_given, given_again}
use Rattle.category_images.specs.Answers.{IsMade, symbols_of_root}
use Rattle.category_images.specs.Names.{pair_name, pair_names}
use Rattle.category_images.specs.declared.place.Place.{Place}
use Rattle.anyon_app.specs.Replies.{Reply}
use Rattle.anyon_app.specs.NewCategories.{image_made, image_missing, image_text, named_symbols, pair_count, product_made, product_missing, product_text, text_or}

-- the text of a draft is that of its symbols
pub symbols_text : (names : List (List ℕ)) (draft : DraftValue ℕ Ratio) → canonical (named_draft names draft) ≡ canonical (named_symbols names draft.ring (symbols_of_root draft))
symbols_text names draft =
    let c = symbols_of_root draft in
    text_of_symbols names draft.ring (given draft) (given_of c) (sym (given_again c (are_given (ring_at draft.ring) held (given draft))))

-- the text of what was made is that of what was wanted
pub made_is : (command : List ℕ) (names : List (List ℕ)) (root : ℕ) (wanted : Symbols Ratio) (missing : Option Place) (made : DraftValue ℕ Ratio) → IsMade root wanted missing made
    → text_or command (named_symbols names root wanted) missing ≡ Ok (canonical (named_symbols names made.ring (symbols_of_root made)))
made_is command names root wanted missing made is =
    ap (text_or command (named_symbols names root wanted)) is.fits
    ∙ sym (λ j. Ok (canonical (named_symbols names (is.root j) (is.symbols j))))

-- there are as many names as pairs
pub pair_names_count : (n : ℕ) → length (pair_names n) ≡ n
pair_names_count zero = refl
pair_names_count (suc n) = length-append (pair_names n) (pair_name n ∷ []) ∙ omega (arith, pair_names_count n)

-- labels of two categories have a pair
pub some_pair : (m n : ℕ) → 0 < m → 0 < n → 0 < m * n
some_pair zero n one two = omega (arith, one)
some_pair (suc m) zero one two = omega (arith, two)
some_pair (suc m) (suc n) one two = omega arith

-- what a stage gives, said of an equal
pub gives_as : {V T : Type 0} (view : V → T) (result : Result V Stop) (stated other : Result T Reply) → other ≡ stated → Gives view result stated → Gives view result other
gives_as view result stated other same gives = subst (Gives view result) (sym same) gives

-- what is given up stays so, whatever follows
pub up_then : {A B : Type 0} (stop : Stop) (stated : Result A Reply) (f : A → Result B Reply) → GivesUp stop stated → GivesUp stop (stated >>= f)
up_then (RefusalLine line) stated f up = ap (λ s. s >>= f) up
up_then (LimitLine line) stated f up = ap (λ s. s >>= f) up
up_then Unread stated f up = absurd up
up_then Memory stated f up = tt

no_middle : (a b c : Bool) → b ≡ false → (a && (b && c)) ≡ false
no_middle true b c off = ap (λ x. x && c) off
no_middle false b c off = refl

-- a number above the root is no exponent
pub above_root : (N k : ℕ) → N < k → is_exponent N k ≡ false
unfolding is_exponent
above_root N k above =
    let past : nat_le k N ≡ false = grind (arith, nat_tests) in
    no_middle (nat_lt 0 k) (nat_le k N) _ past

-- of a number that is no exponent nothing is made
pub no_image : (named : NamedSymbols) (k : ℕ) → is_exponent named.root k ≡ false → image_text named k ≡ Err exponent_line
unfolding image_text
no_image named k none = ap (λ b. if b then text_or (codes "galois") (image_made named k) (image_missing named k) else Err exponent_line) none

-- the text by an exponent
pub some_image : (named : NamedSymbols) (k : ℕ) → is_exponent named.root k ≡ true → image_text named k ≡ text_or (codes "galois") (image_made named k) (image_missing named k)
unfolding image_text
some_image named k is = ap (λ b. if b then text_or (codes "galois") (image_made named k) (image_missing named k) else Err exponent_line) is

-- the product of two that have one
pub of_product : (one two : NamedSymbols) → one.given.version ≡ 2 → two.given.version ≡ 2 → one.root ≡ two.root → pair_count one two ≤ LABEL_LIMIT
    → product_text one two ≡ text_or (codes "product") (product_made one two) (product_missing one two)
of_product one two first second roots few =
    let seconds : (one.given.version == 2 && two.given.version == 2) ≡ true = rw (first, second) refl in
    let same : (one.root == two.root) ≡ true = grind (arith, nat_tests) in
    let short : nat_lt LABEL_LIMIT (pair_count one two) ≡ false = grind (arith, nat_tests) in
    rw (seconds, same, short) refl

-- a product has as many labels as there are pairs
pub counted : (one two : NamedSymbols) (made : DraftValue ℕ Ratio) → IsMade one.root (product_of (symbols_in one) (symbols_in two)) (product_missing one two) made
    → pair_count one two ≡ made.rules.count
counted one two made is = sym (ap (λ c. c.count) is.symbols)
