-- Letters in pages.
use Rattle.std.proofs.Common.{◌≡◌, ◌≢◌, ◌⊎◌, inl, inr, ℕ, zero, suc, ◌+◌, ◌<◌, ◌≤◌, true, false, List, [], ◌∷◌, ◌++◌, length, get_or, take, drop, refl, ap, sym, ◌∙◌, add-one, arith, append_assoc, length-append}
use Rattle.std.specs.Prelude.{Vec, ◌==◌}
use Rattle.std.specs.List.{insert, remove}
use Rattle.std.proofs.Math.ListN.{set}
use Rattle.std.proofs.lemmas.Bool.Decides.{eqb_tells}
use Rattle.std.proofs.lemmas.List.{length-set, nil_from_length}
use Rattle.std.proofs.lemmas.List.Edits.{length-insert}
use Rattle.std.specs.declared.alloc.Global.{Global}
use Rattle.program_text.specs.declared.letter.Letter.{Letter}
use Rattle.word_moves.proofs.LinkLemmas.{never}
use Rattle.word_moves.specs.Pages.{flat, page_at}

abbrev pub Page : Type 0
Page = Vec Letter Global

-- a page by its number
pub page_is : (pages : List Page) (i : ℕ) (p : Page) → i < length pages → p ≡ get_or pages i p → page_at i pages ≡ p.items
page_is [] i p low is = absurd (omega arith)
page_is (q ∷ pages) zero p low is = ap (λ (x : Page). x.items) (sym is)
page_is (q ∷ pages) (suc i) p low is = page_is pages i p (omega arith) is

page_set : (pages : List Page) (i : ℕ) (p : Page) → i < length pages → page_at i (set pages i p) ≡ p.items
page_set [] i p low = absurd (omega arith)
page_set (q ∷ pages) zero p low = refl
page_set (q ∷ pages) (suc i) p low = page_set pages i p (omega arith)

-- all letters are those before a page, on it and behind it
pub parts : (pages : List Page) (i : ℕ) → flat pages ≡ flat (take i pages) ++ (page_at i pages ++ flat (drop (suc i) pages))
parts [] zero = refl
parts [] (suc i) = refl
parts (p ∷ pages) zero = refl
parts (p ∷ pages) (suc i) = ap (λ l. p.items ++ l) (parts pages i) ∙ sym (append_assoc p.items (flat (take i pages)) (page_at i pages ++ flat (drop (suc i) pages)))

-- a page with other letters
pub set_parts : (pages : List Page) (i : ℕ) (p : Page) → i < length pages → flat (set pages i p) ≡ flat (take i pages) ++ (p.items ++ flat (drop (suc i) pages))
set_parts [] i p low = absurd (omega arith)
set_parts (q ∷ pages) zero p low = refl
set_parts (q ∷ pages) (suc i) p low = ap (λ l. q.items ++ l) (set_parts pages i p (omega arith)) ∙ sym (append_assoc q.items (flat (take i pages)) (p.items ++ flat (drop (suc i) pages)))

-- a page without letters is taken away or put in
pub removed_flat : (pages : List Page) (i : ℕ) → page_at i pages ≡ [] → flat (remove pages i) ≡ flat pages
removed_flat [] zero none = refl
removed_flat [] (suc i) none = refl
removed_flat (p ∷ pages) zero none = ap (λ l. l ++ flat pages) (sym none)
removed_flat (p ∷ pages) (suc i) none = ap (λ l. p.items ++ l) (removed_flat pages i none)

pub inserted_flat : (pages : List Page) (i : ℕ) (p : Page) → p.items ≡ [] → flat (insert pages i p) ≡ flat pages
inserted_flat [] zero p none = ap (λ l. l ++ []) none
inserted_flat [] (suc i) p none = ap (λ l. l ++ []) none
inserted_flat (q ∷ pages) zero p none = ap (λ l. l ++ flat (q ∷ pages)) none
inserted_flat (q ∷ pages) (suc i) p none = ap (λ l. q.items ++ l) (inserted_flat pages i p none)

-- other pages
page_other : (pages : List Page) (i j : ℕ) (p : Page) → i ≢ j → page_at i (set pages j p) ≡ page_at i pages
page_other [] i zero p apart = refl
page_other [] i (suc j) p apart = refl
page_other (q ∷ pages) zero zero p apart = absurd (apart refl)
page_other (q ∷ pages) zero (suc j) p apart = refl
page_other (q ∷ pages) (suc i) zero p apart = refl
page_other (q ∷ pages) (suc i) (suc j) p apart = page_other pages i j p (λ e. apart (ap suc e))

pub page_before : (pages : List Page) (i j : ℕ) → i < j → page_at i (remove pages j) ≡ page_at i pages
page_before [] i zero low = refl
page_before [] i (suc j) low = refl
page_before (q ∷ pages) i zero low = absurd (omega arith)
page_before (q ∷ pages) zero (suc j) low = refl
page_before (q ∷ pages) (suc i) (suc j) low = page_before pages i j (omega arith)

pub empty_page : (pages : List Page) (i : ℕ) (p : Page) → i < length pages → p ≡ get_or pages i p → p.len ≡ 0 → page_at i pages ≡ []
empty_page pages i p low is none = page_is pages i p low is ∙ nil_from_length p.items (sym p.ok.0 ∙ none)

pub has_letters : (p : Page) → (p.len == 0) ≡ false → 0 < p.len
has_letters p some = by (eqb_tells p.len 0)
  where
    by : (((p.len == 0) ≡ true) × (p.len ≡ 0)) ⊎ (((p.len == 0) ≡ false) × (p.len ≢ 0)) → 0 < p.len
    by (inl h) = absurd (never (sym some ∙ h.0))
    by (inr h) = omega arith

-- a page that comes back with its letters
pub same_flat : (pages : List Page) (i : ℕ) (p q : Page) → i < length pages → p ≡ get_or pages i p → q.items ≡ p.items → flat (set pages i q) ≡ flat pages
same_flat pages i p q low is same =
    set_parts pages i q low ∙ ap (λ l. flat (take i pages) ++ (l ++ flat (drop (suc i) pages))) (same ∙ sym (page_is pages i p low is)) ∙ sym (parts pages i)

-- the first letter behind a page goes to its end
pulled_flat : (pages : List Page) (i : ℕ) (p q : Page) (a : Letter) → suc i < length pages → p.items ≡ page_at i pages ++ a ∷ [] → page_at (suc i) pages ≡ a ∷ q.items
    → flat (set (set pages i p) (suc i) q) ≡ flat pages
pulled_flat [] i p q a low pushed first = absurd (omega arith)
pulled_flat (x ∷ []) zero p q a low pushed first = absurd (omega arith)
pulled_flat (x ∷ y ∷ pages) zero p q a low pushed first =
    ap (λ (l : List Letter). l ++ (q.items ++ flat pages)) pushed ∙ append_assoc x.items (a ∷ []) (q.items ++ flat pages) ∙ ap (λ l. x.items ++ (l ++ flat pages)) (sym first)
pulled_flat (x ∷ pages) (suc i) p q a low pushed first = ap (λ l. x.items ++ l) (pulled_flat pages i p q a (omega arith) pushed first)

-- a page is made two
halved_flat : (pages : List Page) (i : ℕ) (none front back : Page) → i < length pages → front.items ++ back.items ≡ page_at i pages
    → flat (set (set (insert pages (suc i) none) i front) (suc i) back) ≡ flat pages
halved_flat [] i none front back low both = absurd (omega arith)
halved_flat (p ∷ pages) zero none front back low both = sym (append_assoc front.items back.items (flat pages)) ∙ ap (λ l. l ++ flat pages) both
halved_flat (p ∷ pages) (suc i) none front back low both = ap (λ l. p.items ++ l) (halved_flat pages i none front back (omega arith) both)

first_letter : (ls : List Letter) (a : Letter) → 0 < length ls → a ≡ get_or ls 0 a → ls ≡ a ∷ remove ls 0
first_letter [] a some is = absurd (omega arith)
first_letter (b ∷ ls) a some is = ap (λ x. x ∷ ls) (sym is)

-- the letters of the page behind one, of which the first was read, and which were then read again
left_behind : (pages : List Page) (i : ℕ) (next p again q : Page) (a : Letter) → suc i < length pages → next ≡ get_or pages (suc i) next → 0 < next.len → a ≡ get_or next.items 0 a
    → again ≡ get_or (set pages i p) (suc i) again → q.items ≡ remove again.items 0 → page_at (suc i) pages ≡ a ∷ q.items
left_behind pages i next p again q a low is some first is' rest =
    page_is pages (suc i) next low is ∙ first_letter next.items a (let e = next.ok.0 in omega arith) first
    ∙ ap (λ l. a ∷ remove l 0)
    (sym (page_is pages (suc i) next low is) ∙ sym (page_other pages (suc i) i p (λ e. absurd (omega arith)))
    ∙ page_is (set pages i p) (suc i) again (let e = length-set pages i p in omega arith) is')
    ∙ ap (λ l. a ∷ l) (sym rest)

pub pulled : (pages : List Page) (i : ℕ) (old next p again q : Page) (a : Letter) → i + 1 < length pages → old ≡ get_or pages i old → next ≡ get_or pages (i + 1) next → 0 < next.len → a ≡ get_or next.items 0 a
    → p.items ≡ old.items ++ a ∷ [] → again ≡ get_or (set pages i p) (i + 1) again → q.items ≡ remove again.items 0 → flat (set (set pages i p) (i + 1) q) ≡ flat pages
pulled pages i old next p again q a low was is some first pushed is' rest =
    rw add-one
    (pulled_flat pages i p q a (omega arith) (pushed ∙ ap (λ l. l ++ a ∷ []) (sym (page_is pages i old (omega arith) was)))
    (left_behind pages i next p again q a (omega arith) (rw add-one at is) some first (rw add-one at is') rest))

-- a page with so many letters, behind a change of it or of the page behind it
pub page_grown : (pages : List Page) (i : ℕ) (old p : Page) → i < length pages → old ≡ get_or pages i old → length old.items ≤ length p.items → length (page_at i pages) ≤ length (page_at i (set pages i p))
page_grown pages i old p low is more = rw (page_is pages i old low is, page_set pages i p low) more

pub page_grown_more : (pages : List Page) (i : ℕ) (old p q : Page) → i < length pages → old ≡ get_or pages i old → length old.items ≤ length p.items
    → length (page_at i pages) ≤ length (page_at i (set (set pages i p) (i + 1) q))
page_grown_more pages i old p q low is more = rw (page_other (set pages i p) i (i + 1) q (λ e. absurd (omega arith))) (page_grown pages i old p low is more)

-- a page is put in behind another
page_kept : (pages : List Page) (i j : ℕ) (p : Page) → i < j → j ≤ length pages → page_at i (insert pages j p) ≡ page_at i pages
page_kept pages i zero p low fits = absurd (omega arith)
page_kept [] i (suc j) p low fits = absurd (omega arith)
page_kept (q ∷ pages) zero (suc j) p low fits = refl
page_kept (q ∷ pages) (suc i) (suc j) p low fits = page_kept pages i j p (omega arith) (omega arith)

pub still_there : (pages made : List Page) (i : ℕ) (none : Page) → i < length pages → made ≡ insert pages (i + 1) none → i < length made
still_there pages made i none low is = (let e = ap length is in let f = length-insert pages (i + 1) none (omega arith) in omega arith)

old_is : (pages made : List Page) (i : ℕ) (none old : Page) → i < length pages → made ≡ insert pages (i + 1) none → old ≡ get_or made i old → old.items ≡ page_at i pages
old_is pages made i none old low is was =
    sym (page_is made i old (still_there pages made i none low is) was) ∙ ap (page_at i) is ∙ page_kept pages i (i + 1) none (omega arith) (omega arith)

pub halved : (pages made : List Page) (i : ℕ) (none old front back : Page) → i < length pages → made ≡ insert pages (i + 1) none → old ≡ get_or made i old → front.items ++ back.items ≡ old.items
    → flat (set (set made i front) (i + 1) back) ≡ flat pages
halved pages made i none old front back low is was both = rw is (rw add-one (halved_flat pages i none front back low (both ∙ old_is pages made i none old low is was)))

-- fewer letters of a page than all
pub few_flat : (pages : List Page) (i : ℕ) (old p : Page) → i < length pages → old ≡ get_or pages i old → length p.items ≤ length old.items + 2 → length (flat (set pages i p)) ≤ length (flat pages) + 2
few_flat pages i old p low is few =
    let first = flat (take i pages) in
    let rest = flat (drop (suc i) pages) in
    rw (set_parts pages i p low, parts pages i, page_is pages i old low is, length-append first (p.items ++ rest), length-append first (old.items ++ rest), length-append p.items rest, length-append old.items rest) (omega arith)

-- a place on a page is one among all letters
pub spot_within : (pages : List Page) (i at : ℕ) → at ≤ length (page_at i pages) → length (flat (take i pages)) + at ≤ length (flat pages)
spot_within pages i at low =
    let first = flat (take i pages) in
    let rest = flat (drop (suc i) pages) in
    rw (parts pages i, length-append first (page_at i pages ++ rest), length-append (page_at i pages) rest) (omega arith)
