-- Queues, one after another.
use Rattle.std.proofs.Common.{◌≡◌, ℕ, zero, suc, ◌+◌, ◌<◌, ◌≤◌, List, [], ◌∷◌, ◌++◌, map, length, get_or, Option, Some, None, refl, ap, sym, subst, ◌∙◌, arith, append_assoc, length-append, add-one, drop, drop-cons}
use Rattle.std.proofs.Math.ListN.{set}
use Rattle.std.proofs.lemmas.List.{map-append}
use Rattle.program_text.specs.declared.form.TheConstants.{COMMAND_LIMIT}
use Rattle.program_text.specs.Letters.{letters, measurements, outcomes_of}
use Rattle.program_text.specs.Program.{site_of}
use Rattle.program_text.specs.declared.letter.Letter.{Letter}
use Rattle.program_text.specs.WellFormed.{commands_in}
use Rattle.program_text.specs.declared.plan.Command.{Command}
use Rattle.program_text.specs.declared.plan.Site.{Site}
use Rattle.word_runs.proofs.RunLemmas.{measurements_more, outcomes_few}
use Rattle.site_schedule.specs.Queues.{all_left, first_left, letters_left}
use Rattle.site_schedule.specs.declared.queue.Queue.{Queue}
use Rattle.run_laws.specs.Programs.{commands_of}
use Rattle.run_laws.specs.Schedules.{site_letters}
use Rattle.run_laws.specs.Turns.{after_turn, next_of, text_order_from, times}

-- the first of some
abbrev pub first_of : {A : Type 0} → List A → Option A
first_of [] = None
first_of (a ∷ tail) = Some a

-- The sites are seen as lists: what a turn does at a place.
module _ {Q A : Type 0} (view : Q → List A) where
  pub next_at : (qs : List Q) (i : ℕ) (d : Q) → i < length qs → next_of i (map view qs) ≡ first_of (view (get_or qs i d))
  next_at [] i d h = absurd (omega arith)
  next_at (q ∷ qs) zero d h = here (view q)
    where
      here : (tail : List A) → next_of 0 (tail ∷ map view qs) ≡ first_of tail
      here [] = refl
      here (a ∷ tail) = refl
  next_at (q ∷ qs) (suc i) d h = next_at qs i d (omega arith)

  pub none_beyond : (qs : List Q) (i : ℕ) → length qs ≤ i → next_of i (map view qs) ≡ None
  none_beyond [] i h = refl
  none_beyond (q ∷ qs) zero h = absurd (omega arith)
  none_beyond (q ∷ qs) (suc i) h = none_beyond qs i (omega arith)

  pub same_beyond : (qs : List Q) (i : ℕ) → length qs ≤ i → map view qs ≡ after_turn i (map view qs)
  same_beyond [] i h = refl
  same_beyond (q ∷ qs) zero h = absurd (omega arith)
  same_beyond (q ∷ qs) (suc i) h = ap (λ l. view q ∷ l) (same_beyond qs i (omega arith))

  pub same_at : (qs : List Q) (i : ℕ) (d : Q) → i < length qs → view (get_or qs i d) ≡ [] → map view qs ≡ after_turn i (map view qs)
  same_at [] i d h e = absurd (omega arith)
  same_at (q ∷ qs) zero d h e = ap (λ (tail : List A). tail ∷ map view qs) e ∙ ap (λ (tail : List A). after_turn 0 (tail ∷ map view qs)) (sym e)
  same_at (q ∷ qs) (suc i) d h e = ap (λ l. view q ∷ l) (same_at qs i d (omega arith) e)

  pub taken_at : (qs : List Q) (i : ℕ) (d later : Q) (a : A) → i < length qs → view (get_or qs i d) ≡ a ∷ view later → map view (set qs i later) ≡ after_turn i (map view qs)
  taken_at [] i d later a h e = absurd (omega arith)
  taken_at (q ∷ qs) zero d later a h e = ap (λ (tail : List A). after_turn 0 (tail ∷ map view qs)) (sym e)
  taken_at (q ∷ qs) (suc i) d later a h e = ap (λ l. view q ∷ l) (taken_at qs i d later a (omega arith) e)

-- the letters of sites, where p measurements stand before
abbrev pub letters_from : ℕ → List Site → List (List Letter)
letters_from p sites = site_letters p (commands_of (map site_of sites))

-- the commands of sites
abbrev pub own_commands : List Site → List (List Command)
own_commands sites = commands_of (map site_of sites)

abbrev pub commands_in_sites : List Site → List Command
commands_in_sites sites = commands_in (map site_of sites)

-- one more site
pub queue_more : (front : List (List Letter)) (place : ℕ) (site : Site) (sites : List Site) → (front ++ letters place site.commands.items ∷ []) ++ letters_from (place + measurements site.commands.items) sites ≡ front ++ letters_from place (site ∷ sites)
queue_more front place site sites = append_assoc front (letters place site.commands.items ∷ []) (letters_from (place + measurements site.commands.items) sites)

pub measured_few : (cs : List Command) → measurements cs ≤ length cs
measured_few [] = omega arith
measured_few (c ∷ cs) =
    let more = measurements_more c cs in
    let few = outcomes_few c in
    let rest = measured_few cs in
    omega arith

-- text order goes by how many commands there are
pub length_letters : (p : ℕ) (cs : List Command) → length (letters p cs) ≡ length cs
length_letters p [] = refl
length_letters p (c ∷ cs) = ap suc (length_letters (p + outcomes_of c) cs)

pub order_by_count : (i p : ℕ) (sites : List (List Command)) → text_order_from i (site_letters p sites) ≡ text_order_from i sites
order_by_count i p [] = refl
order_by_count i p (cs ∷ sites) = (λ j. times (length_letters p cs j) i ++ order_by_count (suc i) (p + measurements cs) sites j)

pub commands_apart : (site : Site) (sites : List Site) → length (commands_in_sites (site ∷ sites)) ≡ length site.commands.items + length (commands_in_sites sites)
commands_apart site sites = length-append site.commands.items (commands_in_sites sites)

-- An item of a list, and what stands behind it.
pub drop_item : {X : Type 0} (xs : List X) (i : ℕ) (x : X) → i < length xs → x ≡ get_or xs i x → drop i xs ≡ x ∷ drop (i + 1) xs
drop_item xs i x low is = drop-cons xs i x low ∙ (λ j. sym is j ∷ drop (sym (add-one i) j) xs)

-- the first queue with something left
pub first_here : (qs : List Queue) (number i : ℕ) (q : Queue) → i < length qs → q ≡ get_or qs i q → 0 < length q.left.now → first_left number (all_left (drop i qs)) ≡ Some number
first_here qs number i q low is some = ap (λ (l : List Queue). first_left number (all_left l)) (drop_item qs i q low is) ∙ by q.left.now some
  where
    by : (cs : List Command) → 0 < length cs → first_left number (letters q.place cs ∷ all_left (drop (i + 1) qs)) ≡ Some number
    by [] h = absurd (omega arith)
    by (c ∷ cs) h = refl

-- one more turn of a site
pub turn_more : (front next : List ℕ) (number n m : ℕ) → next ≡ front ++ number ∷ [] → n ≡ suc m → next ++ times m number ≡ front ++ times n number
turn_more front next number n m e count = ap (λ l. l ++ times m number) e ∙ append_assoc front (number ∷ []) (times m number) ∙ ap (λ k. front ++ times k number) (sym count)

-- one more site of text order
pub site_more : (front next : List ℕ) (number : ℕ) (site : Site) (sites : List Site) → next ≡ front ++ times (length site.commands.items) number
    → next ++ text_order_from (number + 1) (own_commands sites) ≡ front ++ text_order_from number (own_commands (site ∷ sites))
site_more front next number site sites e =
    ap (λ l. l ++ text_order_from (number + 1) (own_commands sites)) e ∙ append_assoc front (times (length site.commands.items) number) (text_order_from (number + 1) (own_commands sites))
    ∙ ap (λ (k : ℕ). front ++ (times (length site.commands.items) number ++ text_order_from k (own_commands sites))) (add-one number)

-- the loop over the sites: what is measured so far fits
pub place_fits : (sites items : List Site) (i place count : ℕ) (site : Site) → items ≡ sites → i < length items → site ≡ get_or items i site → count ≡ measurements site.commands.items
    → place + length (commands_in_sites (drop i sites)) ≤ COMMAND_LIMIT → place + count + length (commands_in_sites (drop (i + 1) sites)) ≤ COMMAND_LIMIT
place_fits sites items i place count site same low is counted few =
    let here : drop i sites ≡ site ∷ drop (i + 1) sites = subst (λ (l : List Site). drop i l ≡ site ∷ drop (i + 1) l) same (drop_item items i site low is) in
    let more = ap (λ (l : List Site). length (commands_in_sites l)) here ∙ commands_apart site (drop (i + 1) sites) in
    let small = measured_few site.commands.items in
    omega (arith, more, small, counted, few)

-- and the letters so far are those of the sites so far
pub queues_next : (sites items : List Site) (i place count : ℕ) (site : Site) (old new : List Queue) (queue : Queue) → items ≡ sites → i < length items → site ≡ get_or items i site
    → count ≡ measurements site.commands.items → new ≡ old ++ queue ∷ [] → letters_left queue ≡ letters place site.commands.items
    → all_left new ++ letters_from (place + count) (drop (i + 1) sites) ≡ all_left old ++ letters_from place (drop i sites)
queues_next sites items i place count site old new queue same low is counted pushed seen =
    let here : drop i sites ≡ site ∷ drop (i + 1) sites = subst (λ (l : List Site). drop i l ≡ site ∷ drop (i + 1) l) same (drop_item items i site low is) in
    let front : all_left new ≡ all_left old ++ letters place site.commands.items ∷ [] = ap all_left pushed ∙ map-append letters_left old (queue ∷ []) ∙ ap (λ (l : List Letter). all_left old ++ l ∷ []) seen in
    ap (λ (l : List (List Letter)). l ++ letters_from (place + count) (drop (i + 1) sites)) front
    ∙ ap (λ (n : ℕ). (all_left old ++ letters place site.commands.items ∷ []) ++ letters_from (place + n) (drop (i + 1) sites)) counted
    ∙ queue_more (all_left old) place site (drop (i + 1) sites) ∙ ap (λ (l : List Site). all_left old ++ letters_from place l) (sym here)
