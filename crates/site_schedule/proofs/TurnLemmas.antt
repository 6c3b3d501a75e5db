-- One more turn behind others.
use Rattle.std.proofs.Common.{◌≡◌, ℕ, zero, suc, Bool, true, false, ◌&&◌, List, [], ◌∷◌, ◌++◌, length, Some, refl, ap, sym, ◌∙◌, arith, append_assoc, length-append}
use Rattle.std.specs.Option.{option_to_list}
use Rattle.std.proofs.lemmas.List.{append-nil}
use Rattle.program_text.specs.declared.letter.Letter.{Letter}
use Rattle.program_text.specs.declared.letter.Letter.TheVariants.{Crossing, Charge, Tested, Still}
use Rattle.run_laws.specs.Timely.{is_known, is_timely, known_after}
use Rattle.run_laws.specs.Turns.{after_turn, in_text, next_of, turns}
use Rattle.site_schedule.specs.Queues.{left_behind}
use Rattle.site_schedule.specs.Reading.{known_behind, may_follow}

pub left_more : {A : Type 0} (sites : List (List A)) (before : List ℕ) (i : ℕ) → left_behind sites (before ++ i ∷ []) ≡ after_turn i (left_behind sites before)
left_more sites [] i = refl
left_more sites (j ∷ before) i = left_more (after_turn j sites) before i

pub turns_more : {A : Type 0} (sites : List (List A)) (before : List ℕ) (i : ℕ) → turns sites (before ++ i ∷ []) ≡ turns sites before ++ option_to_list (next_of i (left_behind sites before))
turns_more sites [] i = append-nil (option_to_list (next_of i sites))
turns_more sites (j ∷ before) i =
    ap (λ l. option_to_list (next_of j sites) ++ l) (turns_more (after_turn j sites) before i)
    ∙ sym (append_assoc (option_to_list (next_of j sites)) (turns (after_turn j sites) before) (option_to_list (next_of i (left_behind (after_turn j sites) before))))

pub known_more : (known : List ℕ) (xs ys : List Letter) → known_after known (xs ++ ys) ≡ known_after (known_after known xs) ys
known_more known [] ys = refl
known_more known (Crossing k sign ∷ xs) ys = known_more known xs ys
known_more known (Charge k place ∷ xs) ys = known_more (place ∷ known) xs ys
known_more known (Tested k sign place label ∷ xs) ys = known_more known xs ys
known_more known (Still k ∷ xs) ys = known_more known xs ys

and_assoc : (a b c : Bool) → (a && (b && c)) ≡ ((a && b) && c)
and_assoc true b c = refl
and_assoc false b c = refl

pub timely_more : (known : List ℕ) (xs ys : List Letter) → is_timely known (xs ++ ys) ≡ (is_timely known xs && is_timely (known_after known xs) ys)
timely_more known [] ys = refl
timely_more known (Crossing k sign ∷ xs) ys = timely_more known xs ys
timely_more known (Charge k place ∷ xs) ys = timely_more (place ∷ known) xs ys
timely_more known (Tested k sign place label ∷ xs) ys = ap (λ b. is_known known place && b) (timely_more known xs ys) ∙ and_assoc (is_known known place) (is_timely known xs) (is_timely (known_after known xs) ys)
timely_more known (Still k ∷ xs) ys = timely_more known xs ys

-- a turn takes one of what is left
pub one_taken : {A : Type 0} (i : ℕ) (sites : List (List A)) (a : A) → next_of i sites ≡ Some a → length (in_text sites) ≡ suc (length (in_text (after_turn i sites)))
one_taken i [] a e = absurd (cc)
one_taken zero ([] ∷ sites) a e = absurd (cc)
one_taken zero ((b ∷ bs) ∷ sites) a e = refl
one_taken (suc i) (bs ∷ sites) a e =
    let more = one_taken i sites a e in
    let here = length-append bs (in_text sites) in
    let there = length-append bs (in_text (after_turn i sites)) in
    omega arith

pub letters_behind : {A : Type 0} (sites : List (List A)) (before : List ℕ) (i : ℕ) (a : A) → next_of i (left_behind sites before) ≡ Some a → turns sites (before ++ i ∷ []) ≡ turns sites before ++ a ∷ []
letters_behind sites before i a e = turns_more sites before i ∙ ap (λ o. turns sites before ++ option_to_list o) e

-- what is known behind one more turn
pub known_next : (sites : List (List Letter)) (before : List ℕ) (i : ℕ) (l : Letter) → next_of i (left_behind sites before) ≡ Some l
    → known_behind sites (before ++ i ∷ []) ≡ known_after (known_behind sites before) (l ∷ [])
known_next sites before i l e = ap (known_after []) (letters_behind sites before i l e) ∙ known_more [] (turns sites before) (l ∷ [])

pub timely_next : (sites : List (List Letter)) (before : List ℕ) (i : ℕ) (l : Letter) → next_of i (left_behind sites before) ≡ Some l
    → is_timely [] (turns sites before) ≡ true → may_follow (known_behind sites before) l ≡ true → is_timely [] (turns sites (before ++ i ∷ [])) ≡ true
timely_next sites before i l e so_far next =
    ap (is_timely []) (letters_behind sites before i l e) ∙ timely_more [] (turns sites before) (l ∷ [])
    ∙ ap (λ b. b && is_timely (known_behind sites before) (l ∷ [])) so_far ∙ next
