-- The names of a labels line.
use Rattle.std.proofs.Common.{◌≡◌, ℕ, zero, suc, ◌+◌, ◌-◌, ◌<◌, ◌≤◌, List, [], ◌∷◌, ◌++◌, Bool, length, drop, refl, sym, ap, subst, ◌∙◌, arith, true, false, ◌&&◌, ◌||◌, ◌==◌, ltb, not, if◌then◌else◌, Option, Some, None, Ok, Err, append_assoc, codes}
use Rattle.std.specs.Str.{bytes_eq}
use Rattle.std.proofs.lemmas.Bool.Decides.{nat_tests}
use Rattle.std.proofs.lemmas.List.{append-nil, length-append, drop_more, drop_all}
use Rattle.std.proofs.lemmas.Option.{slice_get_within, get_or_from_slice_get}
use Rattle.std.specs.Prelude.{slice_get}
use Rattle.fusion_rules.specs.declared.label.TheConstants.{LABEL_LIMIT}
use Rattle.fusion_rules.specs.Names.{is_name, all_names, has_repeat, is_among, name_fault}
use Rattle.fusion_rules.specs.declared.names.NameFault.{NameFault}
use Rattle.fusion_rules.specs.declared.names.NameFault.TheVariants as name
use Rattle.fusion_rules.proofs.NameLemmas.{repeat_push, eq_comm}
use Rattle.line_text.specs.Text.{has_word}
use Rattle.category_text.specs.Reading.{names_in, labels_of}
use Rattle.category_text.specs.Answers.{LineFails, add_to, kept, judged_of, kept_of}
use Rattle.category_text.specs.declared.fault.Stop.{Stop}
use Rattle.category_text.specs.declared.fault.Stop.TheVariants.{Cause}
use Rattle.category_text.specs.declared.fault.CategoryCause.TheVariants.{Labels}

-- what `add` says of a name
module _ (names : List (List ℕ)) (word : List ℕ) where
  by_tests : (named full among : Bool) (P : Option NameFault → Type 0) → is_name word ≡ named → (length names == LABEL_LIMIT) ≡ full → is_among names word ≡ among
      → P (if not named then Some name.Spelling else (if full then Some name.Full else (if among then Some name.Repeated else None))) → P (name_fault names word)
  by_tests named full among P e f g h = rw (e, f, g) h

  abbrev Keeps : Option NameFault → Type 0
  Keeps None = kept_of names word ≡ Ok (names ++ word ∷ [])
  Keeps (Some name.Full) = kept_of names word ≡ Ok names
  Keeps (Some name.Repeated) = kept_of names word ≡ Ok names
  Keeps (Some name.Spelling) = kept_of names word ≡ Err Labels
  Keeps (Some name.Memory) = Unit {0}

  keeps : Keeps (name_fault names word)
  keeps = go (is_name word) (length names == LABEL_LIMIT) (is_among names word) refl refl refl
    where
      go : (named full among : Bool) → is_name word ≡ named → (length names == LABEL_LIMIT) ≡ full → is_among names word ≡ among → Keeps (name_fault names word)
      go false full among e f g = by_tests false full among Keeps e f g (rw e refl)
      go true true among e f g = by_tests true true among Keeps e f g (rw (e, f) refl)
      go true false true e f g = by_tests true false true Keeps e f g (rw (e, f, g) refl)
      go true false false e f g = by_tests true false false Keeps e f g (rw (e, f, g) refl)

  pub keeps_new : name_fault names word ≡ None → kept_of names word ≡ Ok (names ++ word ∷ [])
  keeps_new e = subst Keeps e keeps

  pub keeps_full : name_fault names word ≡ Some name.Full → kept_of names word ≡ Ok names
  keeps_full e = subst Keeps e keeps

  pub keeps_repeated : name_fault names word ≡ Some name.Repeated → kept_of names word ≡ Ok names
  keeps_repeated e = subst Keeps e keeps

  pub keeps_none : name_fault names word ≡ Some name.Spelling → kept_of names word ≡ Err Labels
  keeps_none e = subst Keeps e keeps

-- no more names than words
add_more : (names : List (List ℕ)) (word : List ℕ) → length (add_to names word) ≤ length names + 1
add_more names word = by_tests (length names == LABEL_LIMIT) (is_among names word)
  where
    by_tests : (full among : Bool) → length (if full then names else (if among then names else names ++ word ∷ [])) ≤ length names + 1
    by_tests true among = omega arith
    by_tests false true = omega arith
    by_tests false false = omega (arith, length-append names (word ∷ []))

kept_more : (names words : List (List ℕ)) → length (kept names words) ≤ length names + length words
kept_more names [] = omega arith
kept_more names (w ∷ ws) = omega (arith, kept_more (add_to names w) ws, add_more names w)

-- a repeat is a name less
kept_less : (names words : List (List ℕ)) → has_repeat names ≡ false → has_repeat (names ++ words) ≡ true → length (kept names words) < length names + length words
kept_less names [] none is = absurd (let e : has_repeat names ≡ true = ap has_repeat (sym (append-nil names)) ∙ is in cc)
kept_less names (w ∷ ws) none is = by_tests (length names == LABEL_LIMIT) (is_among names w) refl (kept_more names ws) (kept_less (names ++ w ∷ []) ws)
  where
    by_tests : (full among : Bool) → is_among names w ≡ among → length (kept names ws) ≤ length names + length ws
        → (has_repeat (names ++ w ∷ []) ≡ false → has_repeat ((names ++ w ∷ []) ++ ws) ≡ true → length (kept (names ++ w ∷ []) ws) < length (names ++ w ∷ []) + length ws)
        → length (kept (if full then names else (if among then names else names ++ w ∷ [])) ws) < length names + suc (length ws)
    by_tests true among e more rest = omega arith
    by_tests false true e more rest = omega arith
    by_tests false false e more rest =
        let less = rest (repeat_push names w none e) (ap has_repeat (append_assoc names (w ∷ []) ws) ∙ is) in
        omega (arith, less, length-append names (w ∷ []))

among_later : (names : List (List ℕ)) (w : List ℕ) (ws : List (List ℕ)) (n : List ℕ) → is_among (names ++ w ∷ ws) n ≡ false → bytes_eq n w ≡ false
among_later [] w ws n none = by_test (bytes_eq n w) none
  where
    by_test : (b : Bool) → (b || is_among ws n) ≡ false → b ≡ false
    by_test true none = cc
    by_test false none = refl
among_later (m ∷ ms) w ws n none = by_test (bytes_eq n m) (among_later ms w ws n) none
  where
    by_test : (b : Bool) → (is_among (ms ++ w ∷ ws) n ≡ false → bytes_eq n w ≡ false) → (b || is_among (ms ++ w ∷ ws) n) ≡ false → bytes_eq n w ≡ false
    by_test true rest none = absurd (cc)
    by_test false rest none = rest none

not_earlier : (names : List (List ℕ)) (w : List ℕ) (ws : List (List ℕ)) → has_repeat (names ++ w ∷ ws) ≡ false → is_among names w ≡ false
not_earlier [] w ws none = refl
not_earlier (n ∷ ns) w ws none = by_test (is_among (ns ++ w ∷ ws) n) refl (not_earlier ns w ws) none
  where
    by_test : (b : Bool) → is_among (ns ++ w ∷ ws) n ≡ b → (has_repeat (ns ++ w ∷ ws) ≡ false → is_among ns w ≡ false) → (b || has_repeat (ns ++ w ∷ ws)) ≡ false → (bytes_eq w n || is_among ns w) ≡ false
    by_test true e rest none = absurd (cc)
    by_test false e rest none = rw (eq_comm w n, among_later ns w ws n e) (rest none)

-- without a repeat every name is kept
kept_all : (names words : List (List ℕ)) → has_repeat (names ++ words) ≡ false → length names + length words ≤ LABEL_LIMIT → kept names words ≡ names ++ words
kept_all names [] none few = sym (append-nil names)
kept_all names (w ∷ ws) none few =
    let full : (length names == LABEL_LIMIT) ≡ false = grind (arith, nat_tests) in
    let new = not_earlier names w ws none in
    rw (full, new) (kept_all (names ++ w ∷ []) ws (ap has_repeat (append_assoc names (w ∷ []) ws) ∙ none) (omega (arith, length-append names (w ∷ []))) ∙ append_assoc names (w ∷ []) ws)

pub judged : (words : List (List ℕ)) → all_names words ≡ true → judged_of (kept [] words) (length words) ≡ names_in words
judged [] all = refl
judged (w ∷ ws) all = by_tests (ltb LABEL_LIMIT (length (w ∷ ws))) (has_repeat (w ∷ ws)) refl refl
  where
    some : (length (w ∷ ws) == 0) ≡ false
    some = grind (arith, nat_tests)

    by_tests : (many repeats : Bool) → ltb LABEL_LIMIT (length (w ∷ ws)) ≡ many → has_repeat (w ∷ ws) ≡ repeats → judged_of (kept [] (w ∷ ws)) (length (w ∷ ws)) ≡ names_in (w ∷ ws)
    by_tests true repeats e f = rw (some, e, all) refl
    by_tests false true e f =
        let less : ltb (length (kept [] (w ∷ ws))) (length (w ∷ ws)) ≡ true = (let l = kept_less [] (w ∷ ws) refl f in grind (arith, nat_tests)) in
        rw (some, e, f, all, less) refl
    by_tests false false e f =
        let few : length (w ∷ ws) ≤ LABEL_LIMIT = grind (arith, nat_tests) in
        let same = kept_all [] (w ∷ ws) f (omega arith) in
        let not_less : ltb (length (kept [] (w ∷ ws))) (length (w ∷ ws)) ≡ false = (let l = ap length same in grind (arith, nat_tests)) in
        rw (some, e, f, all, not_less) (ap Ok same)

-- one word of the loop
pub record Further (names new : List (List ℕ)) (words : List (List ℕ)) (place : ℕ) : Type 0 where
  pub kept : kept names (drop place words) ≡ kept new (drop (place + 1) words)
  pub spelled : all_names (drop place words) ≡ all_names (drop (place + 1) words)

pub further : (names new : List (List ℕ)) (words : List (List ℕ)) (place : ℕ) (text : List ℕ) → slice_get words place ≡ Some text → kept_of names text ≡ Ok new → Further names new words place
further names new words place text at is = go (is_name text) refl is
  where
    here : drop place words ≡ text ∷ drop (place + 1) words
    here = drop_more words place [] (slice_get_within words place text at) ∙ ap (λ t. t ∷ drop (place + 1) words) (get_or_from_slice_get words place text [] at)

    go : (b : Bool) → is_name text ≡ b → (if b then Ok (add_to names text) else Err Labels) ≡ Ok new → Further names new words place
    go false e h = absurd (cc)
    go true e h = let same : add_to names text ≡ new = cc in record {
      kept = ap (kept names) here ∙ ap (λ ns. kept ns (drop (place + 1) words)) same;
      spelled = ap all_names here ∙ ap (λ b. b && all_names (drop (place + 1) words)) e;
    }

none_in : (words : List (List ℕ)) → all_names words ≡ false → names_in words ≡ Err Labels
none_in [] all = refl
none_in (w ∷ ws) all = rw all refl

pub stops : (stop : Stop) (names : List (List ℕ)) (words : List (List ℕ)) (place : ℕ) (text : List ℕ) → true ≡ has_word words 0 (codes "labels") → Some text ≡ slice_get words place → LineFails stop (kept_of names text)
    → all_names (drop place words) ≡ all_names (drop 1 words) → LineFails stop (labels_of words)
stops Stop.Memory names words place text first at is all = tt
stops (Cause cause) names [] place text first at is all = absurd (cc)
stops (Cause cause) names (w ∷ ws) place text first at is all = go (is_name text) refl is
  where
    here : drop place (w ∷ ws) ≡ text ∷ drop (place + 1) (w ∷ ws)
    here = drop_more (w ∷ ws) place [] (slice_get_within (w ∷ ws) place text (sym at)) ∙ ap (λ t. t ∷ drop (place + 1) (w ∷ ws)) (get_or_from_slice_get (w ∷ ws) place text [] (sym at))

    go : (b : Bool) → is_name text ≡ b → (if b then Ok (add_to names text) else Err Labels) ≡ Err cause → labels_of (w ∷ ws) ≡ Err cause
    go true e h = absurd (cc)
    go false e h =
        let none : all_names ws ≡ false = sym all ∙ ap all_names here ∙ ap (λ b. b && all_names (drop (place + 1) (w ∷ ws))) e in
        rw (sym first) (none_in ws none ∙ h)

pub ends : (words names : List (List ℕ)) (place : ℕ) → true ≡ has_word words 0 (codes "labels") → place ≤ length words → length words ≤ place → kept names (drop place words) ≡ kept [] (drop 1 words)
    → all_names (drop place words) ≡ all_names (drop 1 words) → judged_of names (place - 1) ≡ labels_of words
ends [] names place first above below is all = absurd (cc)
ends (w ∷ ws) names place first above below is all =
    let none : drop place (w ∷ ws) ≡ [] = drop_all place (w ∷ ws) below in
    let same : names ≡ kept [] ws = ap (kept names) (sym none) ∙ is in
    let spelled : all_names ws ≡ true = sym all ∙ ap all_names none in
    let count : place - 1 ≡ length ws = omega arith in
    rw (sym first) (ap (judged_of names) count ∙ ap (λ ns. judged_of ns (length ws)) same ∙ judged ws spelled)

pub past : (words : List (List ℕ)) (place : ℕ) → None ≡ slice_get words place → length words ≤ place
past [] place e = omega arith
past (w ∷ ws) zero e = absurd (cc)
past (w ∷ ws) (suc place) e = omega (arith, past ws place e)
