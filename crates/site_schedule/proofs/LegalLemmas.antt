-- What is read is legal.
use Rattle.std.proofs.Common.{◌≡◌, ℕ, zero, suc, ◌+◌, Bool, true, false, inl, inr, List, [], ◌∷◌, ◌++◌, length, Option, Some, None, refl, ap, sym, subst, ◌∙◌, arith, zero-add, Result, Ok}
use Rattle.std.specs.Prelude.{◌==◌, slice_index_or, if◌then◌else◌, Err, IfOk}
use Rattle.std.specs.List.{count_by}
use Rattle.std.proofs.lemmas.Bool.Decides.{eqb_tells}
use Rattle.line_text.specs.Text.{Found, reading_of}
use Rattle.program_text.specs.Program.{Program}
use Rattle.program_text.specs.Steps.{◌>>=◌}
use Rattle.program_text.specs.declared.letter.Letter.{Letter}
use Rattle.run_laws.specs.Timely.{is_timely}
use Rattle.run_laws.specs.Turns.{after_turn, next_of, text_order, turns}
use Rattle.run_laws.specs.Programs.{commands_of}
use Rattle.run_laws.proofs.Counts.{count_no, count_yes}
use Rattle.run_laws.proofs.ProgramLemmas.{programs_may_run}
use Rattle.run_laws.proofs.TextOrder.{letters_of_text, text_is_schedule, turns_of_text}
use Rattle.site_schedule.specs.declared.fault.ScheduleFault.{ScheduleFault}
use Rattle.site_schedule.specs.declared.fault.ScheduleFault.TheVariants as fault
use Rattle.site_schedule.specs.declared.schedule.Schedule.{Schedule}
use Rattle.site_schedule.specs.Answers.{Told}
use Rattle.site_schedule.specs.Legal.{IsLegal, IsWellFormed, letters_in}
use Rattle.site_schedule.specs.Queues.{first_left, left_behind}
use Rattle.site_schedule.specs.Reading.{Said, Word, Broken, behind_header, known_behind, may_follow, said_in, schedule_of, site_from, turn_named, turn_of, turn_on, turn_with, turns_on, whole, whole_by}
use Rattle.site_schedule.proofs.TurnLemmas.{left_more, timely_next}

-- how much a site has left
abbrev pub at : {A : Type 0} → List (List A) → ℕ → ℕ
at sites i = length (slice_index_or sites i [])

-- Turns that may be the first of a legal schedule: with what is left each site stands as often as it has commands.
pub record MayBegin (sites : List (List Letter)) (before : List ℕ) : Type 0 where
  pub counted : (i : ℕ) → count_by (λ j. j == i) before + at (left_behind sites before) i ≡ at sites i
  pub timely : is_timely [] (turns sites before) ≡ true

abbrev one_if : Bool → ℕ
one_if true = 1
one_if false = 0

count_one : (before : List ℕ) (i j : ℕ) → count_by (λ k. k == i) (before ++ j ∷ []) ≡ count_by (λ k. k == i) before + one_if (j == i)
count_one [] i j = elim (eqb_tells j i) [
  | inl y ↦ (let a = count_yes (λ k. k == i) j [] y.0 in let b = ap one_if y.0 in omega (arith, a, b))
  | inr n ↦ (let a = count_no (λ k. k == i) j [] n.0 in let b = ap one_if n.0 in omega (arith, a, b))
]
count_one (h ∷ before) i j =
    let rest = count_one before i j in
    elim (eqb_tells h i) [
      | inl y ↦ (let a = count_yes (λ k. k == i) h (before ++ j ∷ []) y.0 in let b = count_yes (λ k. k == i) h before y.0 in omega (arith, rest, a, b))
      | inr n ↦ count_no (λ k. k == i) h (before ++ j ∷ []) n.0 ∙ rest ∙ ap (λ m. m + one_if (j == i)) (sym (count_no (λ k. k == i) h before n.0))
    ]

other : (i j : ℕ) → (i ≡ j → ⊥) → (i == j) ≡ false
other i j f = elim (eqb_tells i j) [ inl y ↦ absurd (f y.1) | inr n ↦ n.0 ]

both : (i j : ℕ) → (i == j) ≡ (suc i == suc j)
both i j = elim (eqb_tells i j) [
  | inl y ↦ y.0 ∙ sym (same (suc i) (suc j) (ap suc y.1))
  | inr n ↦ n.0 ∙ sym (other (suc i) (suc j) (λ h. n.1 (omega arith)))
]
  where
    same : (a b : ℕ) → a ≡ b → (a == b) ≡ true
    same a b h = elim (eqb_tells a b) [ inl y ↦ y.0 | inr n ↦ absurd (n.1 h) ]

-- the site of a turn has one less
one_less : {A : Type 0} (j : ℕ) (sites : List (List A)) (a : A) → next_of j sites ≡ Some a → (i : ℕ) → at sites i ≡ one_if (j == i) + at (after_turn j sites) i
one_less j [] a e i = absurd (cc)
one_less zero ([] ∷ sites) a e i = absurd (cc)
one_less zero ((b ∷ bs) ∷ sites) a e zero = omega arith
one_less zero ((b ∷ bs) ∷ sites) a e (suc i) = sym (ap (λ n. n + at sites i) (ap one_if (other 0 (suc i) (λ h. omega arith))) ∙ zero-add _)
one_less (suc j) (bs ∷ sites) a e zero = sym (ap (λ n. n + length bs) (ap one_if (other (suc j) 0 (λ h. omega arith))) ∙ zero-add _)
one_less (suc j) (bs ∷ sites) a e (suc i) = one_less j sites a e i ∙ ap (λ (b : Bool). one_if b + at (after_turn j sites) i) (both j i)

pub begin_next : (sites : List (List Letter)) (before : List ℕ) (j : ℕ) (l : Letter) → MayBegin sites before → next_of j (left_behind sites before) ≡ Some l
    → may_follow (known_behind sites before) l ≡ true → MayBegin sites (before ++ j ∷ [])
begin_next sites before j l may e follows = record {
  counted = λ i.
      let one = count_one before i j in
      let less = one_less j (left_behind sites before) l e i in
      let left = ap (λ (s : List (List Letter)). at s i) (left_more sites before j) in
      let all = may.counted i in
      omega (arith, one, less, left, all);
  timely = timely_next sites before j l e may.timely follows;
}

pub begin_none : (sites : List (List Letter)) → MayBegin sites []
begin_none sites = record { counted = λ i. zero-add _; timely = refl }

-- A turn that is given.
pub record IsTurn (sites : List (List Letter)) (before : List ℕ) (site : ℕ) : Type 0 where
  pub letter : Letter
  pub next : next_of site (left_behind sites before) ≡ Some letter
  pub follows : may_follow (known_behind sites before) letter ≡ true

pub ok_same : {A E : Type 0} {x y : A} → ◌≡◌ {A = Result A E} (Ok x) (Ok y) → x ≡ y
ok_same e = cc

not_ok : {A E : Type 0} {w : E} {y : A} → ◌≡◌ {A = Result A E} (Err w) (Ok y) → ⊥
not_ok e = cc

-- what stands behind a step that is Ok
pub bind_ok : {A B E : Type 0} (r : Result A E) (f : A → Result B E) (y : B) → (r >>= f) ≡ Ok y → (x : A) × (r ≡ Ok x) × (f x ≡ Ok y)
bind_ok (Ok x) f y e = (x, refl, e)
bind_ok (Err w) f y e = absurd (not_ok e)

given_by : (sites : List (List Letter)) (before : List ℕ) (site given : ℕ) (o : Option Letter) → next_of site (left_behind sites before) ≡ o → turn_with sites before site o ≡ Ok given → IsTurn sites before given
given_by sites before site given None is e = absurd (not_ok e)
given_by sites before site given (Some l) is e = by (may_follow (known_behind sites before) l) refl
  where
    by : (b : Bool) → may_follow (known_behind sites before) l ≡ b → IsTurn sites before given
    by true follows =
        let same : site ≡ given = ok_same (ap (λ (b : Bool). if b then Ok site else Err (fault.Early (length before + 1))) (sym follows) ∙ e) in
        subst (λ (i : ℕ). IsTurn sites before i) same (record { letter = l; next = is; follows = follows })
    by false follows = absurd (not_ok (ap (λ (b : Bool). if b then Ok site else Err (fault.Early (length before + 1))) (sym follows) ∙ e))

turn_is : (sites : List (List Letter)) (before : List ℕ) (given : ℕ) (o : Option ℕ) → turn_of sites before o ≡ Ok given → IsTurn sites before given
turn_is sites before given None e = absurd (not_ok e)
turn_is sites before given (Some site) e = given_by sites before site given (next_of site (left_behind sites before)) refl e

pub all_turns : (p : Program) (said : List Said) (before after : List ℕ) → turns_on p before said ≡ Ok after → MayBegin (letters_in p) before → MayBegin (letters_in p) after
all_turns p [] before after e may = subst (MayBegin (letters_in p)) (ok_same e) may
all_turns p (Broken why ∷ more) before after e may = absurd (not_ok e)
all_turns p (Word name ∷ more) before after e may =
    let step = bind_ok (turn_on p before name) (λ (next : List ℕ). turns_on p next more) after e in
    let taken = bind_ok (turn_named p before name) (λ (site : ℕ). Ok (before ++ site ∷ [])) step.0 step.1 in
    let turn = turn_is (letters_in p) before taken.0 (site_from 0 p.sites name) taken.1 in
    let next = begin_next (letters_in p) before taken.0 turn.letter may turn.next turn.follows in
    all_turns p more step.0 after step.2 (subst (MayBegin (letters_in p)) (ok_same taken.2) next)

none_left : {A : Type 0} (number : ℕ) (sites : List (List A)) → first_left number sites ≡ None → (i : ℕ) → at sites i ≡ 0
none_left number [] e i = refl
none_left number ([] ∷ sites) e zero = refl
none_left number ([] ∷ sites) e (suc i) = none_left (number + 1) sites e i
none_left number ((a ∷ tail) ∷ sites) e i = absurd (cc)

whole_is : (turns schedule : List ℕ) (o : Option ℕ) → whole_by turns o ≡ Ok schedule → (o ≡ None) × (turns ≡ schedule)
whole_is turns schedule None e = (refl, ok_same e)
whole_is turns schedule (Some site) e = absurd (not_ok e)

pub whole_legal : (p : Program) (turns schedule : List ℕ) → MayBegin (letters_in p) turns → whole p turns ≡ Ok schedule → IsLegal p schedule
whole_legal p turns schedule may e =
    let end = whole_is turns schedule (first_left 0 (left_behind (letters_in p) turns)) e in
    subst (IsLegal p) end.1 (record {
      whole = λ i. (let all = may.counted i in let none = none_left 0 (left_behind (letters_in p) turns) end.0 i in omega (arith, all, none));
      timely = may.timely;
    })

pub schedule_legal : (p : Program) (bytes schedule : List ℕ) → schedule_of p bytes ≡ Ok schedule → IsLegal p schedule
unfolding schedule_of
schedule_legal p bytes schedule e =
    let body = bind_ok (behind_header (reading_of 0 bytes).count (reading_of 0 bytes).ahead) (λ (more : List Found). turns_on p [] (said_in more) >>= λ (turns : List ℕ). whole p turns) schedule e in
    let turns = bind_ok (turns_on p [] (said_in body.0)) (λ (turns : List ℕ). whole p turns) schedule body.2 in
    whole_legal p turns.0 schedule (all_turns p (said_in body.0) [] turns.0 turns.1 (begin_none (letters_in p))) turns.2

pub told_legal : (p : Program) (bytes : List ℕ) (r : Result Schedule ScheduleFault) → Told (λ (s : Schedule). s.turns.items) r (schedule_of p bytes) → IfOk r (λ s. IsLegal p s.turns.items)
told_legal p bytes (Ok s) told = schedule_legal p bytes s.turns.items told
told_legal p bytes (Err why) told = tt

-- words behind words
pub turns_append : (p : Program) (before : List ℕ) (xs ys : List Said) → turns_on p before (xs ++ ys) ≡ (turns_on p before xs >>= λ (t : List ℕ). turns_on p t ys)
turns_append p before [] ys = refl
turns_append p before (Broken why ∷ xs) ys = refl
turns_append p before (Word name ∷ xs) ys = by (turn_on p before name) (λ next. turns_append p next xs ys)
  where
    by : (r : Result (List ℕ) ScheduleFault) → ((next : List ℕ) → turns_on p next (xs ++ ys) ≡ (turns_on p next xs >>= λ (t : List ℕ). turns_on p t ys))
        → (r >>= λ (next : List ℕ). turns_on p next (xs ++ ys)) ≡ ((r >>= λ (next : List ℕ). turns_on p next xs) >>= λ (t : List ℕ). turns_on p t ys)
    by (Ok next) later = later next
    by (Err why) later = refl

-- text order is legal
pub text_legal : (p : Program) → IsWellFormed p → IsLegal p (text_order (letters_in p))
text_legal p is =
    let may = programs_may_run is.fuse is.count p is.program in record {
      whole = text_is_schedule (letters_in p);
      timely = ap (is_timely []) (turns_of_text (letters_in p) ∙ letters_of_text 0 (commands_of p.sites)) ∙ may.timely;
    }
