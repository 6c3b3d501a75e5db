-- What is kept of the turns so far, behind one more turn.
use Rattle.std.proofs.Common.{◌≡◌, ℕ, zero, suc, ◌+◌, ◌<◌, ◌≤◌, Bool, List, [], ◌∷◌, ◌++◌, map, length, drop, Some, None, refl, ap, sym, subst, ◌∙◌, arith, length-append, Result, Ok}
use Rattle.std.specs.Prelude.{Err, false, get_or, slice_get}
use Rattle.std.proofs.lemmas.List.{length-map}
use Rattle.line_text.specs.Text.{Found, Counted, words_of}
use Rattle.program_text.specs.Letters.{letters, measurements}
use Rattle.program_text.specs.Program.{Program, ProgramSite, program_of, site_of}
use Rattle.program_text.specs.Steps.{◌>>=◌}
use Rattle.program_text.specs.WellFormed.{commands_in}
use Rattle.program_text.specs.declared.form.TheConstants.{COMMAND_LIMIT}
use Rattle.program_text.specs.declared.letter.Letter.{Letter}
use Rattle.program_text.specs.declared.plan.Command.{Command}
use Rattle.program_text.specs.declared.plan.Plan.{Plan}
use Rattle.tree_shapes.specs.declared.limits.TheConstants.{STRAND_LIMIT}
use Rattle.run_laws.specs.Programs.{commands_of}
use Rattle.run_laws.specs.Schedules.{site_letters}
use Rattle.run_laws.specs.Timely.{known_after}
use Rattle.run_laws.specs.Turns.{after_turn, in_text, next_of}
use Rattle.site_schedule.specs.declared.fault.ScheduleFault.{ScheduleFault}
use Rattle.site_schedule.specs.declared.fault.ScheduleFault.TheVariants.{Line, Header, UnknownSite, TooMany, Early, Unfinished, Memory}
use Rattle.site_schedule.specs.declared.progress.Progress.{Progress}
use Rattle.site_schedule.specs.Answers.{Fails, IsBehind, Told}
use Rattle.site_schedule.specs.Legal.{letters_in}
use Rattle.site_schedule.specs.Queues.{AreMarks, all_left, left_behind, letters_left}
use Rattle.site_schedule.specs.Reading.{Word, known_behind, said_in, turn_named, turn_on, turns_on}
use Rattle.site_schedule.proofs.QueueLemmas.{length_letters}
use Rattle.site_schedule.proofs.LegalLemmas.{bind_ok, ok_same, turns_append}
use Rattle.site_schedule.proofs.TurnLemmas.{known_next, left_more, one_taken}

pub behind_next : (p : Program) (old new : Progress) (site : ℕ) (l : Letter) → IsBehind p old → next_of site (all_left old.queues.items) ≡ Some l
    → all_left new.queues.items ≡ after_turn site (all_left old.queues.items) → length new.queues.items ≡ length old.queues.items
    → ((known : List ℕ) → AreMarks old.marks.items known → AreMarks new.marks.items (known_after known (l ∷ [])))
    → new.turns.items ≡ old.turns.items ++ site ∷ [] → IsBehind p new
behind_next p old new site l is e left count marks turns =
    let next : next_of site (left_behind (letters_in p) old.turns.items) ≡ Some l = ap (next_of site) (sym is.left) ∙ e in record {
      left = left ∙ ap (after_turn site) is.left ∙ sym (left_more (letters_in p) old.turns.items site) ∙ ap (left_behind (letters_in p)) (sym turns);
      marks = subst (AreMarks new.marks.items) (sym (known_next (letters_in p) old.turns.items site l next) ∙ ap (known_behind (letters_in p)) (sym turns)) (marks (known_behind (letters_in p) old.turns.items) is.marks);
      count = (let a = is.count in omega arith);
      few =
          (let less = one_taken site (all_left old.queues.items) l e in
          let there = ap (λ (s : List (List Letter)). length (in_text s)) left in
          let more = ap length turns ∙ length-append old.turns.items (site ∷ []) in
          let all = is.few in
          omega (arith, less, there, more, all));
    }

-- as many letters as commands
length_text : (p : ℕ) (sites : List ProgramSite) → length (in_text (site_letters p (commands_of sites))) ≡ length (commands_in sites)
length_text p [] = refl
length_text p (site ∷ sites) =
    let here = length_letters p site.commands in
    let rest = length_text (p + measurements site.commands) sites in
    let a = length-append (letters p site.commands) (in_text (site_letters (p + measurements site.commands) (commands_of sites))) in
    let b = length-append site.commands (commands_in sites) in
    omega arith

pub length_sites : (p : ℕ) (sites : List (List Command)) → length (site_letters p sites) ≡ length sites
length_sites p [] = refl
length_sites p (cs ∷ sites) = ap suc (length_sites (p + measurements cs) sites)

-- what a fault ends, it ends whatever comes behind
pub fails_on : {A B : Type 0} (w : ScheduleFault) (r : Result A ScheduleFault) (f : A → Result B ScheduleFault) → Fails w r → Fails w (r >>= f)
fails_on Memory r f h = tt
fails_on (Line why) r f h = ap (λ r. r >>= f) h
fails_on (Header line) r f h = ap (λ r. r >>= f) h
fails_on (UnknownSite turn) r f h = ap (λ r. r >>= f) h
fails_on (TooMany turn) r f h = ap (λ r. r >>= f) h
fails_on (Early turn) r f h = ap (λ r. r >>= f) h
fails_on (Unfinished site) r f h = ap (λ r. r >>= f) h

-- a fault is told whatever is seen of an answer
pub told_at_err : {X Y : Type 0} (view : X → Y) (r : Result X ScheduleFault) (w : ScheduleFault) (stated : Result Y ScheduleFault) → r ≡ Err w → Fails w stated → Told view r stated
told_at_err {X} view r w stated e h = subst (λ (r : Result X ScheduleFault). Told view r stated) (sym e) h

-- before the first turn
pub behind_none : (plan : Plan) (progress : Progress) → length (commands_in (program_of plan).sites) ≤ COMMAND_LIMIT → length plan.sites.items ≤ STRAND_LIMIT
    → progress.turns.items ≡ [] → progress.marks.items ≡ [] → all_left progress.queues.items ≡ letters_in (program_of plan) → IsBehind (program_of plan) progress
behind_none plan progress commands sites turns marks left =
    let p = program_of plan in record {
      left = left ∙ ap (left_behind (letters_in p)) (sym turns);
      marks = subst (λ (t : List ℕ). AreMarks progress.marks.items (known_behind (letters_in p) t)) (sym turns) (λ place. ap (λ (m : List Bool). get_or m place false) marks);
      count =
          (let a = length-map progress.queues.items letters_left in
          let b = ap length left in
          let d = length_sites 0 (commands_of p.sites) in
          let e = length-map p.sites (λ site. site.commands) in
          let f = length-map plan.sites.items site_of in
          omega (arith, a, b, d, e, f, sites));
      few =
          (let a = ap length turns in
          let b = ap (λ (s : List (List Letter)). length (in_text s)) left in
          let d = length_text 0 p.sites in
          omega (arith, a, b, d, commands));
    }

-- the words of a line, one after another
pub word_behind : (words : List (List ℕ)) (place : ℕ) (word : List ℕ) → slice_get words place ≡ Some word → (drop place words ≡ word ∷ drop (place + 1) words) × (place < length words)
word_behind [] place word e = absurd (cc)
word_behind (w ∷ words) zero word e = (ap (λ (v : List ℕ). v ∷ words) (let h : w ≡ word = cc in h), omega arith)
word_behind (w ∷ words) (suc place) word e =
    let more = word_behind words place word e in
    (more.0 ∙ ap (λ (n : ℕ). word ∷ drop n (w ∷ words)) (let h : suc (place + 1) ≡ suc place + 1 = omega arith in h), (let low = more.1 in omega arith))

pub no_word : (words : List (List ℕ)) (place : ℕ) → slice_get words place ≡ None → drop place words ≡ []
no_word [] zero e = refl
no_word [] (suc place) e = refl
no_word (w ∷ words) zero e = absurd (cc)
no_word (w ∷ words) (suc place) e = no_word words place e

pub words_on : (p : Program) (turns : List ℕ) (words : List (List ℕ)) (place : ℕ) (word : List ℕ) → slice_get words place ≡ Some word
    → turns_on p turns (map Word (drop place words)) ≡ (turn_on p turns word >>= λ (next : List ℕ). turns_on p next (map Word (drop (place + 1) words)))
words_on p turns words place word e = ap (λ (l : List (List ℕ)). turns_on p turns (map Word l)) (word_behind words place word e).0

pub words_next : (p : Program) (turns next : List ℕ) (words : List (List ℕ)) (place : ℕ) (word : List ℕ) → slice_get words place ≡ Some word → turn_on p turns word ≡ Ok next
    → turns_on p next (map Word (drop (place + 1) words)) ≡ turns_on p turns (map Word (drop place words))
words_next p turns next words place word e taken =
    sym (words_on p turns words place word e ∙ ap (λ (r : Result (List ℕ) ScheduleFault). r >>= λ (next : List ℕ). turns_on p next (map Word (drop (place + 1) words))) taken)

-- a turn is one more
pub turn_longer : (p : Program) (turns next word : List ℕ) → turn_on p turns word ≡ Ok next → length next ≡ length turns + 1
turn_longer p turns next word e =
    let taken = bind_ok (turn_named p turns word) (λ (site : ℕ). Ok (turns ++ site ∷ [])) next e in
    ap length (sym (ok_same taken.2)) ∙ length-append turns (taken.0 ∷ [])

-- a line, and the lines behind it
pub line_on : (p : Program) (turns : List ℕ) (number : ℕ) (text : List ℕ) (ahead more : List Found) → ahead ≡ Counted number text ∷ more
    → turns_on p turns (said_in ahead) ≡ (turns_on p turns (map Word (words_of text)) >>= λ (next : List ℕ). turns_on p next (said_in more))
line_on p turns number text ahead more e = ap (λ (f : List Found). turns_on p turns (said_in f)) e ∙ turns_append p turns (map Word (words_of text)) (said_in more)

pub line_next : (p : Program) (turns next : List ℕ) (number : ℕ) (text : List ℕ) (ahead more : List Found) → ahead ≡ Counted number text ∷ more → turns_on p turns (map Word (words_of text)) ≡ Ok next
    → turns_on p next (said_in more) ≡ turns_on p turns (said_in ahead)
line_next p turns next number text ahead more e taken =
    sym (line_on p turns number text ahead more e ∙ ap (λ (r : Result (List ℕ) ScheduleFault). r >>= λ (next : List ℕ). turns_on p next (said_in more)) taken)
