-- No more moves than bytes.
use Rattle.std.proofs.Common.{◌≡◌, ℕ, ◌+◌, ◌≤◌, Bool, true, false, List, [], ◌∷◌, ◌++◌, length, Option, Some, None, refl, ap, sym, arith, length-append, Result, Ok}
use Rattle.std.specs.Prelude.{Err, IfOk, if◌then◌else◌}
use Rattle.std.specs.List.{onto_first}
use Rattle.line_text.specs.Text.{Found, Counted, Faulty, found_by, found_in, is_byte, is_skipped, first_cause, lines_of, parts_of, reading_of, words_of}
use Rattle.line_text.specs.declared.fault.LineCause.{LineCause}
use Rattle.program_text.specs.Steps.{◌>>=◌}
use Rattle.word_moves.specs.declared.fault.MovesFault.{MovesFault}
use Rattle.word_moves.specs.declared.moves.BraidMove.{BraidMove}
use Rattle.word_moves.specs.declared.moves.Moves.{Moves}
use Rattle.word_moves.specs.declared.fault.MovesCause.TheVariants as cause
use Rattle.word_moves.specs.Answers.{Told}
use Rattle.word_moves.specs.Reading.{Fault, behind_header, is_header, move_in, moves_of, moves_on, moves_with, on_line}

ok_same : {A E : Type 0} {x y : A} → ◌≡◌ {A = Result A E} (Ok x) (Ok y) → x ≡ y
ok_same e = cc

not_ok : {A E : Type 0} {w : E} {y : A} → ◌≡◌ {A = Result A E} (Err w) (Ok y) → ⊥
not_ok e = cc

bind_ok : {A B E : Type 0} (r : Result A E) (f : A → Result B E) (y : B) → (r >>= f) ≡ Ok y → (x : A) × (r ≡ Ok x) × (f x ≡ Ok y)
bind_ok (Ok x) f y e = (x, refl, e)
bind_ok (Err w) f y e = absurd (not_ok e)

-- no more lines than bytes
onto_few : (c : ℕ) (parts : List (List ℕ)) → length (onto_first c parts) ≤ length parts + 1
onto_few c [] = omega arith
onto_few c (part ∷ parts) = omega arith

split_few : (b : Bool) (c : ℕ) (text : List ℕ) (parts : List (List ℕ)) → length parts ≤ length text → length (if b then [] ∷ parts else onto_first c parts) ≤ length text + 1
split_few true c text parts few = omega arith
split_few false c text parts few = (let one = onto_few c parts in omega (arith, one, few))

parts_few : (at : ℕ) (text : List ℕ) → length (parts_of at text) ≤ length text
parts_few at [] = omega arith
parts_few at (c ∷ text) = (let more = split_few (is_byte at c) c text (parts_of at text) (parts_few at text) in omega (arith, more))

-- no more finds than lines
by_few : (number : ℕ) (line : List ℕ) (o : Option LineCause) (b : Bool) (later : List Found) → length (found_by number line o b later) ≤ length later + 1
by_few number line (Some cause) b later = omega arith
by_few number line None true later = omega arith
by_few number line None false later = omega arith

found_few : (passed : ℕ) (lines : List (List ℕ)) → length (found_in passed lines) ≤ length lines
found_few passed [] = omega arith
found_few passed (line ∷ lines) =
    let one = by_few (passed + 1) line (first_cause line) (is_skipped line) (found_in (passed + 1) lines) in
    let more = found_few (passed + 1) lines in
    omega (arith, one, more)

-- no more moves than finds
one_more : (before next : List BraidMove) (number : ℕ) (words : List (List ℕ)) → moves_with before number words ≡ Ok next → length next ≡ length before + 1
one_more before next number words e =
    let read = bind_ok (on_line number (move_in words)) (λ (m : BraidMove). Ok (before ++ m ∷ [])) next e in
    let here = ap length (sym (ok_same read.2)) in
    let long = length-append before (read.0 ∷ []) in
    omega (arith, here, long)

on_few : (before : List BraidMove) (found : List Found) (list : List BraidMove) → moves_on before found ≡ Ok list → length list ≤ length before + length found
on_few before [] list e = (let same = ap length (ok_same e) in omega arith)
on_few before (Faulty number cause ∷ found) list e = absurd (not_ok e)
on_few before (Counted number text ∷ found) list e =
    let read = bind_ok (moves_with before number (words_of text)) (λ (next : List BraidMove). moves_on next found) list e in
    let one = one_more before read.0 number (words_of text) read.1 in
    let more = on_few read.0 found list read.2 in
    omega (arith, one, more)

header_few : (count : ℕ) (found body : List Found) → behind_header count found ≡ Ok body → length body ≤ length found
header_few count [] body e = absurd (not_ok e)
header_few count (Faulty number cause ∷ found) body e = absurd (not_ok e)
header_few count (Counted number text ∷ found) body e = by (is_header (words_of text)) e
  where
    fault : Fault
    fault = record { line = number; cause = cause.Header }

    by : (b : Bool) → (if b then Ok found else Err fault) ≡ Ok body → length body ≤ length (Counted number text ∷ found)
    by true e = (let same = ap length (ok_same e) in omega arith)
    by false e = absurd (not_ok e)

few_of : (bytes : List ℕ) (list : List BraidMove) → moves_of bytes ≡ Ok list → length list ≤ length bytes
unfolding moves_of
few_of bytes list e =
    let found = (reading_of 0 bytes).ahead in
    let body = bind_ok (behind_header (reading_of 0 bytes).count found) (λ (more : List Found). moves_on [] more) list e in
    let less = header_few (reading_of 0 bytes).count found body.0 body.1 in
    let moves = on_few [] body.0 list body.2 in
    let lines = found_few 0 (lines_of bytes) in
    let parts = parts_few 10 bytes in
    omega (arith, less, moves, lines, parts)

pub told_few : (bytes : List ℕ) (r : Result Moves MovesFault) → Told (λ (m : Moves). m.list.items) r (moves_of bytes) → IfOk r (λ m. length m.list.items ≤ length bytes)
told_few bytes (Ok m) told = few_of bytes m.list.items told
told_few bytes (Err fault) told = tt
