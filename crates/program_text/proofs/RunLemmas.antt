-- Runs of a word, and the pieces of words.
use Rattle.std.proofs.Common.{◌≡◌, ℕ, zero, suc, ◌+◌, ◌<◌, ◌≤◌, List, [], ◌∷◌, ◌++◌, Bool, true, false, ◌&&◌, ◌==◌, length, take, drop, refl, sym, ap, ◌∙◌, arith, if◌then◌else◌, Some, None, Result, Ok, Err}
use Rattle.std.specs.Prelude.{slice_get}
use Rattle.std.specs.List.{onto_first, flat_map}
use Rattle.std.proofs.lemmas.Bool.Decides.{nat_tests}
use Rattle.std.proofs.lemmas.List.{drop_more, drop_all}
use Rattle.std.proofs.lemmas.Option.{slice_get_within, get_or_from_slice_get}
use Rattle.fusion_rules.specs.Names.{is_name_byte}
use Rattle.program_text.specs.declared.fault.ProgramCause.{ProgramCause}
use Rattle.program_text.specs.declared.fault.Stop.{Stop}
use Rattle.program_text.specs.declared.fault.Stop.TheVariants.{Cause}
use Rattle.program_text.specs.declared.piece.Piece.{Piece}
use Rattle.program_text.specs.Answers.{LineFails}
use Rattle.program_text.specs.Steps.{◌>>=◌}
use Rattle.program_text.specs.Trees.{begins_label, run_length, run_end, runs_of, piece_of, pieces_onto}

pub run_within : (text : List ℕ) → run_length text ≤ length text
run_within [] = omega arith
run_within (c ∷ cs) = by_test (is_name_byte c) (run_within cs)
  where
    by_test : (b : Bool) → run_length cs ≤ length cs → (if b then run_length cs + 1 else 0) ≤ suc (length cs)
    by_test true within = omega arith
    by_test false within = omega arith

-- the runs of a text by its first run
pub first_run : (c : ℕ) (cs : List ℕ) → runs_of (c ∷ cs) ≡ take (run_end (c ∷ cs)) (c ∷ cs) ∷ runs_of (drop (run_end (c ∷ cs)) (c ∷ cs))
first_run c cs = by_first (is_name_byte c) refl
  where
    -- the runs behind a byte of a name
    behind : (cs : List ℕ) → begins_label cs ≡ true → runs_of cs ≡ take (run_length cs) cs ∷ runs_of (drop (run_length cs) cs)
    behind [] is = absurd (cc)
    behind (d ∷ ds) is = by_next (begins_label ds) refl (behind ds)
      where
        longer : (n : ℕ) → runs_of ds ≡ take n ds ∷ runs_of (drop n ds) → onto_first d (runs_of ds) ≡ take (n + 1) (d ∷ ds) ∷ runs_of (drop (n + 1) (d ∷ ds))
        longer n e = let more : n + 1 ≡ suc n = omega arith in rw (more, e) refl

        with_more : (b : Bool) → begins_label ds ≡ b
            → (if b then onto_first d (runs_of ds) else (d ∷ []) ∷ runs_of ds) ≡ take (run_length ds + 1) (d ∷ ds) ∷ runs_of (drop (run_length ds + 1) (d ∷ ds))
            → runs_of (d ∷ ds) ≡ take (run_length (d ∷ ds)) (d ∷ ds) ∷ runs_of (drop (run_length (d ∷ ds)) (d ∷ ds))
        with_more b e h =
            ap (λ x. if x && begins_label ds then onto_first d (runs_of ds) else (d ∷ []) ∷ runs_of ds) is
            ∙ ap (λ x. if x then onto_first d (runs_of ds) else (d ∷ []) ∷ runs_of ds) e ∙ h
            ∙ ap (λ x. take (if x then run_length ds + 1 else 0) (d ∷ ds) ∷ runs_of (drop (if x then run_length ds + 1 else 0) (d ∷ ds))) (sym is)

        none : (ds : List ℕ) → begins_label ds ≡ false → run_length ds ≡ 0
        none [] e = refl
        none (c ∷ cs) e = ap (λ b. if b then run_length cs + 1 else 0) e

        by_next : (b : Bool) → begins_label ds ≡ b → (begins_label ds ≡ true → runs_of ds ≡ take (run_length ds) ds ∷ runs_of (drop (run_length ds) ds))
            → runs_of (d ∷ ds) ≡ take (run_length (d ∷ ds)) (d ∷ ds) ∷ runs_of (drop (run_length (d ∷ ds)) (d ∷ ds))
        by_next true e again = with_more true e (longer (run_length ds) (again e))
        by_next false e again = with_more false e (ap (λ n. take (n + 1) (d ∷ ds) ∷ runs_of (drop (n + 1) (d ∷ ds))) (sym (none ds e)))

    by_first : (b : Bool) → is_name_byte c ≡ b → runs_of (c ∷ cs) ≡ take (run_end (c ∷ cs)) (c ∷ cs) ∷ runs_of (drop (run_end (c ∷ cs)) (c ∷ cs))
    by_first false e = rw e refl
    by_first true e =
        let long : run_length (c ∷ cs) ≡ run_length cs + 1 = ap (λ b. if b then run_length cs + 1 else 0) e in
        let some : (run_length (c ∷ cs) == 0) ≡ false = grind (arith, nat_tests) in
        behind (c ∷ cs) e ∙ ap (λ b. take (if b then 1 else run_length (c ∷ cs)) (c ∷ cs) ∷ runs_of (drop (if b then 1 else run_length (c ∷ cs)) (c ∷ cs))) (sym some)

-- the same of a text that is split there
pub runs_front : (text : List ℕ) (end : ℕ) (run rest : List ℕ) → 0 < length text → end ≡ run_end text → run ≡ take end text → rest ≡ drop end text → runs_of text ≡ run ∷ runs_of rest
runs_front [] end run rest some e f g = absurd (omega arith)
runs_front (c ∷ cs) end run rest some e f g =
    first_run c cs ∙ ap (λ n. take n (c ∷ cs) ∷ runs_of (drop n (c ∷ cs))) (sym e) ∙ ap (λ r. r ∷ runs_of (drop end (c ∷ cs))) (sym f) ∙ ap (λ r. run ∷ runs_of r) (sym g)

-- The pieces of words, one after the other.

module _ (names : List (List ℕ)) where
  onto_more : (before : List Piece) (runs more : List (List ℕ)) → pieces_onto names before (runs ++ more) ≡ (pieces_onto names before runs >>= λ (next : List Piece). pieces_onto names next more)
  onto_more before [] more = refl
  onto_more before (run ∷ runs) more = by_piece (piece_of names run) (λ p. onto_more (before ++ p ∷ []) runs more)
    where
      by_piece : (r : Result Piece ProgramCause) → ((p : Piece) → pieces_onto names (before ++ p ∷ []) (runs ++ more) ≡ (pieces_onto names (before ++ p ∷ []) runs >>= λ (next : List Piece). pieces_onto names next more))
          → (r >>= λ (p : Piece). pieces_onto names (before ++ p ∷ []) (runs ++ more)) ≡ ((r >>= λ (p : Piece). pieces_onto names (before ++ p ∷ []) runs) >>= λ (next : List Piece). pieces_onto names next more)
      by_piece (Ok p) again = again p
      by_piece (Err cause) again = refl

  here : (words : List (List ℕ)) (place : ℕ) (text : List ℕ) → slice_get words place ≡ Some text → drop place words ≡ text ∷ drop (place + 1) words
  here words place text at =
      drop_more words place [] (slice_get_within words place text at) ∙ ap (λ t. t ∷ drop (place + 1) words) (get_or_from_slice_get words place text [] at)

  by_word : (words : List (List ℕ)) (place : ℕ) (text : List ℕ) (before : List Piece) → slice_get words place ≡ Some text
      → pieces_onto names before (flat_map runs_of (drop place words)) ≡ (pieces_onto names before (runs_of text) >>= λ (next : List Piece). pieces_onto names next (flat_map runs_of (drop (place + 1) words)))
  by_word words place text before at =
      ap (λ ws. pieces_onto names before (flat_map runs_of ws)) (here words place text at) ∙ onto_more before (runs_of text) (flat_map runs_of (drop (place + 1) words))

  -- a word that is read
  pub word_read : (words : List (List ℕ)) (place : ℕ) (text : List ℕ) (before next : List Piece) → slice_get words place ≡ Some text → pieces_onto names before (runs_of text) ≡ Ok next
      → pieces_onto names next (flat_map runs_of (drop (place + 1) words)) ≡ pieces_onto names before (flat_map runs_of (drop place words))
  word_read words place text before next at is =
      sym (by_word words place text before at ∙ ap (λ (r : Result (List Piece) ProgramCause). r >>= λ (next : List Piece). pieces_onto names next (flat_map runs_of (drop (place + 1) words))) is)

  -- a word that is refused
  pub word_stops : (stop : Stop) (words : List (List ℕ)) (place : ℕ) (text : List ℕ) (before : List Piece) (stated : Result (List Piece) ProgramCause) → slice_get words place ≡ Some text
      → LineFails stop (pieces_onto names before (runs_of text)) → pieces_onto names before (flat_map runs_of (drop place words)) ≡ stated → LineFails stop stated
  word_stops Stop.Memory words place text before stated at fails same = tt
  word_stops (Cause cause) words place text before stated at fails same =
      sym same ∙ by_word words place text before at ∙ ap (λ (r : Result (List Piece) ProgramCause). r >>= λ (next : List Piece). pieces_onto names next (flat_map runs_of (drop (place + 1) words))) fails

  past : (words : List (List ℕ)) (place : ℕ) → None ≡ slice_get words place → length words ≤ place
  past [] place e = omega arith
  past (w ∷ ws) zero e = absurd (cc)
  past (w ∷ ws) (suc place) e = omega (arith, past ws place e)

  -- no word is left
  pub words_end : (words : List (List ℕ)) (place : ℕ) (before : List Piece) → None ≡ slice_get words place → pieces_onto names before (flat_map runs_of (drop place words)) ≡ Ok before
  words_end words place before e = ap (λ ws. pieces_onto names before (flat_map runs_of ws)) (drop_all place words (past words place e))
