-- Written lines are plain and short.
use Rattle.std.proofs.Common.{◌≡◌, ◌⊎◌, inl, inr, ℕ, ◌+◌, ◌*◌, ◌^◌, ◌<◌, ◌≤◌, List, [], ◌∷◌, ◌++◌, true, ◌&&◌, length, refl, ap, arith, codes, Option, Some, None}
use Rattle.std.specs.Prelude.{nat_lt, unwrap_or}
use Rattle.std.specs.Fmt.{decimal}
use Rattle.std.proofs.lemmas.Bool.Decides.{nat_tests}
use Rattle.std.proofs.lemmas.List.{length-append}
use Rattle.line_text.specs.Spelling.{spaced, all_plain, is_plain_word, plain_bytes, IsPlainLine}
use Rattle.line_text.proofs.PlainWordLemmas.{IsWord, IsLine, decimal_word, one_word, word_before, word_bytes, word_append}
use Rattle.fusion_rules.specs.Names.{AreNames, is_name, name_of}
use Rattle.fusion_rules.proofs.FoundLemmas.{name_at as label_name}
use Rattle.tree_shapes.specs.Labelled.{Labelled, Strand, Joined, size}
use Rattle.tree_shapes.specs.declared.limits.TheConstants.{STRAND_LIMIT}
use Rattle.program_text.specs.declared.plan.Sign.{Sign}
use Rattle.program_text.specs.declared.plan.Sign.TheVariants.{Plus, Minus}
use Rattle.program_text.specs.declared.plan.Command.{Command}
use Rattle.program_text.specs.declared.plan.Command.TheVariants.{Braid, Raise, Measure, BraidWhen}
use Rattle.program_text.specs.Canonical.{opened, closed, sign_word, tree_words}
use Rattle.program_text.specs.Form.{labels_below}
use Rattle.program_text.specs.Letters.{gap_in}
use Rattle.program_text.specs.Program.{ProgramOutcome, ProgramSite}
use Rattle.program_text.specs.Written.{as_words, line_words, name_at, site_words}
use Rattle.program_text.proofs.WordLemmas.{both, name_word}
use Rattle.program_text.proofs.WritingLemmas.{node_text, some_words}

name_short : (word : List ℕ) → is_name word ≡ true → IsWord word 8
name_short word is = let w = name_word word is in record { plain = w.plain; short = w.short }

number_short : (n : ℕ) → n < 10 ^ 9 → IsWord (decimal n) 9
number_short n small = decimal_word n 9 (omega arith) small (omega arith)

sign_short : (sign : Sign) → IsWord (sign_word sign) 1
sign_short Plus = record { plain = refl; short = omega arith }
sign_short Minus = record { plain = refl; short = omega arith }

-- The start line.

all_opened : (words : List (List ℕ)) → all_plain words ≡ true → all_plain (opened words) ≡ true
all_opened [] all = refl
all_opened (w ∷ ws) all = let h = both (is_plain_word w) (all_plain ws) all in rw (word_bytes w h.0, h.1) refl

all_closed : (words : List (List ℕ)) (tail : List ℕ) → plain_bytes tail ≡ true → all_plain words ≡ true → all_plain (closed words tail) ≡ true
all_closed [] tail plain all = refl
all_closed (w ∷ []) tail plain all = let h = both (is_plain_word w) true all in rw (word_append w tail h.0 plain) refl
all_closed (w ∷ v ∷ ws) tail plain all = let h = both (is_plain_word w) (all_plain (v ∷ ws)) all in rw (h.0) (all_closed (v ∷ ws) tail plain h.1)

all_append : (xs ys : List (List ℕ)) → all_plain xs ≡ true → all_plain ys ≡ true → all_plain (xs ++ ys) ≡ true
all_append [] ys f g = g
all_append (x ∷ xs) ys f g = let h = both (is_plain_word x) (all_plain xs) f in rw (h.0) (all_append xs ys h.1 g)

module _ (names : List (List ℕ)) (are : AreNames names) where
  label_short : (a : ℕ) → nat_lt a (length names) ≡ true → IsWord (name_of names a) 8
  label_short a below = name_short (name_of names a) (label_name names a are.spelled (grind (arith, nat_tests)))

  tree_plain : (t : Labelled) → labels_below (length names) t ≡ true → all_plain (tree_words names t) ≡ true
  tree_plain (Strand a) below = rw ((label_short a below).plain) refl
  tree_plain (Joined l r q) below =
      let labels = both (nat_lt q (length names)) (labels_below (length names) l && labels_below (length names) r) below in
      let children = both (labels_below (length names) l) (labels_below (length names) r) labels.1 in
      let tail : plain_bytes (41 ∷ 58 ∷ name_of names q) ≡ true = word_bytes (name_of names q) (label_short q labels.0).plain in
      all_append (opened (tree_words names l)) (closed (tree_words names r) (41 ∷ 58 ∷ name_of names q)) (all_opened (tree_words names l) (tree_plain l children.0)) (all_closed (tree_words names r) (41 ∷ 58 ∷ name_of names q) tail (tree_plain r children.1))

  tree_short : (t : Labelled) → labels_below (length names) t ≡ true → length (spaced (tree_words names t)) + 12 ≤ 20 * size t
  tree_short (Strand a) below = let w = (label_short a below).short in omega arith
  tree_short (Joined l r q) below =
      let labels = both (nat_lt q (length names)) (labels_below (length names) l && labels_below (length names) r) below in
      let children = both (labels_below (length names) l) (labels_below (length names) r) labels.1 in
      let w = (label_short q labels.0).short in
      let left = tree_short l children.0 in
      let right = tree_short r children.1 in
      let text = ap length (node_text names l r q) in
      let outer = length-append (spaced (tree_words names l)) (32 ∷ (spaced (tree_words names r) ++ 41 ∷ 58 ∷ name_of names q)) in
      let inner = length-append (spaced (tree_words names r)) (41 ∷ 58 ∷ name_of names q) in
      omega arith

  pub start_line : (t : Labelled) → labels_below (length names) t ≡ true → size t ≤ STRAND_LIMIT → IsPlainLine (codes "start" ∷ tree_words names t)
  start_line t below few = by_words (tree_words names t) (some_words names t) (tree_plain t below) (tree_short t below)
    where
      by_words : (words : List (List ℕ)) → 0 < length words → all_plain words ≡ true → length (spaced words) + 12 ≤ 20 * size t → IsPlainLine (codes "start" ∷ words)
      by_words [] some plain short = absurd (omega arith)
      by_words (w ∷ ws) some plain short = record { plain = plain; counts = refl; short = omega arith }

-- Other lines.

line_of_words : (words : List (List ℕ)) (longest : ℕ) → longest ≤ 1024 → IsLine words longest → all_plain words ≡ true
line_of_words words longest few is = is.plain

pub site_line : (site : ProgramSite) → is_name site.name ≡ true → site.first < 10 ^ 9 → site.last < 10 ^ 9 → IsPlainLine (site_words site)
site_line site name first last =
    let is = word_before (codes "site") site.name (decimal site.first ∷ decimal site.last ∷ []) 4 28 (record { plain = refl; short = omega arith })
    (word_before site.name (decimal site.first) (decimal site.last ∷ []) 8 19 (name_short site.name name)
    (word_before (decimal site.first) (decimal site.last) [] 9 9 (number_short site.first first) (one_word (decimal site.last) 9 (number_short site.last last)))) in
    record { plain = is.plain; counts = refl; short = let s = is.short in omega arith }

module _ (names : List (List ℕ)) (os : List ProgramOutcome) where
  -- the names and labels that a line says are names
  abbrev pub HasWords : ℕ → Command → Type 0
  HasWords place (Braid gap sign) = Unit {0}
  HasWords place (Raise gap) = Unit {0}
  HasWords place (Measure gap) = (name : List ℕ) → name_at os place ≡ Some name → is_name name ≡ true
  HasWords place (BraidWhen gap sign tested label) = (is_name (unwrap_or (name_at os tested) []) ≡ true) × (is_name (name_of names label) ≡ true)

  pub command_line : (place : ℕ) (c : Command) → gap_in c < 10 ^ 9 → HasWords place c → IsPlainLine (line_words names os place c)
  command_line place (Braid gap sign) small has =
      let is = word_before (codes "braid") (decimal gap) (sign_word sign ∷ []) 5 11 (record { plain = refl; short = omega arith }) (word_before (decimal gap) (sign_word sign) [] 9 1 (number_short gap small) (one_word (sign_word sign) 1 (sign_short sign))) in
      record { plain = is.plain; counts = refl; short = let s = is.short in omega arith }
  command_line place (Raise gap) small has =
      let is = word_before (codes "raise") (decimal gap) [] 5 9 (record { plain = refl; short = omega arith }) (one_word (decimal gap) 9 (number_short gap small)) in
      record { plain = is.plain; counts = refl; short = let s = is.short in omega arith }
  command_line place (Measure gap) small has = by_name (name_at os place) (λ name e. has name e)
    where
      by_name : (o : Option (List ℕ)) → ((name : List ℕ) → o ≡ Some name → is_name name ≡ true) → IsPlainLine (codes "measure" ∷ decimal gap ∷ as_words o)
      by_name None is_one =
          let is = word_before (codes "measure") (decimal gap) [] 7 9 (record { plain = refl; short = omega arith }) (one_word (decimal gap) 9 (number_short gap small)) in
          record { plain = is.plain; counts = refl; short = let s = is.short in omega arith }
      by_name (Some name) is_one =
          let is = word_before (codes "measure") (decimal gap) (codes "as" ∷ name ∷ []) 7 21 (record { plain = refl; short = omega arith })
          (word_before (decimal gap) (codes "as") (name ∷ []) 9 11 (number_short gap small)
          (word_before (codes "as") name [] 2 8 (record { plain = refl; short = omega arith }) (one_word name 8 (name_short name (is_one name refl))))) in
          record { plain = is.plain; counts = refl; short = let s = is.short in omega arith }
  command_line place (BraidWhen gap sign tested label) small has =
      let name = unwrap_or (name_at os tested) [] in
      let is = word_before (codes "braid") (decimal gap) (sign_word sign ∷ codes "when" ∷ name ∷ name_of names label ∷ []) 5 34 (record { plain = refl; short = omega arith })
      (word_before (decimal gap) (sign_word sign) (codes "when" ∷ name ∷ name_of names label ∷ []) 9 24 (number_short gap small)
      (word_before (sign_word sign) (codes "when") (name ∷ name_of names label ∷ []) 1 22 (sign_short sign)
      (word_before (codes "when") name (name_of names label ∷ []) 4 17 (record { plain = refl; short = omega arith })
      (word_before name (name_of names label) [] 8 8 (name_short name has.0) (one_word (name_of names label) 8 (name_short (name_of names label) has.1)))))) in
      record { plain = is.plain; counts = refl; short = let s = is.short in omega arith }

pub header_line : (version : ℕ) → (version ≡ 1) ⊎ (version ≡ 2) → IsPlainLine (codes "program" ∷ decimal version ∷ [])
header_line version is = with_number (small version is)
  where
    small : (v : ℕ) → (v ≡ 1) ⊎ (v ≡ 2) → v < 10 ^ 9
    small v (inl e) = omega arith
    small v (inr e) = omega arith

    with_number : version < 10 ^ 9 → IsPlainLine (codes "program" ∷ decimal version ∷ [])
    with_number few =
        let line = word_before (codes "program") (decimal version) [] 7 9 (record { plain = refl; short = omega arith }) (one_word (decimal version) 9 (number_short version few)) in
        record { plain = line.plain; counts = refl; short = let s = line.short in omega arith }
