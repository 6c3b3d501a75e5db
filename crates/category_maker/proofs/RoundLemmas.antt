-- Rounds, commands and labels, one behind the other.
use Rattle.std.proofs.Common.{◌≡◌, ℕ, zero, suc, ◌+◌, ◌-◌, ◌<◌, ◌≤◌, ◌%◌, List, [], ◌∷◌, ◌++◌, map, length, refl, ap, sym, ◌∙◌, arith, append_assoc, codes}
use Rattle.std.proofs.lemmas.List.{length-append, length-map}
use Rattle.line_text.specs.Spelling.{spelled}
use Rattle.tree_shapes.specs.Labelled.{Labelled, Strand, Joined, size}
use Rattle.program_text.specs.declared.form.TheConstants.{COMMAND_LIMIT}
use Rattle.program_text.specs.WellFormed.{commands_in}
use Rattle.category_maker.specs.declared.commands.TheConstants.{COMMANDS}
use Rattle.category_text.specs.Canonical.{counting}
use Rattle.category_maker.specs.MadeSchedule.{turn_lines}
use Rattle.category_maker.specs.MadeCategory.{label_name, label_names}
use Rattle.category_maker.specs.MadeProgram.{comb, command_at, commands_from, made_program, strands_sum}

-- one number more
pub counting_more : (c n : ℕ) → c < n → counting c (n - c) ≡ c ∷ counting (c + 1) (n - (c + 1))
counting_more c n below = let e : n - c ≡ suc (n - (c + 1)) = omega arith in ap (counting c) e

-- one item more of a list that is counted
pub items_more : {A : Type 0} (item : ℕ → A) (c n : ℕ) (old new : List A) → new ≡ old ++ item c ∷ [] → c < n → new ++ map item (counting (c + 1) (n - (c + 1))) ≡ old ++ map item (counting c (n - c))
items_more item c n old new e below =
    ap (λ t. t ++ map item (counting (c + 1) (n - (c + 1)))) e ∙ append_assoc old (item c ∷ []) (map item (counting (c + 1) (n - (c + 1)))) ∙ ap (λ cs. old ++ map item cs) (sym (counting_more c n below))

-- one round more
pub rounds_more : (c n : ℕ) (old new : List ℕ) → new ≡ old ++ spelled ((codes "A" ∷ codes "B" ∷ []) ∷ []) → c < n → new ++ spelled (turn_lines (n - (c + 1))) ≡ old ++ spelled (turn_lines (n - c))
rounds_more c n old new e below =
    let one : n - c ≡ suc (n - (c + 1)) = omega arith in
    ap (λ t. t ++ spelled (turn_lines (n - (c + 1)))) e ∙ append_assoc old (spelled ((codes "A" ∷ codes "B" ∷ []) ∷ [])) (spelled (turn_lines (n - (c + 1)))) ∙ ap (λ k. old ++ spelled (turn_lines k)) (sym one)

pub length-counting : (from n : ℕ) → length (counting from n) ≡ n
length-counting from zero = refl
length-counting from (suc n) = ap suc (length-counting (from + 1) n)

counting_end : (from n : ℕ) → counting from (suc n) ≡ counting from n ++ (from + n) ∷ []
counting_end from zero = ap (λ m. m ∷ []) (omega arith)
counting_end from (suc n) = ap (λ t. from ∷ t) (counting_end (from + 1) n ∙ ap (λ m. counting (from + 1) n ++ m ∷ []) (omega arith))

map-end : {A B : Type 0} (f : A → B) (xs : List A) (x : A) → map f (xs ++ x ∷ []) ≡ map f xs ++ f x ∷ []
map-end f [] x = refl
map-end f (y ∷ ys) x = ap (λ t. f y ∷ t) (map-end f ys x)

-- one name more
pub names_end : (k : ℕ) → label_names (k + 1) ≡ label_names k ++ label_name k ∷ []
names_end k = let one : k + 1 ≡ suc k = omega arith in ap label_names one ∙ ap (map label_name) (counting_end 0 k) ∙ map-end label_name (counting 0 k) (0 + k) ∙ ap (λ m. label_names k ++ label_name m ∷ []) (omega arith)

pub length-names : (n : ℕ) → length (label_names n) ≡ n
length-names n = length-map (counting 0 n) label_name ∙ length-counting 0 n

pub size-comb : (n k : ℕ) → size (comb n k) ≡ k + 1
size-comb n zero = refl
size-comb n (suc k) = ap (λ m. m + 1) (size-comb n k) ∙ omega arith

pub length-commands : (first count : ℕ) → length (commands_from first count) ≡ count
unfolding commands_from
length-commands first count = length-map (counting 0 count) (command_at first) ∙ length-counting 0 count

-- one node more
pub comb_joined : (n nodes : ℕ) (l r : Labelled) (q : ℕ) → 0 < nodes → l ≡ comb n (nodes - 1) → r ≡ Strand ((nodes + 1) % n) → q ≡ strands_sum n (nodes + 1) % n → Joined l r q ≡ comb n nodes
comb_joined n zero l r q some el er eq = absurd (omega arith)
comb_joined n (suc k) l r q some el er eq =
    ap (λ x. Joined x r q) (el ∙ ap (comb n) (omega arith)) ∙ ap (λ x. Joined (comb n k) x q) (er ∙ ap (λ m. Strand (m % n)) (omega arith)) ∙ ap (Joined (comb n k) (Strand ((k + 2) % n))) (eq ∙ ap (λ m. strands_sum n m % n) (omega arith))

-- how many commands both sites have
pub commands_few : (n : ℕ) → length (commands_in (made_program n).sites) ≤ COMMAND_LIMIT
commands_few n =
    let a = length-commands 1 COMMANDS in
    let b = length-commands 9 COMMANDS in
    let all = length-append (commands_from 1 COMMANDS) (commands_from 9 COMMANDS ++ []) in
    let none = length-append (commands_from 9 COMMANDS) [] in
    omega arith
