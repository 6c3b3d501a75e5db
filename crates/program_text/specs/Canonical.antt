-- The words of a tree and of a sign, and the site that needs no line.
use Rattle.std.specs.Prelude.{ℕ, List, [], ◌∷◌, ◌++◌, Bool, ◌&&◌, ◌==◌, codes}
use Rattle.std.specs.Str.{bytes_eq}
use Rattle.fusion_rules.specs.Names.{name_of}
use Rattle.tree_shapes.specs.Labelled.{Labelled, Strand, Joined}
use Rattle.program_text.specs.declared.plan.Sign.{Sign}
use Rattle.program_text.specs.declared.plan.Sign.TheVariants.{Plus, Minus}
use Rattle.program_text.specs.Program.{ProgramSite}

-- words with `(` in front of the first
abbrev pub opened : List (List ℕ) → List (List ℕ)
opened [] = []
opened (word ∷ words) = (40 ∷ word) ∷ words

-- words with a text behind the last
abbrev pub closed : List (List ℕ) → List ℕ → List (List ℕ)
closed [] tail = []
closed (word ∷ []) tail = (word ++ tail) ∷ []
closed (word ∷ next ∷ words) tail = word ∷ closed (next ∷ words) tail

-- The words of a tree: a strand is its label, and a node with children L and R and the label q is `(L R):q`, with one
-- space between the children.
abbrev pub tree_words : List (List ℕ) → Labelled → List (List ℕ)
tree_words names (Strand a) = name_of names a ∷ []
tree_words names (Joined l r q) = opened (tree_words names l) ++ closed (tree_words names r) (41 ∷ 58 ∷ name_of names q)

abbrev pub sign_word : Sign → List ℕ
sign_word Plus = codes "+"
sign_word Minus = codes "-"

-- whether a site is named `main` and has all strands
abbrev pub is_main : ℕ → ProgramSite → Bool
is_main strands site = bytes_eq site.name (codes "main") && (site.first == 1 && site.last == strands)
