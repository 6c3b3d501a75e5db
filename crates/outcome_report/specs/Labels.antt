-- Labels as words.
use Rattle.std.specs.Prelude.{ℕ, List, map}
use Rattle.fusion_rules.specs.Names.{name_of}

-- the names of labels; a number that is no label has none
abbrev pub label_names : List (List ℕ) → List ℕ → List (List ℕ)
label_names names labels = map (name_of names) labels
