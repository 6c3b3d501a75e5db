-- Names of labels.
use Rattle.std.specs.Prelude.{◌≡◌, ℕ, ◌≤◌, List, [], ◌∷◌, ◌++◌, Bool, true, false, not, ◌&&◌, ◌||◌, ◌==◌, nat_lt, length, position, slice_index_or, if◌then◌else◌, Option, Some, None, Result, Ok, Err}
use Rattle.std.specs.List.{list_any}
use Rattle.std.specs.Char.{is_ascii_alphanumeric}
use Rattle.std.specs.Str.{bytes_eq}
use Rattle.fusion_rules.specs.declared.label.TheConstants.{LABEL_LIMIT}
use Rattle.fusion_rules.specs.declared.names.NameFault.{NameFault}
use Rattle.fusion_rules.specs.declared.names.NameFault.TheVariants.{Spelling, Full, Repeated, Memory}

-- a letter, a digit or `_`
abbrev pub is_name_byte : ℕ → Bool
is_name_byte c = is_ascii_alphanumeric c || c == 95

abbrev pub all_name_bytes : List ℕ → Bool
all_name_bytes [] = true
all_name_bytes (c ∷ cs) = if is_name_byte c then all_name_bytes cs else false

abbrev pub is_name : List ℕ → Bool
is_name word = if length word == 0 then false else (if nat_lt 8 (length word) then false else all_name_bytes word)

abbrev pub is_among : List (List ℕ) → List ℕ → Bool
is_among names name = list_any (bytes_eq name) names

-- a name stands twice
abbrev pub has_repeat : List (List ℕ) → Bool
has_repeat [] = false
has_repeat (name ∷ names) = is_among names name || has_repeat names

abbrev pub all_names : List (List ℕ) → Bool
all_names [] = true
all_names (name ∷ names) = is_name name && all_names names

pub record AreNames (names : List (List ℕ)) : Type 0 where
  pub few : length names ≤ LABEL_LIMIT
  pub spelled : all_names names ≡ true
  pub distinct : has_repeat names ≡ false

-- the label of a name
abbrev pub label_of : List (List ℕ) → List ℕ → Option ℕ
label_of names name = position (bytes_eq name) names

-- the name of a label; a number that is no label has none
abbrev pub name_of : List (List ℕ) → ℕ → List ℕ
name_of names label = slice_index_or names label []

-- why a name isn't added
abbrev pub name_fault : List (List ℕ) → List ℕ → Option NameFault
name_fault names name =
    if not (is_name name) then Some Spelling else (if length names == LABEL_LIMIT then Some Full else (if is_among names name then Some Repeated else None))

abbrev pub added : Result ℕ NameFault → List ℕ → List (List ℕ) → List (List ℕ) → Type 0
added (Ok label) name old new = (name_fault old name ≡ None) × (label ≡ length old) × (new ≡ old ++ name ∷ [])
added (Err Memory) name old new = new ≡ old
added (Err fault) name old new = (name_fault old name ≡ Some fault) × (new ≡ old)
