-- Shelves and a sink in memory, as their callers see them.
use Rattle.std.specs.Prelude.{ℕ, ◌-◌, min, List, [], ◌∷◌, Bool, Some, None, String, Vec, if◌then◌else◌, is_some, length, nat_eq}
use Rattle.std.specs.List.{list_any}
use Rattle.std.specs.declared.alloc.Global.{Global}
use Rattle.std.specs.Str.{bytes_eq}
use Rattle.std.specs.String.{string_bytes}
use Rattle.io_ports.specs.Ports.{Files, count_up}

-- the names and the texts of a list of files
abbrev pub contents_of : List (String Global × Vec ℕ Global) → List (List ℕ × List ℕ)
contents_of [] = []
contents_of (file ∷ files) = (string_bytes file.0, file.1.items) ∷ contents_of files

-- the first text of each name
abbrev pub files_of : List (List ℕ × List ℕ) → Files
files_of [] name = None
files_of (file ∷ files) name = if bytes_eq file.0 name then Some file.1 else files_of files name

-- the call of this number is one of those that fail
abbrev pub fails_at : List ℕ → ℕ → Bool
fails_at fail call = list_any (λ k. nat_eq k call) fail

-- how many bytes a call gives of a text from an offset on: all that are left, at most so many a call and so many as the
-- buffer holds
abbrev pub piece_length : List ℕ → ℕ → ℕ → ℕ → ℕ
piece_length text at step room = min (min (length text - at) step) room

-- how many of some bytes a call takes: all of them, at most so many a call and so many as there is room for
abbrev pub taken_length : List ℕ → ℕ → ℕ → ℕ
taken_length bytes step room = min (min (length bytes) step) room

-- one more fault where a call failed
abbrev pub faults_after : Bool → ℕ → ℕ
faults_after went_well failed = if went_well then failed else count_up failed

-- A shelf in memory: its files, the numbers of the calls that fail, the most bytes that a call
-- gives, and how many calls there were and how many of them failed.
pub record HeldFiles : Type 0 where
  pub files : List (List ℕ × List ℕ)
  pub fail : List ℕ
  pub step : ℕ
  pub calls : ℕ
  pub failed : ℕ

-- A shelf that fails only at names that it doesn't hold.
pub record SureFiles : Type 0 where
  pub files : List (List ℕ × List ℕ)
  pub step : ℕ
  pub failed : ℕ

-- no fault at a name that is held, and the one number at every other
abbrev pub sure_faults : SureFiles → List ℕ → ℕ
sure_faults shelf name = if is_some (files_of shelf.files name) then 0 else shelf.failed

-- A sink in memory: what it took and how much it can take in all, the numbers of the calls that
-- fail, the most bytes that a call takes, and how many calls there were and how many of them failed.
pub record HeldBytes : Type 0 where
  pub taken : List ℕ
  pub room : ℕ
  pub fail : List ℕ
  pub step : ℕ
  pub calls : ℕ
  pub failed : ℕ

-- the room that is left
abbrev pub room_left : HeldBytes → ℕ
room_left sink = sink.room - length sink.taken
