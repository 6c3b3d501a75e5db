-- What reads, writes and faults mean.
use Rattle.std.specs.Prelude.{◌≡◌, ℕ, ◌+◌, ◌-◌, ◌^◌, ◌<◌, ◌≤◌, min, List, length, take, drop, Option, Some, None}

-- the text under a name, if there is one
abbrev pub Files : Type 0
Files = List ℕ → Option (List ℕ)

-- told by a shelf that tells nothing of its texts
abbrev pub no_files : Option Files
no_files = None

-- told by a sink that tells nothing of what it took
abbrev pub no_bytes : Option (List ℕ)
no_bytes = None

-- P of what is told, if anything is
abbrev pub WhereTold : {A : Type 0} → Option A → (A → Type 0) → Type 0
WhereTold {A} told P = (known : A) → told ≡ Some known → P known

-- one more, up to the last value of a count
abbrev pub count_up : ℕ → ℕ
count_up n = min (n + 1) (2 ^ 64 - 1)

-- a count of faults rose, or stands at its last value
abbrev pub Rose : ℕ → ℕ → Type 0
Rose before now = min (before + 1) (2 ^ 64 - 1) ≤ now

-- n bytes stand at the front, and the rest is as before
pub record FillsFront (old new : List ℕ) (n : ℕ) : Type 0 where
  pub within : n ≤ length old
  pub rest : drop n new ≡ drop n old

-- this is the text of the name
abbrev pub IsText : List ℕ → List ℕ → Files → Type 0
IsText name text files = files name ≡ Some text

-- the text of the name has more bytes than the limit
abbrev pub IsLongText : List ℕ → ℕ → Files → Type 0
IsLongText name limit files = (text : List ℕ) × (files name ≡ Some text) × (limit < length text)

-- the front of buf is what the text has from an offset on, and is empty only at its end
pub record PieceOf (text : List ℕ) (at : ℕ) (buf : List ℕ) (n : ℕ) : Type 0 where
  pub bytes : take n buf ≡ take n (drop at text)
  pub none_left : n ≡ 0 → 0 < length buf → length text ≤ at

-- where the files are told, the name is there, and this is a piece of its text
abbrev pub GivesPiece : Option Files → List ℕ → ℕ → List ℕ → ℕ → Type 0
GivesPiece told name at buf n = WhereTold told (λ files. (text : List ℕ) × (files name ≡ Some text) × PieceOf text at buf n)

-- the text of the name begins with these bytes, if there are any
abbrev pub BeginsText : List ℕ → List ℕ → Files → Type 0
BeginsText name front files = 0 < length front → (text : List ℕ) × (files name ≡ Some text) × (take (length front) text ≡ front)

-- some of the bytes are taken, where there are any
pub record TakesSome (bytes : List ℕ) (n : ℕ) : Type 0 where
  pub within : n ≤ length bytes
  pub some : 0 < length bytes → 0 < n
