-- What a command does: it wants one text after another, and in the end it has a reply.
use Rattle.std.specs.Prelude.{◌≡◌, ◌⊎◌, ℕ, List, length, nat_lt, if◌then◌else◌, Option, Some, option_and_then, Result, Ok, Err}
use Rattle.io_ports.specs.Ports.{Files}
use Rattle.anyon_app.specs.Replies.{Reply}

-- It says its reply, or it wants the text of a name and goes on with it.
pub data Work : Type 0 where
  Says : (reply : Reply) → Work
  Wants : (name : List ℕ) (next : List ℕ → Work) → Work

-- the reply over these files, if each text that is reached is there
abbrev pub reply_of : Work → Files → Option Reply
reply_of (Says reply) files = Some reply
reply_of (Wants name next) files = option_and_then (λ text. reply_of (next text) files) (files name)

-- the work comes to this text: each text before it is there, and nothing before it decides
abbrev pub Reaches : Work → Files → List ℕ → Type 0
Reaches (Says reply) files sought = ⊥
Reaches (Wants name next) files sought = (sought ≡ name) ⊎ ((text : List ℕ) × (files name ≡ Some text) × Reaches (next text) files sought)

-- the work comes to this text over some files
abbrev pub Names : Work → List ℕ → Type 0
Names (Says reply) sought = ⊥
Names (Wants name next) sought = (sought ≡ name) ⊎ ((text : List ℕ) × Names (next text) sought)

-- no text is wanted
abbrev pub WantsNone : Work → Type 0
WantsNone (Says reply) = Unit {0}
WantsNone (Wants name next) = ⊥

-- these files decide the reply: they are the shelf's, or none are wanted
abbrev pub Decides : Option Files → Work → Files → Type 0
Decides told work files = (told ≡ Some files) ⊎ WantsNone work

-- the most bytes of a text
abbrev pub text_limit : ℕ
text_limit = 4194304

-- one text, with the reply where it is too long
abbrev pub text_work : Reply → List ℕ → (List ℕ → Work) → Work
text_work too_long name next = Wants name (λ text. if nat_lt text_limit (length text) then Says too_long else next text)

-- a value, or the reply that decides in its place
abbrev pub judged : {T : Type 0} → Result T Reply → (T → Work) → Work
judged (Ok value) next = next value
judged (Err reply) next = Says reply

-- one text and what it is read as
abbrev pub read_work : {T : Type 0} → Reply → (List ℕ → Result T Reply) → List ℕ → (T → Work) → Work
read_work too_long reader name next = text_work too_long name (λ text. judged (reader text) next)
