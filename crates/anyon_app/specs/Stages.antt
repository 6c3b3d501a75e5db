-- What a stage of a command says of the shelf and of its result.
use Rattle.std.specs.Prelude.{◌≡◌, ◌≤◌, ℕ, List, length, Option, Some, None, Result, Ok, Err, IfOk, IfErr, Vec}
use Rattle.std.specs.declared.alloc.Global.{Global}
use Rattle.io_ports.specs.Ports.{Files, Rose, WhereTold, IsText, IsLongText}
use Rattle.anyon_app.specs.declared.stop.Stop.{Stop}
use Rattle.anyon_app.specs.declared.stop.Stop.TheVariants.{RefusalLine, LimitLine, Unread, Memory}
use Rattle.anyon_app.specs.Replies.{Reply, done, refused, limited}
use Rattle.anyon_app.specs.Work.{Work, reply_of, Reaches, Names, Decides, text_limit}

-- the reply that a stop gives, if it gives one
abbrev pub stop_reply : Stop → Option Reply
stop_reply (RefusalLine line) = Some (refused line.items)
stop_reply (LimitLine line) = Some (limited line.items)
stop_reply Unread = None
stop_reply Memory = None

-- the reply that a result gives, if it gives one
abbrev pub reply_in : Result (Vec ℕ Global) Stop → Option Reply
reply_in (Ok report) = Some (done report.items)
reply_in (Err stop) = stop_reply stop

-- the stop is this reply, or want of memory
abbrev pub StopsWith : Reply → Stop → Type 0
StopsWith reply (RefusalLine line) = reply ≡ refused line.items
StopsWith reply (LimitLine line) = reply ≡ limited line.items
StopsWith reply Unread = ⊥
StopsWith reply Memory = Unit {0}

-- what is stated is the reply of the stop, unless memory was wanted
abbrev pub GivesUp : {T : Type 0} → Stop → Result T Reply → Type 0
GivesUp (RefusalLine line) stated = stated ≡ Err (refused line.items)
GivesUp (LimitLine line) stated = stated ≡ Err (limited line.items)
GivesUp Unread stated = ⊥
GivesUp Memory stated = Unit {0}

-- A stage that reads no text: its result is what is stated, unless memory was wanted.
abbrev pub Gives : {V T : Type 0} → (V → T) → Result V Stop → Result T Reply → Type 0
Gives view (Ok value) stated = stated ≡ Ok (view value)
Gives view (Err stop) stated = GivesUp stop stated

module _ {S : Type 0} (files : S → Option Files) (faults : S → List ℕ → ℕ) (old new : S) where
  -- the stage has the text of this name, or says why not
  pub record Loads (too_long : Reply) (name : List ℕ) (result : Result (Vec ℕ Global) Stop) : Type 0 where
    pub text : IfOk result (λ text. WhereTold (files old) (IsText name text.items))
    pub short : IfOk result (λ text. length text.items ≤ text_limit)
    pub long : (stop : Stop) → result ≡ Err stop → (reply : Reply) → stop_reply stop ≡ Some reply → (reply ≡ too_long) × WhereTold (files old) (IsLongText name text_limit)
    pub unread : result ≡ Err Unread → Rose (faults old name) (faults new name)
    pub kept : files new ≡ files old
    pub later : (other : List ℕ) → faults old other ≤ faults new other

  -- the result is what the work comes to over this shelf
  pub record Worked (work : Work) (result : Result (Vec ℕ Global) Stop) : Type 0 where
    pub answered : (reply : Reply) → reply_in result ≡ Some reply → (known : Files) → Decides (files old) work known → reply_of work known ≡ Some reply
    pub unread : result ≡ Err Unread → (name : List ℕ) × Names work name × Rose (faults old name) (faults new name) × WhereTold (files old) (λ known. Reaches work known name)
    pub kept : files new ≡ files old
    pub later : (other : List ℕ) → faults old other ≤ faults new other

-- A stage of a command: it stops the command, or hands a value on to the work that follows.
pub record Passes {S V T : Type 0} (files : S → Option Files) (faults : S → List ℕ → ℕ) (old new : S) (view : V → T) (stage : (T → Work) → Work) (result : Result V Stop) : Type 0 where
  pub stopped : IfErr result (λ stop. (next : T → Work) → Worked files faults old new (stage next) (Err stop))
  pub passed : IfOk result (λ value. (next : T → Work) (newer : S) (final : Result (Vec ℕ Global) Stop) → Worked files faults new newer (next (view value)) final → Worked files faults old newer (stage next) final)
