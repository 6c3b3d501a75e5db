-- The reply to the words of a command line, and what the top call says of it.
use Rattle.std.specs.Prelude.{◌≡◌, ◌⊎◌, ◌<◌, ◌^◌, ◌-◌, ℕ, List, [], ◌∷◌, take, map, codes, String, Option, Some, None, unwrap_or, IsSomeAnd, if◌then◌else◌}
use Rattle.std.specs.declared.alloc.Global.{Global}
use Rattle.std.specs.Str.{bytes_eq}
use Rattle.std.specs.String.{string_bytes}
use Rattle.std.specs.Io.KnownBytes.{Appends}
use Rattle.io_ports.specs.Ports.{Files, Rose, WhereTold}
use Rattle.anyon_app.specs.declared.status.Status.{Status}
use Rattle.anyon_app.specs.declared.status.Status.TheVariants.{Done, Refused, Usage, WriteFault, Limit}
use Rattle.anyon_app.specs.declared.top.Command.{Command}
use Rattle.anyon_app.specs.declared.top.Command.TheVariants.{Check, Comb, Format, Galois, Linked, Make, Mirror, Product, Run, RunBy, Trees, TreesBy, Upgrade}
use Rattle.anyon_app.specs.Replies.{Reply}
use Rattle.anyon_app.specs.Work.{Work, Says, reply_of, Reaches, Names}
use Rattle.anyon_app.specs.Check.{check_work}
use Rattle.anyon_app.specs.Comb.{comb_work}
use Rattle.anyon_app.specs.Format.{format_work}
use Rattle.anyon_app.specs.Linked.{linked_work}
use Rattle.anyon_app.specs.Make.{make_work}
use Rattle.anyon_app.specs.NewCategories.{galois_work, mirror_work, product_work}
use Rattle.anyon_app.specs.Run.{run_work, run_by_work}
use Rattle.anyon_app.specs.Trees.{trees_work, trees_by_work}
use Rattle.anyon_app.specs.Upgrade.{upgrade_work}

-- what a command with one further word asks for
unfoldable pub one_word : (command first : List ℕ) → Option Work
one_word command first =
    if bytes_eq command (codes "check") then Some (check_work first) else
    (if bytes_eq command (codes "format") then Some (format_work first) else
    (if bytes_eq command (codes "mirror") then Some (mirror_work first) else
    (if bytes_eq command (codes "make") then Some (make_work first) else None)))

-- the same with two
unfoldable pub two_words : (command first second : List ℕ) → Option Work
two_words command first second =
    if bytes_eq command (codes "upgrade") then Some (upgrade_work first second) else
    (if bytes_eq command (codes "galois") then Some (galois_work first second) else
    (if bytes_eq command (codes "product") then Some (product_work first second) else
    (if bytes_eq command (codes "comb") then Some (comb_work first second) else
    (if bytes_eq command (codes "run") then Some (run_work first second) else
    (if bytes_eq command (codes "trees") then Some (trees_work first second) else None)))))

-- the same with three
unfoldable pub three_words : (command first second third : List ℕ) → Option Work
three_words command first second third =
    if bytes_eq command (codes "run") then Some (run_by_work first second third) else
    (if bytes_eq command (codes "trees") then Some (trees_by_work first second third) else None)

-- the same with four
unfoldable pub four_words : (command category first second moves : List ℕ) → Option Work
four_words command category first second moves = if bytes_eq command (codes "linked") then Some (linked_work category first second moves) else None

-- what words of a listed form ask for: `check CAT`, `format CAT`, `mirror CAT`, `make N`, `upgrade CAT MARKS`, `galois CAT K`,
-- `product CAT CAT`, `comb CAT PROG`, `run CAT PROG`, `trees CAT PROG`, `run CAT PROG SCHED`, `trees CAT PROG SCHED` or
-- `linked CAT PROG PROG MOVES`
unfoldable pub command_in : List (List ℕ) → Option Work
command_in (command ∷ first ∷ []) = one_word command first
command_in (command ∷ first ∷ second ∷ []) = two_words command first second
command_in (command ∷ first ∷ second ∷ third ∷ []) = three_words command first second third
command_in (command ∷ category ∷ first ∷ second ∷ moves ∷ []) = four_words command category first second moves
command_in words = None

-- what a command asks for
unfoldable pub command_work : Command → Work
command_work (Check category) = check_work category.now
command_work (Format category) = format_work category.now
command_work (Mirror category) = mirror_work category.now
command_work (Make number) = make_work number.now
command_work (Upgrade category marks) = upgrade_work category.now marks.now
command_work (Galois category number) = galois_work category.now number.now
command_work (Product first second) = product_work first.now second.now
command_work (Comb category program) = comb_work category.now program.now
command_work (Run category program) = run_work category.now program.now
command_work (Trees category program) = trees_work category.now program.now
command_work (Linked category first second moves) = linked_work category.now first.now second.now moves.now
command_work (RunBy category program schedule) = run_by_work category.now program.now schedule.now
command_work (TreesBy category program schedule) = trees_by_work category.now program.now schedule.now

-- the reply to words of no listed form
abbrev pub usage : Reply
usage = record { status = Usage; bytes = [] }

-- what any words ask for
abbrev pub work_of : List (String Global) → Work
work_of words = unwrap_or (command_in (map string_bytes words)) (Says usage)

-- a status that answers the words
abbrev pub IsAnswer : Status → Type 0
IsAnswer status = (status ≡ Done) ⊎ (status ≡ Refused) ⊎ (status ≡ Usage) ⊎ (status ≡ Limit)

-- over these files the work has a reply, of which P holds
abbrev pub HasReply : Work → Files → (Reply → Type 0) → Type 0
HasReply work files P = IsSomeAnd (reply_of work files) P

-- the reply has this status, and the sink took its bytes
pub record IsGiven (status : Status) (before after : Option (List ℕ)) (reply : Reply) : Type 0 where
  pub status_is : reply.status ≡ status
  pub bytes : Appends before after reply.bytes

-- the sink took the first of the reply's bytes
abbrev pub IsBegun : Option (List ℕ) → Option (List ℕ) → Reply → Type 0
IsBegun before after reply = (n : ℕ) × Appends before after (take n reply.bytes)

-- a read of a text that the work comes to has failed
pub record HasFailed (told : Option Files) (before after : List ℕ → ℕ) (work : Work) : Type 0 where
  pub name : List ℕ
  pub names : Names work name
  pub rose : Rose (before name) (after name)
  pub reached : WhereTold told (λ known. Reaches work known name)

-- a count didn't rise, and doesn't stand at its last value
abbrev pub IsQuiet : ℕ → ℕ → Type 0
IsQuiet before after = (before < 2 ^ 64 - 1) × (after ≡ before)

-- neither the sink nor a text that the work comes to has failed
pub record NoFaults (work : Work) (known : Files) (before after : List ℕ → ℕ) (sink_before sink_after : ℕ) : Type 0 where
  pub shelf : (name : List ℕ) → Reaches work known name → IsQuiet (before name) (after name)
  pub sink : IsQuiet sink_before sink_after

-- all bytes were taken, or the sink failed after the first of them
abbrev pub IsPut : Option (List ℕ) → Option (List ℕ) → ℕ → ℕ → Status → List ℕ → Status → Type 0
IsPut before after faults_before faults_after status bytes result =
    ((result ≡ status) × Appends before after bytes)
    ⊎ ((result ≡ WriteFault) × Rose faults_before faults_after × ((n : ℕ) × Appends before after (take n bytes)))
