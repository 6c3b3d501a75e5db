-- A text that is reached is there, where there is a reply.
use Rattle.std.proofs.Common.{◌≡◌, inl, inr, ℕ, List, Option, Some, None, true, refl, ap, subst, ◌∙◌, arith}
use Rattle.std.specs.Prelude.{if◌then◌else◌}
use Rattle.std.specs.Option.{IsSome, is_some, option_and_then}
use Rattle.io_ports.specs.Ports.{Files, Rose}
use Rattle.anyon_app.specs.Work.{Work, Says, Wants, reply_of, Reaches}

pub is_there : (work : Work) (files : Files) (name : List ℕ) → IsSome (reply_of work files) → Reaches work files name → IsSome (files name)
is_there (Says reply) files name some reached = absurd reached
is_there (Wants wanted next) files name some reached = elim reached [
  | inl same ↦ rw same (first (files wanted) some)
  | inr more ↦ is_there (next more.0) files name (subst (λ o. IsSome (option_and_then (λ text. reply_of (next text) files) o)) more.1 some) more.2
]
  where
    first : (o : Option (List ℕ)) → IsSome (option_and_then (λ text. reply_of (next text) files) o) → IsSome o
    first None h = h
    first (Some text) h = refl

-- the count of a name that is held stays at 0
pub no_rise : (before after : Files) (old new : ℕ) (name : List ℕ) → Some after ≡ Some before → IsSome (before name) → Rose (if is_some (before name) then 0 else old) (if is_some (after name) then 0 else new) → ⊥
no_rise before after old new name same there rose =
    let files_same : after ≡ before = inside same in
    let there_after : is_some (after name) ≡ true = ap (λ (f : Files). is_some (f name)) files_same ∙ there in
    let rose_zero : Rose 0 0 = subst (λ b. Rose 0 (if b then 0 else new)) there_after (subst (λ b. Rose (if b then 0 else old) (if is_some (after name) then 0 else new)) there rose) in
    absurd (omega (arith, rose_zero))
  where
    inside : {a b : Files} → Some a ≡ Some b → a ≡ b
    inside e = cc
