-- What is put is the reply.
use Rattle.std.proofs.Common.{◌≡◌, ◌⊎◌, inl, inr, ℕ, List, Option, Some, refl, sym, ap, subst, ◌∙◌, arith}
use Rattle.std.specs.Option.{IsSomeAnd, unwrap_or}
use Rattle.io_ports.specs.Ports.{Files}
use Rattle.anyon_app.specs.declared.status.Status.{Status}
use Rattle.anyon_app.specs.declared.status.Status.TheVariants.{WriteFault, NoMemory}
use Rattle.anyon_app.specs.Replies.{Reply}
use Rattle.anyon_app.specs.Work.{Work, Says, reply_of, Decides}
use Rattle.anyon_app.specs.Headline.{IsAnswer, HasReply, IsGiven, IsBegun, IsPut, NoFaults, usage}

-- the work has this reply over the files that decide it
abbrev pub Answers : Option Files → Work → Reply → Type 0
Answers told work reply = (other : Reply) → Some reply ≡ Some other → (known : Files) → Decides told work known → reply_of work known ≡ Some other

module _ (told : Option Files) (asked : Option Work) (work : Work) (reply : Reply) (is : asked ≡ Some work) (answers : Answers told work reply) where
  abbrev found : Work
  found = unwrap_or asked (Says usage)

  same : found ≡ work
  same = ap (λ (o : Option Work). unwrap_or o (Says usage)) is

  has : (P : Reply → Type 0) (known : Files) → Decides told found known → P reply → HasReply found known P
  has P known decides holds =
      let replies : reply_of found known ≡ Some reply = ap (λ w. reply_of w known) same ∙ answers reply refl known (subst (λ w. Decides told w known) same decides) in
      subst (λ o. IsSomeAnd o P) (sym replies) holds

  module _ (before after : Option (List ℕ)) (faults_before faults_after : ℕ) (result : Status) (put : IsPut before after faults_before faults_after reply.status reply.bytes result) where
    pub put_answered : IsAnswer result → (known : Files) → Decides told found known → HasReply found known (IsGiven result before after)
    put_answered answer known decides =
        has _ known decides (elim put [
          | inl all ↦ record { status_is = sym all.0; bytes = all.1 }
          | inr part ↦ absurd (elim answer [ inl a ↦ cc (a, part.0) | inr rest ↦ elim rest [ inl a ↦ cc (a, part.0) | inr more ↦ elim more [ inl a ↦ cc (a, part.0) | inr a ↦ cc (a, part.0) ] ] ])
        ])

    pub put_begun : IsAnswer reply.status → result ≡ WriteFault → (known : Files) → Decides told found known → HasReply found known (IsBegun before after)
    put_begun answer fault known decides =
        has _ known decides (elim put [
          | inl all ↦ absurd (elim answer [ inl a ↦ cc (a, all.0, fault) | inr rest ↦ elim rest [ inl a ↦ cc (a, all.0, fault) | inr more ↦ elim more [ inl a ↦ cc (a, all.0, fault) | inr a ↦ cc (a, all.0, fault) ] ] ])
          | inr part ↦ part.2
        ])

    pub put_complete : (known : Files) → told ≡ Some known → (before_reads after_reads : List ℕ → ℕ) → NoFaults found known before_reads after_reads faults_before faults_after → (given : Reply) → reply_of found known ≡ Some given → IsGiven result before after given ⊎ (result ≡ NoMemory)
    put_complete known is_told before_reads after_reads none given replies =
        let own : reply_of found known ≡ Some reply = ap (λ w. reply_of w known) same ∙ answers reply refl known (inl is_told) in
        let one : given ≡ reply = cc (own, replies) in
        elim put [
          | inl all ↦ inl (rw one record { status_is = sym all.0; bytes = all.1 })
          | inr part ↦ absurd (omega (arith, part.1, none.sink.0, none.sink.1))
        ]
