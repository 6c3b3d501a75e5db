-- What a report tells of the texts that it was made from.
use Rattle.std.proofs.Common.{◌≡◌, ℕ, ◌≤◌, List, length, Bool, true, false, nat_lt, if◌then◌else◌, Option, Some, None, Result, Ok, Err, refl, sym, ap, subst, ◌∙◌, arith}
use Rattle.std.specs.Prelude.{option_map, unwrap_or, IsOkAnd, IsTrue}
use Rattle.std.specs.Option.{option_and_then, option_or}
use Rattle.std.proofs.lemmas.Bool.Decides.{nat_tests}
use Rattle.io_ports.specs.Ports.{Files}
use Rattle.cyclo_core.specs.Ratio.{ring_at, held}
use Rattle.cyclo_core.specs.RingAt.{ring_at_laws}
use Rattle.fusion_rules.specs.Check.{rules_fault}
use Rattle.fusion_rules.specs.declared.rules.RulesFault.{RulesFault}
use Rattle.fusion_rules.specs.declared.rules.RulesFault.TheVariants.{NotCommutative, NotAssociative, NoSingleDual}
use Rattle.symbol_table.specs.Symbols.{IsOfRing}
use Rattle.symbol_table.specs.Index.{f_index}
use Rattle.symbol_table.specs.Draft.{f_index_admissible}
use Rattle.symbol_table.specs.declared.index.FIndex.{FIndex}
use Rattle.symbol_table.specs.declared.law.Kind.{Kind}
use Rattle.symbol_table.specs.declared.law.Kind.TheVariants.{Fails, Overflow}
use Rattle.symbol_table.specs.declared.law.Event.{Event}
use Rattle.category_text.specs.Named.{NamedSymbols}
use Rattle.category_text.specs.Reading.{Fault, category_of}
use Rattle.category_text.specs.Canonical.{canonical, f_value}
use Rattle.category_text.specs.Again.{IsSaid, AllSaid, TextsApart, TextsSettled}
use Rattle.category_gate.proofs.GateLemmas.{sound, complete}
use Rattle.law_events.specs.Sides.{first_of_all}
use Rattle.anyon_app.specs.declared.texts.Kind.TheVariants.{Category}
use Rattle.anyon_app.specs.Replies.{Reply, done, refused, limited}
use Rattle.anyon_app.specs.Refusals.{category_line, too_long, rules_line, event_line, event_reply, event_words}
use Rattle.anyon_app.specs.Work.{Work, Says, reply_of, text_limit, judged, read_work}
use Rattle.anyon_app.specs.Categories.{named_of, named_or}
use Rattle.anyon_app.specs.Verdicts.{category_verdict, symbols_in, unless}
use Rattle.anyon_app.specs.Check.{accepted, check_work}
use Rattle.anyon_app.specs.Format.{format_work}
use Rattle.anyon_app.specs.Laws.{IsCategoryText, HasLawfulText, AcceptedIsLawful, LawfulIsAccepted, FormatSettles, FormattedAlike}
use Rattle.anyon_app.proofs.JudgeLemmas.{nothing_decides}

-- a refusal is no report
pub refused_apart : (line report : List ℕ) → refused line ≡ done report → ⊥
refused_apart line report e = let s = ap (λ r. r.status) e in cc

pub limited_apart : (line report : List ℕ) → limited line ≡ done report → ⊥
limited_apart line report e = let s = ap (λ r. r.status) e in cc

pub some_same : (x y : Reply) → Some x ≡ Some y → x ≡ y
some_same x y e = cc

-- What was read on the way to a report.
pub record WasRead {T : Type 0} (reader : List ℕ → Result T Reply) (next : T → Work) (files : Files) (name report : List ℕ) : Type 0 where
  pub text : List ℕ
  pub value : T
  pub there : files name ≡ Some text
  pub short : length text ≤ text_limit
  pub reads : reader text ≡ Ok value
  pub went : reply_of (next value) files ≡ Some (done report)

module _ {T : Type 0} (long : Reply) (reader : List ℕ → Result T Reply) (next : T → Work) (files : Files) (name report : List ℕ)
    (no_report : (other : List ℕ) → long ≡ done other → ⊥) (no_value : (text : List ℕ) (reply : Reply) → reader text ≡ Err reply → reply ≡ done report → ⊥) where
  by_value : (text : List ℕ) → files name ≡ Some text → length text ≤ text_limit → (r : Result T Reply) → reader text ≡ r → reply_of (judged r next) files ≡ Some (done report)
      → WasRead reader next files name report
  by_value text there short (Ok value) reads went = record { text = text; value = value; there = there; short = short; reads = reads; went = went }
  by_value text there short (Err reply) reads went = absurd (no_value text reply reads (some_same reply (done report) went))

  by_size : (text : List ℕ) → files name ≡ Some text → (b : Bool) → nat_lt text_limit (length text) ≡ b
      → reply_of (if b then Says long else judged (reader text) next) files ≡ Some (done report) → WasRead reader next files name report
  by_size text there true past went = absurd (no_report report (some_same long (done report) went))
  by_size text there false fits went =
      let short : length text ≤ text_limit = grind (arith, nat_tests) in
      by_value text there short (reader text) refl went

  by_text : (o : Option (List ℕ)) → files name ≡ o
      → option_and_then (λ text. reply_of (if nat_lt text_limit (length text) then Says long else judged (reader text) next) files) o ≡ Some (done report)
      → WasRead reader next files name report
  by_text None there went = absurd cc
  by_text (Some text) there went = by_size text there (nat_lt text_limit (length text)) refl went

  pub was_read : reply_of (read_work long reader name next) files ≡ Some (done report) → WasRead reader next files name report
  was_read went = by_text (files name) refl went

-- the other way: what is read leads on
leads_on : {T : Type 0} (long : Reply) (reader : List ℕ → Result T Reply) (next : T → Work) (files : Files) (name text : List ℕ) (value : T)
    → files name ≡ Some text → length text ≤ text_limit → reader text ≡ Ok value → reply_of (read_work long reader name next) files ≡ reply_of (next value) files
leads_on long reader next files name text value there short reads =
    let fits : nat_lt text_limit (length text) ≡ false = grind (arith, nat_tests) in
    ap (option_and_then (λ t. reply_of (if nat_lt text_limit (length t) then Says long else judged (reader t) next) files)) there
    ∙ ap (λ b. reply_of (if b then Says long else judged (reader text) next) files) fits
    ∙ ap (λ r. reply_of (judged r next) files) reads

-- what a category text is read as
pub category_is : (r : Result NamedSymbols Fault) (named : NamedSymbols) → named_or Category r ≡ Ok named → r ≡ Ok named
category_is (Ok other) named e = let same : other ≡ named = cc in ap Ok same
category_is (Err fault) named e = absurd cc

pub no_category : (text : List ℕ) (reply : Reply) (report : List ℕ) → named_of text ≡ Err reply → reply ≡ done report → ⊥
no_category text reply report is e = along (category_of text) is
  where
    along : (r : Result NamedSymbols Fault) → named_or Category r ≡ Err reply → ⊥
    along (Ok named) is = absurd cc
    along (Err fault) is =
        let same : category_line Category fault.line fault.cause ≡ reply = cc in
        refused_apart (category_line Category fault.line fault.cause).bytes report (same ∙ e)

pub too_long_apart : (report : List ℕ) → too_long Category ≡ done report → ⊥
too_long_apart report e = refused_apart _ report e

-- what decides about a category is no report
event_apart : (kind : Kind) (words : List (List ℕ)) (report : List ℕ) → event_reply kind words ≡ done report → ⊥
event_apart Fails words report e = refused_apart _ report e
event_apart Overflow words report e = limited_apart _ report e

rules_apart : (names : List (List ℕ)) (fault : RulesFault) (report : List ℕ) → rules_line names fault ≡ done report → ⊥
rules_apart names (NotCommutative a b c) report e = refused_apart _ report e
rules_apart names (NotAssociative a b c d) report e = refused_apart _ report e
rules_apart names (NoSingleDual a) report e = refused_apart _ report e

-- Nothing decides exactly where there is neither a fault of the rules nor an event of the laws.
pub record Nothing {A B : Type 0} (fault : Option A) (event : Option B) : Type 0 where
  pub no_fault : fault ≡ None
  pub no_event : event ≡ None

module _ (names : List (List ℕ)) where
  pub nothing_where : (fault : Option RulesFault) (event : Option Event) → option_or (option_map (rules_line names) fault) (option_map (event_line names) event) ≡ None → Nothing fault event
  nothing_where None None none = record { no_fault = refl; no_event = refl }
  nothing_where None (Some event) none = absurd cc
  nothing_where (Some fault) event none = absurd cc

  pub verdict_apart : (fault : Option RulesFault) (event : Option Event) (reply : Reply) (report : List ℕ)
      → option_or (option_map (rules_line names) fault) (option_map (event_line names) event) ≡ Some reply → reply ≡ done report → ⊥
  verdict_apart None None reply report is e = absurd cc
  verdict_apart None (Some event) reply report is e = event_apart event.kind (event_words names event) report (some_same _ reply is ∙ e)
  verdict_apart (Some fault) event reply report is e = rules_apart names fault report (some_same _ reply is ∙ e)

-- a report comes only where nothing decides about the category
module _ (named : NamedSymbols) (next : Unit {0} → Work) (files : Files) (report : List ℕ) where
  pub undecided : (o : Option Reply) → category_verdict named ≡ o → reply_of (judged (unless o) next) files ≡ Some (done report)
      → (category_verdict named ≡ None) × (reply_of (next tt) files ≡ Some (done report))
  undecided None is went = (is, went)
  undecided (Some reply) is went =
      absurd (verdict_apart named.names (rules_fault named.given.count named.given.fuse) (first_of_all (symbols_in named)) reply report is (some_same reply (done report) went))

-- a text about whose category nothing decides has a lawful one
pub has_lawful : (files : Files) (name text : List ℕ) (named : NamedSymbols) → files name ≡ Some text → length text ≤ text_limit → named_of text ≡ Ok named
    → category_verdict named ≡ None → HasLawfulText files name
has_lawful files name text named there short reads none =
    let is = nothing_where named.names (rules_fault named.given.count named.given.fuse) (first_of_all (symbols_in named)) none in
    record {
      named = named;
      is = record { text = text; there = there; short = short; reads = category_is (category_of text) named reads };
      lawful = sound (ring_at named.root) held (ring_at_laws named.root) named.given is.no_fault is.no_event;
    }

pub accepted_is_lawful : AcceptedIsLawful
unfolding check_work
accepted_is_lawful files name report went =
    let read = was_read (too_long Category) named_of (λ named. judged (unless (category_verdict named)) (λ _. Says (done (accepted named)))) files name report
    too_long_apart (λ text reply is e. no_category text reply report is e) went in
    let nothing = undecided read.value (λ _. Says (done (accepted read.value))) files report (category_verdict read.value) refl read.went in
    has_lawful files name read.text read.value read.there read.short read.reads nothing.0

-- each F of what can be said is of the root's ring
f_member : (x : NamedSymbols) → IsSaid x → (at : FIndex) → (b : Bool) → f_index_admissible x.given at ≡ b → IsTrue ((ring_at x.root).member (f_value x at))
f_member x said at true is = (said.f at is).0
f_member x said at false is =
    let zero : f_value x at ≡ (ring_at x.root).zero = ap (λ b. if b then unwrap_or (x.given.set_f at.a at.b at.c at.d at.e at.f) (ring_at x.root).one else (ring_at x.root).zero) is in
    subst (λ v. IsTrue ((ring_at x.root).member v)) (sym zero) (ring_at_laws x.root).zero_is

of_ring : (x : NamedSymbols) → IsSaid x → IsOfRing (symbols_in x)
of_ring x said a b k d e f = f_member x said (f_index a b k d e f) (f_index_admissible x.given (f_index a b k d e f)) refl

pub lawful_is_accepted : AllSaid → LawfulIsAccepted
unfolding check_work
lawful_is_accepted said files name named is lawful fits =
    let none = complete (ring_at named.root) held (ring_at_laws named.root) named.given (of_ring named (said is.text named is.reads)) lawful fits in
    leads_on (too_long Category) named_of (λ named. judged (unless (category_verdict named)) (λ _. Says (done (accepted named)))) files name is.text named is.there is.short
    (ap (named_or Category) is.reads)
    ∙ ap (λ u. reply_of (judged u (λ _. Says (done (accepted named)))) files)
    (nothing_decides named.names (rules_fault named.given.count named.given.fuse) (first_of_all (symbols_in named)) none.0 none.1)

-- what was formatted
record WasFormatted (files : Files) (name report : List ℕ) : Type 0 where
  pub named : NamedSymbols
  pub is : IsCategoryText files name named
  pub report_is : canonical named ≡ report

was_formatted : (files : Files) (name report : List ℕ) → reply_of (format_work name) files ≡ Some (done report) → WasFormatted files name report
unfolding format_work
was_formatted files name report went =
    let read = was_read (too_long Category) named_of (λ named. Says (done (canonical named))) files name report too_long_apart (λ text reply is e. no_category text reply report is e) went in
    record {
      named = read.value;
      is = record { text = read.text; there = read.there; short = read.short; reads = category_is (category_of read.text) read.value read.reads };
      report_is = ap (λ r. r.bytes) (some_same (done (canonical read.value)) (done report) read.went);
    }

record IsOkWith {A E : Type 0} (r : Result A E) (P : A → Type 0) : Type 0 where
  pub value : A
  pub is : r ≡ Ok value
  pub holds : P value

ok_with : {A E : Type 0} (r : Result A E) (P : A → Type 0) → IsOkAnd r P → IsOkWith r P
ok_with (Ok x) P holds = record { value = x; is = refl; holds = holds }
ok_with (Err e) P holds = absurd holds

pub format_settles : TextsSettled → FormatSettles
unfolding format_work
format_settles settled files later name other report went there short =
    let first = was_formatted files name report went in
    let again = ok_with (category_of (canonical first.named)) (λ y. canonical y ≡ canonical first.named) (settled first.is.text first.named first.is.reads) in
    let reads : named_of report ≡ Ok again.value = ap named_of (sym first.report_is) ∙ ap (named_or Category) again.is in
    leads_on (too_long Category) named_of (λ named. Says (done (canonical named))) later other report again.value there short reads
    ∙ ap (λ b. Some (done b)) (again.holds ∙ first.report_is)

pub formatted_alike : TextsApart → FormattedAlike
formatted_alike apart files later name other report went too =
    let one = was_formatted files name report went in
    let two = was_formatted later other report too in
    record {
      first = one.named;
      second = two.named;
      first_is = one.is;
      second_is = two.is;
      same = apart one.is.text two.is.text one.named two.named one.is.reads two.is.reads (one.report_is ∙ sym two.report_is);
    }
