-- What is read can be said: the head begins so, and each line behind it keeps it.
use Rattle.std.proofs.Common.{◌≡◌, ℕ, ◌+◌, ◌<◌, List, [], ◌∷◌, Bool, true, false, ◌&&◌, ◌||◌, ◌==◌, not, length, refl, sym, ap, subst, ◌∙◌, arith, codes, if◌then◌else◌, Option, Some, None, Result, Ok, Err, inl, inr}
use Rattle.std.specs.Prelude.{IsTrue, IfSome, nat_lt, unwrap_or}
use Rattle.std.specs.Str.{bytes_eq}
use Rattle.std.proofs.lemmas.Bool.Decides.{nat_tests}
use Rattle.line_text.specs.Text.{Found, Counted, Faulty, Reading, reading_of, words_of, word_in, has_word}
use Rattle.line_text.specs.Plain.{plain_number_of}
use Rattle.poly_core.specs.Rho.{is_accepted}
use Rattle.cyclo_core.specs.Ratio.{Ratio, ring_at, is_held}
use Rattle.cyclo_core.specs.RingAt.{ring_at_laws}
use Rattle.cyclo_text.specs.NumberWords.{number_of}
use Rattle.cyclo_text.specs.declared.fault.NumberWord.{NumberWord}
use Rattle.fusion_rules.specs.declared.label.TheConstants.{LABEL_LIMIT}
use Rattle.fusion_rules.specs.Fusion.{is_triple, unit_fuses, are_labels}
use Rattle.fusion_rules.specs.Names.{AreNames, all_names, has_repeat, label_of}
use Rattle.fusion_rules.proofs.FoundLemmas.{label_below}
use Rattle.symbol_table.specs.Symbols.{Given}
use Rattle.symbol_table.specs.Index.{AreThreeLabels, v_index}
use Rattle.symbol_table.specs.declared.index.VIndex.{VIndex}
use Rattle.category_text.specs.declared.fault.CategoryCause.{CategoryCause}
use Rattle.category_text.specs.declared.fault.CategoryCause.TheVariants.{Header, Labels, Limit, Repeated, Misplaced, Root, UnitFuse, Word}
use Rattle.category_text.specs.declared.kind.Kind.{Kind}
use Rattle.category_text.specs.declared.kind.Kind.TheVariants.{F, R, W, V, Twist, Loop}
use Rattle.category_text.specs.declared.kind.LineKind.{LineKind}
use Rattle.category_text.specs.declared.kind.LineKind.TheVariants.{Fusion, OfSymbol}
use Rattle.category_text.specs.declared.kind.Symbol.{Symbol}
use Rattle.category_text.specs.declared.kind.Symbol.TheVariants.{OfF, OfR, OfW, OfV, OfTwist, OfLoop}
use Rattle.category_text.specs.declared.kind.MarkKind.{MarkKind}
use Rattle.category_text.specs.declared.kind.MarkKind.TheVariants.{OnTwist, OnLoop}
use Rattle.category_text.specs.declared.kind.VertexKind.{VertexKind}
use Rattle.category_text.specs.declared.kind.VertexKind.TheVariants.{OnR, OnW, OnV}
use Rattle.category_text.specs.Named.{IsVersion, NamedSymbols, has_symbol, with_fusion, with_symbol, only_units, symbol_fault}
use Rattle.category_text.specs.Canonical.{mark_value, marks_of, vertex_value}
use Rattle.category_text.specs.Spelled.{fused_with, set_with}
use Rattle.category_text.specs.Again.{IsNumberOf, IsSaid, AllSaid}
use Rattle.category_text.specs.Reading.{◌>>=◌, SoFar, on_line, unless, sized, known, six_labels, version_of, header_of, root_of, root_at, names_in, labels_of, label, named_by, labels_at, fused, fuse_of, number_place, symbol_at, may_set, numbered, symbol_of, line_kind, line_by, line_of, required, front_of, head_of, body_of, begun, category_of}
use Rattle.category_text.proofs.IndexLemmas.{set_of, same_symbol, same_symbol_is, set_of_with, count_with, fuse_with, version_with}
use Rattle.category_text.proofs.NumberLemmas.{number_said}
use Rattle.category_text.proofs.SaidLemmas.{left_of}

-- each value that was set is a number of the ring
abbrev pub AreSetNumbers : ℕ → Given Ratio → Type 0
AreSetNumbers root g = (s : Symbol) → IfSome (set_of g s) (IsNumberOf root)

pub numbers_with : (root : ℕ) (g : Given Ratio) (s : Symbol) (v : Ratio) → AreSetNumbers root g → IsNumberOf root v → AreSetNumbers root (with_symbol g s v)
numbers_with root g s v all is t = rw (set_of_with g s t v) (go (same_symbol s t))
  where
    go : (b : Bool) → IfSome (if b then Some v else set_of g t) (IsNumberOf root)
    go true = is
    go false = all t

pub numbers_alone : (version root n : ℕ) → AreSetNumbers root (only_units version n)
numbers_alone version root n (OfF at) = tt
numbers_alone version root n (OfR at) = tt
numbers_alone version root n (OfW at) = tt
numbers_alone version root n (OfV at) = tt
numbers_alone version root n (OfTwist a) = tt
numbers_alone version root n (OfLoop a) = tt

one_number : (root : ℕ) → IsNumberOf root (ring_at root).one
unfolding is_held
one_number root = ((ring_at_laws root).one_is, refl)

value_number : (root : ℕ) (o : Option Ratio) → IfSome o (IsNumberOf root) → IsNumberOf root (unwrap_or o (ring_at root).one)
value_number root None none = one_number root
value_number root (Some v) is = is

-- what the lines so far said
pub record IsGrown (x : NamedSymbols) : Type 0 where
  pub names : AreNames x.names
  pub some : 0 < length x.names
  pub counted : x.given.count ≡ length x.names
  pub accepted : is_accepted x.root ≡ true
  pub units : (a b c : ℕ) → IsTrue (a == 0 || b == 0) → x.given.fuse a b c ≡ unit_fuses x.given.count a b c
  pub labels : (a b c : ℕ) → IsTrue (x.given.fuse a b c) → AreThreeLabels x.given.count a b c
  pub numbers : AreSetNumbers x.root x.given
  pub version : IsVersion x.given.version
  pub unmarked : (s : Symbol) → has_symbol x.given.version s ≡ false → set_of x.given s ≡ None

pub grown_said : (x : NamedSymbols) → IsGrown x → IsSaid x
grown_said x g = record {
  names = g.names;
  some = g.some;
  counted = g.counted;
  accepted = g.accepted;
  units = g.units;
  labels = g.labels;
  f = λ at allowed. rw allowed (value_number x.root (x.given.set_f at.a at.b at.c at.d at.e at.f) (g.numbers (OfF at)));
  vertex = λ kind at allowed. by_kind kind at allowed;
  version = g.version;
  mark = λ kind a label. by_mark kind a (is_label a label);
  unmarked = λ first kind a. none kind a (not_second x.given.version first);
}
  where
    by_kind : (kind : VertexKind) (at : VIndex) → IsTrue (x.given.fuse at.a at.b at.c) → IsNumberOf x.root (vertex_value x kind at)
    by_kind OnR at allowed = rw allowed (value_number x.root (x.given.set_r at.a at.b at.c) (g.numbers (OfR at)))
    by_kind OnW at allowed = rw allowed (value_number x.root (x.given.set_w at.a at.b at.c) (g.numbers (OfW at)))
    by_kind OnV at allowed = rw allowed (value_number x.root (x.given.set_v at.a at.b at.c) (g.numbers (OfV at)))

    is_label : (a : ℕ) → a < x.given.count → nat_lt a x.given.count ≡ true
    is_label a label = grind (arith, nat_tests)

    by_mark : (kind : MarkKind) (a : ℕ) → nat_lt a x.given.count ≡ true → IsNumberOf x.root (mark_value x kind a)
    by_mark OnTwist a label = rw label (value_number x.root (x.given.set_twist a) (g.numbers (OfTwist a)))
    by_mark OnLoop a label = rw label (value_number x.root (x.given.set_loop a) (g.numbers (OfLoop a)))

    not_second : (version : ℕ) → version ≡ 1 → (version == 2) ≡ false
    not_second version first = rw first refl

    none : (kind : MarkKind) (a : ℕ) → (x.given.version == 2) ≡ false → marks_of x.given kind a ≡ None
    none OnTwist a e = g.unmarked (OfTwist a) e
    none OnLoop a e = g.unmarked (OfLoop a) e

-- One triple more, and one value more.
grown_fused : (x : NamedSymbols) (t : VIndex) → IsGrown x → AreThreeLabels (length x.names) t.a t.b t.c → (t.a == 0 || t.b == 0) ≡ false → IsGrown (fused_with x t)
grown_fused x t g labels off = record {
  names = g.names;
  some = g.some;
  counted = g.counted;
  accepted = g.accepted;
  units = λ a b c unit. rw (elsewhere t.a t.b t.c a b c off unit) (g.units a b c unit);
  labels = λ a b c e. go a b c (is_triple t.a t.b t.c a b c) refl e;
  numbers = numbers;
  version = g.version;
  unmarked = unmarked;
}
  where
    elsewhere : (x y z a b c : ℕ) → (x == 0 || y == 0) ≡ false → IsTrue (a == 0 || b == 0) → is_triple x y z a b c ≡ false
    elsewhere x y z a b c off unit = grind (arith, nat_tests)

    named : (a b c : ℕ) → is_triple t.a t.b t.c a b c ≡ true → AreThreeLabels (length x.names) a b c
    named a b c is = (grind (arith, nat_tests), grind (arith, nat_tests), grind (arith, nat_tests))

    go : (a b c : ℕ) (here : Bool) → is_triple t.a t.b t.c a b c ≡ here → (here || x.given.fuse a b c) ≡ true → AreThreeLabels x.given.count a b c
    go a b c true is e = subst (λ n. AreThreeLabels n a b c) (sym g.counted) (named a b c is)
    go a b c false is e = g.labels a b c e

    numbers : AreSetNumbers x.root (with_fusion x.given t.a t.b t.c)
    numbers (OfF at) = g.numbers (OfF at)
    numbers (OfR at) = g.numbers (OfR at)
    numbers (OfW at) = g.numbers (OfW at)
    numbers (OfV at) = g.numbers (OfV at)
    numbers (OfTwist a) = g.numbers (OfTwist a)
    numbers (OfLoop a) = g.numbers (OfLoop a)

    unmarked : (s : Symbol) → has_symbol x.given.version s ≡ false → set_of (with_fusion x.given t.a t.b t.c) s ≡ None
    unmarked (OfF at) e = g.unmarked (OfF at) e
    unmarked (OfR at) e = g.unmarked (OfR at) e
    unmarked (OfW at) e = g.unmarked (OfW at) e
    unmarked (OfV at) e = g.unmarked (OfV at) e
    unmarked (OfTwist a) e = g.unmarked (OfTwist a) e
    unmarked (OfLoop a) e = g.unmarked (OfLoop a) e

grown_set : (x : NamedSymbols) (s : Symbol) (v : Ratio) → IsGrown x → has_symbol x.given.version s ≡ true → IsNumberOf x.root v → IsGrown (set_with x s v)
grown_set x s v g known is = record {
  names = g.names;
  some = g.some;
  counted = count_with x.given s v ∙ g.counted;
  accepted = g.accepted;
  units = λ a b c unit. ap (λ (fuse : ℕ → ℕ → ℕ → Bool). fuse a b c) (fuse_with x.given s v) ∙ g.units a b c unit ∙ ap (λ n. unit_fuses n a b c) (sym (count_with x.given s v));
  labels = λ a b c e. subst (λ n. AreThreeLabels n a b c) (sym (count_with x.given s v)) (g.labels a b c (sym (ap (λ (fuse : ℕ → ℕ → ℕ → Bool). fuse a b c) (fuse_with x.given s v)) ∙ e));
  numbers = numbers_with x.root x.given s v g.numbers is;
  version = subst IsVersion (sym (version_with x.given s v)) g.version;
  unmarked = λ t e. set_of_with x.given s t v ∙ other t (same_symbol s t) refl (ap (λ n. has_symbol n t) (sym (version_with x.given s v)) ∙ e);
}
  where
    other : (t : Symbol) (same : Bool) → same_symbol s t ≡ same → has_symbol x.given.version t ≡ false → (if same then Some v else set_of x.given t) ≡ None
    other t true is e = absurd (let alike : has_symbol x.given.version s ≡ has_symbol x.given.version t = ap (has_symbol x.given.version) (same_symbol_is s t is) in cc)
    other t false is e = g.unmarked t e

-- What two steps give: the first gives something, and the second gives the answer from there.
then_ok : {A B E : Type 0} (r : Result A E) (f : A → Result B E) (y : B) → (r >>= f) ≡ Ok y → (x : A) × (r ≡ Ok x) × (f x ≡ Ok y)
then_ok (Ok x) f y e = (x, refl, e)
then_ok (Err c) f y e = absurd (cc)

same_ok : {A E : Type 0} (x y : A) → ◌≡◌ {A = Result A E} (Ok x) (Ok y) → x ≡ y
same_ok x y e = cc

label_ok : (names : List (List ℕ)) (word : List ℕ) (a : ℕ) → label names word ≡ Ok a → a < length names
label_ok names word a e = go (label_of names word) refl e
  where
    go : (o : Option ℕ) → label_of names word ≡ o → named_by o ≡ Ok a → a < length names
    go None f e = absurd (cc)
    go (Some b) f e = label_below names word a (f ∙ ap Some (same_ok b a e))

labels_ok : (names words : List (List ℕ)) (place : ℕ) (at : VIndex) → labels_at names words place ≡ Ok at → AreThreeLabels (length names) at.a at.b at.c
labels_ok names words place at e =
    let first = then_ok (label names (word_in words place)) _ at e in
    let second = then_ok (label names (word_in words (place + 1))) _ at first.2 in
    let third = then_ok (label names (word_in words (place + 2))) _ at second.2 in
    subst (λ (t : VIndex). AreThreeLabels (length names) t.a t.b t.c) (same_ok (v_index first.0 second.0 third.0) at third.2)
    (label_ok names (word_in words place) first.0 first.1, label_ok names (word_in words (place + 1)) second.0 second.1, label_ok names (word_in words (place + 2)) third.0 third.1)

-- Each line keeps it.
fused_ok : (said : NamedSymbols) (at : VIndex) (next : SoFar) → IsGrown said → AreThreeLabels (length said.names) at.a at.b at.c
    → fused said at (if at.a == 0 || at.b == 0 then Some UnitFuse else (if said.given.fuse at.a at.b at.c then Some Repeated else None)) ≡ Ok next → IsGrown next.said
fused_ok said at next g labels e = go (at.a == 0 || at.b == 0) (said.given.fuse at.a at.b at.c) refl e
  where
    go : (unit there : Bool) → (at.a == 0 || at.b == 0) ≡ unit → fused said at (if unit then Some UnitFuse else (if there then Some Repeated else None)) ≡ Ok next → IsGrown next.said
    go true there off e = absurd (cc)
    go false true off e = absurd (cc)
    go false false off e = subst (λ (n : SoFar). IsGrown n.said) (same_ok _ next e) (grown_fused said at g labels off)

fuse_ok : (said : NamedSymbols) (words : List (List ℕ)) (next : SoFar) → IsGrown said → fuse_of said words ≡ Ok next → IsGrown next.said
unfolding fuse_of
fuse_ok said words next g e =
    let size = then_ok (sized 4 words) _ next e in
    let at = then_ok (labels_at said.names words 1) _ next size.2 in
    fused_ok said at.0 next g (labels_ok said.names words 1 at.0 at.1) at.2

numbered_ok : (r : Result Ratio NumberWord) (v : Ratio) → numbered r ≡ Ok v → r ≡ Ok v
numbered_ok (Ok x) v e = let same : x ≡ v = cc in ap Ok same
numbered_ok (Err fault) v e = absurd (cc)

known_ok : (b : Bool) (u : Unit) → unless b Word ≡ Ok u → b ≡ true
known_ok true u e = refl
known_ok false u e = absurd (cc)

-- the symbol of a line is of the line's kind, which the version has
of_version : (version : ℕ) (kind : Kind) (names words : List (List ℕ)) (s : Symbol) {u : Unit} → known version kind ≡ Ok u → symbol_at kind names words ≡ Ok s → has_symbol version s ≡ true
of_version version F names words s is e = let at = then_ok (six_labels names words) _ s e in subst (λ t. has_symbol version t ≡ true) (same_ok (OfF at.0) s at.2) refl
of_version version R names words s is e = let at = then_ok (labels_at names words 1) _ s e in subst (λ t. has_symbol version t ≡ true) (same_ok (OfR at.0) s at.2) refl
of_version version W names words s is e = let at = then_ok (labels_at names words 1) _ s e in subst (λ t. has_symbol version t ≡ true) (same_ok (OfW at.0) s at.2) refl
of_version version V names words s is e = let at = then_ok (labels_at names words 1) _ s e in subst (λ t. has_symbol version t ≡ true) (same_ok (OfV at.0) s at.2) refl
of_version version Twist names words s {u} is e =
    let at = then_ok (label names (word_in words 1)) _ s e in subst (λ t. has_symbol version t ≡ true) (same_ok (OfTwist at.0) s at.2) (known_ok (version == 2) u is)
of_version version Loop names words s {u} is e =
    let at = then_ok (label names (word_in words 1)) _ s e in subst (λ t. has_symbol version t ≡ true) (same_ok (OfLoop at.0) s at.2) (known_ok (version == 2) u is)

symbol_ok : (kind : Kind) (said : NamedSymbols) (words : List (List ℕ)) (next : SoFar) → IsGrown said → symbol_of kind said words ≡ Ok next → IsGrown next.said
unfolding symbol_of
symbol_ok kind said words next g e =
    let known_kind = then_ok (known said.given.version kind) _ next e in
    let size = then_ok (sized (number_place kind + 1) words) _ next known_kind.2 in
    let at = then_ok (symbol_at kind said.names words) _ next size.2 in
    let free = then_ok (may_set (symbol_fault said.given at.0)) _ next at.2 in
    let value = then_ok (numbered (number_of said.root (word_in words (number_place kind)))) _ next free.2 in
    let is = number_said said.root g.accepted value.0 (word_in words (number_place kind)) (numbered_ok (number_of said.root (word_in words (number_place kind))) value.0 value.1) in
    subst (λ (n : SoFar). IsGrown n.said) (same_ok _ next value.2) (grown_set said at.0 value.0 g (of_version said.given.version kind said.names words at.0 known_kind.1 at.1) is)

line_ok : (before : SoFar) (words : List (List ℕ)) (next : SoFar) → IsGrown before.said → line_of before words ≡ Ok next → IsGrown next.said
unfolding line_of
line_ok before words next g e =
    let kind = then_ok (line_kind words) _ next e in
    by_kind kind.0 kind.2
  where
    by_place : (late : Bool) → (if late then Err Misplaced else fuse_of before.said words) ≡ Ok next → IsGrown next.said
    by_place true e = absurd (cc)
    by_place false e = fuse_ok before.said words next g e

    by_kind : (kind : LineKind) → line_by kind before words ≡ Ok next → IsGrown next.said
    by_kind Fusion e = by_place before.has_symbols e
    by_kind (OfSymbol kind) e = symbol_ok kind before.said words next g e

on_line_ok : {A : Type 0} (number : ℕ) (r : Result A CategoryCause) (x : A) → on_line number r ≡ Ok x → r ≡ Ok x
on_line_ok number (Ok y) x e = ap Ok (same_ok y x e)
on_line_ok number (Err cause) x e = absurd (cc)

body_ok : (before : SoFar) (found : List Found) (end : SoFar) → IsGrown before.said → body_of before found ≡ Ok end → IsGrown end.said
body_ok before [] end g e = subst (λ (n : SoFar). IsGrown n.said) (same_ok before end e) g
body_ok before (Faulty number cause ∷ more) end g e = absurd (cc)
body_ok before (Counted number text ∷ more) end g e =
    let step = then_ok (on_line number (line_of before (words_of text))) _ end e in
    body_ok step.0 more end (line_ok before (words_of text) step.0 g (on_line_ok number (line_of before (words_of text)) step.0 step.1)) step.2

-- The head.
root_ok : (words : List (List ℕ)) (root : ℕ) → root_of words ≡ Ok root → is_accepted root ≡ true
root_ok words root e =
    let line = then_ok (unless ((length words == 2) && has_word words 0 (codes "root")) Root) _ root e in
    by_number (plain_number_of (word_in words 1)) line.2
  where
    by_test : (n : ℕ) (b : Bool) → is_accepted n ≡ b → (if b then Ok n else Err Root) ≡ Ok root → is_accepted root ≡ true
    by_test n false is e = absurd (cc)
    by_test n true is e = subst (λ m. is_accepted m ≡ true) (same_ok n root e) is

    by_number : (o : Option ℕ) → root_at o ≡ Ok root → is_accepted root ≡ true
    by_number None e = absurd (cc)
    by_number (Some n) e = by_test n (is_accepted n) refl e

pub record AreRead (names : List (List ℕ)) : Type 0 where
  pub are : AreNames names
  pub some : 0 < length names

names_ok : (words names : List (List ℕ)) → labels_of words ≡ Ok names → AreRead names
names_ok [] names e = absurd (cc)
names_ok (first ∷ []) names e = go (bytes_eq first (codes "labels")) e
  where
    go : (b : Bool) → (if b then names_in [] else Err Labels) ≡ Ok names → AreRead names
    go true e = absurd (cc)
    go false e = absurd (cc)
names_ok (first ∷ name ∷ more) names e = go (bytes_eq first (codes "labels")) (all_names (name ∷ more)) (nat_lt LABEL_LIMIT (length (name ∷ more))) (has_repeat (name ∷ more)) refl refl refl e
  where
    go : (b spelled many repeat : Bool) → all_names (name ∷ more) ≡ spelled → nat_lt LABEL_LIMIT (length (name ∷ more)) ≡ many → has_repeat (name ∷ more) ≡ repeat
        → (if b then (if not spelled then Err Labels else (if many then Err Limit else (if repeat then Err Repeated else Ok (name ∷ more)))) else Err Labels) ≡ Ok names → AreRead names
    go false spelled many repeat s m r e = absurd (cc)
    go true false many repeat s m r e = absurd (cc)
    go true true true repeat s m r e = absurd (cc)
    go true true false true s m r e = absurd (cc)
    go true true false false s m r e =
        subst AreRead (same_ok (name ∷ more) names e) (record { are = record { few = grind (arith, nat_tests); spelled = s; distinct = r }; some = omega arith })

grown_begun : (version root : ℕ) (names : List (List ℕ)) → IsVersion version → is_accepted root ≡ true → AreRead names → IsGrown (begun version root names).said
grown_begun version root names is accepted read = record {
  names = read.are;
  some = read.some;
  counted = refl;
  accepted = accepted;
  units = λ a b c unit. refl;
  labels = λ a b c e. below a b c (left_of (are_labels (length names) a b c) _ e);
  numbers = numbers_alone version root (length names);
  version = is;
  unmarked = none;
}
  where
    below : (a b c : ℕ) → are_labels (length names) a b c ≡ true → AreThreeLabels (length names) a b c
    below a b c e = (grind (arith, nat_tests), grind (arith, nat_tests), grind (arith, nat_tests))

    none : (s : Symbol) → has_symbol version s ≡ false → set_of (only_units version (length names)) s ≡ None
    none (OfF at) e = refl
    none (OfR at) e = refl
    none (OfW at) e = refl
    none (OfV at) e = refl
    none (OfTwist a) e = refl
    none (OfLoop a) e = refl

version_ok : (word : List ℕ) (version : ℕ) → version_of word ≡ Ok version → IsVersion version
version_ok word version e = go (bytes_eq word (codes "1")) (bytes_eq word (codes "2")) e
  where
    go : (first second : Bool) → (if first then Ok 1 else (if second then Ok 2 else Err Header)) ≡ Ok version → IsVersion version
    go true second e = inl (sym (same_ok 1 version e))
    go false true e = inr (sym (same_ok 2 version e))
    go false false e = absurd (cc)

header_ok : (words : List (List ℕ)) (version : ℕ) → header_of words ≡ Ok version → IsVersion version
header_ok words version e =
    let line = then_ok (unless ((length words == 2) && has_word words 0 (codes "category")) Header) _ version e in
    version_ok (word_in words 1) version line.2

-- a version that there is, and an accepted root
abbrev IsFront : ℕ × ℕ → Type 0
IsFront front = IsVersion front.0 × (is_accepted front.1 ≡ true)

front_ok : (text : Reading) (front : (ℕ × ℕ) × (ℕ × (List (List ℕ) × List Found))) → front_of text ≡ Ok front → IsFront front.0
unfolding front_of
front_ok text front e =
    let first = then_ok (required _ text.count text.ahead) _ front e in
    let header = then_ok (on_line first.0.0 (header_of first.0.1.0)) _ front first.2 in
    let second = then_ok (required _ text.count first.0.1.1) _ front header.2 in
    let root = then_ok (on_line second.0.0 (root_of second.0.1.0)) _ front second.2 in
    let third = then_ok (required _ text.count second.0.1.1) _ front root.2 in
    subst (λ (f : (ℕ × ℕ) × (ℕ × (List (List ℕ) × List Found))). IsFront f.0) (same_ok ((header.0, root.0), third.0) front third.2) (
      header_ok first.0.1.0 header.0 (on_line_ok first.0.0 (header_of first.0.1.0) header.0 header.1),
      root_ok second.0.1.0 root.0 (on_line_ok second.0.0 (root_of second.0.1.0) root.0 root.1),
    )

head_ok : (text : Reading) (head : ((ℕ × ℕ) × List (List ℕ)) × List Found) → head_of text ≡ Ok head → IsGrown (begun head.0.0.0 head.0.0.1 head.0.1).said
unfolding head_of
head_ok text head e =
    let front = then_ok (front_of text) _ head e in
    let names = then_ok (on_line front.0.1.0 (labels_of front.0.1.1.0)) _ head front.2 in
    let is = front_ok text front.0 front.1 in
    subst (λ (h : ((ℕ × ℕ) × List (List ℕ)) × List Found). IsGrown (begun h.0.0.0 h.0.0.1 h.0.1).said) (same_ok ((front.0.0, names.0), front.0.1.1.1) head names.2)
    (grown_begun front.0.0.0 front.0.0.1 names.0 is.0 is.1 (names_ok front.0.1.1.0 names.0 (on_line_ok front.0.1.0 (labels_of front.0.1.1.0) names.0 names.1)))

-- The whole text.
pub all_said : AllSaid
unfolding category_of
all_said bytes x e =
    let head = then_ok (head_of (reading_of 0 bytes)) _ x e in
    let whole = then_ok (body_of (begun head.0.0.0.0 head.0.0.0.1 head.0.0.1) head.0.1) _ x head.2 in
    subst IsSaid (same_ok whole.0.said x whole.2)
    (grown_said whole.0.said (body_ok (begun head.0.0.0.0 head.0.0.0.1 head.0.0.1) head.0.1 whole.0 (head_ok (reading_of 0 bytes) head.0 head.1) whole.1))
