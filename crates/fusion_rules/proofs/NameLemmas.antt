-- Names are ASCII; a name at the end of names.
use Rattle.std.proofs.Common.{◌≡◌, ◌≢◌, ℕ, zero, suc, ◌+◌, ◌<◌, ◌≤◌, List, [], ◌∷◌, ◌++◌, Bool, length, refl, sym, ap, subst, ◌∙◌, arith, true, false, ◌&&◌, ◌||◌, ◌==◌, ltb, not, if◌then◌else◌, Some, None, position, Result, Ok, Err, MatchResult, is_ok}
use Rattle.std.specs.List.{list_any, position_or_len}
use Rattle.std.specs.Str.{IsAscii, IsUtf8, bytes_eq}
use Rattle.std.proofs.lemmas.Str.{IsUtf8-from_ascii}
use Rattle.std.proofs.lemmas.Bool.Decides.{nat_tests, same_from_decides, Decides-like}
use Rattle.std.proofs.lemmas.Slice.Eq.{bytes_eq-Decides}
use Rattle.std.proofs.lemmas.List.{length_push, length-map}
use Rattle.arrayvec.specs.ArrayString.{ArrayString}
use Rattle.fusion_rules.specs.declared.label.TheConstants.{LABEL_LIMIT}
use Rattle.fusion_rules.specs.Names.{is_name, is_name_byte, all_name_bytes, is_among, has_repeat, all_names, AreNames, label_of, name_fault}
use Rattle.fusion_rules.specs.declared.names.NameFault.TheVariants.{Full, Repeated}
use Rattle.fusion_rules.specs.Held.{texts}

byte_ascii : (c : ℕ) → is_name_byte c ≡ true → c < 128
byte_ascii c e = grind (arith, nat_tests)

bytes_ascii : (cs : List ℕ) → all_name_bytes cs ≡ true → IsAscii cs
bytes_ascii [] e i = omega arith
bytes_ascii (c ∷ cs) e i = by_test (is_name_byte c) (bytes_ascii cs) refl e i
  where
    by_test : (b : Bool) → (all_name_bytes cs ≡ true → IsAscii cs) → is_name_byte c ≡ b → (if b then all_name_bytes cs else false) ≡ true → IsAscii (c ∷ cs)
    by_test false rest is e i = absurd (cc)
    by_test true rest is e zero = byte_ascii c is
    by_test true rest is e (suc i) = rest e i

pub spelled : (word : List ℕ) → is_name word ≡ true → (all_name_bytes word ≡ true) × (length word ≤ 8) × (0 < length word)
spelled word e = by_tests (length word) refl e
  where
    by_tests : (n : ℕ) → length word ≡ n → (if n == 0 then false else (if ltb 8 n then false else all_name_bytes word)) ≡ true → (all_name_bytes word ≡ true) × (length word ≤ 8) × (0 < length word)
    by_tests n is e = grind (arith, nat_tests)

pub name_utf8 : (word : List ℕ) → is_name word ≡ true → IsUtf8 word
name_utf8 word e = IsUtf8-from_ascii word (bytes_ascii word (spelled word e).0)

pub name_short : (word : List ℕ) → is_name word ≡ true → length word ≤ 8
name_short word e = (spelled word e).1

-- what the set finds is what the names have
pub any_text : (q : List ℕ) (keys : List ArrayString) → list_any (λ k. bytes_eq q k.bytes) keys ≡ is_among (texts keys) q
any_text q [] = refl
any_text q (k ∷ ks) = ap (λ b. bytes_eq q k.bytes || b) (any_text q ks)

pub place_text : (q : List ℕ) (keys : List ArrayString) → position_or_len (λ k. bytes_eq q k.bytes) keys ≡ position_or_len (bytes_eq q) (texts keys)
place_text q [] = refl
place_text q (k ∷ ks) = ap (λ n. if not (bytes_eq q k.bytes) then 1 + n else 0) (place_text q ks)

-- a name that isn't among the names goes last
names_push : (names : List (List ℕ)) (name : List ℕ) → all_names names ≡ true → is_name name ≡ true → all_names (names ++ name ∷ []) ≡ true
names_push [] name all is = rw is refl
names_push (n ∷ ns) name all is = grind (arith, names_push ns name)

pub among_push : (names : List (List ℕ)) (m name : List ℕ) → is_among (names ++ name ∷ []) m ≡ (is_among names m || bytes_eq m name)
among_push [] m name = or_false (bytes_eq m name)
  where
    or_false : (b : Bool) → (b || false) ≡ b
    or_false true = refl
    or_false false = refl
among_push (n ∷ ns) m name = ap (λ b. bytes_eq m n || b) (among_push ns m name) ∙ regroup (bytes_eq m n) (is_among ns m) (bytes_eq m name)
  where
    regroup : (a b c : Bool) → (a || (b || c)) ≡ ((a || b) || c)
    regroup true b c = refl
    regroup false b c = refl

pub eq_comm : (m n : List ℕ) → bytes_eq m n ≡ bytes_eq n m
eq_comm m n = same_from_decides (bytes_eq m n) (bytes_eq n m) (bytes_eq-Decides m n) (Decides-like (bytes_eq n m) sym sym (bytes_eq-Decides n m))

pub repeat_push : (names : List (List ℕ)) (name : List ℕ) → has_repeat names ≡ false → is_among names name ≡ false → has_repeat (names ++ name ∷ []) ≡ false
repeat_push [] name none new = refl
repeat_push (n ∷ ns) name none new = rw (among_push ns n name, eq_comm n name)
    (by_tests (bytes_eq name n) (is_among ns n) (is_among ns name) (has_repeat ns) (has_repeat (ns ++ name ∷ [])) none new (repeat_push ns name))
  where
    by_tests : (same among new repeat pushed : Bool) → (among || repeat) ≡ false → (same || new) ≡ false → (repeat ≡ false → new ≡ false → pushed ≡ false) → ((among || same) || pushed) ≡ false
    by_tests true among new repeat pushed none is more = absurd (cc)
    by_tests false true new repeat pushed none is more = absurd (cc)
    by_tests false false new repeat pushed none is more = more none is

pub are_names_push : (names : List (List ℕ)) (name : List ℕ) → AreNames names → is_name name ≡ true → is_among names name ≡ false → length names ≢ LABEL_LIMIT → AreNames (names ++ name ∷ [])
are_names_push names name are is new room = record {
  few = omega (arith, length_push names name, are.few);
  spelled = names_push names name are.spelled is;
  distinct = repeat_push names name are.distinct new;
}

pub texts_push : (keys : List ArrayString) (k : ArrayString) → texts (keys ++ k ∷ []) ≡ texts keys ++ k.bytes ∷ []
texts_push [] k = refl
texts_push (l ∷ ls) k = ap (λ ns. l.bytes ∷ ns) (texts_push ls k)

-- what isn't a name isn't among names
no_place : {X : Type 0} (p : X → Bool) (xs : List X) → list_any p xs ≡ false → position_or_len p xs ≡ length xs
no_place p [] none = refl
no_place p (x ∷ xs) none = by_test (p x) (no_place p xs) none
  where
    by_test : (b : Bool) → (list_any p xs ≡ false → position_or_len p xs ≡ length xs) → (b || list_any p xs) ≡ false → (if not b then 1 + position_or_len p xs else 0) ≡ suc (length xs)
    by_test true rest none = absurd (cc)
    by_test false rest none = omega (arith, rest none)

not_any : (names : List (List ℕ)) (word : List ℕ) → all_names names ≡ true → is_name word ≡ false → is_among names word ≡ false
not_any [] word all is = refl
not_any (n ∷ ns) word all is = by_tests (is_name n) (bytes_eq word n) refl refl (not_any ns word) all
  where
    by_tests : (named same : Bool) → is_name n ≡ named → bytes_eq word n ≡ same → (all_names ns ≡ true → is_name word ≡ false → is_among ns word ≡ false) → (named && all_names ns) ≡ true → (same || is_among ns word) ≡ false
    by_tests false same in' is_same rest all = absurd (cc)
    by_tests true false in' is_same rest all = rest all is
    by_tests true true in' is_same rest all = absurd (let e : word ≡ n = (bytes_eq-Decides word n).0 is_same in let f : true ≡ false = sym in' ∙ ap is_name (sym e) ∙ is in cc)

no_label : (names : List (List ℕ)) (word : List ℕ) → is_among names word ≡ false → label_of names word ≡ None
no_label names word none =
    let at_end = no_place (bytes_eq word) names none in
    let past : ltb (position_or_len (bytes_eq word) names) (length names) ≡ false = grind (arith, nat_tests) in
    rw past refl

pub not_among : (names : List (List ℕ)) (word : List ℕ) → all_names names ≡ true → is_name word ≡ false → label_of names word ≡ None
not_among names word all is = no_label names word (not_any names word all is)

pub label_text : (q : List ℕ) (keys : List ArrayString) → position (λ k. bytes_eq q k.bytes) keys ≡ label_of (texts keys) q
label_text q keys = ap (λ (n : ℕ). if ltb n (length keys) then Some n else None) (place_text q keys)
    ∙ ap (λ (n : ℕ). if ltb (position_or_len (bytes_eq q) (texts keys)) n then Some (position_or_len (bytes_eq q) (texts keys)) else None) (sym (length-map keys (λ k. k.bytes)))

-- what an insert says
pub full : (keys : List ArrayString) (old : List (List ℕ)) (name : List ℕ) → texts keys ≡ old → is_name name ≡ true → length keys ≡ LABEL_LIMIT → name_fault old name ≡ Some Full
full keys old name e is twelve =
    let same : length old ≡ LABEL_LIMIT = sym (ap length e) ∙ length-map keys (λ k. k.bytes) ∙ twelve in
    let full : (length old == LABEL_LIMIT) ≡ true = grind (arith, nat_tests) in
    rw (is, full) refl

pub known : (keys new : List ArrayString) (small : ArrayString) (old : List (List ℕ)) (name : List ℕ) → texts keys ≡ old → small.bytes ≡ name → is_name name ≡ true → length keys ≢ LABEL_LIMIT
    → list_any (λ k. bytes_eq small.bytes k.bytes) keys ≡ true → new ≡ (if list_any (λ k. bytes_eq small.bytes k.bytes) keys then keys else keys ++ small ∷ [])
    → (name_fault old name ≡ Some Repeated) × (texts new ≡ old)
known keys new small old name e f is room any new_is =
    let same : length old ≡ length keys = sym (ap length e) ∙ length-map keys (λ k. k.bytes) in
    let not_full : (length old == LABEL_LIMIT) ≡ false = grind (arith, nat_tests) in
    let among : is_among old name ≡ true = ap (λ l. is_among l name) (sym e) ∙ ap (λ q. is_among (texts keys) q) (sym f) ∙ sym (any_text small.bytes keys) ∙ any in
    let stays : new ≡ keys = new_is ∙ ap (λ b. if b then keys else keys ++ small ∷ []) any in
    (rw (is, not_full, among) refl, ap texts stays ∙ e)

pub record New (old : List (List ℕ)) (name : List ℕ) (new : List ArrayString) : Type 0 where
  pub fault : name_fault old name ≡ None
  pub grown : texts new ≡ old ++ name ∷ []
  pub names : AreNames (texts new)

pub fresh : (keys new : List ArrayString) (small : ArrayString) (old : List (List ℕ)) (name : List ℕ) → texts keys ≡ old → small.bytes ≡ name → is_name name ≡ true → length keys ≢ LABEL_LIMIT
    → AreNames (texts keys) → list_any (λ k. bytes_eq small.bytes k.bytes) keys ≡ false → new ≡ (if list_any (λ k. bytes_eq small.bytes k.bytes) keys then keys else keys ++ small ∷ [])
    → New old name new
fresh keys new small old name e f is room are any new_is =
    let same : length old ≡ length keys = sym (ap length e) ∙ length-map keys (λ k. k.bytes) in
    let not_full : (length old == LABEL_LIMIT) ≡ false = grind (arith, nat_tests) in
    let among : is_among old name ≡ false = ap (λ l. is_among l name) (sym e) ∙ ap (λ q. is_among (texts keys) q) (sym f) ∙ sym (any_text small.bytes keys) ∙ any in
    let grows : new ≡ keys ++ small ∷ [] = new_is ∙ ap (λ b. if b then keys else keys ++ small ∷ []) any in
    let new_texts : texts new ≡ old ++ name ∷ [] = ap texts grows ∙ texts_push keys small ∙ ap (λ l. l ++ small.bytes ∷ []) e ∙ ap (λ q. old ++ q ∷ []) f in
    record {
      fault = rw (is, not_full, among) refl;
      grown = new_texts;
      names = subst AreNames (sym new_texts) (are_names_push old name (subst AreNames e are) is among (omega arith));
    }

pub last_index : (keys : List ArrayString) (small : ArrayString) → list_any (λ k. bytes_eq small.bytes k.bytes) keys ≡ false → position_or_len (λ k. bytes_eq small.bytes k.bytes) keys ≡ length keys
last_index keys small none = no_place (λ k. bytes_eq small.bytes k.bytes) keys none

pub utf8_ok : {X E : Type 0} (r : Result X E) (P : X → Type 0) (U : Type 0) (V : E → Type 0) → MatchResult r P (λ e. ¬ U × V e) → U → false ≡ is_ok r → ⊥
utf8_ok (Ok x) P U V h u e = cc
utf8_ok (Err x) P U V h u e = h.0 u

pub any_is : (b new : Bool) → new ≡ not b → new ≡ false → b ≡ true
any_is true new e f = refl
any_is false new e f = cc

pub none_is : (b new : Bool) → new ≡ not b → new ≡ true → b ≡ false
none_is true new e f = cc
none_is false new e f = refl
