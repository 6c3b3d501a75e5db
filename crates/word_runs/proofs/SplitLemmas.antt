-- What a measurement makes of live words.
use Rattle.std.proofs.Common.{◌≡◌, ℕ, zero, suc, ◌+◌, ◌<◌, List, [], ◌∷◌, ◌++◌, map, length, get_or, take, Option, Some, None, refl, ap, sym, subst, ◌∙◌, arith, append_assoc}
use Rattle.std.specs.List.{AllByRecursion}
use Rattle.std.proofs.lemmas.List.{append-nil, map-append, take_more, length-set}
use Rattle.ring_laws.proofs.StatedLemmas.{some_inj}
use Rattle.word_runs.specs.Told.{Told, AreShapes}
use Rattle.word_runs.specs.Runs.{Live, outcomes_of, split_by, split_word, split_words, joined}
use Rattle.word_runs.specs.Lives.{AreLong, HaveShape}
use Rattle.word_runs.proofs.EachLemmas.{all_append, all_map}

joined_none : {A : Type 0} (o rest : Option (List A)) → rest ≡ None → joined o rest ≡ None
joined_none None rest e = refl
joined_none (Some xs) rest e = rw e refl

joined_some : {A : Type 0} (o rest rest' : Option (List A)) (made ys : List A) → joined o rest ≡ Some ys
    → ((zs : List A) → rest ≡ Some zs → rest' ≡ Some (zs ++ made)) → joined o rest' ≡ Some (ys ++ made)
joined_some None rest rest' made ys e h = absurd (cc)
joined_some (Some xs) None rest' made ys e h = absurd (cc)
joined_some (Some xs) (Some zs) rest' made ys e h =
    rw (h zs refl) (ap Some (sym (append_assoc xs zs made)) ∙ ap (λ l. Some (l ++ made)) (some_inj (xs ++ zs) ys e))

-- the parts of what is there
pub record Joined {A : Type 0} (o rest : Option (List A)) (ys : List A) : Type 0 where
  pub head : List A
  pub tail : List A
  pub is : ys ≡ head ++ tail
  pub first : o ≡ Some head
  pub others : rest ≡ Some tail

pub joined_parts : {A : Type 0} (o rest : Option (List A)) (ys : List A) → joined o rest ≡ Some ys → Joined o rest ys
joined_parts None rest ys e = absurd (cc)
joined_parts (Some xs) None ys e = absurd (cc)
joined_parts (Some xs) (Some zs) ys e = record { head = xs; tail = zs; is = sym (some_inj (xs ++ zs) ys e); first = refl; others = refl }

-- a place of words of m places is a place of each
pub all_places : {M : Type 0} (P : ℕ → Type 0) (m : ℕ) (live : List (Live M)) → P m → AreLong m live → AllByRecursion (λ l. P (length l.word)) live
all_places P m live p long = all_map (λ l. length l.word ≡ m) (λ l. P (length l.word)) live (λ l e. subst P (sym e) p) long

-- what is made of words with parts
pub record Made {M : Type 0} (place : ℕ) (word : List ℕ) (o : Option (List (ℕ × M))) (ys : List (Live M)) : Type 0 where
  pub parts : List (ℕ × M)
  pub some : o ≡ Some parts
  pub is : ys ≡ outcomes_of place word parts

pub made_of : {M : Type 0} (place : ℕ) (word : List ℕ) (o : Option (List (ℕ × M))) (ys : List (Live M)) → split_by place word o ≡ Some ys → Made place word o ys
made_of place word None ys e = absurd (cc)
made_of place word (Some parts) ys e = record { parts = parts; some = refl; is = sym (some_inj (outcomes_of place word parts) ys e) }

module _ {M T : Type 0} (e : Told M T) (k p : ℕ) where
  split_append : (xs : List (Live M)) (x : Live M) (ys made : List (Live M)) → split_words e k p xs ≡ Some ys → split_word e k p x ≡ Some made → split_words e k p (xs ++ x ∷ []) ≡ Some (ys ++ made)
  split_append [] x ys made h one = rw one (ap Some (append-nil made) ∙ ap (λ l. Some (l ++ made)) (some_inj [] ys h))
  split_append (z ∷ xs) x ys made h one =
      joined_some (split_word e k p z) (split_words e k p xs) (split_words e k p (xs ++ x ∷ [])) made ys h (λ zs is. split_append xs x zs made is one)

  -- one more live word is split
  pub split_more : {S : Type 0} (f : S → Live M) (live : List S) (i : ℕ) (x : S) (ys new made : List (Live M)) → i < length live → x ≡ get_or live i x
      → split_words e k p (map f (take i live)) ≡ Some ys → split_word e k p (f x) ≡ Some made → new ≡ ys ++ made
      → split_words e k p (map f (take (i + 1) live)) ≡ Some new
  split_more f live i x ys new made low is done one same =
      ap (λ l. split_words e k p (map f l)) (take_more live i x low ∙ ap (λ z. take i live ++ z ∷ []) (sym is))
      ∙ (ap (split_words e k p) (map-append f (take i live) (x ∷ []))
      ∙ (split_append (map f (take i live)) (f x) ys made done one ∙ ap Some (sym same)))

  -- none of one is none of all
  pub split_fails : (xs : List (Live M)) (i : ℕ) (d : Live M) → i < length xs → split_word e k p (get_or xs i d) ≡ None → split_words e k p xs ≡ None
  split_fails [] i d l h = absurd (omega arith)
  split_fails (x ∷ xs) zero d l h = rw h refl
  split_fails (x ∷ xs) (suc i) d l h = joined_none (split_word e k p x) (split_words e k p xs) (split_fails xs i d (omega arith) h)

  parts_shape : (t : T) (word : List ℕ) (parts : List (ℕ × M)) → AllByRecursion (λ part. e.shape part.1 ≡ t) parts → HaveShape e t (outcomes_of p word parts)
  parts_shape t word [] h = tt
  parts_shape t word (x ∷ parts) h = (h.0, parts_shape t word parts h.1)

  parts_long : (m : ℕ) (word : List ℕ) (parts : List (ℕ × M)) → length word ≡ m → AreLong m (outcomes_of p word parts)
  parts_long m word [] h = tt
  parts_long m word (x ∷ parts) h = (length-set word p x.0 ∙ h, parts_long m word parts h)

  pub split_shape : AreShapes e → (t : T) (live next : List (Live M)) → split_words e k p live ≡ Some next → HaveShape e t live → HaveShape e t next
  split_shape shapes t [] next is h = subst (HaveShape e t) (some_inj [] next is) tt
  split_shape shapes t (l ∷ live) next is h =
      let j = joined_parts (split_word e k p l) (split_words e k p live) next is in
      let made = made_of p l.word (e.parts k l.state) j.head j.first in
      let all = all_map (λ part. e.shape part.1 ≡ e.shape l.state) (λ part. e.shape part.1 ≡ t) made.parts (λ part s. s ∙ h.0) (shapes.parts k l.state made.parts made.some) in
      subst (HaveShape e t) (sym j.is)
      (all_append (λ m. e.shape m.state ≡ t) j.head j.tail
      (subst (HaveShape e t) (sym made.is) (parts_shape t l.word made.parts all)) (split_shape shapes t live j.tail j.others h.1))

  pub split_long : (m : ℕ) (live next : List (Live M)) → split_words e k p live ≡ Some next → AreLong m live → AreLong m next
  split_long m [] next is h = subst (AreLong m) (some_inj [] next is) tt
  split_long m (l ∷ live) next is h =
      let j = joined_parts (split_word e k p l) (split_words e k p live) next is in
      let made = made_of p l.word (e.parts k l.state) j.head j.first in
      subst (AreLong m) (sym j.is)
      (all_append (λ w. length w.word ≡ m) j.head j.tail
      (subst (AreLong m) (sym made.is) (parts_long m l.word made.parts h.0)) (split_long m live j.tail j.others h.1))
