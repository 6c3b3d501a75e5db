-- The canonical text of what can be said is read again, and to the same category.
use Rattle.std.proofs.Common.{◌≡◌, ℕ, ◌-◌, ◌^◌, ◌<◌, ◌==◌, List, [], ◌∷◌, Bool, true, false, not, length, refl, sym, ap, subst, ◌∙◌, arith, inl, inr, if◌then◌else◌, Option, None, Ok}
use Rattle.std.specs.Prelude.{IsOkAnd, nat_lt, unwrap_or}
use Rattle.std.proofs.lemmas.Bool.Decides.{nat_tests}
use Rattle.line_text.specs.Spelling.{spelled, ArePlainLines}
use Rattle.poly_core.specs.Rho.{is_accepted}
use Rattle.poly_core.proofs.RhoLemmas.{accepted_small}
use Rattle.cyclo_core.specs.CycloLaws.{same_ratio_is}
use Rattle.cyclo_core.specs.Ratio.{Ratio, ring_at}
use Rattle.cyclo_text.specs.NumberWords.{spelled_number}
use Rattle.symbol_table.specs.Index.{AreThreeLabels}
use Rattle.symbol_table.specs.Draft.{f_index_admissible}
use Rattle.symbol_table.specs.declared.index.FIndex.{FIndex}
use Rattle.symbol_table.specs.declared.index.VIndex.{VIndex}
use Rattle.category_text.specs.declared.kind.Symbol.{Symbol}
use Rattle.category_text.specs.declared.kind.Symbol.TheVariants.{OfF, OfR, OfW, OfV, OfTwist, OfLoop}
use Rattle.category_text.specs.declared.kind.MarkKind.{MarkKind}
use Rattle.category_text.specs.declared.kind.MarkKind.TheVariants.{OnTwist, OnLoop}
use Rattle.category_text.specs.declared.kind.VertexKind.{VertexKind}
use Rattle.category_text.specs.declared.kind.VertexKind.TheVariants.{OnR, OnW, OnV}
use Rattle.category_text.specs.Named.{NamedSymbols, has_symbol}
use Rattle.category_text.specs.Reading.{category_of}
use Rattle.category_text.specs.Answers.{SymbolBelow}
use Rattle.category_text.specs.Canonical.{vertices, has_fuse_line, has_f_line, has_mark_line, has_vertex_line, is_one, mark_value, marks_of, canonical}
use Rattle.category_text.specs.Spelled.{head_alone, fused_all, set_all, lines_over, FreshTriples, FreshSymbols}
use Rattle.category_text.specs.Again.{IsNumberOf, IsSaid, SameSymbols, ReadAgain}
use Rattle.category_text.proofs.BackLemmas.{names_stay, text_again}
use Rattle.category_text.proofs.OrderLemmas.{fresh_fusion, fuse_line_off}
use Rattle.category_text.proofs.PairLemmas.{of_kind, of_mark, symbols, value_of, valued, pairs, triples, lines_are_over, symbols_rise}
use Rattle.category_text.proofs.IndexLemmas.{admitted}
use Rattle.category_text.proofs.FreshLemmas.{Each, IsReady, fresh_symbols, unset_fused}
use Rattle.category_text.proofs.LineLemmas.{each_symbol}
use Rattle.category_text.proofs.SameLemmas.{each_filter, each_map}
use Rattle.line_text.proofs.PlainWordLemmas.{IsWord}
use Rattle.category_text.proofs.NumberLemmas.{number_again, number_is_word}
use Rattle.category_text.proofs.PlainLemmas.{plain_lines}
use Rattle.category_text.proofs.SaidLemmas.{left_of, right_of, few, labels_named, symbol_named}
use Rattle.category_text.proofs.ShortLemmas.{text_short}
use Rattle.category_text.proofs.StayLemmas.{root_stays, version_stays}
use Rattle.category_text.proofs.ValueLemmas.{same_fuse, same_category}

accepted_some : (root : ℕ) → is_accepted root ≡ true → 0 < root
unfolding is_accepted
accepted_some root e = let some : nat_lt 0 root ≡ true = left_of (nat_lt 0 root) _ e in grind (arith, nat_tests)

module _ (x : NamedSymbols) (said : IsSaid x) where
  -- what a symbol with a line meets
  abbrev Meets : Symbol → Type 0
  Meets s = IsReady x (length x.names) x.root x.given.fuse s × (SymbolBelow (length x.names) s × IsWord (spelled_number (value_of x s)) 695)

  meets : (s : Symbol) → has_symbol x.given.version s ≡ true → admitted x.given.count x.given.fuse s ≡ true → IsNumberOf x.root (value_of x s) → Meets s
  meets s known allowed number =
      let below = symbol_named x said s allowed in
      (record { known = known; below = below; allowed = allowed; read = number_again x.root (value_of x s) number said.accepted }, (below, number_is_word x.root (value_of x s) number))

  f_meets : (at : FIndex) → has_f_line x at ≡ true → Meets (OfF at)
  f_meets at e = let allowed = left_of (f_index_admissible x.given at) _ e in meets (OfF at) refl allowed (said.f at allowed)

  vertex_meets : (kind : VertexKind) (at : VIndex) → has_vertex_line x kind at ≡ true → Meets (of_kind kind at)
  vertex_meets OnR at e = let allowed = left_of (x.given.fuse at.a at.b at.c) _ e in meets (OfR at) refl allowed (said.vertex OnR at allowed)
  vertex_meets OnW at e = let allowed = left_of (x.given.fuse at.a at.b at.c) _ e in meets (OfW at) refl allowed (said.vertex OnW at allowed)
  vertex_meets OnV at e = let allowed = left_of (x.given.fuse at.a at.b at.c) _ e in meets (OfV at) refl allowed (said.vertex OnV at allowed)

  -- a mark that isn't 1 is set, so the version is the second
  one_where_none : (root : ℕ) (label : Bool) (o : Option Ratio) → label ≡ true → o ≡ None → is_one root (if label then unwrap_or o (ring_at root).one else (ring_at root).zero) ≡ true
  one_where_none root label o is none = rw (is, none) ((same_ratio_is (ring_at root).one (ring_at root).one).1 refl)

  second : (kind : MarkKind) (a : ℕ) → has_mark_line x kind a ≡ true → (x.given.version == 2) ≡ true
  second kind a e =
      elim said.version [
        | inl first ↦
            let label = left_of (nat_lt a x.given.count) _ e in
            let one = one_where_none x.root (nat_lt a x.given.count) (marks_of x.given kind a) label (said.unmarked first kind a) in
            absurd (let none : not (is_one x.root (mark_value x kind a)) ≡ true = right_of (nat_lt a x.given.count) _ e in let off : not (is_one x.root (mark_value x kind a)) ≡ false = ap not one in cc)
        | inr is ↦ rw is refl
      ]

  mark_meets : (kind : MarkKind) (a : ℕ) → has_mark_line x kind a ≡ true → Meets (of_mark kind a)
  mark_meets OnTwist a e = let label = left_of (nat_lt a x.given.count) _ e in meets (OfTwist a) (second OnTwist a e) label (said.mark OnTwist a (grind (arith, nat_tests)))
  mark_meets OnLoop a e = let label = left_of (nat_lt a x.given.count) _ e in meets (OfLoop a) (second OnLoop a e) label (said.mark OnLoop a (grind (arith, nat_tests)))

  all_meet : Each Meets (symbols x)
  all_meet = each_symbol x Meets f_meets vertex_meets mark_meets

  -- The text is in order.
  abbrev head : NamedSymbols
  head = head_alone x.given.version x.root x.names

  fresh_ts : FreshTriples head (triples x)
  fresh_ts = fresh_fusion x x.given.version x.root x.names x.given.count (let f = few x said in omega arith) (λ t e. labels_named x said t.a t.b t.c e)

  ready_in : (names : List (List ℕ)) (root : ℕ) (fuse : ℕ → ℕ → ℕ → Bool) → names ≡ x.names → root ≡ x.root → fuse ≡ x.given.fuse → (ss : List Symbol) → Each Meets ss → Each (IsReady x (length names) root fuse) ss
  ready_in names root fuse e f g [] all = tt
  ready_in names root fuse e f g (s ∷ ss) all = (rw (e, f, g) all.0.0, ready_in names root fuse e f g ss all.1)

  fresh_ss : FreshSymbols (fused_all head (triples x)) (pairs x)
  fresh_ss =
      let fused = fused_all head (triples x) in
      fresh_symbols x fused 0 67108896 (symbols x)
      (ready_in fused.names fused.root fused.given.fuse (names_stay head (triples x)) (root_stays head (triples x)) (λ t a b c. same_fuse x said a b c t) (symbols x) all_meet)
      (symbols_rise x (let f = few x said in omega arith)) (λ s low. unset_fused x.given.version x.root x.names (triples x) s) (version_stays head (triples x))

  plain : ArePlainLines (lines_over head (triples x) (pairs x))
  plain =
      plain_lines x.given.version x.root x.names (triples x) (pairs x) said.version said.names said.some (accepted_some x.root said.accepted) (accepted_small x.root said.accepted)
      (each_filter (λ (t : VIndex). AreThreeLabels (length x.names) t.a t.b t.c) (has_fuse_line x) (λ t e. labels_named x said t.a t.b t.c (fuse_line_off x t e).2) (vertices x.given.count))
      (each_map (λ (s : Symbol × Ratio). SymbolBelow (length x.names) s.0 × IsWord (spelled_number s.1) 695) Meets (valued x) (λ s m. m.1) (symbols x) all_meet)

  read_back : category_of (canonical x) ≡ Ok (set_all (fused_all head (triples x)) (pairs x))
  unfolding canonical
  read_back = ap (λ ls. category_of (spelled ls)) (sym (lines_are_over x)) ∙ text_again x.given.version x.root x.names (triples x) (pairs x) said.version said.names said.some said.accepted fresh_ts fresh_ss plain

  pub read_again : ReadAgain x
  read_again = subst (λ r. IsOkAnd r (SameSymbols x)) (sym read_back) (same_category x said)

  pub short_text : length (canonical x) < 2 ^ 32 - 1
  short_text = text_short x (few x said) (subst ArePlainLines (lines_are_over x) plain)
