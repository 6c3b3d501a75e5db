-- What an evaluation of H gives is H.
use Rattle.std.proofs.Common.{◌≡◌, ℕ, true, Some, refl, ap, ◌∙◌}
use Rattle.ring_laws.specs.Ring.{Ring, Held}
use Rattle.ring_laws.specs.Stated.{◌>>=◌, product_at, conjugate_at}
use Rattle.ring_laws.proofs.StatedLemmas.{bind_some, product_given, conjugate_given}
use Rattle.symbol_table.specs.Symbols.{Given, f_admissible, f_of, vertex_of, h_of, s_of, symbols_of}
use Rattle.symbol_table.specs.Evaluated.{h_stated, s_stated}

module _ {E : Type 0} (ring : Ring E) where
  -- the conjugate of a value times four weights
  five_given : (x w u v s z : E)
      → (conjugate_at ring x >>= (λ (t : E). product_at ring t w >>= (λ (o : E). product_at ring o u >>= (λ (p : E). product_at ring p v >>= (λ (q : E). product_at ring q s))))) ≡ Some z
      → z ≡ ring.product (ring.product (ring.product (ring.product (ring.conjugate x) w) u) v) s
  five_given x w u v s z e =
      let turned = bind_some (conjugate_at ring x) (λ (t : E). product_at ring t w >>= (λ (o : E). product_at ring o u >>= (λ (p : E). product_at ring p v >>= (λ (q : E). product_at ring q s)))) z e in
      let one = bind_some (product_at ring turned.0 w) (λ (o : E). product_at ring o u >>= (λ (p : E). product_at ring p v >>= (λ (q : E). product_at ring q s))) z turned.2 in
      let two = bind_some (product_at ring one.0 u) (λ (p : E). product_at ring p v >>= (λ (q : E). product_at ring q s)) z one.2 in
      let three = bind_some (product_at ring two.0 v) (λ (q : E). product_at ring q s) z two.2 in
      let first = product_given ring turned.0 w one.0 one.1 ∙ ap (λ y. ring.product y w) (conjugate_given ring x turned.0 turned.1) in
      let second = product_given ring one.0 u two.0 two.1 ∙ ap (λ y. ring.product y u) first in
      let third = product_given ring two.0 v three.0 three.1 ∙ ap (λ y. ring.product y v) second in
      product_given ring three.0 s z three.2 ∙ ap (λ y. ring.product y s) third

  pub h_given : (held : Held E) (g : Given E) (a b c d f e : ℕ) (z : E) → f_admissible g.fuse a b c d e f ≡ true → h_stated (symbols_of ring held g) a b c d f e ≡ Some z → z ≡ h_of ring g a b c d f e
  h_given held g a b c d f e z is given = five_given _ _ _ _ _ z given ∙ admitted is
    where
      admitted : f_admissible g.fuse a b c d e f ≡ true →
          ring.product (ring.product (ring.product (ring.product (ring.conjugate (f_of ring g a b c d e f)) (vertex_of ring g g.set_w b c f)) (vertex_of ring g g.set_w a f d)) (vertex_of ring g g.set_v a b e)) (vertex_of ring g g.set_v e c d)
          ≡ h_of ring g a b c d f e
      admitted h = rw h refl

  -- the conjugate of a value times two weights
  three_given : (x w u z : E) → (conjugate_at ring x >>= (λ (t : E). product_at ring t w >>= (λ (o : E). product_at ring o u))) ≡ Some z
      → z ≡ ring.product (ring.product (ring.conjugate x) w) u
  three_given x w u z e =
      let turned = bind_some (conjugate_at ring x) (λ (t : E). product_at ring t w >>= (λ (o : E). product_at ring o u)) z e in
      let one = bind_some (product_at ring turned.0 w) (λ (o : E). product_at ring o u) z turned.2 in
      let first = product_given ring turned.0 w one.0 one.1 ∙ ap (λ y. ring.product y w) (conjugate_given ring x turned.0 turned.1) in
      product_given ring one.0 u z one.2 ∙ ap (λ y. ring.product y u) first

  pub s_given : (held : Held E) (g : Given E) (a b c : ℕ) (z : E) → g.fuse a b c ≡ true → s_stated (symbols_of ring held g) a b c ≡ Some z → z ≡ s_of ring g a b c
  s_given held g a b c z is given = three_given _ _ _ z given ∙ admitted is
    where
      admitted : g.fuse a b c ≡ true →
          ring.product (ring.product (ring.conjugate (vertex_of ring g g.set_r b a c)) (vertex_of ring g g.set_w a b c)) (vertex_of ring g g.set_v b a c) ≡ s_of ring g a b c
      admitted h = rw h refl
