-- The word at a place.
use Rattle.std.proofs.Common.{◌≡◌, ℕ, List, [], Option, Some, None, Bor, ap, refl, ◌∙◌}
use Rattle.std.specs.Prelude.{slice_get, option_copied, unwrap_or}
use Rattle.std.proofs.lemmas.Option.{unwrap_or-slice_get}
use Rattle.line_text.specs.Text.{word_in}

pub word_is : (o : Option (Bor (List ℕ))) (b d : Bor (List ℕ)) (words : List (List ℕ)) (place : ℕ) → option_copied o ≡ slice_get words place → b ≡ unwrap_or o d → d.now ≡ [] → b.now ≡ word_in words place
word_is o b d words place e f g = ap (λ (x : Bor (List ℕ)). x.now) f ∙ by_case o d g ∙ ap (λ (x : Option (List ℕ)). unwrap_or x []) e ∙ unwrap_or-slice_get words place []
  where
    by_case : (o : Option (Bor (List ℕ))) (d : Bor (List ℕ)) → d.now ≡ [] → (unwrap_or o d).now ≡ unwrap_or (option_copied o) []
    by_case None d g = g
    by_case (Some x) d g = refl
