-- What more triples and values don't change.
use Rattle.std.proofs.Common.{◌≡◌, List, [], ◌∷◌, refl, ◌∙◌}
use Rattle.cyclo_core.specs.Ratio.{Ratio}
use Rattle.symbol_table.specs.declared.index.VIndex.{VIndex}
use Rattle.category_text.specs.declared.kind.Symbol.{Symbol}
use Rattle.category_text.specs.Named.{NamedSymbols}
use Rattle.category_text.specs.Spelled.{fused_with, set_with, fused_all, set_all}
use Rattle.category_text.proofs.IndexLemmas.{fuse_with, count_with, version_with}

pub root_stays : (said : NamedSymbols) (ts : List VIndex) → (fused_all said ts).root ≡ said.root
root_stays said [] = refl
root_stays said (t ∷ ts) = root_stays (fused_with said t) ts

pub count_stays : (said : NamedSymbols) (ts : List VIndex) → (fused_all said ts).given.count ≡ said.given.count
count_stays said [] = refl
count_stays said (t ∷ ts) = count_stays (fused_with said t) ts

pub version_stays : (said : NamedSymbols) (ts : List VIndex) → (fused_all said ts).given.version ≡ said.given.version
version_stays said [] = refl
version_stays said (t ∷ ts) = version_stays (fused_with said t) ts

pub set_names : (said : NamedSymbols) (ss : List (Symbol × Ratio)) → (set_all said ss).names ≡ said.names
set_names said [] = refl
set_names said (s ∷ ss) = set_names (set_with said s.0 s.1) ss

pub set_root : (said : NamedSymbols) (ss : List (Symbol × Ratio)) → (set_all said ss).root ≡ said.root
set_root said [] = refl
set_root said (s ∷ ss) = set_root (set_with said s.0 s.1) ss

pub set_count : (said : NamedSymbols) (ss : List (Symbol × Ratio)) → (set_all said ss).given.count ≡ said.given.count
set_count said [] = refl
set_count said (s ∷ ss) = set_count (set_with said s.0 s.1) ss ∙ count_with said.given s.0 s.1

pub set_version : (said : NamedSymbols) (ss : List (Symbol × Ratio)) → (set_all said ss).given.version ≡ said.given.version
set_version said [] = refl
set_version said (s ∷ ss) = set_version (set_with said s.0 s.1) ss ∙ version_with said.given s.0 s.1

pub set_fuse : (said : NamedSymbols) (ss : List (Symbol × Ratio)) → (set_all said ss).given.fuse ≡ said.given.fuse
set_fuse said [] = refl
set_fuse said (s ∷ ss) = set_fuse (set_with said s.0 s.1) ss ∙ fuse_with said.given s.0 s.1
