-- A text that is put behind others.
use Rattle.std.proofs.Common.{◌≡◌, ℕ, cond, false, List, [], ◌∷◌, ◌++◌, ap}
use Rattle.std.specs.List.{list_any}
use Rattle.std.specs.Str.{bytes_eq}
use Rattle.fsm_base.specs.Symbols.{with_text}

pub with_text-new : (text : List ℕ) (texts : List (List ℕ)) → list_any (bytes_eq text) texts ≡ false → with_text text texts ≡ texts ++ text ∷ []
with_text-new text texts none = ap (λ b. cond b texts (texts ++ text ∷ [])) none
