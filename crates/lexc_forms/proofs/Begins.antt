-- Marks of the characters that symbols may begin with.
use Rattle.std.proofs.Common.{◌++◌, ℕ, Bool, List, [], ◌∷◌}
use Rattle.std.proofs.lemmas.List.Elements.{All-push, All-weaker}
use Rattle.lexc_forms.specs.Kept.{IsMarkedFor, AreMarked}

pub with_marked : (old new : List Bool) (symbols : List (List ℕ)) (symbol : List ℕ) → ((text : List ℕ) → IsMarkedFor old text → IsMarkedFor new text) → AreMarked old symbols → IsMarkedFor new symbol → AreMarked new (symbols ++ symbol ∷ [])
with_marked old new symbols symbol keeps marked here = All-push (IsMarkedFor new) symbols symbol (All-weaker (IsMarkedFor old) (IsMarkedFor new) keeps symbols marked) here
