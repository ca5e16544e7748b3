use Rattle.std.proofs.Common.{◌≡◌, ◌++◌, ◌∷◌, codes, decimal, take}
use Rattle.std.specs.List.{flat_map}
use Rattle.std.specs.String.{string_bytes}
use Rattle.reply_text.proofs.projects.accepted.Given as goal

-- the number, and the names so far
abbrev pub invariant-names : goal.invariant-names
invariant-names l = string_bytes l.reply ≡ codes "ok " ++ decimal l.fn.number ++ codes " rebuilt" ++ flat_map (λ name. 32 ∷ name) (take l.name-index l.fn.names)
