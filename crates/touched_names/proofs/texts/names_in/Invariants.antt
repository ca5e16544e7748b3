use Rattle.std.proofs.Common.{◌≡◌, take}
use Rattle.touched_names.specs.Itself.{names_in}
use Rattle.touched_names.proofs.texts.names_in.Given as goal

-- the names of the definitions so far
abbrev pub invariant-definitions : goal.invariant-definitions
invariant-definitions l = l.names.items ≡ names_in (take l.definition-index l.definitions)
