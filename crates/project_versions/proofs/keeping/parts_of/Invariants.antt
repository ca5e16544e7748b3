use Rattle.std.proofs.Common.{◌≡◌, take}
use Rattle.project_versions.specs.Keeping.{parts_in}
use Rattle.project_versions.proofs.keeping.parts_of.Given as goal

-- the networks so far
abbrev pub invariant-kept : goal.invariant-kept
invariant-kept l = l.parts.items ≡ parts_in (take l.one-index l.kept)
