use Rattle.std.proofs.Common.{◌≡◌, ◌+◌, ◌-◌, ◌^◌, drop, min}
use Rattle.regex_ast.specs.Terms.{groups_of}
use Rattle.regex_reader.specs.Tests.{mappings_in, contexts_in}
use Rattle.regex_reader.proofs.findings.are_large.Given as goal

-- what was counted with what is left, each as far as numbers go
abbrev pub invariant-groups : goal.invariant-groups
invariant-groups l =
    (min (l.mappings + mappings_in (groups_of (drop l.group-index l.groups))) (2 ^ 64 - 1) ≡ min (mappings_in (groups_of l.groups)) (2 ^ 64 - 1))
    × (min (l.contexts + contexts_in (groups_of (drop l.group-index l.groups))) (2 ^ 64 - 1) ≡ min (contexts_in (groups_of l.groups)) (2 ^ 64 - 1))
