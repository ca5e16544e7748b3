use Rattle.std.proofs.Common.{◌≡◌, ◌++◌, drop, map}
use Rattle.name_resolution.specs.Symbols.{terms_behind}
use Rattle.name_resolution.specs.Plain.{lexicon_of}
use Rattle.project_meaning.specs.Leaves.{expressions_of}
use Rattle.project_meaning.specs.Trees.{lexc}
use Rattle.name_resolution.proofs.listing.expressions.Given as goal

-- what was found, and what is in the other items
abbrev pub invariant-lexicons : goal.invariant-lexicons
invariant-lexicons g l = terms_behind l.found.items ++ expressions_of (lexc (map lexicon_of (drop l.lexicon-index l.lexicons))) ≡ expressions_of (lexc (map lexicon_of l.lexicons))
