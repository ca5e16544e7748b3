use Rattle.std.proofs.Common.{take}
use Rattle.project_definitions.proofs.Telling.{LexiconsTell}
use Rattle.project_definitions.proofs.entries.form_of_lexicons.Given as goal

-- the form tells of the lexicons so far
abbrev pub invariant-lexicons : goal.invariant-lexicons
invariant-lexicons l = LexiconsTell l.names (take l.lexicon-index l.lexicons) l.form
