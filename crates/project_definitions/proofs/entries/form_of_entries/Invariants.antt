use Rattle.std.proofs.Common.{take}
use Rattle.project_definitions.proofs.Telling.{EntriesTell}
use Rattle.project_definitions.proofs.entries.form_of_entries.Given as goal

-- the form tells of the entries so far
abbrev pub invariant-entries : goal.invariant-entries
invariant-entries l = EntriesTell l.names (take l.entry-index l.entries) l.form
