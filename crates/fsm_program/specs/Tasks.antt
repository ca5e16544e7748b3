-- What is done with the lines of an input, and the replies to a line by that.
use Rattle.std.specs.Prelude.{ℕ, List, Option}
use Rattle.interlinear.specs.Glosses.{Entry}
use Rattle.interlinear.specs.Replies.{GlossesLine, GlossesText}
use Rattle.pair_lines.specs.Ready.{ShowsRules}
use Rattle.pair_lines.specs.Replies.{RepliesToPairs, RepliesToText as RepliesToPairText}
use Rattle.project_meaning.specs.Projects.{Project}
use Rattle.project_store.specs.Networks.{Shows}
use Rattle.reply_meaning.specs.Replies.{Replies, RepliesToWord}
use Rattle.saved_networks.specs.Networks.{IsSavedAs}
use Rattle.saved_networks.specs.Replies.{RepliesBySaved, RepliesToWordBySaved}
use Rattle.fsm_program.specs.declared.look_up.Subject.{Subject}
use Rattle.fsm_program.specs.declared.look_up.Subject.TheVariants.{Named, Rules, Saved}
use Rattle.fsm_program.specs.declared.look_up.Task.{Task}
use Rattle.fsm_program.specs.declared.look_up.Task.TheVariants.{Words, Glosses}

-- the reply to the text of a line
abbrev pub RepliesToText : Task → Project → List Entry → ℕ → List ℕ → List ℕ → List ℕ → Type 0
RepliesToText (Words direction) project table version net text bytes = RepliesToWord project direction version net text bytes
RepliesToText Glosses project table version net text bytes = GlossesText project table version net text bytes

-- the reply to a line as it is told
abbrev pub RepliesToLine : Task → Project → List Entry → ℕ → List ℕ → Option (List ℕ) → List ℕ → Type 0
RepliesToLine (Words direction) project table version net line bytes = Replies project direction version net line bytes
RepliesToLine Glosses project table version net line bytes = GlossesLine project table version net line bytes

-- the reply to the text of a line, and to a line as it is told, in what it is looked up in: by the project that has a network or rules
-- under a name, or by the text that a network was saved as
abbrev pub RepliesToTextIn : Subject → ℕ → List ℕ → List ℕ → Type 0
RepliesToTextIn (Named network task) version text bytes = (project : Project) → Shows network project → RepliesToText task project network.glosses version network.name text bytes
RepliesToTextIn (Rules rules) version text bytes = (project : Project) → ShowsRules rules project → RepliesToPairText project version rules.name text bytes
RepliesToTextIn (Saved network) version text bytes = (saved : List ℕ) → IsSavedAs saved network → RepliesToWordBySaved saved version text bytes

abbrev pub RepliesToLineIn : Subject → ℕ → Option (List ℕ) → List ℕ → Type 0
RepliesToLineIn (Named network task) version line bytes = (project : Project) → Shows network project → RepliesToLine task project network.glosses version network.name line bytes
RepliesToLineIn (Rules rules) version line bytes = (project : Project) → ShowsRules rules project → RepliesToPairs project version rules.name line bytes
RepliesToLineIn (Saved network) version line bytes = (saved : List ℕ) → IsSavedAs saved network → RepliesBySaved saved version line bytes
