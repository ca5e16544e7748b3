-- The replies of a session of look-ups, as steps of a transcript.
use Rattle.std.specs.Prelude.{ℕ, List, Option}
use Rattle.reply_meaning.specs.Transcripts.{WithoutState}
use Rattle.fsm_program.specs.Tasks.{RepliesToLineIn}
use Rattle.fsm_program.specs.declared.look_up.LookUp.{LookUp}

-- each line has its reply in what it is looked up in
abbrev pub steps : LookUp → Unit {0} → Option (List ℕ) → List ℕ → Unit {0} → Type 0
steps look_up = WithoutState (RepliesToLineIn look_up.subject look_up.version)
