-- What a folder was asked for where nothing was.
use Rattle.std.proofs.Common.{List, [], Option, None, Some, refl, inr}
use Rattle.fsm_io.specs.Folders.{Asked as Read, Files, Told}
use Rattle.fsm_program.specs.Ends.{Asked, AskedFor, for_att, for_check, for_compared, for_gen, for_help, for_look, for_pairs, for_saved, for_serve}
use Rattle.fsm_program.specs.Files.{AreWanted, AskedForFiles}
use Rattle.fsm_program.proofs.Gathering.{asked_nothing}

none_wanted : (files : Option Files) → Told files (AreWanted [])
none_wanted None = tt
none_wanted (Some files) = tt

no_file : (files : Option Files) (old : Option (List Read)) → AskedForFiles files old old
no_file files old = ([], asked_nothing old old refl, none_wanted files)

-- whatever the words ask for, nothing of the folder is lawful
pub asked_none : (asked : Option Asked) (files : Option Files) (old : Option (List Read)) → AskedFor asked files old old
asked_none None files old = no_file files old
asked_none (Some for_check) files old = no_file files old
asked_none (Some (for_look query)) files old = no_file files old
asked_none (Some for_serve) files old = no_file files old
asked_none (Some (for_gen stems)) files old = no_file files old
asked_none (Some (for_att net)) files old = no_file files old
asked_none (Some (for_saved file)) files old = inr refl
asked_none (Some (for_pairs net)) files old = no_file files old
asked_none (Some (for_compared question first second)) files old = no_file files old
asked_none (Some for_help) files old = no_file files old
