use Rattle.project_sources.specs.Laws.{all_readers}
use Rattle.project_sources.specs.Sources.{project_in}
use Rattle.project_sources.proofs.Sound.{sound_read}
use Rattle.std.proofs.Common.{refl, subst, sym}
use Rattle.project_store.specs.Projects.{HasTable}
use Rattle.project_store.proofs.Trying.{first_of_read}
use Rattle.project_store.proofs.reading.read.Goals as goal

pub returns-in-Ok-clause-project : goal.returns-in-Ok-clause-project
returns-in-Ok-clause-project c =
    let is = rw c.new-table.ensures at c.in-Ok.ensures.plan in
    let sound = sound_read all_readers c.args.sources.now (project_in is.said) (is.faultless, is.said, is.says, refl) in
    record {
      said = is.said;
      from = c.in_ok-of-in-Ok.ensures.loaded is.said is.stands sound;
      says = is.says;
      free = is.faultless;
      glosses = subst (HasTable c.args.sources.now) (sym c.in_ok-of-in-Ok.ensures.glosses) is.glosses;
    }

pub returns-in-Err-Refused-clause-error : goal.returns-in-Err-Refused-clause-error
returns-in-Err-Refused-clause-error c =
    rw c.in-Err-Refused.fault-is (first_of_read c.args.sources.now _ (rw c.in-Err-Refused.field-0-is at c.in-Err-Refused.ensures.plan))
