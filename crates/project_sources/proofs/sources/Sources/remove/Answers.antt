use Rattle.project_sources.proofs.Filed.{updated_file}
use Rattle.project_sources.proofs.sources.Sources.remove.Goals as goal

pub returns : goal.returns
returns c = λ name. rw (← c.self.view_is) (updated_file c.args.file.now c.self.inside.files c.shift_remove.new.self _ c.shift_remove.ensures.updates name)
