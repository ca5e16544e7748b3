use Rattle.project_sources.specs.Faults.{rows}
use Rattle.project_sources.specs.Laws.{all_readers}
use Rattle.project_sources.proofs.Once.{all_exact}
use Rattle.editor_meaning.proofs.Changing.{one_reply_to_order}
use Rattle.editor_meaning.proofs.laws.one_reply_to_order.Goals as goal

pub returns : goal.returns
returns c = one_reply_to_order all_readers rows all_exact
