use Rattle.expr_meaning.specs.Leaves.{stands_for}
use Rattle.project_meaning.specs.Lexicons.{text_in}
use Rattle.project_meaning.specs.Meaning.{Meaning, stands_for as text_stands_for}
use Rattle.expr_spelling.proofs.LexiconSpelling.{lexicons_spelled}
use Rattle.expr_spelling.proofs.lexicons.lexicons_are_spelled.Goals as goal

pub returns : goal.returns
returns c project symbol_in = lexicons_spelled symbol_in text_in stands_for (text_stands_for (Meaning project))
