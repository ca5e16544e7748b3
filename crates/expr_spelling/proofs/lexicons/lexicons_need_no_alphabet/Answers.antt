use Rattle.expr_meaning.specs.Leaves.{stands_for}
use Rattle.project_meaning.specs.Lexicons.{text_in}
use Rattle.project_meaning.specs.Meaning.{Meaning, stands_for as text_stands_for}
use Rattle.expr_spelling.proofs.LexiconAlphabets.{lexicons_free}
use Rattle.expr_spelling.proofs.lexicons.lexicons_need_no_alphabet.Goals as goal

pub returns : goal.returns
returns c = record { symbols = λ symbol_in. lexicons_free symbol_in stands_for; texts = λ project. lexicons_free text_in (text_stands_for (Meaning project)) }
