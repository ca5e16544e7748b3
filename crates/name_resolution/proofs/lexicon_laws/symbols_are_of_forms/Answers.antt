use Rattle.name_resolution.proofs.TableSymbols.{symbols_of_forms}
use Rattle.name_resolution.proofs.lexicon_laws.symbols_are_of_forms.Goals as goal

pub returns : goal.returns
returns c = symbols_of_forms
