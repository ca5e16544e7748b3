use Rattle.std.proofs.lemmas.Slice.Eq.{slice_eq-Decides}
use Rattle.lexc_forms.proofs.Equal.{same_letter}
use Rattle.lexc_reader.proofs.words.is_symbols.Goals as goal

pub returns : goal.returns
returns c = rw c.as_slice.ensures at (slice_eq-Decides same_letter c.args.letters.now c.as_slice.result.now c.eq.result c.eq.ensures)
