use Rattle.std.proofs.Common.{◌∷◌, refl}
use Rattle.lexc_forms.proofs.Marks.{other_first, unmarked_no_flag}
use Rattle.lexc_forms.proofs.Pieces.{no_piece}
use Rattle.lexc_forms.proofs.cutting.may_begin.Goals as goal

pub returns-else-character-eq64 : goal.returns-else-character-eq64
returns-else-character-eq64 c = λ none behind.
    let text = c.args.character ∷ behind in
    no_piece c.args.declared.now text (c.may_begin_with.ensures none behind) (unmarked_no_flag text (other_first text c.args.character behind refl c.if-character-eq64.false))
