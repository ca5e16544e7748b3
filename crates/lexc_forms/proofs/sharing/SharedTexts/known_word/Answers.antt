use Rattle.std.proofs.Common.{ap, sym, ◌∙◌}
use Rattle.std.proofs.lemmas.Slice.Eq.{slice_eq-Decides}
use Rattle.lexc_forms.specs.Letters.{text_of}
use Rattle.lexc_forms.proofs.Equal.{same_letter}
use Rattle.lexc_forms.proofs.sharing.SharedTexts.known_word.Goals as goal

pub returns-then-eq : goal.returns-then-eq
returns-then-eq c =
    let own = rw c.in-Some.is at c.self.invariant.1 in
    let letters = sym c.as_slice.ensures.value ∙ (slice_eq-Decides same_letter c.as_slice.result.now c.args.letters.now c.eq.result c.eq.ensures).0 c.if-eq.true in
    own ∙ ap text_of letters
