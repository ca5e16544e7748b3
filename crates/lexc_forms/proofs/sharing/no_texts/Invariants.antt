use Rattle.lexc_forms.specs.Shared.{AreTexts}
use Rattle.lexc_forms.proofs.sharing.no_texts.Given as goal

abbrev pub invariant-places : goal.invariant-places
invariant-places l = AreTexts l.places.items
