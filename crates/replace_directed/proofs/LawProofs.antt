-- Directed rules of languages keep the laws of directed rules.
use Rattle.directed_words.proofs.Leaving.{directed_leave_others, directed_are_rewritings}
use Rattle.directed_words.proofs.Overlap.{directed_agree_without_overlap, directed_agree_on_symbols}
use Rattle.replace_directed.specs.Directed.{IsMatch, ReplacesIn}
use Rattle.replace_directed.specs.Laws.{DirectedLeavesOthers, DirectedIsRewriting, DirectedAgreesWithoutOverlap, DirectedAgreesOnSymbols}

pub leaves_others : DirectedLeavesOthers
leaves_others symbols way maps contexts u over none w =
    directed_leave_others (IsMatch maps contexts) (ReplacesIn maps contexts) symbols way u (λ before behind c r h. ((h.0.0, h.0.1, h.0.2), h.1)) over none w

pub is_rewriting : DirectedIsRewriting
is_rewriting symbols way maps contexts u w no_empty h = directed_are_rewritings (IsMatch maps contexts) (ReplacesIn maps contexts) symbols way u w (λ x z match. no_empty match.0) h

pub agrees_without_overlap : DirectedAgreesWithoutOverlap
agrees_without_overlap symbols way maps contexts u w no_empty apart =
    directed_agree_without_overlap (IsMatch maps contexts) (ReplacesIn maps contexts) symbols way u w (λ before behind c r h. ((h.0.0, h.0.1, h.0.2), h.1)) (λ x z match. no_empty match.0) apart

pub agrees_on_symbols : DirectedAgreesOnSymbols
agrees_on_symbols symbols way other maps contexts u w ones =
    directed_agree_on_symbols (IsMatch maps contexts) (ReplacesIn maps contexts) symbols way other u w (λ before behind c r h. ((h.0.0, h.0.1, h.0.2), h.1)) (λ x c z match. ones c match.0)
