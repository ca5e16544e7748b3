use Rattle.std.proofs.Common.{◌≡◌, ◌<◌, ℕ, List, Some, true, get_or, length, set, sym, subst, ap, ◌∙◌, arith}
use Rattle.std.specs.List.{slice_get}
use Rattle.word_relations.proofs.Places.{slice_get-set_same}
use Rattle.fsm_base.proofs.LoneLemmas.{marked_stays}
use Rattle.fsm_base.proofs.lone.mark_longer.Goals as goal

pub returns-clause-kept : goal.returns-clause-kept
returns-clause-kept c = λ byte h. marked_stays c.args.longer.now c.from.result byte h

pub returns-clause-marked : goal.returns-clause-marked
returns-clause-marked c = λ byte next rest is.
    let old = c.args.longer.now in
    let first : c.from.result ≡ byte = c.from.ensures ∙ ap (λ (t : List ℕ). get_or t 0 0) is in
    let small = c.type_inv.text 0 in
    let inside : byte < length old = omega (arith, small, c.from.ensures, c.requires) in
    subst (λ k. slice_get (set old k true) byte ≡ Some true) (sym first) (slice_get-set_same old byte true inside)
