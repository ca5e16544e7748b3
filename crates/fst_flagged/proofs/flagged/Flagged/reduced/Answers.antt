use Rattle.std.proofs.Common.{◌≡◌, List, subst, sym, ◌∙◌}
use Rattle.fsm_base.specs.declared.letters.Sym.{Sym}
use Rattle.word_relations.specs.Relations.{AreSame}
use Rattle.fst_flagged.specs.declared.condition.Condition.{Condition}
use Rattle.fst_flagged.specs.Flagged.{FlaggedView, FlaggedRelates, StandApart, UsesLetters}
use Rattle.fst_flagged.proofs.Stands.{same_stands, same_letters, same_relation}
use Rattle.fst_flagged.proofs.flagged.Flagged.reduced.Goals as goal

pub invariant_of-result : goal.invariant_of-result
invariant_of-result c =
    let f : FlaggedView = record { net = c.self.inside.net; conditions = c.self.inside.conditions.items } in
    let net = c.in_ok-net.net in
    subst (λ (cs : List Condition). StandApart (record { net = net; conditions = cs })) (sym (c.in_ok-conditions.ensures ∙ c.as_slice.ensures.value))
    (same_stands f net c.self.invariant c.in_ok-net.ensures.letters)

pub returns-clause-letters : goal.returns-clause-letters
returns-clause-letters c =
    let f : FlaggedView = record { net = c.self.inside.net; conditions = c.self.inside.conditions.items } in
    let net = c.in_ok-net.net in
    subst (λ (z : FlaggedView). (symbols : List Sym) → UsesLetters symbols z → UsesLetters symbols (record { net = net; conditions = c.in_ok-conditions.conditions.items })) c.self.view_is
    (subst (λ (cs : List Condition). (symbols : List Sym) → UsesLetters symbols f → UsesLetters symbols (record { net = net; conditions = cs })) (sym (c.in_ok-conditions.ensures ∙ c.as_slice.ensures.value))
    (same_letters f net c.in_ok-net.ensures.letters))

pub returns-clause-relation : goal.returns-clause-relation
returns-clause-relation c =
    let f : FlaggedView = record { net = c.self.inside.net; conditions = c.self.inside.conditions.items } in
    let net = c.in_ok-net.net in
    subst (λ (z : FlaggedView). AreSame (FlaggedRelates (record { net = net; conditions = c.in_ok-conditions.conditions.items })) (FlaggedRelates z)) c.self.view_is
    (subst (λ (cs : List Condition). AreSame (FlaggedRelates (record { net = net; conditions = cs })) (FlaggedRelates f)) (sym (c.in_ok-conditions.ensures ∙ c.as_slice.ensures.value))
    (same_relation f net c.in_ok-net.ensures.language))
