use Rattle.std.proofs.Common.{◌≡◌, ◌+◌, ◌++◌, [], ◌∷◌, Contains, take, ap, sym, subst, inl, inr, ◌∙◌}
use Rattle.std.proofs.lemmas.List.{take_all, take_more}
use Rattle.std.proofs.lemmas.List.Elements.{Contains-push_cases}
use Rattle.fsa_partial.specs.Groups.{LeaveApart}
use Rattle.fsa_partial.proofs.Searched.{leave_apart_of}
use Rattle.fsa_partial.proofs.checking.leave_apart.Goals as goal

pub loop-arcs-preserved : goal.loop-arcs-preserved
loop-arcs-preserved c = λ arcs h.
    let groups = c.args.groups.now in
    let i = c.loop-arcs.arcs-index in
    let v = c.arcs-item.result in
    let front : take (i + 1) groups ≡ take i groups ++ v ∷ [] = take_more groups i v c.loop-arcs-test.true ∙ ap (λ z. take i groups ++ z ∷ []) (sym c.arcs-item.is) in
    elim (Contains-push_cases (take i groups) v arcs (subst (λ gs. Contains gs arcs) front h)) [
      | inl old ↦ c.loop-arcs.invariant arcs old
      | inr this ↦ subst (λ u. LeaveApart u.items) this (leave_apart_of v.items (rw (c.deref-in-loop-arcs.ensures.value, c.in_ok-sources.ensures, c.deref.ensures.value) at (c.in_ok-are_apart.ensures c.if-not-are_apart.false)))
    ]

pub returns : goal.returns
returns c = λ _ arcs h. c.loop-arcs.invariant arcs (subst (λ gs. Contains gs arcs) (sym (take_all c.loop-arcs.arcs-index c.args.groups.now c.loop-arcs-test.false)) h)
