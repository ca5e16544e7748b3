use Rattle.std.proofs.Common.{◌≡◌, [], ◌∷◌, ◌++◌, ap, subst, sym, ◌∙◌}
use Rattle.std.specs.List.{Contains}
use Rattle.word_relations.proofs.Members.{Contains-nil_cases}
use Rattle.fsa_explore.specs.Targets.{AreWithin}
use Rattle.lookup.specs.Walks.{IsFront}
use Rattle.lookup.proofs.Fronts.{front_first}
use Rattle.lookup.proofs.walk.first_front.Goals as goal

pub close-requires : goal.close-requires
close-requires c =
    let bound = c.in_ok-add.ensures.ok.grows.bound ∙ ap (λ m. m.bound) c.clear.ensures in
    subst (λ n. AreWithin c.args.rows.now n) (sym bound) c.requires.within

pub returns-clause-front : goal.returns-clause-front
returns-clause-front c =
    let cleared : c.clear.new.self.found ≡ [] = ap (λ m. m.found) c.clear.ensures in
    let added : c.add.new.self.found ≡ 1 ∷ [] =
    ap (λ m. m.found) (c.in_ok-add.ensures.last (λ h. Contains-nil_cases 1 (subst (λ ks. Contains ks 1) cleared h))) ∙ ap (λ ks. ks ++ 1 ∷ []) cleared in
    let first = front_first c.args.rows.now c.add.new.self c.close.new.states added c.in_ok-close.ensures.ok in
    subst (λ ks. IsFront c.args.rows.now [] ks) (sym (c.in_ok-front.ensures.items ∙ c.found.ensures.found)) first
