use Rattle.std.proofs.Common.{◌<◌, ◌+◌, ◌^◌, ℕ, List, length, not, sym, ap, subst, ◌∙◌, arith}
use Rattle.fsm_base.proofs.TextLemmas.{unchanged}
use Rattle.name_resolution.proofs.Texts.{one_longer}
use Rattle.name_resolution.proofs.names.Names.add.Goals as goal

pub returns-then-contains-clause-new : goal.returns-then-contains-clause-new
returns-then-contains-clause-new c = rw (← c.self.view_is) (ap not (sym c.if-contains.true ∙ c.contains.ensures))

pub returns-then-contains-clause-names : goal.returns-then-contains-clause-names
returns-then-contains-clause-names c = rw (← c.self.view_is) (unchanged c.args.name.now c.self.inside.texts (sym c.contains.ensures ∙ c.if-contains.true))

pub invariant_of-self-2 : goal.invariant_of-self-2
invariant_of-self-2 c =
    let texts = c.self.inside.texts in
    let few : length texts + 1 < 2 ^ 32 = subst (λ (v : List (List ℕ)). length v + 1 < 2 ^ 32) (sym c.self.view_is) c.requires in
    record {
      distinct = c.in_ok-add.ensures.once;
      few = subst (λ (v : List (List ℕ)). length v < 2 ^ 32) (sym c.in_ok-add.ensures.table) (omega (arith, few, one_longer c.args.name.now texts (length texts) (omega arith)));
    }

pub returns-clause-new : goal.returns-clause-new
returns-clause-new c = rw (← c.self.view_is) (ap not (sym c.if-contains.false ∙ c.contains.ensures))

pub returns-clause-names : goal.returns-clause-names
returns-clause-names c = rw (← c.self.view_is) c.in_ok-add.ensures.table
