use Rattle.std.proofs.Common.{List, ℕ, subst}
use Rattle.flag_diacritics.specs.declared.setting.Setting.{Setting}
use Rattle.flag_diacritics.specs.Idle.{HasSettled}
use Rattle.flag_diacritics.proofs.Finding.{listed_at, keeps_inserted, are_settled_more}
use Rattle.flag_diacritics.proofs.tables.FeatureTable.number_of.Goals as goal

pub returns-clause-number : goal.returns-clause-number
returns-clause-number c =
    let stored = c.in_ok-number.ensures.stored in
    listed_at (λ k. k.items) c.args.list.items _ c.in_ok-number.number stored.0 stored.1 stored.2

pub invariant_of-self-2 : goal.invariant_of-self-2
invariant_of-self-2 c =
    let ok = c.in_ok-number.ensures in
    let list : List Setting = c.args.list.items in
    let bits : ℕ = c.settled-bits.result in
    let has : HasSettled bits list = subst (HasSettled bits) c.deref.ensures.value c.settled-bits.ensures in
    are_settled_more _ _ c.self.inside.settled.items c.note.new.settled.items c.in_ok-number.number bits list c.self.invariant
    (keeps_inserted (λ k. k.items) _ c.self.inside.lists.keys c.insert_full.new.self.keys c.args.list ok.keys)
    (listed_at (λ k. k.items) list _ c.in_ok-number.number ok.stored.0 ok.stored.1 ok.stored.2) has c.note.ensures
