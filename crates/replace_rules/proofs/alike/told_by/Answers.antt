use Rattle.std.proofs.Common.{◌≡◌, ◌↔◌, List, length, arith, ap, sym, ◌∙◌}
use Rattle.fsa.specs.Complete.{Accepts}
use Rattle.replace_rules.proofs.Told.{columns_as, both_finer, both_divided}
use Rattle.replace_rules.proofs.alike.told_by.Goals as goal

pub determine-requires-clause-all : goal.determine-requires-clause-all
determine-requires-clause-all g c x used = rw c.letters.ensures.letters (c.in_ok-accepted.ensures.letters x used)

pub returns-clause-finer : goal.returns-clause-finer
returns-clause-finer g c =
    let same = c.requires ∙ sym c.in_ok-columns.ensures.count ∙ sym (ap length c.deref-2.ensures.value) in
    both_finer c.args.numbers.now c.deref-2.result.now c.in_ok-both.both.of_places.items c.in_ok-both.both.firsts.items same c.in_ok-both.ensures

pub returns-clause-divided : goal.returns-clause-divided
returns-clause-divided g c =
    let letters = c.args.letters.now in
    let numbers = c.args.numbers.now in
    let classes = c.in_ok-classes.classes in
    let same = c.requires ∙ sym c.in_ok-columns.ensures.count ∙ sym (ap length c.deref-2.ensures.value) in
    let none : c.len-none.result ≡ length classes.firsts.items = omega (arith, classes.firsts.ok.0, c.len-none.ensures) in
    let columns = columns_as letters c.letters-2.ensures.letters c.deref.ensures.value none (sym c.deref-2.ensures.value) c.in_ok-columns.ensures in
    both_divided numbers c.deref-2.result.now c.in_ok-both.both.of_places.items c.in_ok-both.both.firsts.items same c.in_ok-both.ensures c.in_ok-dfa.dfa c.letters-2.ensures.complete c.args.lang.now
    (λ w. (λ h. (c.in_ok-accepted.ensures.language w).0 ((c.in_ok-dfa.ensures.language w).0 h), λ h. (c.in_ok-dfa.ensures.language w).1 ((c.in_ok-accepted.ensures.language w).1 h)))
    letters c.requires classes.of_places.items classes.firsts.items c.in_ok-classes.ensures columns
