use Rattle.std.proofs.Common.{◌++◌, codes, refl, sym}
use Rattle.std.proofs.lemmas.Option.{slice_get_within}
use Rattle.project_store.proofs.Shown.{defined_here, name_there, shows_none}
use Rattle.named_networks.specs.Comparisons.{first_relation, no_first, no_second, second_relation}
use Rattle.named_networks.proofs.comparing.look_up.Goals as goal

pub returns-in_default-clause-named : goal.returns-in_default-clause-named
returns-in_default-clause-named c said from = (codes "net " ++ c.args.first.now, no_first (shows_none said c.args.project.now from c.args.first.now c.in_default.ensures) refl, c.in_ok-no_net.ensures)

pub returns-in_default-find-clause-named : goal.returns-in_default-find-clause-named
returns-in_default-find-clause-named c said from =
    let loaded = c.args.project.now in
    let (d, at, named) = c.in-Some.ensures in (
      codes "net " ++ c.args.second.now,
      no_second (defined_here said loaded from c.in-Some.one d at c.args.first.now named) (shows_none said loaded from c.args.second.now c.in_default-find.ensures) refl,
      c.in_ok-no_net-2.ensures,
    )

pub kind_at-requires : goal.kind_at-requires
kind_at-requires c = let (d, at, named) = c.in-Some.ensures in slice_get_within c.args.project.now.definitions c.in-Some.one d at

pub kind_at-requires-2 : goal.kind_at-requires-2
kind_at-requires-2 c = let (d, at, named) = c.in-Some-find.ensures in slice_get_within c.args.project.now.definitions c.in-Some-find.other d at

pub returns-in_ok-relation-in-Relation-default-clause-named : goal.returns-in_ok-relation-in-Relation-default-clause-named
returns-in_ok-relation-in-Relation-default-clause-named c said from =
    let loaded = c.args.project.now in
    let (d, at, named) = c.in-Some.ensures in
    let (e, also, called) = c.in-Some-find.ensures in
    let kind = sym (c.in-Relation-default.ensures.kind said c.args.first.now from (name_there said loaded from c.in-Some.one d at c.args.first.now named)) in (
      codes "relation " ++ c.args.first.now,
      first_relation (defined_here said loaded from c.in-Some.one d at c.args.first.now named) (defined_here said loaded from c.in-Some-find.other e also c.args.second.now called) kind refl,
      c.in_ok-relation-in-Relation-default.ensures,
    )

pub returns-in_ok-relation-in-Language-Relation-clause-named : goal.returns-in_ok-relation-in-Language-Relation-clause-named
returns-in_ok-relation-in-Language-Relation-clause-named c said from =
    let loaded = c.args.project.now in
    let (d, at, named) = c.in-Some.ensures in
    let (e, also, called) = c.in-Some-find.ensures in
    let first = sym (c.in-Language-Relation.ensures.kind said c.args.first.now from (name_there said loaded from c.in-Some.one d at c.args.first.now named)) in
    let second = sym (c.in-Language-Relation.ensures'.kind said c.args.second.now from (name_there said loaded from c.in-Some-find.other e also c.args.second.now called)) in (
      codes "relation " ++ c.args.second.now,
      second_relation (defined_here said loaded from c.in-Some.one d at c.args.first.now named, first) (defined_here said loaded from c.in-Some-find.other e also c.args.second.now called) second refl,
      c.in_ok-relation-in-Language-Relation.ensures,
    )

pub returns-in-Language-Language-clause-named : goal.returns-in-Language-Language-clause-named
returns-in-Language-Language-clause-named c said from =
    let loaded = c.args.project.now in
    let (d, at, named) = c.in-Some.ensures in
    let (e, also, called) = c.in-Some-find.ensures in
    let one = name_there said loaded from c.in-Some.one d at c.args.first.now named in
    let other = name_there said loaded from c.in-Some-find.other e also c.args.second.now called in (
      ((defined_here said loaded from c.in-Some.one d at c.args.first.now named, sym (c.in-Language-Language.ensures.kind said c.args.first.now from one)), one),
      ((defined_here said loaded from c.in-Some-find.other e also c.args.second.now called, sym (c.in-Language-Language.ensures'.kind said c.args.second.now from other)), other),
    )

pub returns-in-Language-Language-clause-places : goal.returns-in-Language-Language-clause-places
returns-in-Language-Language-clause-places c =
    let loaded = c.args.project.now in
    let (d, at, named) = c.in-Some.ensures in
    let (e, also, called) = c.in-Some-find.ensures in (
      record { within = slice_get_within loaded.definitions c.in-Some.one d at; kind = sym c.in-Language-Language.ensures.form },
      record { within = slice_get_within loaded.definitions c.in-Some-find.other e also; kind = sym c.in-Language-Language.ensures'.form },
    )
