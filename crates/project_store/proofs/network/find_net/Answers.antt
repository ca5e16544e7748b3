use Rattle.std.proofs.lemmas.Option.{slice_get_within}
use Rattle.project_store.proofs.Shown.{shows_name, shows_none}
use Rattle.project_store.proofs.network.find_net.Goals as goal

pub network_at-requires : goal.network_at-requires
network_at-requires c = record {
  place = let (d, at, named) = c.in-Some.ensures in slice_get_within c.args.project.now.definitions c.in-Some.place d at;
  centres = c.requires;
}

pub returns-in_ok-of-in-Some-clause-over : goal.returns-in_ok-of-in-Some-clause-over
returns-in_ok-of-in-Some-clause-over c = c.in_ok-of-in-Some.ensures.alphabet c.args.project.now.alphabet c.in_ok-network-in-Some.ensures.over

pub returns-in_ok-of-in-Some-clause-shows : goal.returns-in_ok-of-in-Some-clause-shows
returns-in_ok-of-in-Some-clause-shows c said from =
    let (d, at, named) = c.in-Some.ensures in
    let over = c.in_ok-of-in-Some.ensures.alphabet c.args.project.now.alphabet c.in_ok-network-in-Some.ensures.over in
    shows_name said c.args.project.now from c.in-Some.place d at c.args.name.now named c.in_ok-network-in-Some.network c.in_ok-of-in-Some.field-0.net c.in_ok-network-in-Some.ensures c.in_ok-of-in-Some.ensures.relation over

pub returns-in-None-clause-shows : goal.returns-in-None-clause-shows
returns-in-None-clause-shows c said from = shows_none said c.args.project.now from c.args.name.now c.in-None.ensures
