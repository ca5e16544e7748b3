use Rattle.std.proofs.Common.{◌≡◌, ◌≤◌, Some, length, rules, ap, sym, ◌∙◌}
use Rattle.std.proofs.lemmas.Option.{slice_get-get_or}
use Rattle.std.specs.List.{slice_get}
use Rattle.lookup.proofs.Stepping.{visits_inside, visits_past}
use Rattle.lookup.proofs.part.visit.Goals as goal

pub returns-in_default : goal.returns-in_default
returns-in_default c =
    let past : length c.args.word.now ≤ c.args.config.place = search (rules, c.in_default.ensures.lookup) in
    visits_past c.args.table.now c.args.finals.now c.args.word.now c.args.config c.out-epsilon.result.now past c.out-epsilon.ensures c.args.node c.args.explored.now c.follow.new.explored c.end.new.explored c.in_ok-follow.ensures c.in_ok-end.ensures

pub returns : goal.returns
returns c =
    let found = c.in-Some.ensures.lookup in
    let at : slice_get c.args.word.now c.args.config.place ≡ Some c.in-Some.symbol.now = slice_get-get_or c.args.word.now c.args.config.place c.in-Some.symbol.now found.3.0 ∙ ap Some (sym found.1) in
    visits_inside c.args.table.now c.args.finals.now c.args.word.now c.args.config c.in-Some.symbol.now c.out-epsilon.result.now c.out-reading.result.now at c.out-epsilon.ensures c.out-reading.ensures c.args.node c.args.explored.now c.follow.new.explored c.follow-2.new.explored c.in_ok-follow.ensures c.in_ok-follow-2.ensures
