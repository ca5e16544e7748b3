use Rattle.std.proofs.Common.{IsTrue, arith, rules, subst, length, ◌≤◌}
use Rattle.std.specs.Prelude.{option_copied}
use Rattle.word_relations.specs.Answers.{most_answers}
use Rattle.lookup_walk.specs.declared.walk.Trail.{Trail}
use Rattle.lookup_walk.specs.Walks.{Adds, Goes}
use Rattle.lookup_walk.proofs.Found.{writes_over, all_found}
use Rattle.lookup_walk.proofs.walk.walked.Goals as goal

pub go-requires-clause-moves : goal.go-requires-clause-moves
go-requires-clause-moves c = writes_over c.args.direction c.args.net.now c.way-way.result.table.now c.way-way.result.finals.now (option_copied c.way-way.result.rules) c.way-way.ensures c.args.alphabet.now c.requires

pub returns : goal.returns
returns c =
    let whole : IsTrue c.in_ok-go.field-0 = search rules in
    let old : Trail = record { written = c.in_ok-with_capacity.field-0; found = c.new.result } in
    let few : length c.in_order-texts.result.items ≤ most_answers = omega (arith, c.in_order-texts.result.ok.0, c.len.ensures) in
    all_found c.args.direction c.args.net.now c.way-way.result.table.now c.way-way.result.finals.now (option_copied c.way-way.result.rules) c.way-way.ensures c.args.alphabet.now c.in_ok-values.values c.in_ok-values.ensures c.args.word.now old c.go.new.trail
    c.in_ok-with_capacity.ensures.items c.new.ensures.items (c.in_ok-go.ensures whole) c.in_order-texts.result.items c.in_order-texts.ensures.same c.in_order-texts.ensures.in_order few
