use Rattle.std.proofs.Common.{Option, subst, ap}
use Rattle.std.specs.Prelude.{option_copied}
use Rattle.flag_runs.specs.Runs.{RulesView}
use Rattle.lookup_walk.specs.Ways.{IsWay}
use Rattle.lookup.proofs.Obeying.{flagged_symbols, flagged_words, plain_words}
use Rattle.lookup.proofs.part.part_of.Goals as goal

pub returns-in_default-clause-words : goal.returns-in_default-clause-words
returns-in_default-clause-words c =
    let way = subst (λ (rules : Option RulesView). IsWay c.args.direction c.args.net.now c.way-way.result.table.now c.way-way.result.finals.now rules) (ap (λ o. option_copied o) c.in_default.is) c.way-way.ensures in
    plain_words c.args.direction c.args.net.now c.way-way.result.table.now c.way-way.result.finals.now c.args.word.now c.in_ok-part.part.edges.items
    (λ m w are ends. c.in_ok-part.ensures.words c.args.direction m w are ends) (λ m s are held. c.in_ok-part.ensures.symbols c.args.direction m s are held) way

pub returns-clause-symbols : goal.returns-clause-symbols
returns-clause-symbols c =
    let way = subst (λ (rules : Option RulesView). IsWay c.args.direction c.args.net.now c.way-way.result.table.now c.way-way.result.finals.now rules) (ap (λ o. option_copied o) c.in-Some.is) c.way-way.ensures in
    flagged_symbols c.args.direction c.args.net.now c.way-way.result.table.now c.way-way.result.finals.now c.args.word.now c.in_ok-part.part.edges.items
    (λ m w are ends. c.in_ok-part.ensures.words c.args.direction m w are ends) (λ m s are held. c.in_ok-part.ensures.symbols c.args.direction m s are held)
    c.in-Some.rules.now way c.in_ok-plain.plain.edges.items c.in_ok-plain.ensures.symbols

pub returns-clause-words : goal.returns-clause-words
returns-clause-words c =
    let way = subst (λ (rules : Option RulesView). IsWay c.args.direction c.args.net.now c.way-way.result.table.now c.way-way.result.finals.now rules) (ap (λ o. option_copied o) c.in-Some.is) c.way-way.ensures in
    flagged_words c.args.direction c.args.net.now c.way-way.result.table.now c.way-way.result.finals.now c.args.word.now c.in_ok-part.part.edges.items
    (λ m w are ends. c.in_ok-part.ensures.words c.args.direction m w are ends) (λ m s are held. c.in_ok-part.ensures.symbols c.args.direction m s are held)
    c.in-Some.rules.now way c.in_ok-plain.plain.edges.items c.in_ok-plain.ensures.words
