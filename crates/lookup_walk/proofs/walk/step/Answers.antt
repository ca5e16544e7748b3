use Rattle.std.proofs.Common.{◌≡◌, Some, false, rules}
use Rattle.std.specs.Prelude.{option_copied}
use Rattle.fsm_base.specs.declared.letters.Sym.{Sym}
use Rattle.lookup_walk.specs.Ways.{IsSymbol}
use Rattle.lookup_walk.proofs.Onward.{on_step}
use Rattle.lookup_walk.proofs.walk.step.Goals as goal

pub returns-clause-on : goal.returns-clause-on
returns-clause-on c =
    let plain : c.writes_condition.result ≡ false = search rules in
    on_step (option_copied c.args.ground.now.rules) c.args.ground.now.alphabet.now c.args.ground.now.table.now c.args.ground.now.finals.now c.args.state c.in-Some.symbol.now c.args.rest.now c.in-Some.behind.now c.in-Some-only.m
    c.args.trail.now c.write.new.trail c.in-Some-only.ensures c.requires.moves (c.writes_condition.ensures plain) c.requires.written c.in-Some.ensures.cases.0 c.in_ok-write.ensures.written c.in_ok-write.ensures.found
