use Rattle.std.proofs.Common.{◌≡◌, None, Some, IsTrue, get_or, rules, refl, subst, sym, ap, arith, ◌∙◌}
use Rattle.std.specs.Prelude.{option_copied}
use Rattle.std.specs.List.{Contains}
use Rattle.std.proofs.lemmas.List.Elements.{All-push, Contains-get_or}
use Rattle.fsm_base.specs.Alphabet.{symbols_of}
use Rattle.flag_runs.specs.Runs.{RulesView, behind_by, values_after}
use Rattle.word_relations.specs.Words.{IsOver}
use Rattle.lookup_walk.specs.declared.moves.Move.{Move}
use Rattle.lookup_walk.specs.Walks.{Through, WritesOver}
use Rattle.lookup_walk.proofs.Adds.{Adds-more}
use Rattle.lookup_walk.proofs.Entering.{entered_past, entered_inside, passed_writing, passed_by_epsilon, passed_condition, went_on}
use Rattle.lookup_walk.proofs.walk.+walk.Goals as goal

abbrev no_move : Move
no_move = record { at = record { state = 0; read = None }; write = None; to = 0 }

pub enter-follow-requires : goal.enter-follow-requires
enter-follow-requires t c =
    let front : WritesOver (option_copied c.args.ground.now.rules) c.args.ground.now.alphabet.now c.epsilon-epsilon.result.now = λ m s has is. c.requires.moves m s ((c.epsilon-epsilon.ensures m).0 has).0 is in
    (omega (arith, c.decreases), (c.requires.moves, (front, c.requires.written)))

pub enter-stop-requires : goal.enter-stop-requires
enter-stop-requires t c =
    let whole : IsTrue c.in_ok-whole.whole = search rules in
    let adds = c.in_ok-whole.ensures whole in
    subst (λ w. IsOver (symbols_of c.args.ground.now.alphabet.now) w) (sym adds.written) c.requires.written

pub enter-returns-in_default : goal.enter-returns-in_default
enter-returns-in_default t c = λ h.
    let whole : IsTrue c.in_ok-whole.whole = search rules in
    entered_past c.args.ground.now.alphabet.now (option_copied c.args.ground.now.rules) c.args.ground.now.table.now c.args.ground.now.finals.now c.args.rest.now.values.now c.args.state c.args.rest.now.word.now c.epsilon-epsilon.result.now c.args.trail.now c.follow.new.trail c.stop.new.trail c.epsilon-epsilon.ensures c.in_default.ensures.cases (c.in_ok-whole.ensures whole) (c.in_ok-all.ensures h)

pub enter-follow-requires-2 : goal.enter-follow-requires-2
enter-follow-requires-2 t c =
    let whole : IsTrue c.in_ok-whole.whole = search rules in
    let adds = c.in_ok-whole.ensures whole in
    let front : WritesOver (option_copied c.args.ground.now.rules) c.args.ground.now.alphabet.now c.reading-reading.result.now = λ m s has is. c.requires.moves m s ((c.reading-reading.ensures m).0 has).0 is in
    let over = subst (λ w. IsOver (symbols_of c.args.ground.now.alphabet.now) w) (sym adds.written) c.requires.written in
    (omega (arith, c.decreases), (c.requires.moves, (front, over)))

pub enter-returns : goal.enter-returns
enter-returns t c = λ h.
    let whole : IsTrue c.in_ok-whole.whole = search rules in
    entered_inside c.args.ground.now.alphabet.now (option_copied c.args.ground.now.rules) c.args.ground.now.table.now c.args.ground.now.finals.now c.args.rest.now.values.now c.args.state c.args.rest.now.word.now c.in-Some.symbol.now c.in-Some.word.now c.epsilon-epsilon.result.now c.reading-reading.result.now c.args.trail.now c.follow.new.trail c.follow-2.new.trail c.epsilon-epsilon.ensures c.reading-reading.ensures c.in-Some.ensures.cases.0 (c.in_ok-whole.ensures whole) (c.in_ok-all-2.ensures h)

pub follow-pass-requires : goal.follow-pass-requires
follow-pass-requires t c =
    let over = subst (λ w. IsOver (symbols_of c.args.ground.now.alphabet.now) w) (sym c.moves.invariant.written) c.requires.written in
    let m : Move = get_or c.args.moves.now c.moves.m-index no_move in
    let held : Contains c.args.moves.now m = Contains-get_or c.args.moves.now c.moves.m-index no_move c.moves-test.true in
    (omega (arith, c.decreases), (c.requires.moves, (λ s is. c.requires.front m s held is, over)))

pub follow-moves-preserved : goal.follow-moves-preserved
follow-moves-preserved t c =
    let whole : IsTrue c.in_ok-whole.whole = search rules in
    Adds-more c.args.ground.now.alphabet.now c.args.moves.now (λ m w. Through (option_copied c.args.ground.now.rules) c.args.ground.now.table.now c.args.ground.now.finals.now c.args.rest.now.values.now m c.args.rest.now.word.now w) c.moves.m-index _ c.args.trail.now c.moves.trail c.pass.new.trail c.moves-test.true c.moves.invariant (c.in_ok-whole.ensures whole)

pub pass-returns-in_default : goal.pass-returns-in_default
pass-returns-in_default t c = λ h.
    let none : c.args.m.write ≡ None = search rules in
    passed_by_epsilon c.args.ground.now.alphabet.now (option_copied c.args.ground.now.rules) c.args.ground.now.table.now c.args.ground.now.finals.now c.args.rest.now.values.now c.args.m c.args.rest.now.word.now c.args.trail.now c.go.new.trail none (c.in_ok-all.ensures h)

pub pass-returns-in_ok-all-in-Stay : goal.pass-returns-in_ok-all-in-Stay
pass-returns-in_ok-all-in-Stay t c = λ h.
    let kept : RulesView = c.in-Some-rules_at.rules.now in
    let behind : behind_by kept c.args.rest.now.values.now c.in-Some.symbol ≡ Some c.args.rest.now.values.now = sym c.in_ok-after.ensures ∙ ap (values_after c.args.rest.now.values.now) c.in-Stay.is in
    passed_condition c.args.ground.now.alphabet.now (option_copied c.args.ground.now.rules) c.args.ground.now.table.now c.args.ground.now.finals.now kept c.args.rest.now.values.now c.args.rest.now.values.now c.args.m c.in-Some.symbol c.args.rest.now.word.now c.args.trail.now c.go-in-Stay.new.trail
    c.in-Some-rules_at.ensures.rules c.in-Some.is c.in-Some-rules_at.ensures.condition behind (c.in_ok-all-in-Stay.ensures h)

pub pass-returns-in_ok-all-in-To : goal.pass-returns-in_ok-all-in-To
pass-returns-in_ok-all-in-To t c = λ h.
    let kept : RulesView = c.in-Some-rules_at.rules.now in
    let behind : behind_by kept c.args.rest.now.values.now c.in-Some.symbol ≡ Some c.in-To.values = sym c.in_ok-after.ensures ∙ ap (values_after c.args.rest.now.values.now) c.in-To.is in
    passed_condition c.args.ground.now.alphabet.now (option_copied c.args.ground.now.rules) c.args.ground.now.table.now c.args.ground.now.finals.now kept c.args.rest.now.values.now c.in-To.values c.args.m c.in-Some.symbol c.args.rest.now.word.now c.args.trail.now c.go-in-To.new.trail
    c.in-Some-rules_at.ensures.rules c.in-Some.is c.in-Some-rules_at.ensures.condition behind (c.in_ok-all-in-To.ensures h)

pub pass-go-requires-2 : goal.pass-go-requires-2
pass-go-requires-2 t c =
    let here : Contains (symbols_of c.args.ground.now.alphabet.now) c.in-Some.symbol = c.requires.symbol c.in-Some.symbol c.in-Some.is c.in_default-rules_at.ensures.none in
    let over = subst (λ w. IsOver (symbols_of c.args.ground.now.alphabet.now) w) (sym c.in_ok-push.ensures.items) (All-push (Contains (symbols_of c.args.ground.now.alphabet.now)) c.args.trail.now.written.items c.in-Some.symbol c.requires.written here) in
    (omega (arith, c.decreases), (c.requires.moves, over))

pub pass-returns : goal.pass-returns
pass-returns t c = λ h.
    passed_writing c.args.ground.now.alphabet.now (option_copied c.args.ground.now.rules) c.args.ground.now.table.now c.args.ground.now.finals.now c.args.rest.now.values.now c.args.m c.in-Some.symbol c.args.rest.now.word.now c.len-len.result c.args.trail.now
    (record { written = c.push.new.self; found = c.args.trail.now.found }) c.go-2.new.trail (record { written = c.truncate.new.self; found = c.go-2.new.trail.found })
    c.in-Some.is c.in_default-rules_at.ensures.none c.in_ok-push.ensures.items refl (omega (arith, c.len-len.ensures)) c.truncate.ensures.items refl (c.in_ok-whole.ensures h)

pub go-enter-requires : goal.go-enter-requires
go-enter-requires t c = (omega (arith, c.decreases), (c.requires.moves, c.in_ok-place.ensures.over))

pub go-returns : goal.go-returns
go-returns t c = λ h.
    went_on c.args.ground.now.alphabet.now (option_copied c.args.ground.now.rules) c.args.ground.now.table.now c.args.ground.now.finals.now c.args.rest.now.values.now c.args.state c.in_ok-place.place.state c.args.rest.now.word.now c.in_ok-place.place.rest.now c.len-len.result c.args.trail.now
    c.ahead.new.trail c.enter.new.trail (record { written = c.truncate.new.self; found = c.enter.new.trail.found })
    c.in_ok-place.ensures (omega (arith, c.len-len.ensures)) c.truncate.ensures.items refl (c.in_ok-whole.ensures h)
