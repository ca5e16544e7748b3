use Rattle.std.proofs.Common.{arith}
use Rattle.std.proofs.lemmas.List.{nil_from_length}
use Rattle.std.proofs.lemmas.Result.{on_ok_weaker}
use Rattle.lexc_compile.proofs.Walking.{word_added, empty_added}
use Rattle.lexc_compile.proofs.words.add_word.Goals as goal

pub returns-in_ok-from-in-Some : goal.returns-in_ok-from-in-Some
returns-in_ok-from-in-Some c =
    on_ok_weaker c.add_edge.result
    (λ added. word_added c.args.count c.args.place c.args.tape.now c.args.next c.requires.place c.requires.next c.target_of-to.result c.target_of-to.ensures c.args.m.now c.add_edge.new.self c.args.steps.now
    c.in-Some.front.now c.in-Some.last.now c.walk.new.m c.walk.new.steps c.in_ok-from-in-Some.from c.in-Some.ensures.cases.0 c.in_ok-from-in-Some.ensures added)
    c.add_edge.ensures.ok

pub returns-in-None : goal.returns-in-None
returns-in-None c =
    on_ok_weaker c.add_edge-in-None.result
    (λ added. empty_added c.args.count c.args.place c.args.tape.now c.args.next c.requires.place c.requires.next c.target_of-to.result c.target_of-to.ensures c.args.m.now c.add_edge-in-None.new.self c.args.steps.now
    (nil_from_length c.args.tape.now c.in-None.ensures.cases) (let h = c.requires.homes in let p = c.requires.place in omega arith) c.requires.table added)
    c.add_edge-in-None.ensures.ok
