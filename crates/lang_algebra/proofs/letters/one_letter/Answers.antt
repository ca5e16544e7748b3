use Rattle.std.proofs.Common.{◌≡◌, Some}
use Rattle.fsa_rational.proofs.Extended.{comes_more, each_all}
use Rattle.lang_algebra.proofs.OneLetter.{one_letter_shape, one_letter_letters, one_letter_language}
use Rattle.lang_algebra.proofs.letters.one_letter.Goals as goal

pub loop-letter-preserved : goal.loop-letter-preserved
loop-letter-preserved g c =
    let end = c.in_ok-end.end in
    comes_more (λ x. record { from = 0; letter = Some x; to = end }) c.args.letters.now c.loop-letter.letter-index c.letter-item.result c.loop-letter-test.true c.letter-item.is
    c.set_final.new.self c.loop-letter.m c.add_edge.new.self c.loop-letter.invariant c.in_ok-add_edge.ensures.ok

pub returns-clause-letters : goal.returns-clause-letters
returns-clause-letters g c =
    let shape = one_letter_shape c.args.letters.now c.in_ok-m.m c.add_state.new.self c.set_final.new.self c.loop-letter.m c.in_ok-end.end c.in_ok-m.ensures c.in_ok-end.ensures.number c.in_ok-end.ensures.ok c.set_final.ensures
    (each_all (λ x e. e ≡ record { from = 0; letter = Some x; to = c.in_ok-end.end }) c.args.letters.now c.loop-letter.letter-index c.set_final.new.self c.loop-letter.m c.loop-letter-test.false c.loop-letter.invariant) in
    one_letter_letters c.args.letters.now c.loop-letter.m shape

pub returns-clause-language : goal.returns-clause-language
returns-clause-language g c =
    let shape = one_letter_shape c.args.letters.now c.in_ok-m.m c.add_state.new.self c.set_final.new.self c.loop-letter.m c.in_ok-end.end c.in_ok-m.ensures c.in_ok-end.ensures.number c.in_ok-end.ensures.ok c.set_final.ensures
    (each_all (λ x e. e ≡ record { from = 0; letter = Some x; to = c.in_ok-end.end }) c.args.letters.now c.loop-letter.letter-index c.set_final.new.self c.loop-letter.m c.loop-letter-test.false c.loop-letter.invariant) in
    one_letter_language c.args.letters.now c.loop-letter.m shape
