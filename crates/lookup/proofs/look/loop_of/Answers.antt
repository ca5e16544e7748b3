use Rattle.std.proofs.Common.{ap, ◌∙◌}
use Rattle.lookup.specs.Graph.{end, start}
use Rattle.lookup.proofs.Rounds.{connects_over, text, turn_loops}
use Rattle.lookup.proofs.look.loop_of.Goals as goal

pub text-requires : goal.text-requires
text-requires c =
    let turn = c.requires.turn in
    rw c.deref.ensures.value (connects_over c.args.alphabet.now c.args.edges.now c.requires.symbols start turn.node _ turn.comes)

pub text-requires-2 : goal.text-requires-2
text-requires-2 c =
    let turn = c.requires.turn in
    rw c.deref-2.ensures.value (connects_over c.args.alphabet.now c.args.edges.now c.requires.symbols turn.node turn.node _ turn.goes_round)

pub text-requires-3 : goal.text-requires-3
text-requires-3 c =
    let turn = c.requires.turn in
    rw c.deref-3.ensures.value (connects_over c.args.alphabet.now c.args.edges.now c.requires.symbols turn.node end _ turn.leaves)

pub returns : goal.returns
returns c =
    let alphabet = c.args.alphabet.now in
    let turn = c.args.turn.now in
    let before = c.in_ok-text.ensures ∙ ap (text alphabet) c.deref.ensures.value in
    let round = c.in_ok-text-2.ensures ∙ ap (text alphabet) c.deref-2.ensures.value in
    let after = c.in_ok-text-3.ensures ∙ ap (text alphabet) c.deref-3.ensures.value in
    rw (before, round, after) (turn_loops alphabet c.args.edges.now c.symbols.ensures.formed c.requires.symbols turn.before.items turn.round.items turn.after.items c.requires.turn)
