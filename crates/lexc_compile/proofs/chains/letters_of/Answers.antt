use Rattle.std.proofs.Common.{◌≡◌, ◌+◌, ◌++◌, ◌∷◌, [], None, get_or, take, sym, ap, append-nil, ◌∙◌}
use Rattle.std.specs.Option.{option_to_list}
use Rattle.std.proofs.lemmas.List.{take_more, take_all}
use Rattle.fsa.specs.declared.automaton.Edge.{Edge}
use Rattle.flag_diacritics.specs.declared.tape.Tape.{Tape}
use Rattle.lexc_compile.specs.Words.{letters_of}
use Rattle.lexc_compile.proofs.OneWord.{letters_of-push}
use Rattle.lexc_compile.proofs.chains.letters_of.Goals as goal
use Rattle.lexc_compile.proofs.chains.letters_of.Goals.{in-Some+in_ok-push, in_default}

pub loop-edge-preserved : goal.loop-edge-preserved
loop-edge-preserved c =
    let edges = c.args.edges.now in
    let i = c.loop-edge.edge-index in
    let edge : Edge Tape = get_or edges i (record { from = 0; letter = None; to = 0 }) in
    let before = letters_of (take i edges) in
    let more : letters_of (take (i + 1) edges) ≡ before ++ option_to_list edge.letter = ap letters_of (take_more edges i (record { from = 0; letter = None; to = 0 }) c.loop-edge-test.true) ∙ letters_of-push (take i edges) edge in
    elim c.match-edge.branch [
      | in-Some+in_ok-push w ↦
          rw (w.tape-is) (w.in_ok-push.ensures.items ∙ ap (λ t. t ++ w.in-Some.letter ∷ []) c.loop-edge.invariant ∙ ap (λ o. before ++ option_to_list o) (sym w.in-Some.is) ∙ sym more)
      | in_default w ↦ rw (w.tape-is) (c.loop-edge.invariant ∙ sym (append-nil before) ∙ ap (λ o. before ++ option_to_list o) (sym w.in_default.is) ∙ sym more)
    ]

pub returns : goal.returns
returns c = c.loop-edge.invariant ∙ ap letters_of (take_all c.loop-edge.edge-index c.args.edges.now c.loop-edge-test.false)
