use Rattle.std.proofs.Common.{subst}
use Rattle.std.specs.List.{Contains}
use Rattle.lookup_answers.specs.Answers.{found_of}
use Rattle.lookup_walk.specs.Nets.{NetRelatesBy}
use Rattle.lookup.proofs.Rounds.{answers_related}
use Rattle.lookup.proofs.look.search.Goals as goal

pub useful-requires-clause-within : goal.useful-requires-clause-within
useful-requires-clause-within c = rw c.deref.ensures.value c.in_ok-part.ensures.within

pub answer_of-requires-clause-within : goal.answer_of-requires-clause-within
answer_of-requires-clause-within c = λ e h.
    let kept = c.in_ok-edges.ensures.among e (subst (λ es. Contains es e) c.deref-2.ensures.value h) in
    c.in_ok-part.ensures.within e (subst (λ es. Contains es e) c.deref.ensures.value kept)

pub answer_of-requires-clause-symbols : goal.answer_of-requires-clause-symbols
answer_of-requires-clause-symbols c = λ e s h is.
    let kept = c.in_ok-edges.ensures.among e (subst (λ es. Contains es e) c.deref-2.ensures.value h) in
    c.in_ok-part.ensures.symbols c.args.alphabet.now c.requires e s (subst (λ es. Contains es e) c.deref.ensures.value kept) is

pub returns : goal.returns
returns c =
    let edges = c.in_ok-part.part.edges.items in
    answers_related c.args.alphabet.now c.deref-2.result.now edges (NetRelatesBy c.args.direction c.args.net.now c.args.word.now)
    (rw (c.deref-2.ensures.value, ← c.deref.ensures.value) c.in_ok-edges.ensures.same)
    c.in_ok-part.ensures.words (found_of c.in_ok-answer.answer) c.in_ok-answer.ensures
