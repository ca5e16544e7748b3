use Rattle.std.proofs.Common.{◌≡◌, ◌<◌, ◌≤◌, ◌+◌, ◌-◌, List, [], Bool, false, Some, length, take, sym, ap, arith, ◌∙◌}
use Rattle.std.specs.List.{slice_get}
use Rattle.std.proofs.lemmas.Bool.{false≢true}
use Rattle.fsa.specs.Automaton.{Automaton}
use Rattle.fsa_reduce.proofs.Cut.{not_final, cut_letters, cut_language}
use Rattle.fsa_reduce.proofs.cutting.without_last.Goals as goal

pub returns-then-branch : goal.returns-then-branch
returns-then-branch g c =
    let a = c.args.m in
    let last = c.states-last.result - 1 in
    let number = c.states-last.ensures.number in
    let some = c.states-last.ensures.formed.start in
    let inside : last < length a.finals = omega arith in
    let count : length a.finals ≤ last + 1 = omega arith in
    let other : slice_get a.finals last ≡ Some false = not_final a.finals last inside (λ f. false≢true (sym c.if-is_final.false ∙ c.is_final.ensures.1 f)) in
    let make : List Bool → Automaton g.row.L.Denot = λ fs. record { edges = []; finals = fs } in
    let begins = c.of_states-cut.ensures ∙ ap make (c.in_ok-from_slice.ensures.items ∙ ap (take last) c.finals.ensures.finals) in
    let made = rw c.edges.ensures.edges at c.in_ok-add_within.ensures c.if-branch.true in
    record {
      letters = cut_letters a c.of_states-cut.result c.add_within.new.m last count other begins made;
      language = cut_language a c.of_states-cut.result c.add_within.new.m last count other begins made;
    }
