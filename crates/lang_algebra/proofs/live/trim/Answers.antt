use Rattle.std.proofs.Common.{◌∙◌, ap}
use Rattle.lang_algebra.specs.Live.{IsTrimmed}
use Rattle.lang_algebra.proofs.Alive.{trim_made, part_letters, part_language}
use Rattle.lang_algebra.proofs.live.trim.Goals as goal

pub add_live-requires-clause-within : goal.add_live-requires-clause-within
add_live-requires-clause-within g c =
    let finals = ap (λ m. m.finals) c.of_states-m.ensures ∙ c.in_ok-from_slice.ensures.items ∙ c.finals.ensures.finals in
    rw (c.edges.ensures.edges, finals) c.edges.ensures.formed.within

pub returns-clause-part : goal.returns-clause-part
returns-clause-part g c =
    let a = c.args.a.now in
    trim_made a c.of_states-m.result c.add_live.new.m c.in_ok-live.live (ap (λ m. m.edges) c.of_states-m.ensures)
    (ap (λ m. m.finals) c.of_states-m.ensures ∙ c.in_ok-from_slice.ensures.items ∙ c.finals.ensures.finals)
    c.in_ok-live.ensures.live (rw c.edges.ensures.edges at c.in_ok-add_live.ensures)

pub returns-clause-letters : goal.returns-clause-letters
returns-clause-letters g c =
    let a = c.args.a.now in
    let part : IsTrimmed a c.add_live.new.m = trim_made a c.of_states-m.result c.add_live.new.m c.in_ok-live.live (ap (λ m. m.edges) c.of_states-m.ensures)
    (ap (λ m. m.finals) c.of_states-m.ensures ∙ c.in_ok-from_slice.ensures.items ∙ c.finals.ensures.finals)
    c.in_ok-live.ensures.live (rw c.edges.ensures.edges at c.in_ok-add_live.ensures) in
    part_letters a c.add_live.new.m part

pub returns-clause-language : goal.returns-clause-language
returns-clause-language g c =
    let a = c.args.a.now in
    let part : IsTrimmed a c.add_live.new.m = trim_made a c.of_states-m.result c.add_live.new.m c.in_ok-live.live (ap (λ m. m.edges) c.of_states-m.ensures)
    (ap (λ m. m.finals) c.of_states-m.ensures ∙ c.in_ok-from_slice.ensures.items ∙ c.finals.ensures.finals)
    c.in_ok-live.ensures.live (rw c.edges.ensures.edges at c.in_ok-add_live.ensures) in
    part_language a c.add_live.new.m part
