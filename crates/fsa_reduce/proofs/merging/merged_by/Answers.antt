use Rattle.std.proofs.Common.{length, ap, subst, ◌∙◌}
use Rattle.std.specs.List.{Contains}
use Rattle.std.proofs.lemmas.Result.{IfOk-weaker}
use Rattle.fsa_reduce.proofs.MergedLanguage.{numbered_within, class_below, moved_within, merged_made, merged_letters, merged_language}
use Rattle.fsa_reduce.proofs.merging.merged_by.Goals as goal

pub merged_edges-requires-clause-within : goal.merged_edges-requires-clause-within
merged_edges-requires-clause-within g c = λ e h.
    let a = c.args.a.now in
    let numbered = c.args.with_numbers.now.edges.items in
    let within = numbered_within a.edges c.args.with_numbers.now.letters.items numbered (length a.finals) c.finals.ensures.formed.within c.requires.numbers in
    let same = ap length c.deref-3.ensures.value ∙ c.requires.alike.number in
    rw same (within e (subst (λ es. Contains es e) c.deref-2.ensures.value h))

pub merged_edges-requires-clause-alike : goal.merged_edges-requires-clause-alike
merged_edges-requires-clause-alike g c = (c.args.a.now.finals, rw (c.deref-2.ensures.value, c.deref-3.ensures.value) c.requires.alike)

pub of_states-m-requires : goal.of_states-m-requires
of_states-m-requires g c =
    rw c.in_ok-finals.ensures.count (class_below c.args.a.now.finals c.args.with_numbers.now.edges.items c.args.alike.now.of_states.items c.args.alike.now.count c.requires.alike 0 0 c.requires.start)

pub add_numbered-requires : goal.add_numbered-requires
add_numbered-requires g c = λ e h.
    let moves = rw (c.deref-2.ensures.value, c.deref-3.ensures.value) at c.in_ok-edges.ensures in
    let within = moved_within c.args.a.now.finals c.args.with_numbers.now.edges.items c.in_ok-edges.edges.items c.args.alike.now.of_states.items c.args.alike.now.count c.requires.alike moves in
    let same = ap (λ m. length m.finals) c.of_states-m.ensures ∙ c.in_ok-finals.ensures.count in
    rw same (within e (subst (λ es. Contains es e) c.deref-4.ensures.value h))

pub returns : goal.returns
returns g c =
    let a = c.args.a.now in
    let m = c.add_numbered.new.m in
    let letters = c.args.with_numbers.now.letters.items in
    let numbered = c.args.with_numbers.now.edges.items in
    let moved = c.in_ok-edges.edges.items in
    let classes = c.args.alike.now.of_states.items in
    let count = c.args.alike.now.count in
    let final = rw (c.deref.ensures.value, c.finals.ensures.finals) at c.in_ok-finals.ensures.finals in
    let moves = rw (c.deref-2.ensures.value, c.deref-3.ensures.value) at c.in_ok-edges.ensures in
    let made = rw (c.deref-4.ensures.value, c.deref-5.ensures.value) at c.in_ok-add_numbered.ensures in
    let is = merged_made a c.of_states-m.result m letters numbered moved classes count c.in_ok-finals.finals.items c.finals.ensures.formed c.requires.numbers c.requires.start c.requires.alike final moves c.of_states-m.ensures made in
    record {
      letters = IfOk-weaker c.without_last.result _ _ (λ n h x u. merged_letters a m letters numbered moved classes count is x (h x u)) c.without_last.ensures.letters;
      language = IfOk-weaker c.without_last.result _ _ (λ n h w. (
        λ p. (merged_language a m letters numbered moved classes count is w).0 ((h w).0 p),
        λ p. (h w).1 ((merged_language a m letters numbered moved classes count is w).1 p),
      )) c.without_last.ensures.language;
    }
