use Rattle.std.proofs.Common.{sym, subst}
use Rattle.std.specs.List.{Contains}
use Rattle.lookup.specs.Graph.{AreUseful}
use Rattle.word_relations.specs.Answers.{AreAll, AreMore}
use Rattle.lookup.specs.GraphTexts.{GraphTexts}
use Rattle.lookup.specs.Walks.{WritesText}
use Rattle.lookup.proofs.Whole.{all_same, bytes_short, if_none, if_some, more_same, moved_useful, whole_same}
use Rattle.lookup.proofs.texts.texts_of.Goals as goal

pub useful-requires-clause-within : goal.useful-requires-clause-within
useful-requires-clause-within c = rw c.deref.ensures.value c.in_ok-graph.ensures.within

pub new-requires-clause-within : goal.new-requires-clause-within
new-requires-clause-within c =
    let is = c.deref-2.ensures.value in
    let all = c.deref.ensures.value in
    λ e h. (c.in_ok-graph.ensures.within e (subst (λ es. Contains es e) all (c.in_ok-kept.ensures.among e (subst (λ es. Contains es e) is h)))).1

pub listed-requires-clause-useful : goal.listed-requires-clause-useful
listed-requires-clause-useful c =
    moved_useful c.deref-2.result.now c.in_ok-walk.walk.rows c.in_ok-walk.ensures.rows (subst (λ es. AreUseful es) (sym c.deref-2.ensures.value) c.in_ok-kept.ensures.useful)

pub listed-requires-clause-short : goal.listed-requires-clause-short
listed-requires-clause-short c = λ text h.
    let same = whole_same (GraphTexts c.args.alphabet.now c.args.edges.now) c.in_ok-graph.graph.edges.items c.deref.result.now c.in_ok-kept.kept.items c.deref-2.result.now c.in_ok-walk.walk.rows
    c.deref.ensures.value c.deref-2.ensures.value c.in_ok-walk.ensures.rows c.in_ok-kept.ensures.same c.in_ok-graph.ensures.same in
    let bytes = c.in_ok-graph.graph.edges.items in
    rw c.in_ok-walk.ensures.bound
    (bytes_short c.args.alphabet.now c.args.edges.now c.args.count c.requires.within c.requires.finite bytes c.in_ok-graph.graph.count c.in_ok-graph.ensures.within c.in_ok-graph.ensures.same
    text ((c.in_ok-graph.ensures.same text).1 ((same text).0 h)))

pub listed-requires-clause-utf8 : goal.listed-requires-clause-utf8
listed-requires-clause-utf8 c = λ text h.
    let same = whole_same (GraphTexts c.args.alphabet.now c.args.edges.now) c.in_ok-graph.graph.edges.items c.deref.result.now c.in_ok-kept.kept.items c.deref-2.result.now c.in_ok-walk.walk.rows
    c.deref.ensures.value c.deref-2.ensures.value c.in_ok-walk.ensures.rows c.in_ok-kept.ensures.same c.in_ok-graph.ensures.same in
    c.in_ok-graph.ensures.utf8 text ((same text).0 h)

pub returns-clause-all : goal.returns-clause-all
returns-clause-all c =
    let same = whole_same (GraphTexts c.args.alphabet.now c.args.edges.now) c.in_ok-graph.graph.edges.items c.deref.result.now c.in_ok-kept.kept.items c.deref-2.result.now c.in_ok-walk.walk.rows
    c.deref.ensures.value c.deref-2.ensures.value c.in_ok-walk.ensures.rows c.in_ok-kept.ensures.same c.in_ok-graph.ensures.same in
    let T = WritesText c.in_ok-walk.walk.rows in
    let U = GraphTexts c.args.alphabet.now c.args.edges.now in
    if_some c.in_ok-found.found (λ texts. AreAll T texts.items) (λ texts. AreAll U texts.items) (λ texts. all_same T U texts.items same) c.in_ok-found.ensures.all

pub returns-clause-more : goal.returns-clause-more
returns-clause-more c =
    let same = whole_same (GraphTexts c.args.alphabet.now c.args.edges.now) c.in_ok-graph.graph.edges.items c.deref.result.now c.in_ok-kept.kept.items c.deref-2.result.now c.in_ok-walk.walk.rows
    c.deref.ensures.value c.deref-2.ensures.value c.in_ok-walk.ensures.rows c.in_ok-kept.ensures.same c.in_ok-graph.ensures.same in
    let T = WritesText c.in_ok-walk.walk.rows in
    let U = GraphTexts c.args.alphabet.now c.args.edges.now in
    if_none c.in_ok-found.found (AreMore T) (AreMore U) (more_same T U same) c.in_ok-found.ensures.more
