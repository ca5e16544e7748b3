use Rattle.std.proofs.Common.{◌≡◌, length, refl, arith}
use Rattle.regex_ast.specs.Terms.{term}
use Rattle.network_centres.specs.Centres.{terms_seen}
use Rattle.network_centres.proofs.Seen.{has_empty, next_ready, none_left, seen_last, whole_built}
use Rattle.network_centres.proofs.empty.has_empty_centre.Goals as goal

pub has_empty_word-requires-clause-built : goal.has_empty_word-requires-clause-built
has_empty_word-requires-clause-built c =
    let last = seen_last c.args.parts.now c.args.alphabet.now (term c.args.expr.now) c.centres.unseen.items c.pop.new.self.items c.in-Some.centre c.in-Some.ensures.items c.centres.invariant in
    (next_ready c.args.parts.now c.args.alphabet.now (term c.args.expr.now) (terms_seen c.pop.new.self.items) (term c.in-Some.centre.now) last c.requires.built c.requires.fits).0

pub has_empty_word-requires-clause-fits : goal.has_empty_word-requires-clause-fits
has_empty_word-requires-clause-fits c =
    let last = seen_last c.args.parts.now c.args.alphabet.now (term c.args.expr.now) c.centres.unseen.items c.pop.new.self.items c.in-Some.centre c.in-Some.ensures.items c.centres.invariant in
    (next_ready c.args.parts.now c.args.alphabet.now (term c.args.expr.now) (terms_seen c.pop.new.self.items) (term c.in-Some.centre.now) last c.requires.built c.requires.fits).1

pub has_empty_word-requires-clause-language : goal.has_empty_word-requires-clause-language
has_empty_word-requires-clause-language c =
    let last = seen_last c.args.parts.now c.args.alphabet.now (term c.args.expr.now) c.centres.unseen.items c.pop.new.self.items c.in-Some.centre c.in-Some.ensures.items c.centres.invariant in
    (next_ready c.args.parts.now c.args.alphabet.now (term c.args.expr.now) (terms_seen c.pop.new.self.items) (term c.in-Some.centre.now) last c.requires.built c.requires.fits).2

pub returns-then-branch-clause-empty : goal.returns-then-branch-clause-empty
returns-then-branch-clause-empty c =
    let last = seen_last c.args.parts.now c.args.alphabet.now (term c.args.expr.now) c.centres.unseen.items c.pop.new.self.items c.in-Some.centre c.in-Some.ensures.items c.centres.invariant in
    (λ t. has_empty c.args.parts.now c.args.alphabet.now (term c.args.expr.now) (terms_seen c.pop.new.self.items) (term c.in-Some.centre.now) last (c.in_ok-has_empty_word.ensures.0 c.if-branch.true), λ h. refl)

pub returns-clause-filled : goal.returns-clause-filled
returns-clause-filled c =
    let none : length c.centres.unseen.items ≡ 0 = omega (arith, c.centres.unseen.ok, c.in_default.ensures.cases.0) in
    whole_built c.args.parts.now c.args.alphabet.now (term c.args.expr.now)
    (none_left c.args.parts.now c.args.alphabet.now (term c.args.expr.now) c.centres.unseen.items none c.centres.invariant) c.requires.built
