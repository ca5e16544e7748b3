use Rattle.std.proofs.Common.{◌≡◌, Some, None, sym, rules}
use Rattle.regex_grammar.specs.Reading.{is_prefix, one_of, prefix_of}
use Rattle.regex_grammar.proofs.Loops.{many_ends}
use Rattle.regex_parser.specs.Levels.{prefixes_at}
use Rattle.regex_parser.proofs.Fronts.{one_shorter, prefix_begins, no_prefix}
use Rattle.regex_parser.proofs.Loops.{item_next}
use Rattle.regex_parser.proofs.front.prefixes.Goals as goal

pub prefixes-smaller : goal.prefixes-smaller
prefixes-smaller c =
    let item : one_of prefix_of c.prefixes.rest.now ≡ Some (c.in-Some.prefix, c.in-Some.behind.now) = search rules in
    one_shorter prefix_of c.prefixes.rest.now (c.in-Some.prefix, c.in-Some.behind.now) item

pub prefixes-preserved : goal.prefixes-preserved
prefixes-preserved c =
    let item : one_of prefix_of c.prefixes.rest.now ≡ Some (c.in-Some.prefix, c.in-Some.behind.now) = search rules in
    let less = one_shorter prefix_of c.prefixes.rest.now (c.in-Some.prefix, c.in-Some.behind.now) item in
    let here = prefix_begins c.prefixes.rest.now (c.in-Some.prefix, c.in-Some.behind.now) item in
    item_next is_prefix (one_of prefix_of) c.args.tokens.now c.prefixes.found.items c.push.new.self.items c.prefixes.rest.now c.in-Some.prefix c.in-Some.behind.now c.prefixes.invariant here item less c.in_ok-push.ensures.items

pub returns : goal.returns
unfolding prefixes_at
returns c =
    let none : None ≡ one_of prefix_of c.prefixes.rest.now = search rules in
    sym (many_ends is_prefix (one_of prefix_of) c.args.tokens.now c.prefixes.found.items c.prefixes.rest.now c.prefixes.invariant (no_prefix c.prefixes.rest.now none))
