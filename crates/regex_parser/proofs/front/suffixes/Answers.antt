use Rattle.std.proofs.Common.{◌≡◌, true, Some, rules}
use Rattle.regex_grammar.specs.Rows.{begins}
use Rattle.regex_grammar.specs.Reading.{is_level, suffix_at}
use Rattle.regex_parser.proofs.Fronts.{suffix_shorter}
use Rattle.regex_parser.proofs.Loops.{item_next}
use Rattle.regex_parser.proofs.front.suffixes.Goals as goal

pub suffixes-smaller : goal.suffixes-smaller
suffixes-smaller c =
    let item : suffix_at c.suffixes.rest.now ≡ Some (c.in-Some.suffix, c.in-Some.behind.now) = search rules in
    suffix_shorter c.suffixes.rest.now (c.in-Some.suffix, c.in-Some.behind.now) item

pub suffixes-preserved : goal.suffixes-preserved
suffixes-preserved c =
    let here : begins (is_level 4) c.suffixes.rest.now ≡ true = search rules in
    let item : suffix_at c.suffixes.rest.now ≡ Some (c.in-Some.suffix, c.in-Some.behind.now) = search rules in
    let less = suffix_shorter c.suffixes.rest.now (c.in-Some.suffix, c.in-Some.behind.now) item in
    item_next (is_level 4) suffix_at c.args.tokens.now c.suffixes.found.items c.push.new.self.items c.suffixes.rest.now c.in-Some.suffix c.in-Some.behind.now c.suffixes.invariant here item less c.in_ok-push.ensures.items
