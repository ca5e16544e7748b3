use Rattle.std.proofs.Common.{get_or}
use Rattle.regex_ast.specs.declared.expr.Suffix.TheVariants.{Star}
use Rattle.network_sets.proofs.Repeats.{behind_more, none_settled, settled_behind}
use Rattle.network_sets.proofs.Suffixed.{for_itself}
use Rattle.network_sets.proofs.suffixes.apply_suffixes.Goals as goal

pub suffixes-init : goal.suffixes-init
suffixes-init c = record { letters = λ symbols ok. ok; meaning = for_itself c.args.network; settled = none_settled c.args.network }

pub suffixes-preserved-then-makes_nothing_new : goal.suffixes-preserved-then-makes_nothing_new
suffixes-preserved-then-makes_nothing_new c =
    let suffix = get_or c.args.suffixes.now c.suffixes.suffix-index Star in
    let same = c.suffixes.invariant.settled suffix (c.makes_nothing_new.ensures c.if-makes_nothing_new.true) in
    record {
      letters = c.suffixes.invariant.letters;
      meaning = behind_more c.args.network c.suffixes.network c.suffixes.network c.args.suffixes.now c.suffixes.suffix-index Star c.suffixes-test.true c.suffixes.invariant.meaning same;
      settled = c.suffixes.invariant.settled;
    }

pub suffixes-preserved : goal.suffixes-preserved
suffixes-preserved c = record {
  letters = λ symbols ok. c.in_ok-network.ensures.letters symbols (c.suffixes.invariant.letters symbols ok);
  meaning = behind_more c.args.network c.suffixes.network c.in_ok-network.network c.args.suffixes.now c.suffixes.suffix-index Star c.suffixes-test.true c.suffixes.invariant.meaning c.in_ok-network.ensures.meaning;
  settled = settled_behind c.suffixes.network c.in_ok-network.network (get_or c.args.suffixes.now c.suffixes.suffix-index Star) c.in_ok-network.ensures.meaning;
}
