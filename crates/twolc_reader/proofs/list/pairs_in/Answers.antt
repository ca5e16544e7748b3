use Rattle.std.proofs.Common.{[], map, sym, ap, ◌∙◌, refl, arith}
use Rattle.std.specs.Option.{option_map}
use Rattle.twolc_expressions.specs.Views.{pair_view}
use Rattle.twolc_expressions.proofs.Made.{begun, more, failed, ended}
use Rattle.twolc_reader.specs.StatementReading.{pair_in}
use Rattle.twolc_reader.proofs.Rows.{before, made, stands, none, all_viewed}
use Rattle.twolc_reader.proofs.list.pairs_in.Goals as goal

pub tokens-init : goal.tokens-init
tokens-init c = begun (before pair_view) (made pair_in) c.args.tokens.now c.new-found.result.items c.new-found.ensures.items

pub tokens-preserved : goal.tokens-preserved
tokens-preserved c =
    more (before pair_view) (made pair_in) c.args.tokens.now c.tokens.placed-index c.placed-item.result c.tokens.found.items c.push.new.self.items c.in-Some.pair (omega arith) c.placed-item.is c.in_ok-push.ensures.items
    (stands pair_view pair_in c.placed-item.result c.in-Some.pair (ap (option_map pair_view) (sym c.in-Some.is) ∙ c.in_ok-pair.ensures)) c.tokens.invariant

pub returns-in_default : goal.returns-in_default
returns-in_default c =
    failed (before pair_view) (made pair_in) c.args.tokens.now c.tokens.placed-index c.placed-item.result c.tokens.found.items (omega arith) c.placed-item.is
    (none pair_in c.placed-item.result (ap (option_map pair_view) (sym c.in_default.is) ∙ c.in_ok-pair.ensures)) c.tokens.invariant

pub returns : goal.returns
returns c =
    ended (before pair_view) (made pair_in) c.args.tokens.now c.tokens.placed-index c.tokens.found.items [] (map pair_view c.tokens.found.items) (omega arith) refl (all_viewed pair_view c.tokens.found.items) c.tokens.invariant
