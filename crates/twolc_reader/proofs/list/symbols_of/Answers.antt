use Rattle.std.proofs.Common.{[], sym, ◌∙◌, refl, arith}
use Rattle.twolc_expressions.proofs.Made.{begun, more, failed, ended}
use Rattle.twolc_reader.specs.StatementReading.{symbol_in}
use Rattle.twolc_reader.proofs.Rows.{before, itself, made, stands, none, all_plain}
use Rattle.twolc_reader.proofs.list.symbols_of.Goals as goal

pub tokens-init : goal.tokens-init
tokens-init c = begun (before itself) (made symbol_in) c.args.tokens.now c.new-found.result.items c.new-found.ensures.items

pub tokens-preserved : goal.tokens-preserved
tokens-preserved c =
    more (before itself) (made symbol_in) c.args.tokens.now c.tokens.placed-index c.placed-item.result c.tokens.found.items c.push.new.self.items c.in-Some.symbol (omega arith) c.placed-item.is c.in_ok-push.ensures.items
    (stands itself symbol_in c.placed-item.result c.in-Some.symbol (sym c.in-Some.is ∙ c.in_ok-symbol.ensures)) c.tokens.invariant

pub returns-in_default : goal.returns-in_default
returns-in_default c =
    failed (before itself) (made symbol_in) c.args.tokens.now c.tokens.placed-index c.placed-item.result c.tokens.found.items (omega arith) c.placed-item.is
    (none symbol_in c.placed-item.result (sym c.in_default.is ∙ c.in_ok-symbol.ensures)) c.tokens.invariant

pub returns : goal.returns
returns c =
    ended (before itself) (made symbol_in) c.args.tokens.now c.tokens.placed-index c.tokens.found.items [] c.tokens.found.items (omega arith) refl (all_plain c.tokens.found.items) c.tokens.invariant
