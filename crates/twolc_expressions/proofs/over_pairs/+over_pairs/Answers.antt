use Rattle.std.proofs.Common.{None, Some, sym, ap, ◌∙◌, refl, arith}
use Rattle.std.specs.Option.{option_map}
use Rattle.regex_ast.specs.Terms.{no_term, no_link}
use Rattle.twolc_expressions.specs.Reading.{pair_term, pair_terms, pair_links, link_before, links_made}
use Rattle.twolc_expressions.proofs.Made.{begun, more, failed, ended, term_before, each_made, each_all, each_stands, each_none, links_all}
use Rattle.twolc_expressions.proofs.Nodes.{ignore_found, concat_found, chain_found, chain_not_found}
use Rattle.twolc_expressions.proofs.over_pairs.+over_pairs.Goals as goal

pub each_over_pairs-operands-init : goal.each_over_pairs-operands-init
each_over_pairs-operands-init t c = begun term_before (each_made c.args.names.now) c.args.operands.now c.new-found.result.items c.new-found.ensures.items

pub each_over_pairs-operands-preserved : goal.each_over_pairs-operands-preserved
each_over_pairs-operands-preserved t c =
    more term_before (each_made c.args.names.now) c.args.operands.now c.operands.operand-index c.operand-item.result c.operands.found.items c.push.new.self.items c.in-Some.operand (omega arith) c.operand-item.is c.in_ok-push.ensures.items
    (each_stands c.args.names.now c.operand-item.result c.in-Some.operand (ap (option_map pair_term) (sym c.in-Some.is) ∙ c.in_ok-operand.ensures)) c.operands.invariant

pub each_over_pairs-returns-in_default : goal.each_over_pairs-returns-in_default
each_over_pairs-returns-in_default t c =
    failed term_before (each_made c.args.names.now) c.args.operands.now c.operands.operand-index c.operand-item.result c.operands.found.items (omega arith) c.operand-item.is
    (each_none c.args.names.now c.operand-item.result (ap (option_map pair_term) (sym c.in_default.is) ∙ c.in_ok-operand.ensures)) c.operands.invariant

pub each_over_pairs-returns : goal.each_over_pairs-returns
each_over_pairs-returns t c =
    ended term_before (each_made c.args.names.now) c.args.operands.now c.operands.operand-index c.operands.found.items no_term (pair_terms c.operands.found.items) (omega arith) refl (each_all c.operands.found.items) c.operands.invariant

pub links_over_pairs-links-init : goal.links_over_pairs-links-init
links_over_pairs-links-init t c = begun link_before (links_made c.args.names.now) c.args.links.now c.new-found.result.items c.new-found.ensures.items

pub links_over_pairs-links-preserved : goal.links_over_pairs-links-preserved
links_over_pairs-links-preserved t c =
    let stands = rw c.in-Some.is at c.in_ok-link.ensures in
    more link_before (links_made c.args.names.now) c.args.links.now c.links.link-index c.link-item.result c.links.found.items c.push.new.self.items c.in-Some.link (omega arith) c.link-item.is c.in_ok-push.ensures.items stands c.links.invariant

pub links_over_pairs-returns-in_default : goal.links_over_pairs-returns-in_default
links_over_pairs-returns-in_default t c =
    let none = rw c.in_default.is at c.in_ok-link.ensures in
    failed link_before (links_made c.args.names.now) c.args.links.now c.links.link-index c.link-item.result c.links.found.items (omega arith) c.link-item.is none c.links.invariant

pub links_over_pairs-returns : goal.links_over_pairs-returns
links_over_pairs-returns t c =
    ended link_before (links_made c.args.names.now) c.args.links.now c.links.link-index c.links.found.items no_link (pair_links c.links.found.items) (omega arith) refl (links_all c.links.found.items) c.links.invariant

pub over_pairs-returns-in-Some-7 : goal.over_pairs-returns-in-Some-7
over_pairs-returns-in-Some-7 t c =
    ignore_found c.args.names.now c.args.expr.now c.in-Ignore.operands c.in_ok-operands-in-Ignore.field-0 (Some c.in-Some-7.operands) c.in-Ignore.is c.in-Some-7.is (rw c.deref-in-Ignore.ensures.value at c.in_ok-operands-in-Ignore.ensures)

pub over_pairs-returns-in-None-7 : goal.over_pairs-returns-in-None-7
over_pairs-returns-in-None-7 t c =
    ignore_found c.args.names.now c.args.expr.now c.in-Ignore.operands c.in_ok-operands-in-Ignore.field-0 None c.in-Ignore.is c.in-None-7.is (rw c.deref-in-Ignore.ensures.value at c.in_ok-operands-in-Ignore.ensures)

pub over_pairs-returns-in-Some-8 : goal.over_pairs-returns-in-Some-8
over_pairs-returns-in-Some-8 t c =
    concat_found c.args.names.now c.args.expr.now c.in-Concat.operands c.in_ok-operands-in-Concat.field-0 (Some c.in-Some-8.operands) c.in-Concat.is c.in-Some-8.is (rw c.deref-in-Concat.ensures.value at c.in_ok-operands-in-Concat.ensures)

pub over_pairs-returns-in-None-8 : goal.over_pairs-returns-in-None-8
over_pairs-returns-in-None-8 t c =
    concat_found c.args.names.now c.args.expr.now c.in-Concat.operands c.in_ok-operands-in-Concat.field-0 None c.in-Concat.is c.in-None-8.is (rw c.deref-in-Concat.ensures.value at c.in_ok-operands-in-Concat.ensures)

pub over_pairs-returns-in_default-2 : goal.over_pairs-returns-in_default-2
over_pairs-returns-in_default-2 t c =
    chain_not_found c.args.names.now c.args.expr.now c.in-Chain.first c.in-Chain.links c.in-Chain.is c.in_ok-first-in-Chain.field-0 c.in_ok-links-in-Chain.field-0 c.in-Some-9.first c.in-Some-9.is c.in_default-2.is (rw c.deref-in-Chain.ensures at c.in_ok-first-in-Chain.ensures) (rw c.deref-in-Chain-2.ensures.value at c.in_ok-links-in-Chain.ensures)

pub over_pairs-returns-in_ok-new-in-Chain : goal.over_pairs-returns-in_ok-new-in-Chain
over_pairs-returns-in_ok-new-in-Chain t c =
    chain_found c.args.names.now c.args.expr.now c.in-Chain.first c.in-Chain.links c.in-Chain.is c.in_ok-first-in-Chain.field-0 c.in_ok-links-in-Chain.field-0 c.in-Some-9.first c.in_ok-new-in-Chain.field-0 c.in-Some-10.links c.in-Some-9.is c.in-Some-10.is c.in_ok-new-in-Chain.ensures.ok (rw c.deref-in-Chain.ensures at c.in_ok-first-in-Chain.ensures) (rw c.deref-in-Chain-2.ensures.value at c.in_ok-links-in-Chain.ensures)
