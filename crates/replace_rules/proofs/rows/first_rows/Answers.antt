use Rattle.replace_rules.proofs.MarkRows.{all_rows}
use Rattle.replace_rules.proofs.rows.first_rows.Goals as goal

pub returns : goal.returns
returns c first is =
    all_rows first c.args.symbols.now c.args.places c.new-rows.result.items c.push.new.self.items c.add_symbols.new.rows.items c.add_brackets.new.rows.items c.new-rows.ensures.items c.in_ok-push.ensures.items (c.in_ok-add_symbols.ensures first is) (c.in_ok-add_brackets.ensures first)
