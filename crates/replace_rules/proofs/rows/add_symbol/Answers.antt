use Rattle.replace_rules.proofs.MarkRows.{symbol_rows}
use Rattle.replace_rules.proofs.rows.add_symbol.Goals as goal

pub returns : goal.returns
returns c f is =
    symbol_rows f c.args.symbol c.args.first is c.args.rows.now.items c.add_row.new.rows.items c.add_row-2.new.rows.items c.add_row-3.new.rows.items c.add_row-4.new.rows.items c.in_ok-add_row.ensures c.in_ok-add_row-2.ensures c.in_ok-add_row-3.ensures c.in_ok-add_row-4.ensures
