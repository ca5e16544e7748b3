use Rattle.replace_rules.proofs.MarkRows.{first_at, symbols_more}
use Rattle.replace_rules.proofs.rows.add_symbols.Goals as goal

pub loop-place-preserved : goal.loop-place-preserved
loop-place-preserved c first is =
    let symbols = c.args.symbols.now in
    let firsts = c.args.firsts.now in
    let k = c.loop-place.place in
    let s = c.symbol_at-symbol.result in
    let f = c.symbol_at-first.result in
    symbols_more first symbols k s c.args.rows.now.items c.loop-place.rows.items _ c.symbol_at-symbol.ensures (c.loop-place.invariant first is)
    (c.in_ok-add_symbol.ensures first (first_at first symbols firsts is k s f c.symbol_at-symbol.ensures c.symbol_at-first.ensures))
