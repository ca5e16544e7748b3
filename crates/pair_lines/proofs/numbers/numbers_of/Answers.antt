use Rattle.std.proofs.Common.{◌∙◌}
use Rattle.std.proofs.lemmas.Option.{slice_get-get_or}
use Rattle.pair_lines.proofs.Numbering.{all_numbered, symbol_numbered}
use Rattle.pair_lines.proofs.numbers.numbers_of.Goals as goal

pub symbols-preserved : goal.symbols-preserved
symbols-preserved c =
    let items = c.symbols-symbol-items.result.now in
    let i = c.symbols.symbol-index in
    symbol_numbered c.args.alphabet.now c.symbols-symbol-items.ensures.formed items i _ c.as_str.result.now c.symbols.numbers c.put.new.self c.symbols-symbol-items.ensures.symbols c.symbols-test.true
    (slice_get-get_or items i _ c.symbols-test.true) (c.as_str.ensures ∙ c.in_ok-text.ensures) c.in_ok-put.ensures c.symbols.invariant

pub returns : goal.returns
returns c = all_numbered c.args.alphabet.now c.symbols-symbol-items.result.now c.symbols.symbol-index c.symbols.numbers c.symbols-symbol-items.ensures.symbols c.symbols-test.false c.symbols.invariant
