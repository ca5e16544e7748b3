use Rattle.std.proofs.Common.{◌≡◌, ◌<◌, length, sym, ap, ◌∙◌, arith}
use Rattle.std.specs.List.{slice_get}
use Rattle.fsm_base.specs.Symbols.{number_of}
use Rattle.fsm_base.proofs.TextLemmas.{number_within}
use Rattle.att_text.proofs.Tables.{interned, symbol_held, symbol_known}
use Rattle.att_text.proofs.drawing.symbol_of.Goals as goal

pub returns-then-symbol-len-clause-symbol : goal.returns-then-symbol-len-clause-symbol
returns-then-symbol-len-clause-symbol c =
    let is = c.number_of-symbol.ensures in
    let count = c.len.ensures.count in
    let below = c.if-symbol-len.true in
    let within : number_of c.args.text.now c.args.table.now < length c.args.table.now = omega arith in
    ap (slice_get c.args.table.now) is ∙ symbol_held c.args.text.now c.args.table.now within

pub returns-then-symbol-len-clause-table : goal.returns-then-symbol-len-clause-table
returns-then-symbol-len-clause-table c =
    let is = c.number_of-symbol.ensures in
    let count = c.len.ensures.count in
    let below = c.if-symbol-len.true in
    let within : number_of c.args.text.now c.args.table.now < length c.args.table.now = omega arith in
    sym (symbol_known c.args.text.now c.args.table.now within)

pub intern-requires-clause-room : goal.intern-requires-clause-room
intern-requires-clause-room c =
    let is = c.number_of-symbol.ensures in
    let count = c.len.ensures.count in
    let above = c.if-symbol-len.false in
    let most = number_within c.args.text.now c.args.table.now in
    let last : number_of c.args.text.now c.args.table.now ≡ length c.args.table.now = omega arith in
    c.requires.room last

pub returns-clause-symbol : goal.returns-clause-symbol
returns-clause-symbol c = interned c.args.text.now c.args.table.now c.intern.new.self c.intern.result c.intern.ensures.number c.intern.ensures.table
