use Rattle.std.proofs.Common.{◌∙◌}
use Rattle.generated_report.proofs.Telling.{told_found, told_stopped}
use Rattle.generated_report.proofs.told.told_of.Goals as goal

pub returns-in_ok-cell-in-Ok : goal.returns-in_ok-cell-in-Ok
returns-in_ok-cell-in-Ok c project name finds =
    told_found project c.args.table.now name c.args.word.now c.args.alphabet.now c.args.net.now finds c.in_ok-cell-in-Ok.cell c.of-in-Ok.result (c.in_ok-cell-in-Ok.ensures.word ∙ c.in_ok-clone-in-Ok.ensures.cases) c.of-in-Ok.ensures.columns
    c.in-Ok.symbols.items _ (rw c.as_str.ensures at c.in-Ok.ensures.cut) c.in-Ok.ensures.over (rw c.deref.ensures.value at c.in_ok-answer-in-Ok.ensures) c.in_ok-cell-in-Ok.ensures.analysis c.in_ok-cell-in-Ok.ensures.gloss
    (c.of-in-Ok.ensures.many ∙ c.of.ensures)

pub returns-in_ok-cell-in-Err-NoSymbol : goal.returns-in_ok-cell-in-Err-NoSymbol
returns-in_ok-cell-in-Err-NoSymbol c project name finds =
    let stopped = rw c.in-Err-NoSymbol.field-0-is at c.in-Err-NoSymbol.ensures.stopped in
    told_stopped project c.args.table.now name c.args.word.now c.args.alphabet.now c.args.net.now finds c.in_ok-cell-in-Err-NoSymbol.cell c.of-in-Err-NoSymbol.result
    (c.in_ok-cell-in-Err-NoSymbol.ensures.word ∙ c.in_ok-clone-in-Err-NoSymbol.ensures.cases) c.of-in-Err-NoSymbol.ensures.columns _ (rw c.as_str.ensures at stopped) c.in_ok-cell-in-Err-NoSymbol.ensures.analysis
    c.in_ok-cell-in-Err-NoSymbol.ensures.gloss c.of-in-Err-NoSymbol.ensures.many
