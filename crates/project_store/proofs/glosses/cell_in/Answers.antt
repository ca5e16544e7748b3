use Rattle.project_store.proofs.Glossed.{cell_if_found, cell_if_stopped}
use Rattle.project_store.proofs.glosses.cell_in.Goals as goal

pub returns-in_ok-answer-in-Ok-clause-cell : goal.returns-in_ok-answer-in-Ok-clause-cell
returns-in_ok-answer-in-Ok-clause-cell c project name glosses shown =
    cell_if_found c.args.alphabet.now name c.args.net.now project glosses shown c.args.table.now c.found.result c.args.word _ _ (rw c.as_str.ensures at c.in-Ok.ensures.cut) c.in-Ok.ensures.over (rw c.deref.ensures.value at c.in_ok-answer-in-Ok.ensures)
    c.found.ensures.word c.found.ensures.analysis c.found.ensures.gloss

pub returns-in-Err-NoSymbol-clause-cell : goal.returns-in-Err-NoSymbol-clause-cell
returns-in-Err-NoSymbol-clause-cell c project name glosses shown =
    let stopped = rw c.in-Err-NoSymbol.field-0-is at c.in-Err-NoSymbol.ensures.stopped in
    cell_if_stopped c.args.alphabet.now name c.args.net.now project glosses shown c.args.table.now c.without_symbol.result c.args.word _ (rw c.as_str.ensures at stopped) c.without_symbol.ensures.word c.without_symbol.ensures.analysis c.without_symbol.ensures.gloss
