use Rattle.std.proofs.Common.{[], ◌-◌, ◌^◌, ◌<◌, ℕ, List, length, sym, subst, ◌∙◌, arith}
use Rattle.interlinear.specs.Replies.{AreCells}
use Rattle.interlinear.specs.declared.columns.Cell.{Cell}
use Rattle.std.proofs.lemmas.List.{take_all}
use Rattle.project_store.proofs.Glossed.{cells_more, no_cells}
use Rattle.project_store.proofs.glosses.cells_of.Goals as goal

pub words-init : goal.words-init
words-init c project name glosses shown = subst (λ (z : List Cell). AreCells project c.args.table.now name [] z) (sym c.new-cells.ensures.items) (no_cells project c.args.table.now name)

pub cell_in-requires-clause-short : goal.cell_in-requires-clause-short
cell_in-requires-clause-short c =
    subst (λ (w : List ℕ). length w < 2 ^ 32 - 1) (sym (c.in_ok-clone.ensures.cases ∙ c.word-item.is)) (c.requires.short c.words.word-index c.word-item.result (omega arith))

pub words-preserved : goal.words-preserved
words-preserved c project name glosses shown =
    cells_more project c.args.table.now name c.args.words.now c.words.word-index c.word-item.result c.words.cells.items c.push.new.self.items c.in_ok-cell.cell (omega arith) c.word-item.is (c.words.invariant project name glosses shown)
    (c.in_ok-cell.ensures.word ∙ c.in_ok-clone.ensures.cases) (c.in_ok-cell.ensures.cell project name glosses shown) c.in_ok-push.ensures.items

pub returns : goal.returns
returns c project name glosses shown =
    subst (λ (z : List (List ℕ)). AreCells project c.args.table.now name z c.words.cells.items) (take_all c.words.word-index c.args.words.now (omega arith)) (c.words.invariant project name glosses shown)
