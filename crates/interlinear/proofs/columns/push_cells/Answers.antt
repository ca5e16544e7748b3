use Rattle.std.proofs.Common.{List, ◌++◌, sym, ap, ◌∙◌, append-nil}
use Rattle.std.proofs.lemmas.List.{nil_from_length}
use Rattle.interlinear.specs.declared.columns.Cell.{Cell}
use Rattle.interlinear.specs.Blocks.{row_of, text_in}
use Rattle.std.specs.String.{string_bytes}
use Rattle.interlinear.proofs.Rows.{cells_put}
use Rattle.interlinear.proofs.columns.push_cells.Goals as goal

pub returns-in_default : goal.returns-in_default
returns-in_default c =
    let none = nil_from_length c.args.cells.now c.in_default.ensures.cases in
    sym (ap (λ (z : List Cell). (string_bytes c.args.block.now) ++ row_of (text_in c.args.row) z) none ∙ append-nil (string_bytes c.args.block.now))

pub returns : goal.returns
returns c =
    cells_put (text_in c.args.row) (string_bytes c.args.block.now) (string_bytes c.cells.block) (string_bytes c.push_str.new.self) c.text_in.result.now c.in-Some.front.now c.in-Some.last.now c.args.cells.now c.cells.cell-index
    c.cells-test.false c.in-Some.ensures.cases.0 c.cells.invariant c.text_in.ensures c.in_ok-push_str.ensures.bytes
