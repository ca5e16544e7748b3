-- The block of a line: its words, their analyses and their glosses in three rows, each word's texts in a column (the
-- Leipzig Glossing Rules, 2015, rule 1: glosses stand under their words, aligned at the left).
use Rattle.std.specs.Prelude.{ℕ, max, ◌-◌, ◌++◌, false, List, [], ◌∷◌, length, replicate, codes, decimal, chars}
use Rattle.unicode_width.specs.Width.{str_width}
use Rattle.reply_meaning.specs.Replies.{line_of, headed}
use Rattle.interlinear.specs.declared.columns.Cell.{Cell}
use Rattle.interlinear.specs.declared.columns.Row.{Row}
use Rattle.interlinear.specs.declared.columns.Row.TheVariants.{Words, Analyses, Glosses}

abbrev pub width_of : List ℕ → ℕ
width_of text = str_width false (chars text)

-- how wide the column of a cell is: as its widest text
abbrev pub column_of : Cell → ℕ
column_of cell = max (max (width_of cell.word) (width_of cell.analysis)) (width_of cell.gloss)

-- a text of a cell, the space that fills its column, and two more
abbrev pub padded : (Cell → List ℕ) → Cell → List ℕ
padded text cell = text cell ++ replicate (column_of cell - width_of (text cell)) 32 ++ codes "  "

-- one text of each cell. Nothing stands behind the last one
abbrev pub row_of : (Cell → List ℕ) → List Cell → List ℕ
row_of text [] = []
row_of text (cell ∷ []) = text cell
row_of text (cell ∷ other ∷ cells) = padded text cell ++ row_of text (other ∷ cells)

-- the rows, where there is a cell
abbrev pub rows_of : List Cell → List ℕ
rows_of [] = []
rows_of (cell ∷ cells) =
    line_of (row_of (λ c. c.word) (cell ∷ cells)) ++ line_of (row_of (λ c. c.analysis) (cell ∷ cells)) ++ line_of (row_of (λ c. c.gloss) (cell ∷ cells))

-- `V gloss n` and the rows
abbrev pub block_of : ℕ → List Cell → List ℕ
block_of number cells = headed number (codes "gloss " ++ decimal (length cells)) ++ rows_of cells

-- the text of a cell that stands in this row
abbrev pub text_in : Row → Cell → List ℕ
text_in Words cell = cell.word
text_in Analyses cell = cell.analysis
text_in Glosses cell = cell.gloss
