use Rattle.std.proofs.Common.{ℕ, Vec, Global}
use Rattle.project_store.proofs.Glossed.{text_glossed, words_short}
use Rattle.project_store.proofs.Lawful.{if_ok}
use Rattle.project_store.proofs.glosses.gloss_in.Goals as goal

pub cells_of-requires-clause-short : goal.cells_of-requires-clause-short
cells_of-requires-clause-short c = rw (c.deref.ensures.value, c.in_ok-words.ensures) (words_short c.args.text.now c.utf8.text c.requires.short)

pub returns : goal.returns
returns c project name glosses shown =
    let are = rw (c.deref.ensures.value, c.in_ok-words.ensures) at (c.in_ok-cells.ensures project name glosses shown) in
    if_ok _ _ (λ (bytes : Vec ℕ Global) told. text_glossed c.args.alphabet.now name c.args.net.now project glosses shown c.args.table.now c.args.version c.args.text.now bytes.items c.in_ok-cells.cells.items are (rw c.deref-2.ensures.value at told)) _ c.block.ensures
