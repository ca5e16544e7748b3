-- Lexicons of the program as plain trees, with the numbers that their leaves have in another project.
use Rattle.regex_ast.specs.declared.expr.Atom.{Atom}
use Rattle.regex_ast.specs.declared.lexc.Piece.{Piece as PieceOf}
use Rattle.regex_ast.specs.declared.lexc.Form.{Form as FormOf}
use Rattle.regex_ast.specs.declared.lexc.Entry.{Entry as EntryOf}
use Rattle.regex_ast.specs.declared.lexc.Lexicon.{Lexicon as LexiconOf}
use Rattle.project_meaning.specs.Lexicons.{piece_by}
use Rattle.project_meaning.specs.Trees.{Piece, Form, Entry, Lexicon}
use Rattle.expr_spelling.specs.Mapped.{mapped_entry, mapped_form, mapped_lexicon}
use Rattle.name_resolution.specs.Plain.{piece_of, form_of, entry_of, lexicon_of}
use Rattle.body_equality.specs.Renumbered.{renumbered}
use Rattle.body_equality.specs.declared.renumbering.Renumbering.{Renumbering}

module _ (numbers : Renumbering) where
  abbrev pub renumbered_piece : PieceOf Atom → Piece Atom
  renumbered_piece piece = piece_by (renumbered numbers) (piece_of piece)

  abbrev pub renumbered_form : FormOf Atom → Form Atom
  renumbered_form form = mapped_form (renumbered numbers) (renumbered numbers) (form_of form)

  abbrev pub renumbered_entry : EntryOf Atom → Entry Atom
  renumbered_entry entry = mapped_entry (renumbered numbers) (renumbered numbers) (entry_of entry)

  abbrev pub renumbered_lexicon : LexiconOf Atom → Lexicon Atom
  renumbered_lexicon lexicon = mapped_lexicon (renumbered numbers) (renumbered numbers) (lexicon_of lexicon)
