-- The definitions that files say are compiled.
use Rattle.std.proofs.Common.{ℕ, List, [], ◌∷◌, All, Ok, sym, subst}
use Rattle.std.proofs.lemmas.List.Elements.{All-append, All-cons, All-contains, All-map, All-nil}
use Rattle.fsm_io.specs.Folders.{Files}
use Rattle.project_manifest.specs.Lines.{Line, Placed, lexc_line, twolc_line, xfst_line, gloss_line, alphabet_line, require_line, file_in, manifest_of}
use Rattle.project_meaning.specs.Leaves.{resolved}
use Rattle.project_meaning.specs.Projects.{Written, names_of}
use Rattle.project_sources.specs.Built.{BodyIsBuilt}
use Rattle.project_sources.specs.Sources.{FilesDefine, FileDefines, TextSays, stated}
use Rattle.project_sources.specs.Laws.{all_readers}
use Rattle.project_sources.specs.BuiltLaws.{BodiesAreBuilt}
use Rattle.project_sources.proofs.Expressions.{statements_compiled}
use Rattle.project_sources.proofs.Lexicons.{lexicons_built}
use Rattle.project_sources.proofs.Grammars.{grammars_built}

module _ (names : List (List ℕ)) where
  abbrev IsCompiledHere : Written → Type 0
  IsCompiledHere w = BodyIsBuilt (resolved names w.body)

  alone_compiled : (w : Written) → IsCompiledHere w → All IsCompiledHere (w ∷ [])
  alone_compiled w here = All-cons IsCompiledHere w [] here (All-nil IsCompiledHere)

  text_compiled : (line : ℕ) (said : Line) (text : List ℕ) (written : List Written) → TextSays all_readers line said text (Ok written) → All IsCompiledHere written
  text_compiled line (lexc_line name file) text written (lexicons, says, is) = subst (All IsCompiledHere) (sym is) (alone_compiled _ (lexicons_built text lexicons says names))
  text_compiled line (twolc_line name file) text written (grammar, says, is) = subst (All IsCompiledHere) (sym is) (alone_compiled _ (grammars_built text grammar says names))
  text_compiled line (xfst_line file) text written (statements, says, is) =
      subst (All IsCompiledHere) (sym is) (All-map IsCompiledHere (stated file) statements (statements_compiled names text statements says))
  text_compiled line (gloss_line file) text written (table, says, is) = subst (All IsCompiledHere) (sym is) (All-nil IsCompiledHere)
  text_compiled line (alphabet_line symbols) text written says = absurd says
  text_compiled line (require_line required) text written says = absurd says

  file_compiled : (files : Files) (l : Placed) (named : List (List ℕ)) (written : List Written) → FileDefines all_readers files l named written → All IsCompiledHere written
  file_compiled files l [] written is = subst (All IsCompiledHere) (sym is) (All-nil IsCompiledHere)
  file_compiled files l (file ∷ others) written (text, have, says) = text_compiled l.line l.said text written says

  -- the definitions that the files of these lines write
  pub files_built : (files : Files) (lines : List Placed) (written : List Written) → FilesDefine all_readers files lines written → All (λ (w : Written). BodyIsBuilt (resolved names w.body)) written
  files_built files [] written is = subst (All IsCompiledHere) (sym is) (All-nil IsCompiledHere)
  files_built files (l ∷ lines) written (front, rest, here, others, is) =
      subst (All IsCompiledHere) (sym is) (All-append IsCompiledHere front rest (file_compiled files l (file_in l.said) front here) (files_built files lines rest others))

pub bodies_built : BodiesAreBuilt
bodies_built files said (text, have, is, define) w among =
    All-contains (IsCompiledHere (names_of said.written)) said.written w (files_built (names_of said.written) files (manifest_of text) said.written define) among
