-- What files say depends on the content of each file alone, not on the order in which they are listed.
use Rattle.std.proofs.Common.{◌≡◌, ℕ, List, [], ◌∷◌, Result, Ok, Err, inl, inr, sym, ◌∙◌}
use Rattle.fsm_io.specs.Folders.{Files, file_of}
use Rattle.interlinear.specs.Glosses.{Entry}
use Rattle.regex_ast.specs.declared.fault.Fault.{Fault}
use Rattle.project_manifest.specs.Lines.{Placed, file_in, gloss_files_in, manifest_of}
use Rattle.project_manifest.specs.Manifests.{project_name}
use Rattle.project_manifest.specs.Rows.{First}
use Rattle.project_meaning.specs.Projects.{Project, Written}
use Rattle.project_sources.specs.Sources.{Readers, FileDefines, FilesDefine, FilesGloss, FilesSay, GlossesOf, HaveText, Said}
use Rattle.project_sources.specs.Faults.{ContentFault, FileFault, FileRow, FirstFault, HasFault, NamedFault, Row, SourcesSay, file_rows, in_files, in_said, manifest_lines, manifest_text, missing, no_project, no_text, unread}

abbrev pub AreSame : Files → Files → Type 0
AreSame files others = (name : List ℕ) → file_of name files ≡ file_of name others

-- the first of items that have the same
first_same : {A F : Type 0} (Has Also : A → F → Type 0) → ((x : A) (f : F) → Has x f → Also x f) → ((x : A) (f : F) → Also x f → Has x f) → (xs : List A) (found : F) → First Has xs found → First Also xs found
first_same Has Also on back [] found h = h
first_same Has Also on back (x ∷ xs) found (inl h) = inl (on x found h)
first_same Has Also on back (x ∷ xs) found (inr h) = inr (λ other also. h.0 other (back x other also), first_same Has Also on back xs found h.1)

flipped : (files others : Files) → AreSame files others → AreSame others files
flipped files others same name = sym (same name)

have_text : (files others : Files) → AreSame files others → (file text : List ℕ) → HaveText files file text → HaveText others file text
have_text files others same file text (content, is, has) = (content, sym (same file) ∙ is, has)

content_fault : (files others : Files) → AreSame files others → (file : List ℕ) (found : Fault) → ContentFault files file found → ContentFault others file found
content_fault files others same file found (content, is, has) = (content, sym (same file) ∙ is, has)

module _ (readers : Readers) where
  file_defines : (files others : Files) → AreSame files others → (l : Placed) (names : List (List ℕ)) (written : List Written) → FileDefines readers files l names written → FileDefines readers others l names written
  file_defines files others same l [] written h = h
  file_defines files others same l (file ∷ names) written (text, have, says) = (text, have_text files others same file text have, says)

  files_define : (files others : Files) → AreSame files others → (lines : List Placed) (written : List Written) → FilesDefine readers files lines written → FilesDefine readers others lines written
  files_define files others same [] written h = h
  files_define files others same (l ∷ lines) written (front, rest, first, later, is) =
      (front, rest, file_defines files others same l (file_in l.said) front first, files_define files others same lines rest later, is)

  files_say : (files others : Files) → AreSame files others → (said : Said) → FilesSay readers files said → FilesSay readers others said
  files_say files others same said (text, have, manifest, defines) =
      (text, have_text files others same project_name text have, manifest, files_define files others same (manifest_of text) said.written defines)

  file_fault : (files others : Files) → AreSame files others → (l : Placed) (file : List ℕ) (row : FileRow) (found : Fault) → FileFault readers files l file row found → FileFault readers others l file row found
  file_fault files others same l file missing found (none, is) = (sym (same file) ∙ none, is)
  file_fault files others same l file no_text found h = content_fault files others same file found h
  file_fault files others same l file unread found (text, at, have, says, is) = (text, at, have_text files others same file text have, says, is)

  named_fault : (files others : Files) → AreSame files others → (l : Placed) (found : Fault) → NamedFault readers files l found → NamedFault readers others l found
  named_fault files others same l found h =
      first_same (λ file. First (FileFault readers files l file) file_rows) (λ file. First (FileFault readers others l file) file_rows)
      (λ file f. first_same (FileFault readers files l file) (FileFault readers others l file) (file_fault files others same l file) (file_fault others files (flipped files others same) l file) file_rows f)
      (λ file f. first_same (FileFault readers others l file) (FileFault readers files l file) (file_fault others files (flipped files others same) l file) (file_fault files others same l file) file_rows f)
      (file_in l.said) found h

  has_fault : (files others : Files) → AreSame files others → (row : Row) (found : Fault) → HasFault readers files row found → HasFault readers others row found
  has_fault files others same no_project found (none, is) = (sym (same project_name) ∙ none, is)
  has_fault files others same manifest_text found h = content_fault files others same project_name found h
  has_fault files others same (manifest_lines by) found (text, at, have, told, is) = (text, at, have_text files others same project_name text have, told, is)
  has_fault files others same in_files found (text, have, first) = (
    text,
    have_text files others same project_name text have,
    first_same (NamedFault readers files) (NamedFault readers others) (named_fault files others same) (named_fault others files (flipped files others same)) (manifest_of text) found first,
  )
  has_fault files others same (in_said row) found (said, says, has) = (said, files_say files others same said says, has)

  first_fault : (files others : Files) → AreSame files others → (by : List Row) (found : Fault) → FirstFault readers files by found → FirstFault readers others by found
  first_fault files others same by found h =
      first_same (HasFault readers files) (HasFault readers others) (has_fault files others same) (has_fault others files (flipped files others same)) by found h

  pub same_answer : (files others : Files) → AreSame files others → (by : List Row) (answer : Result Project Fault) → SourcesSay readers files by answer → SourcesSay readers others by answer
  same_answer files others same by (Ok project) (none, said, says, is) =
      (λ found h. none found (first_fault others files (flipped files others same) by found h), said, files_say files others same said says, is)
  same_answer files others same by (Err found) h = first_fault files others same by found h

  glosses_of : (files others : Files) → AreSame files others → (table : List Entry) (named : List (List ℕ)) (found : List Entry) → GlossesOf readers files table named found → GlossesOf readers others table named found
  glosses_of files others same table [] found h = h
  glosses_of files others same table (file ∷ named) found (text, own, have, says, rest) =
      (text, own, have_text files others same file text have, says, glosses_of files others same own named found rest)

  pub same_table : (files others : Files) → AreSame files others → (table : List Entry) → FilesGloss readers files table → FilesGloss readers others table
  same_table files others same table (text, have, glosses) = (text, have_text files others same project_name text have, glosses_of files others same [] (gloss_files_in (manifest_of text)) table glosses)
