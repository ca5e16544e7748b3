-- Sources have one table of glosses, and those that are a project have one.
use Rattle.std.proofs.Common.{◌≡◌, ℕ, List, [], ◌∷◌, ◌++◌, Ok, Result, refl, sym, subst, ◌∙◌}
use Rattle.fsm_io.specs.Folders.{Files}
use Rattle.interlinear.specs.Glosses.{Entry}
use Rattle.project_manifest.specs.Lines.{Line, Placed, alphabet_line, file_in, gloss_files_in, gloss_line, glosses_said, lexc_line, manifest_of, require_line, twolc_line, xfst_line}
use Rattle.project_manifest.specs.Manifests.{project_name}
use Rattle.project_meaning.specs.Projects.{Project, Written}
use Rattle.project_sources.specs.Faults.{Row, SourcesSay}
use Rattle.project_sources.specs.Sources.{AreExact, FileDefines, FilesDefine, FilesGloss, GlossesOf, Readers}
use Rattle.project_sources.proofs.Once.{text_one}

same_table : {E : Type 0} (a b : List Entry) (p q : Result (List Entry) E) → p ≡ Ok a → q ≡ Ok b → p ≡ q → a ≡ b
same_table a b p q e f is = let g : Ok a ≡ Ok b = sym e ∙ is ∙ f in cc

module _ (readers : Readers) (files : Files) where
  one_of : AreExact readers → (names : List (List ℕ)) (table a b : List Entry) → GlossesOf readers files table names a → GlossesOf readers files table names b → a ≡ b
  one_of exact [] table a b p q = p ∙ sym q
  one_of exact (file ∷ others) table a b (s, v, p, h, more) (t, w, q, k, also) =
      let same = text_one files file s t p q in
      let own = same_table v w (Ok v) (Ok w) refl refl (exact.gloss t (Ok v) (Ok w) (subst (λ z. readers.gloss z (Ok v)) same h) k) in
      one_of exact others w a b (subst (λ z. GlossesOf readers files z others a) own more) also

  -- a file of glosses that is read has a table, whatever stands behind it
  behind : (line : ℕ) (said : Line) (front : List Written) (names : List (List ℕ)) → FileDefines readers files (record { line = line; said = said }) (file_in said) front
      → ((table : List Entry) → (found : List Entry) × GlossesOf readers files table names found) → (table : List Entry) → (found : List Entry) × GlossesOf readers files table (glosses_said said ++ names) found
  behind line (gloss_line file) front names (text, have, (own, says, is)) more table = let rest = more own in (rest.0, (text, own, have, says, rest.1))
  behind line (lexc_line name file) front names here more table = more table
  behind line (twolc_line name file) front names here more table = more table
  behind line (xfst_line file) front names here more table = more table
  behind line (alphabet_line symbols) front names here more table = more table
  behind line (require_line required) front names here more table = more table

  some_of : (lines : List Placed) (written : List Written) → FilesDefine readers files lines written → (table : List Entry) → (found : List Entry) × GlossesOf readers files table (gloss_files_in lines) found
  some_of [] written defines table = (table, refl)
  some_of (l ∷ lines) written (front, rest, here, others, is) table = behind l.line l.said front (gloss_files_in lines) here (some_of lines rest others) table

pub one_table : (readers : Readers) → AreExact readers → (files : Files) (a b : List Entry) → FilesGloss readers files a → FilesGloss readers files b → a ≡ b
one_table readers exact files a b (s, p, h) (t, q, k) =
    let same = text_one files project_name s t p q in
    one_of readers files exact (gloss_files_in (manifest_of t)) [] a b (subst (λ z. GlossesOf readers files [] (gloss_files_in (manifest_of z)) a) same h) k

pub some_table : (readers : Readers) (files : Files) (by : List Row) (project : Project) → SourcesSay readers files by (Ok project) → (table : List Entry) × FilesGloss readers files table
some_table readers files by project (none, said, (text, have, is, defines), e) =
    let found = some_of readers files (manifest_of text) said.written defines [] in
    (found.0, (text, have, found.1))
