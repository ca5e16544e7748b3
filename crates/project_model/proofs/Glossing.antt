-- The glosses of the files that lines of a manifest name, one after another.
use Rattle.std.proofs.Common.{◌≡◌, ◌+◌, ◌<◌, ◌≤◌, ◌*◌, ◌^◌, ℕ, List, [], ◌∷◌, ◌++◌, length, map, take, get_or, Some, Result, Ok, Err, OnOk, IsUtf8, refl, sym, ap, subst, ◌∙◌, append-nil, arith}
use Rattle.std.proofs.lemmas.Grind.{flat_map-append}
use Rattle.fsm_base.specs.Normal.{most_growth}
use Rattle.fsm_io.specs.Folders.{Files, file_of}
use Rattle.interlinear.specs.Glosses.{Entry, SaysTable, lines_of}
use Rattle.interlinear.proofs.Pieces.{few_lines}
use Rattle.project_manifest.specs.Lines.{Line, Placed, alphabet_line, file_in, gloss_files_in, gloss_line, glosses_said, lexc_line, require_line, twolc_line, xfst_line}
use Rattle.project_manifest.specs.Sayings.{placed_of}
use Rattle.project_manifest.specs.declared.declarations.Declaration.TheVariants.{Glosses}
use Rattle.project_manifest.specs.declared.manifest.ManifestLine.{ManifestLine}
use Rattle.project_meaning.specs.Projects.{Written}
use Rattle.project_sources.specs.Laws.{all_readers as readers}
use Rattle.project_sources.specs.Limits.{most_bytes}
use Rattle.project_sources.specs.Sources.{GlossesOf, HasText}
use Rattle.project_model.specs.Files.{HasGlossed, HasPut}
use Rattle.project_model.proofs.FileSteps.{front_more}

-- a file's text has fewer lines than 32 bits count
pub lines_short : (text : List ℕ) → IsUtf8 text → length text ≤ most_growth * most_bytes → length (lines_of text) < 2 ^ 32
unfolding most_bytes
lines_short text utf8 short = omega (arith, few_lines text utf8, short)

-- a file of glosses has no definitions
pub put_glosses : (line : ℕ) (named text : List ℕ) (table : List Entry) (old : List Written) → SaysTable text (Ok table) → HasPut (placed_of (record { number = line; declares = Glosses named })) text old old
put_glosses line named text table old says = ([], (table, says, refl), sym (append-nil old))

module _ (files : Files) where
  -- a text of the file that a line names
  glossed_file : (said : Line) (file content text : List ℕ) (old new : List Entry) → file_in said ≡ file ∷ [] → file_of file files ≡ Some content → HasText content text → HasGlossed said text old new
      → GlossesOf readers files old (glosses_said said) new
  glossed_file (gloss_line named) file content text old new names held has says =
      let same : named ∷ [] ≡ file ∷ [] = names in
      let here : file ≡ named = cc in
      (text, new, (content, subst (λ (f : List ℕ). file_of f files ≡ Some content) here held, has), says, refl)
  glossed_file (lexc_line name named) file content text old new names held has is = is
  glossed_file (twolc_line name named) file content text old new names held has is = is
  glossed_file (xfst_line named) file content text old new names held has is = is
  glossed_file (alphabet_line symbols) file content text old new names held has is = is
  glossed_file (require_line required) file content text old new names held has is = is

  pub glossed_files : {T E : Type 0} (said : Line) (file content text : List ℕ) (r : Result T E) (old new : List Entry) → file_in said ≡ file ∷ [] → file_of file files ≡ Some content → HasText content text
      → OnOk r (HasGlossed said text old new) → OnOk r (GlossesOf readers files old (glosses_said said) new)
  glossed_files said file content text (Ok x) old new names held has is = glossed_file said file content text old new names held has is
  glossed_files said file content text (Err error) old new names held has is = tt

  -- a line that names no file
  pub glossless : (said : Line) (table : List Entry) → file_in said ≡ [] → GlossesOf readers files table (glosses_said said) table
  glossless (gloss_line named) table none = let clash : named ∷ [] ≡ [] = none in cc
  glossless (lexc_line name named) table none = refl
  glossless (twolc_line name named) table none = refl
  glossless (xfst_line named) table none = refl
  glossless (alphabet_line symbols) table none = refl
  glossless (require_line required) table none = refl

  -- with further files
  glosses_behind : (names others : List (List ℕ)) (table between new : List Entry) → GlossesOf readers files table names between → GlossesOf readers files between others new → GlossesOf readers files table (names ++ others) new
  glosses_behind [] others table between new is more = subst (λ (z : List Entry). GlossesOf readers files z others new) is more
  glosses_behind (file ∷ names) others table between new (text, own, have, says, rest) more = (text, own, have, says, glosses_behind names others own between new rest more)

  -- A loop over lines, of which the file of the one at this place is read.
  module _ (xs : List ManifestLine) (i : ℕ) (x : ManifestLine) (below : i < length xs) (is : x ≡ get_or xs i x) where
    pub glossed_more : (between new : List Entry) → GlossesOf readers files [] (gloss_files_in (map placed_of (take i xs))) between → GlossesOf readers files between (glosses_said (placed_of x).said) new
        → GlossesOf readers files [] (gloss_files_in (map placed_of (take (i + 1) xs))) new
    glossed_more between new so_far here =
        let names : gloss_files_in (map placed_of (take (i + 1) xs)) ≡ gloss_files_in (map placed_of (take i xs)) ++ glosses_said (placed_of x).said =
        ap gloss_files_in (front_more files xs i x below is) ∙ flat_map-append (λ (p : Placed). glosses_said p.said) (map placed_of (take i xs)) (placed_of x ∷ [])
        ∙ ap (λ (z : List (List ℕ)). gloss_files_in (map placed_of (take i xs)) ++ z) (append-nil (glosses_said (placed_of x).said)) in
        subst (λ (z : List (List ℕ)). GlossesOf readers files [] z new) (sym names) (glosses_behind (gloss_files_in (map placed_of (take i xs))) (glosses_said (placed_of x).said) [] between new so_far here)
