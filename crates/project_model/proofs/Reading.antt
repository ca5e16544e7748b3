-- From the content of files to what they say together.
use Rattle.std.proofs.Common.{◌≡◌, ◌↔◌, ◌==◌, ◌+◌, ◌*◌, ◌-◌, ◌^◌, ◌<◌, ◌≤◌, count_by, ℕ, Bool, true, false, cond, List, [], ◌∷◌, ◌++◌, length, map, All, Contains, Option, Some, None, Result, Ok, Err, IfOk, refl, sym, ap, subst, ◌∙◌, inl, inr, arith}
use Rattle.std.proofs.lemmas.List.Sums.{count_by-le-length}
use Rattle.std.specs.Option.{option_map}
use Rattle.fsm_io.specs.Folders.{Files, file_of}
use Rattle.fsm_base.specs.Normal.{most_growth, source_text}
use Rattle.fsm_base.specs.declared.letters.Sym.{Sym}
use Rattle.fsm_base.specs.declared.normalize.TextError.TheVariants.{NotUtf8, Control}
use Rattle.regex_ast.specs.declared.fault.Fault.{Fault}
use Rattle.regex_ast.specs.declared.fault.Why.TheVariants as why
use Rattle.interlinear.specs.Glosses.{Entry}
use Rattle.project_manifest.specs.Lines.{ManifestFault, Placed, gloss_files_in, line_rows, manifest_of}
use Rattle.project_manifest.specs.Manifests.{lines_from, lines_of, project_name}
use Rattle.project_manifest.specs.Rows.{First}
use Rattle.project_manifest.proofs.Firsts.{first_alike, none_more}
use Rattle.project_meaning.specs.Projects.{Written}
use Rattle.project_sources.specs.Limits.{most_bytes}
use Rattle.project_sources.specs.Sources.{FilesDefine, FilesSay, GlossesOf, HasText, HaveText, Said, project_in}
use Rattle.project_sources.specs.Faults.{fault, TextFault, too_long, NamedFault, Row, no_project, manifest_text, manifest_lines, in_files, in_said, HasFault, FirstFault, SaidFault, read_rows, HasNoText, said_rows}
use Rattle.project_sources.specs.Laws.{all_readers as readers}
use Rattle.project_sources.proofs.Once.{files_say_one, text_one, all_exact}
use Rattle.project_model.specs.Answers.{IsManifestFile, IsNoManifest, IsPlanBy, IsPlanOf, IsProjectRead, IsRefusal, IsRefusedBy, IsTextFault, said_of}
use Rattle.project_model.specs.Plans.{PlanView}
use Rattle.project_sources.specs.declared.plan_error.PlanError.{PlanError}
use Rattle.project_sources.specs.declared.plan_error.PlanError.TheVariants.{Refused, Memory}
use Rattle.project_model.proofs.Alphabets.{numbers_held, put}

-- why a content has no text
pub text_large : (file bytes : List ℕ) → most_bytes < length bytes → HasNoText file bytes (fault file 0 why.LimitFile)
text_large file bytes many = inl (many, refl)

not_long : (file bytes : List ℕ) → length bytes ≤ most_bytes → (other : Fault) → TextFault file bytes too_long other → ⊥
not_long file bytes small other h = let many = h.0 in omega (arith, small, many)

pub text_no_utf8 : (file bytes : List ℕ) (line : ℕ) → length bytes ≤ most_bytes → source_text bytes ≡ Err (NotUtf8 line) → HasNoText file bytes (fault file line why.NotUtf8)
text_no_utf8 file bytes line small is = inr (not_long file bytes small, inl (line, is, refl))

pub text_controlled : (file bytes : List ℕ) (line : ℕ) → length bytes ≤ most_bytes → source_text bytes ≡ Err (Control line) → HasNoText file bytes (fault file line why.Control)
text_controlled file bytes line small is =
    inr (not_long file bytes small, inr ((λ other (at, not_utf8, e). let clash : Err (Control line) ≡ Err (NotUtf8 at) = sym is ∙ not_utf8 in let never : Control line ≡ NotUtf8 at = cc in cc), inl (line, is, refl)))

-- a content without text is none with one
pub textless : (file bytes text : List ℕ) (found : Fault) → HasNoText file bytes found → HasText bytes text → ⊥
textless file bytes text found (inl (many, e)) has = let short = has.short in omega (arith, many, short)
textless file bytes text found (inr (a, inl (line, is, e))) has = let clash : Err (NotUtf8 line) ≡ Ok text = sym is ∙ has.text_is in cc
textless file bytes text found (inr (a, inr (b, inl (line, is, e)))) has = let clash : Err (Control line) ≡ Ok text = sym is ∙ has.text_is in cc
textless file bytes text found (inr (a, inr (b, inr (d, never)))) has = absurd never

same_text : (bytes text other : List ℕ) → HasText bytes text → HasText bytes other → text ≡ other
same_text bytes text other a b = let oks : Ok text ≡ Ok other = sym a.text_is ∙ b.text_is in cc

-- a text has no more lines than bytes, and one
pub lines_few : (line bs : List ℕ) → length (lines_from line bs) ≤ length bs + 1
lines_few [] [] = omega arith
lines_few (c ∷ line) [] = omega arith
lines_few line (b ∷ bs) = by (b == 10) (lines_few [] bs) (lines_few (line ++ b ∷ []) bs)
  where
    by : (e : Bool) → length (lines_from [] bs) ≤ length bs + 1 → length (lines_from (line ++ b ∷ []) bs) ≤ length bs + 1
        → length (cond e (line ∷ lines_from [] bs) (lines_from (line ++ b ∷ []) bs)) ≤ length (b ∷ bs) + 1
    by true ends goes = omega (arith, ends)
    by false ends goes = omega (arith, goes)

-- a file's text has fewer lines than 32 bits count
pub text_short : (text : List ℕ) → length text ≤ most_growth * most_bytes → length (lines_of text) < 4294967295
unfolding most_bytes
text_short text short = omega (arith, lines_few [] text, short)

pub newlines_short : (text : List ℕ) → length text ≤ most_growth * most_bytes → count_by (λ b. b == 10) text + 1 < 2 ^ 32 - 1
unfolding most_bytes
newlines_short text short = omega (arith, count_by-le-length (λ b. b == 10) text, short)

-- a file that a table of references finds
pub held_file : {X : Type 0} (f : X → List ℕ) (o : Option X) (x : X) (files : Files) (name : List ℕ) → option_map f o ≡ file_of name files → o ≡ Some x
    → file_of name files ≡ Some (f x)
held_file f o x files name at is = sym at ∙ ap (option_map f) is

pub held_none : {X : Type 0} (f : X → List ℕ) (o : Option X) (files : Files) (name : List ℕ) → option_map f o ≡ file_of name files → o ≡ None
    → file_of name files ≡ None
held_none f o files name at is = sym at ∙ ap (option_map f) is

pub other_table : (files : Files) (old new other : List (List ℕ)) (error : PlanError) → IsProjectRead files old new (Err error) → IsProjectRead files old other (Err error)
other_table files old new other (Refused found) is = is
other_table files old new other (Memory refused) is = tt

-- the symbols of a plan are in the table
pub symbols_in_table : (files : Files) (old new : List (List ℕ)) (plan : PlanView) → IsPlanOf files old new plan → All (λ (s : Sym). s.0 < length new) plan.symbols
symbols_in_table files old new plan is =
    let alphabet = (project_in is.said).alphabet in
    subst (All (λ (s : Sym). s.0 < length new)) (sym is.stands.symbols) (numbers_held new alphabet (subst (λ (t : List (List ℕ)). All (Contains t) alphabet) (sym is.stands.table) (put alphabet old)))

-- the content of the manifest's file has no text, or its text is no manifest
pub no_text_no_manifest : (bytes : List ℕ) (error : PlanError) → IsRefusedBy (HasNoText project_name bytes) error → IsRefusedBy (IsNoManifest bytes) error
no_text_no_manifest bytes (Refused found) h = inl h
no_text_no_manifest bytes (Memory refused) h = tt

pub no_manifest_of : (bytes text : List ℕ) (error : PlanError) → HasText bytes text → IsRefusedBy (IsTextFault text) error → IsRefusedBy (IsNoManifest bytes) error
no_manifest_of bytes text (Refused found) has h = inr (text, has, h)
no_manifest_of bytes text (Memory refused) has h = tt

-- so there are no lines of a manifest
pub no_manifest_file : (bytes : List ℕ) (lines : List Placed) (found : Fault) → IsNoManifest bytes found → IsManifestFile bytes lines → ⊥
no_manifest_file bytes lines found (inl none) is = textless project_name bytes is.text found none is.has_text
no_manifest_file bytes lines found (inr (text, has, (at, faulty, e))) is =
    is.faultless at (subst (λ (z : List ℕ). ManifestFault line_rows z at) (same_text bytes text is.text has is.has_text) faulty)

-- there is no manifest's file
pub without_project : (files : Files) (old new : List (List ℕ)) (error : PlanError) → file_of project_name files ≡ None → IsRefusal (fault project_name 0 why.NoProject) error
    → IsProjectRead files old new (Err error)
without_project files old new (Refused found) none is = inl (none, is)
without_project files old new (Memory refused) none is = tt

pub same_content : (files : Files) (file content other : List ℕ) → file_of file files ≡ Some content → file_of file files ≡ Some other → content ≡ other
same_content files file content other a b = let somes : Some content ≡ Some other = sym a ∙ b in cc

-- The manifest's file has this content.
module _ (files : Files) (content : List ℕ) (held : file_of project_name files ≡ Some content) where
  there_is : (found : Fault) → HasFault readers files no_project found → ⊥
  there_is found (none, is) = let clash : Some content ≡ None = sym held ∙ none in cc

  has_a_text : (text : List ℕ) → HasText content text → (found : Fault) → HasFault readers files manifest_text found → ⊥
  has_a_text text has found (bytes, at, h) = textless project_name content text found (subst (λ (z : List ℕ). HasNoText project_name z found) (same_content files project_name bytes content at held) h) has

  pub without_manifest : (old new : List (List ℕ)) (error : PlanError) → IsRefusedBy (IsNoManifest content) error → IsProjectRead files old new (Err error)
  without_manifest old new (Refused found) why = by why
    where
      by : IsNoManifest content found → FirstFault readers files read_rows found
      by (inl none) = inr (there_is, inl (content, held, none))
      by (inr (text, has, (at, faulty, e))) = inr (there_is, inr (has_a_text text has, inl (text, at, (content, held, has), faulty, e)))
  without_manifest old new (Memory refused) why = tt

  -- Its text has no fault.
  module _ (lines : List Placed) (manifest : IsManifestFile content lines) where
    have : HaveText files project_name manifest.text
    have = (content, held, manifest.has_text)

    no_line_fault : (found : Fault) → HasFault readers files (manifest_lines line_rows) found → ⊥
    no_line_fault found (t, at, have_it, faulty, e) = manifest.faultless at (subst (λ (z : List ℕ). ManifestFault line_rows z at) (text_one files project_name t manifest.text have_it have) faulty)

    -- a fault of the files that it names
    pub unread_files : (old new : List (List ℕ)) (error : PlanError) → IsRefusedBy (First (NamedFault readers files) lines) error → IsProjectRead files old new (Err error)
    unread_files old new (Refused found) h =
        inr (there_is, inr (has_a_text manifest.text manifest.has_text, inr (no_line_fault, inl (manifest.text, have, subst (λ (z : List Placed). First (NamedFault readers files) z found) manifest.says h))))
    unread_files old new (Memory refused) h = tt

    module _ (written : List Written) (defines : FilesDefine readers files lines written) (free : (found : Fault) → First (NamedFault readers files) lines found → ⊥) where
      abbrev said : Said
      said = said_of lines written

      says : FilesSay readers files said
      says = (manifest.text, have, manifest.says, subst (λ (z : List Placed). FilesDefine readers files z written) manifest.says defines)

      no_file_fault : (found : Fault) → HasFault readers files in_files found → ⊥
      no_file_fault found (t, have_it, h) =
          let same : t ≡ manifest.text = text_one files project_name t manifest.text have_it have in
          free found (subst (λ (z : List Placed). First (NamedFault readers files) z found) (ap manifest_of same ∙ sym manifest.says) h)

      -- the rows on what is said, as rows of the files
      rows_of_said : (found : Fault) → First (SaidFault said) said_rows found ↔ First (HasFault readers files) (map in_said said_rows) found
      rows_of_said =
          first_alike (SaidFault said) (HasFault readers files) in_said (λ row. row) said_rows (map in_said said_rows) refl
          (λ row other among same found. subst (λ (r : Row). SaidFault said row found ↔ HasFault readers files r found) same
          ((λ h. (said, says, h)), (λ (also, also_says, h). subst (λ s. SaidFault s row found) (files_say_one readers all_exact files also said also_says says) h)))

      -- the plan of what they say is the files'
      pub planned_files : (table : List Entry) → GlossesOf readers files [] (gloss_files_in lines) table → (old new : List (List ℕ)) (answer : Result PlanView PlanError) → IsPlanBy said_rows said old new answer
          → IfOk answer (λ plan. plan.glosses ≡ table) → IsProjectRead files old new answer
      planned_files table glosses old new (Ok plan) (none, stands) kept = record {
        faultless = none_more (HasFault readers files) no_project (manifest_text ∷ manifest_lines line_rows ∷ in_files ∷ map in_said said_rows) there_is
            (none_more (HasFault readers files) manifest_text (manifest_lines line_rows ∷ in_files ∷ map in_said said_rows) (has_a_text manifest.text manifest.has_text)
            (none_more (HasFault readers files) (manifest_lines line_rows) (in_files ∷ map in_said said_rows) no_line_fault
            (none_more (HasFault readers files) in_files (map in_said said_rows) no_file_fault (λ found h. none found ((rows_of_said found).1 h)))));
        said = said;
        says = says;
        stands = stands;
        glosses = (
          manifest.text,
          have,
          subst (GlossesOf readers files [] (gloss_files_in (manifest_of manifest.text))) (sym kept) (subst (λ (z : List Placed). GlossesOf readers files [] (gloss_files_in z) table) manifest.says glosses),
        );
      }
      planned_files table glosses old new (Err (Refused found)) h kept =
          inr (there_is, inr (has_a_text manifest.text manifest.has_text, inr (no_line_fault, inr (no_file_fault, (rows_of_said found).0 h))))
      planned_files table glosses old new (Err (Memory refused)) h kept = tt
