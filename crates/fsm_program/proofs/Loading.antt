-- What the files read say of the project, as far as they are told.
use Rattle.std.proofs.Common.{◌≡◌, ◌↔◌, ℕ, ◌<◌, ◌≤◌, ◌+◌, List, [], ◌∷◌, ◌++◌, length, map, take, inl, inr, Some, None, Option, Ok, Err, IfErr, Result, refl, sym, ap, subst, ◌∙◌, arith}
use Rattle.std.proofs.lemmas.Bool.{cases_lt}
use Rattle.std.proofs.lemmas.List.{length-take, take_all}
use Rattle.std.proofs.lemmas.List.Elements.{All-contains, Contains-append_cases, Contains-append_left, Contains-append_right}
use Rattle.std.specs.List.{Contains}
use Rattle.std.specs.Result.{IsErrAnd}
use Rattle.std.specs.Option.{option_map}
use Rattle.fsm_io.specs.Causes.{Rose}
use Rattle.fsm_io.specs.Folders.{Files, file_of, Told}
use Rattle.regex_ast.specs.declared.fault.Fault.{Fault}
use Rattle.regex_ast.specs.declared.fault.Why.TheVariants as why
use Rattle.regex_reader.specs.Files.{FaultAt}
use Rattle.word_relations.proofs.Members.{Contains-cons_cases, Contains-head, Contains-nil_cases}
use Rattle.interlinear.specs.Glosses.{Entry}
use Rattle.project_manifest.specs.Lines.{Line, ManifestFault, Placed, alphabet_line, file_in, files_in, gloss_files_in, gloss_line, glosses_said, lexc_line, line_rows, manifest_of, require_line, twolc_line, xfst_line}
use Rattle.project_manifest.specs.Manifests.{project_name}
use Rattle.project_manifest.specs.Rows.{First}
use Rattle.project_manifest.proofs.Firsts.{first_alike}
use Rattle.project_meaning.specs.Projects.{Project, Written}
use Rattle.project_sources.specs.Limits.{most_bytes}
use Rattle.project_sources.specs.Sources.{FileDefines, FilesDefine, FilesSay, GlossesOf, HasText, HaveText, Said, project_in}
use Rattle.project_sources.specs.Faults.{fault, TextFault, text_rows, ContentFault, FileRow, missing, no_text, unread, file_rows, FileFault, NamedFault, Row, no_project, manifest_text, manifest_lines, in_files, in_said, empty_centre, HasFault, FirstFault, rows, said_rows}
use Rattle.project_sources.specs.Laws.{all_readers}
use Rattle.fsm_program.specs.Files.{IsLoaded, IsLoadError, load_error, most_read}
use Rattle.project_store.specs.Projects.{HasTable, Reads}
use Rattle.project_sources.specs.Edits.{Version}
use Rattle.editor_meaning.specs.Editing.{IsLoaded as IsLoadedVersion}
use Rattle.fsm_program.specs.Serving.{IsFirstVersion}
use Rattle.fsm_program.specs.Gathered.{IsGathered, IsSeen}
use Rattle.project_store.specs.Projects.{IsOfSources, IsWhyNot}
use Rattle.project_store.specs.Loaded.{LoadedView}
use Rattle.fsm_program.specs.declared.load.LoadError.{LoadError}
use Rattle.project_store.specs.declared.store_error.StoreError.{StoreError}
use Rattle.project_store.specs.declared.store_error.StoreError.TheVariants as store

-- what follows of what is told is told
pub told_so : {T : Type 0} (P Q : T → Type 0) (o : Option T) → ((x : T) → P x → Q x) → Told o P → Told o Q
told_so P Q None f h = tt
told_so P Q (Some x) f h = f x h

pub told_both : {T : Type 0} (P Q R : T → Type 0) (o : Option T) → ((x : T) → P x → Q x → R x) → Told o P → Told o Q → Told o R
told_both P Q R None f h k = tt
told_both P Q R (Some x) f h k = f x h k

-- a file is read with one byte more than it may have
next_read : most_read ≡ most_bytes + 1
unfolding most_read most_bytes
next_read = refl

-- the first bytes of a content say what the whole says: too many bytes are seen by one more than a file may have
module _ (content bytes : List ℕ) (is : bytes ≡ take most_read content) where
  small_whole : length bytes ≤ most_bytes → bytes ≡ content
  small_whole small = is ∙ take_all most_read content (omega (arith, ap length is, length-take most_read content, small, next_read))

  small_cut : length content ≤ most_bytes → content ≡ bytes
  small_cut small = sym (is ∙ take_all most_read content (omega (arith, small, next_read)))

  cut_long : most_bytes < length content → most_bytes < length bytes
  cut_long many = omega (arith, ap length is, length-take most_read content, many, next_read)

  -- a fault of the first bytes as a text is one of the whole
  text_fault_both : (file : List ℕ) (found : Fault) → First (TextFault file bytes) text_rows found ↔ First (TextFault file content) text_rows found
  text_fault_both file found =
      elim (cases_lt most_bytes (length content)) as (λ _. First (TextFault file bytes) text_rows found ↔ First (TextFault file content) text_rows found) [
        | inl many ↦ (long bytes content (cut_long many) many, long content bytes many (cut_long many))
        | inr small ↦
            let same = small_cut small in
            (λ h. subst (λ (z : List ℕ). First (TextFault file z) text_rows found) (sym same) h, λ h. subst (λ (z : List ℕ). First (TextFault file z) text_rows found) same h)
      ]
    where
      long : (one other : List ℕ) → most_bytes < length one → most_bytes < length other → First (TextFault file one) text_rows found → First (TextFault file other) text_rows found
      long one other one_long other_long (inl (many, e)) = inl (other_long, e)
      long one other one_long other_long (inr later) = absurd (later.0 (fault file 0 why.LimitFile) (one_long, refl))

-- what is seen of a file
seen_none : (sources files : Files) (name : List ℕ) → IsSeen sources files name → file_of name sources ≡ None → file_of name files ≡ None
seen_none sources files name seen none = by (file_of name files) (sym seen ∙ none)
  where
    by : (o : Option (List ℕ)) → option_map (take most_read) o ≡ None → o ≡ None
    by None e = refl
    by (Some content) e = let clash : Some (take most_read content) ≡ None = e in cc

abbrev IsCutOf : Option (List ℕ) → List ℕ → Type 0
IsCutOf o bytes = (content : List ℕ) × (o ≡ Some content) × (bytes ≡ take most_read content)

pub seen_some : (sources files : Files) (name bytes : List ℕ) → IsSeen sources files name → file_of name sources ≡ Some bytes → IsCutOf (file_of name files) bytes
seen_some sources files name bytes seen some = by (file_of name files) (sym seen ∙ some)
  where
    by : (o : Option (List ℕ)) → option_map (take most_read) o ≡ Some bytes → IsCutOf o bytes
    by None e = let clash : None ≡ Some bytes = e in cc
    by (Some content) e = let same : Some (take most_read content) ≡ Some bytes = e in (content, refl, cc)

-- Of a file that is seen the sources and the files say the same.
module _ (sources files : Files) (name : List ℕ) (seen : IsSeen sources files name) where
  missing_both : (file_of name sources ≡ None) ↔ (file_of name files ≡ None)
  missing_both = (seen_none sources files name seen, λ none. seen ∙ ap (option_map (take most_read)) none)

  text_both : (text : List ℕ) → HaveText sources name text ↔ HaveText files name text
  text_both text = (there, back)
    where
      there : HaveText sources name text → HaveText files name text
      there (bytes, at, has) =
          let cut = seen_some sources files name bytes seen at in
          (cut.0, cut.1, subst (λ (z : List ℕ). HasText z text) (small_whole cut.0 bytes cut.2 has.short) has)

      back : HaveText files name text → HaveText sources name text
      back (content, at, has) =
          (take most_read content, seen ∙ ap (option_map (take most_read)) at, subst (λ (z : List ℕ). HasText z text) (small_cut content (take most_read content) refl has.short) has)

  content_both : (found : Fault) → ContentFault sources name found ↔ ContentFault files name found
  content_both found = (there, back)
    where
      there : ContentFault sources name found → ContentFault files name found
      there (bytes, at, h) =
          let cut = seen_some sources files name bytes seen at in
          (cut.0, cut.1, (text_fault_both cut.0 bytes cut.2 name found).0 h)

      back : ContentFault files name found → ContentFault sources name found
      back (content, at, h) =
          (take most_read content, seen ∙ ap (option_map (take most_read)) at, (text_fault_both content (take most_read content) refl name found).1 h)

-- The manifest of the files is seen.
module _ (sources files : Files) (seen : IsSeen sources files project_name) where
  project_both : (found : Fault) → HasFault all_readers sources no_project found ↔ HasFault all_readers files no_project found
  project_both found =
      let both = missing_both sources files project_name seen in
      (λ (none, e). (both.0 none, e), λ (none, e). (both.1 none, e))

  lines_both : (found : Fault) → HasFault all_readers sources (manifest_lines line_rows) found ↔ HasFault all_readers files (manifest_lines line_rows) found
  lines_both found =
      let both = text_both sources files project_name seen in
      (λ (t, at, held, faulty, e). (t, at, (both t).0 held, faulty, e), λ (t, at, held, faulty, e). (t, at, (both t).1 held, faulty, e))

-- The file of a line is seen.
module _ (sources files : Files) (l : Placed) (file : List ℕ) (seen : IsSeen sources files file) where
  file_row_both : (row : FileRow) (found : Fault) → FileFault all_readers sources l file row found ↔ FileFault all_readers files l file row found
  file_row_both missing found =
      let both = missing_both sources files file seen in
      (λ (none, e). (both.0 none, e), λ (none, e). (both.1 none, e))
  file_row_both no_text found = content_both sources files file seen found
  file_row_both unread found =
      let both = text_both sources files file seen in
      (λ (t, at, held, says, e). (t, at, (both t).0 held, says, e), λ (t, at, held, says, e). (t, at, (both t).1 held, says, e))

  file_both : (found : Fault) → First (FileFault all_readers sources l file) file_rows found ↔ First (FileFault all_readers files l file) file_rows found
  file_both =
      first_alike (FileFault all_readers sources l file) (FileFault all_readers files l file) (λ row. row) (λ row. row) file_rows file_rows refl
      (λ row other among same found. subst (λ (r : FileRow). FileFault all_readers sources l file row found ↔ FileFault all_readers files l file r found) same (file_row_both row found))

-- each of these names is seen
abbrev AreSeen : Files → Files → List (List ℕ) → Type 0
AreSeen sources files names = (name : List ℕ) → Contains names name → IsSeen sources files name

named_both : (sources files : Files) (l : Placed) → AreSeen sources files (file_in l.said) → (found : Fault) → NamedFault all_readers sources l found ↔ NamedFault all_readers files l found
named_both sources files l seen = first_alike Of_sources Of_files (λ file. file) (λ file. file) (file_in l.said) (file_in l.said) refl both
  where
    Of_sources : List ℕ → Fault → Type 0
    Of_sources file found = First (FileFault all_readers sources l file) file_rows found

    Of_files : List ℕ → Fault → Type 0
    Of_files file found = First (FileFault all_readers files l file) file_rows found

    both : (file other : List ℕ) → Contains (file_in l.said) other → file ≡ other → (found : Fault) → Of_sources file found ↔ Of_files other found
    both file other among same found = subst (λ (f : List ℕ). Of_sources f found ↔ Of_files other found) (sym same) (file_both sources files l other (seen other among) found)

-- the files of lines are those of each of them
of_line : (lines : List Placed) (l : Placed) → Contains lines l → (file : List ℕ) → Contains (file_in l.said) file → Contains (files_in lines) file
of_line [] l among file named = absurd (Contains-nil_cases l among)
of_line (k ∷ lines) l among file named =
    elim (Contains-cons_cases k lines l among) as (λ _. Contains (files_in (k ∷ lines)) file) [
      | inl same ↦ Contains-append_left (file_in k.said) (files_in lines) file (subst (λ (p : Placed). Contains (file_in p.said) file) (sym same) named)
      | inr later ↦ Contains-append_right (file_in k.said) (files_in lines) file (of_line lines l later file named)
    ]

-- The files of these lines are seen.
lines_named_both : (sources files : Files) (lines : List Placed) → AreSeen sources files (files_in lines) → (found : Fault) → First (NamedFault all_readers sources) lines found ↔ First (NamedFault all_readers files) lines found
lines_named_both sources files lines seen =
    first_alike (NamedFault all_readers sources) (NamedFault all_readers files) (λ l. l) (λ l. l) lines lines refl
    (λ l other among same found.
    subst (λ (p : Placed). NamedFault all_readers sources p found ↔ NamedFault all_readers files other found) (sym same)
    (named_both sources files other (λ name named. seen name (of_line lines other among name named)) found))

file_defines_both : (sources files : Files) (l : Placed) (named : List (List ℕ)) (written : List Written) → AreSeen sources files named → FileDefines all_readers sources l named written ↔ FileDefines all_readers files l named written
file_defines_both sources files l [] written seen = (λ h. h, λ h. h)
file_defines_both sources files l (file ∷ others) written seen =
    let both = text_both sources files file (seen file (Contains-head file others)) in
    (λ (text, have, says). (text, (both text).0 have, says), λ (text, have, says). (text, (both text).1 have, says))

define_both : (sources files : Files) (lines : List Placed) (written : List Written) → AreSeen sources files (files_in lines) → FilesDefine all_readers sources lines written ↔ FilesDefine all_readers files lines written
define_both sources files [] written seen = (λ h. h, λ h. h)
define_both sources files (l ∷ lines) written seen =
    let here = λ (front : List Written). file_defines_both sources files l (file_in l.said) front (λ name among. seen name (Contains-append_left (file_in l.said) (files_in lines) name among)) in
    let later = λ (rest : List Written). define_both sources files lines rest (λ name among. seen name (Contains-append_right (file_in l.said) (files_in lines) name among)) in (
      λ (front, rest, one, others, is). (front, rest, (here front).0 one, (later rest).0 others, is),
      λ (front, rest, one, others, is). (front, rest, (here front).1 one, (later rest).1 others, is),
    )

glosses_there : (sources files : Files) (before : List Entry) (named : List (List ℕ)) (table : List Entry) → AreSeen sources files named → GlossesOf all_readers sources before named table → GlossesOf all_readers files before named table
glosses_there sources files before [] table seen is = is
glosses_there sources files before (file ∷ others) table seen (text, own, have, says, more) = (
  text,
  own,
  (text_both sources files file (seen file (Contains-head file others)) text).0 have,
  says,
  glosses_there sources files own others table (λ name among. seen name (Contains-append_right (file ∷ []) others name among)) more,
)

-- files of glosses are files
among_said : (said : Line) (file : List ℕ) → Contains (glosses_said said) file → Contains (file_in said) file
among_said (gloss_line named) file among = among
among_said (lexc_line name named) file among = absurd (Contains-nil_cases file among)
among_said (twolc_line name named) file among = absurd (Contains-nil_cases file among)
among_said (xfst_line named) file among = absurd (Contains-nil_cases file among)
among_said (alphabet_line symbols) file among = absurd (Contains-nil_cases file among)
among_said (require_line required) file among = absurd (Contains-nil_cases file among)

among_files : (lines : List Placed) (file : List ℕ) → Contains (gloss_files_in lines) file → Contains (files_in lines) file
among_files [] file among = among
among_files (l ∷ lines) file among =
    elim (Contains-append_cases (glosses_said l.said) (gloss_files_in lines) file among) as (λ _. Contains (files_in (l ∷ lines)) file) [
      | inl here ↦ Contains-append_left (file_in l.said) (files_in lines) file (among_said l.said file here)
      | inr later ↦ Contains-append_right (file_in l.said) (files_in lines) file (among_files lines file later)
    ]

-- What sources have that have the manifest of the files and the files that it names, the files have.
module _ (sources files : Files) (gathered : IsGathered sources files) where
  abbrev seen : IsSeen sources files project_name
  seen = gathered.manifest

  -- Their manifest has no fault.
  module _ (free : (found : Fault) → HasFault all_readers sources (manifest_lines line_rows) found → ⊥) where
    all_seen : (text : List ℕ) → HaveText sources project_name text → AreSeen sources files (files_in (manifest_of text))
    all_seen text (content, at, has) name among =
        All-contains (IsSeen sources files) (files_in (manifest_of text)) name
        (gathered.named (manifest_of text) (content, at, record { text = text; has_text = has; faultless = no_fault; says = refl })) among
      where
        no_fault : (found : FaultAt) → ManifestFault line_rows text found → ⊥
        no_fault found faulty = free (fault project_name found.line found.why) (text, found, (content, at, has), faulty, refl)

    said_both : (said : Said) → FilesSay all_readers sources said ↔ FilesSay all_readers files said
    said_both said = (there, back)
      where
        there : FilesSay all_readers sources said → FilesSay all_readers files said
        there (text, have, is, defines) = (text, (text_both sources files project_name seen text).0 have, is, (define_both sources files (manifest_of text) said.written (all_seen text have)).0 defines)

        back : FilesSay all_readers files said → FilesSay all_readers sources said
        back (text, have, is, defines) =
            let too = (text_both sources files project_name seen text).1 have in
            (text, too, is, (define_both sources files (manifest_of text) said.written (all_seen text too)).1 defines)

    in_files_both : (found : Fault) → HasFault all_readers sources in_files found ↔ HasFault all_readers files in_files found
    in_files_both found = (there, back)
      where
        there : HasFault all_readers sources in_files found → HasFault all_readers files in_files found
        there (text, have, h) = (text, (text_both sources files project_name seen text).0 have, (lines_named_both sources files (manifest_of text) (all_seen text have) found).0 h)

        back : HasFault all_readers files in_files found → HasFault all_readers sources in_files found
        back (text, have, h) =
            let too = (text_both sources files project_name seen text).1 have in
            (text, too, (lines_named_both sources files (manifest_of text) (all_seen text too) found).1 h)

    row_both : (row : Row) (found : Fault) → HasFault all_readers sources row found ↔ HasFault all_readers files row found
    row_both no_project found = project_both sources files seen found
    row_both manifest_text found = content_both sources files project_name seen found
    row_both (manifest_lines by) found =
        let both = text_both sources files project_name seen in
        (λ (t, at, held, faulty, e). (t, at, (both t).0 held, faulty, e), λ (t, at, held, faulty, e). (t, at, (both t).1 held, faulty, e))
    row_both in_files found = in_files_both found
    row_both (in_said row) found = (λ (said, says, h). (said, (said_both said).0 says, h), λ (said, says, h). (said, (said_both said).1 says, h))

    rows_both : (by : List Row) (found : Fault) → FirstFault all_readers sources by found ↔ FirstFault all_readers files by found
    rows_both by =
        first_alike (HasFault all_readers sources) (HasFault all_readers files) (λ row. row) (λ row. row) by by refl
        (λ row other among same found. subst (λ (r : Row). HasFault all_readers sources row found ↔ HasFault all_readers files r found) same (row_both row found))

  -- the rows behind those of the manifest
  abbrev behind : List Row
  behind = in_files ∷ map in_said said_rows ++ in_said empty_centre ∷ []

  gone_both : (found : Fault) → HasFault all_readers sources no_project found ↔ HasFault all_readers files no_project found
  gone_both = project_both sources files seen

  textless_both : (found : Fault) → HasFault all_readers sources manifest_text found ↔ HasFault all_readers files manifest_text found
  textless_both = content_both sources files project_name seen

  faulty_both : (found : Fault) → HasFault all_readers sources (manifest_lines line_rows) found ↔ HasFault all_readers files (manifest_lines line_rows) found
  faulty_both = lines_both sources files seen

  faults_both : (found : Fault) → FirstFault all_readers sources rows found ↔ FirstFault all_readers files rows found
  faults_both found = (there, back)
    where
      there : FirstFault all_readers sources rows found → FirstFault all_readers files rows found
      there (inl h) = inl ((gone_both found).0 h)
      there (inr (held, inl h)) = inr ((λ other h. held other ((gone_both other).1 h)), inl ((textless_both found).0 h))
      there (inr (held, inr (has, inl h))) = inr ((λ other h. held other ((gone_both other).1 h)), inr ((λ other h. has other ((textless_both other).1 h)), inl ((faulty_both found).0 h)))
      there (inr (held, inr (has, inr (free, h)))) =
          inr ((λ other h. held other ((gone_both other).1 h)), inr ((λ other h. has other ((textless_both other).1 h)), inr ((λ other h. free other ((faulty_both other).1 h)), (rows_both free behind found).0 h)))

      back : FirstFault all_readers files rows found → FirstFault all_readers sources rows found
      back (inl h) = inl ((gone_both found).1 h)
      back (inr (held, inl h)) = inr ((λ other h. held other ((gone_both other).0 h)), inl ((textless_both found).1 h))
      back (inr (held, inr (has, inl h))) = inr ((λ other h. held other ((gone_both other).0 h)), inr ((λ other h. has other ((textless_both other).0 h)), inl ((faulty_both found).1 h)))
      back (inr (held, inr (has, inr (free, h)))) =
          let free_too : (other : Fault) → HasFault all_readers sources (manifest_lines line_rows) other → ⊥ = λ other h. free other ((faulty_both other).0 h) in
          inr ((λ other h. held other ((gone_both other).0 h)), inr ((λ other h. has other ((textless_both other).0 h)), inr (free_too, (rows_both free_too behind found).1 h)))

  -- without fault the manifest has none
  no_line_fault : ((found : Fault) → FirstFault all_readers sources rows found → ⊥) → (found : Fault) → HasFault all_readers sources (manifest_lines line_rows) found → ⊥
  no_line_fault free found h =
      free found (inr ((λ other gone. free other (inl gone)), inr ((λ other none. free other (inr ((λ it gone. free it (inl gone)), inl none))), inl h)))

  gathered_says : (answer : Result Project Fault) → Reads sources answer → Reads files answer
  gathered_says (Err found) h = (faults_both found).0 h
  gathered_says (Ok project) (free, said, says, is) = ((λ found h. free found ((faults_both found).1 h)), said, (said_both (no_line_fault free) said).0 says, is)

  gathered_glosses : (project : Project) → Reads sources (Ok project) → (table : List Entry) → HasTable sources table → HasTable files table
  gathered_glosses project (free, said, says, is) table (text, have, glosses) = (
    text,
    (text_both sources files project_name seen text).0 have,
    glosses_there sources files [] (gloss_files_in (manifest_of text)) table
        (λ name among. all_seen (no_line_fault free) text have name (among_files (manifest_of text) name among)) glosses,
  )

-- what sources say, the folder's files say
-- the project of gathered sources, and their fault
pub loaded_from : (sources : Files) (files : Option Files) (loaded : LoadedView) → Told files (IsGathered sources) → IsOfSources sources loaded → IsLoaded loaded files
loaded_from sources files loaded told (said, from, reads, table) = (
  said,
  from,
  told_so (IsGathered sources) (λ fs. Reads fs (Ok (project_in said))) files (λ fs gathered. gathered_says sources fs gathered (Ok (project_in said)) reads) told,
  told_so (IsGathered sources) (λ fs. HasTable fs loaded.glosses) files (λ fs gathered. gathered_glosses sources fs gathered (project_in said) reads loaded.glosses table) told,
)

pub why_from : (sources : Files) (files : Option Files) (before now : ℕ) (error : StoreError) → Told files (IsGathered sources) → ¬ (Rose before now) → IsWhyNot sources error → IsLoadError (load_error error) files before now
why_from sources files before now (store.Memory refused) told held why = held
why_from sources files before now (store.Refused fault) told held why = (told_so (IsGathered sources) (λ fs. Reads fs (Err fault)) files (λ fs gathered. gathered_says sources fs gathered (Err fault) why) told, held)

-- the version of the sources is that of the folder's files
pub version_from : (sources : Files) (files : Option Files) (meant : Version) → Told files (IsGathered sources) → IsLoadedVersion all_readers rows sources meant → Told files (λ fs. Reads fs (Ok meant.project)) × Told files (IsFirstVersion meant)
version_from sources files meant told loads = (
  told_so (IsGathered sources) (λ fs. Reads fs (Ok meant.project)) files (λ fs gathered. gathered_says sources fs gathered (Ok meant.project) loads.says) told,
  told_so (IsGathered sources) (IsFirstVersion meant) files (λ fs gathered. record {
    gathered = subst (λ (f : Files). IsGathered f fs) (sym loads.files_are) gathered;
    loads = subst (λ (f : Files). IsLoadedVersion all_readers rows f meant) (sym loads.files_are) loads;
  }) told,
)

-- the error that a fault of the sources becomes is so where the fault is
pub fails_by : {T : Type 0} (r : Result T LoadError) (P : LoadError → Type 0) (error : StoreError) → IsErrAnd r (λ e. e ≡ load_error error) → P (load_error error) → IfErr r P
fails_by (Ok x) P error is h = tt
fails_by (Err e) P error is h = subst P (sym is) h
