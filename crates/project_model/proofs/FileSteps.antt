-- The files that lines of a manifest name, one after another.
use Rattle.std.proofs.Common.{◌≡◌, ◌+◌, ◌<◌, ℕ, List, [], ◌∷◌, ◌++◌, length, map, take, drop, get_or, Some, None, Result, Ok, Err, OnOk, refl, sym, ap, subst, ◌∙◌, inl, inr, append_assoc, append-nil}
use Rattle.std.proofs.lemmas.List.{map-append, take-append-drop, take_more}
use Rattle.word_relations.proofs.Behind.{left_behind}
use Rattle.fsm_io.specs.Folders.{Files, file_of}
use Rattle.regex_ast.specs.declared.expr.Raw.{Raw}
use Rattle.regex_ast.specs.declared.fault.Fault.{Fault}
use Rattle.regex_ast.specs.declared.fault.Why.TheVariants as why
use Rattle.regex_reader.specs.Files.{ReadsAs, Statement}
use Rattle.project_manifest.specs.Lines.{Placed, file_in}
use Rattle.project_manifest.specs.Manifests.{project_name}
use Rattle.project_manifest.specs.Rows.{First, HaveNone}
use Rattle.project_manifest.specs.Sayings.{line_of, placed_of}
use Rattle.project_manifest.specs.declared.declarations.Declaration.{Declaration}
use Rattle.project_manifest.specs.declared.declarations.Declaration.TheVariants.{Lexicon, Grammar, Definitions, Symbols, Required, Glosses}
use Rattle.project_manifest.specs.declared.manifest.ManifestLine.{ManifestLine}
use Rattle.project_manifest.proofs.Firsts.{first_past, none_append, none_more}
use Rattle.lexc_grammar.specs.Files.{SaysLexicons}
use Rattle.project_meaning.specs.Projects.{Written}
use Rattle.project_meaning.specs.Trees.{Grammar as GrammarTree, Lexicon as Lexicons, lexc, twolc}
use Rattle.twolc_grammar.specs.Sections.{ReadsAs as SaysGrammar}
use Rattle.project_sources.specs.Faults.{FileFault, HasNoText, NamedFault, fault, file_rows, missing, no_text, unread}
use Rattle.project_sources.specs.Laws.{all_readers as readers}
use Rattle.project_sources.specs.Sources.{FileDefines, FilesDefine, HasText, HaveText, TextSays, declared, stated}
use Rattle.project_sources.proofs.Once.{says_one, text_one, all_exact}
use Rattle.project_model.specs.Answers.{IsRefusal, IsRefusedBy}
use Rattle.project_model.specs.Files.{HasDefined, HasPut, IsUnread}
use Rattle.project_sources.specs.declared.plan_error.PlanError.{PlanError}
use Rattle.project_sources.specs.declared.plan_error.PlanError.TheVariants.{Refused, Memory}
use Rattle.project_model.proofs.Reading.{same_content, textless}

-- A line that names this file.
module _ (files : Files) (l : Placed) (file : List ℕ) (names : file_in l.said ≡ file ∷ []) where
  of_file : (found : Fault) → First (FileFault readers files l file) file_rows found → NamedFault readers files l found
  of_file found h = subst (λ (z : List (List ℕ)). First (λ f. First (FileFault readers files l f) file_rows) z found) (sym names) (inl h)

  -- it isn't there
  pub missing_file : (error : PlanError) → file_of file files ≡ None → IsRefusal (fault project_name l.line why.NoFile) error → IsRefusedBy (NamedFault readers files l) error
  missing_file (Refused found) none is = of_file found (inl (none, is))
  missing_file (Memory refused) none is = tt

  module _ (content : List ℕ) (held : file_of file files ≡ Some content) where
    not_missing : (found : Fault) → FileFault readers files l file missing found → ⊥
    not_missing found (none, e) = let clash : Some content ≡ None = sym held ∙ none in cc

    -- its content has no text
    pub textless_file : (error : PlanError) → IsRefusedBy (HasNoText file content) error → IsRefusedBy (NamedFault readers files l) error
    textless_file (Refused found) h = of_file found (inr (not_missing, inl (content, held, h)))
    textless_file (Memory refused) h = tt

    module _ (text : List ℕ) (has : HasText content text) where
      have : HaveText files file text
      have = (content, held, has)

      has_a_text : (found : Fault) → FileFault readers files l file no_text found → ⊥
      has_a_text found (bytes, at, h) = textless file content text found (subst (λ (z : List ℕ). HasNoText file z found) (same_content files file bytes content at held) h) has

      -- its text isn't read
      pub unread_file : (error : PlanError) → IsRefusedBy (IsUnread l file text) error → IsRefusedBy (NamedFault readers files l) error
      unread_file (Refused found) (at, says, e) = of_file found (inr (not_missing, inr (has_a_text, inl (text, at, have, says, e))))
      unread_file (Memory refused) h = tt

      -- its text is read
      pub defined_file : (old new : List Written) → HasPut l text old new → HasDefined files l old new
      defined_file old new (more, says, is) = record {
        more = more;
        defines = subst (λ (z : List (List ℕ)). FileDefines readers files l z more) (sym names) (text, have, says);
        put = is;
        faultless = λ found h. none found (subst (λ (z : List (List ℕ)). First (λ f. First (FileFault readers files l f) file_rows) z found) names h);
      }
        where
          is_read : (found : Fault) → FileFault readers files l file unread found → ⊥
          is_read found (t, at, have_it, also, e) =
              let same : t ≡ text = text_one files file t text have_it have in
              let clash : Ok more ≡ Err at = says_one readers all_exact l.line l.said text (Ok more) (Err at) says (subst (λ (z : List ℕ). TextSays readers l.line l.said z (Err at)) same also) in
              cc

          none : (found : Fault) → First (λ f. First (FileFault readers files l f) file_rows) (file ∷ []) found → ⊥
          none =
              none_more (λ f. First (FileFault readers files l f) file_rows) file []
              (none_more (FileFault readers files l file) missing (no_text ∷ unread ∷ []) not_missing
              (none_more (FileFault readers files l file) no_text (unread ∷ []) has_a_text (none_more (FileFault readers files l file) unread [] is_read (λ f p. p)))) (λ f p. p)

-- a line that names no file
pub fileless : (files : Files) (l : Placed) (written : List Written) → file_in l.said ≡ [] → HasDefined files l written written
fileless files l written none = record {
  more = [];
  defines = subst (λ (z : List (List ℕ)). FileDefines readers files l z []) (sym none) refl;
  put = sym (append-nil written);
  faultless = λ found h. subst (λ (z : List (List ℕ)). First (λ f. First (FileFault readers files l f) file_rows) z found) none h;
}

-- the same of what a call answered
pub defined_files : {T E : Type 0} (files : Files) (l : Placed) (file content text : List ℕ) (r : Result T E) (old new : List Written) → file_in l.said ≡ file ∷ [] → file_of file files ≡ Some content → HasText content text
    → OnOk r (HasPut l text old new) → OnOk r (HasDefined files l old new)
defined_files files l file content text (Ok x) old new names held has put = defined_file files l file names content held text has old new put
defined_files files l file content text (Err error) old new names held has put = tt

-- A text of a file that a line names: a line of definitions, and another one.
pub put_statements : (line : ℕ) (named file text : List ℕ) (statements : List Statement) (old new : List Written) → file ≡ named → ReadsAs text (Ok statements) → new ≡ old ++ map (stated file) statements
    → HasPut (placed_of (record { number = line; declares = Definitions named })) text old new
put_statements line named file text statements old new same reads is = (map (stated named) statements, (statements, reads, refl), is ∙ ap (λ (f : List ℕ). old ++ map (stated f) statements) same)

pub put_lexicons : (line : ℕ) (name named text : List ℕ) (lexicons : List (Lexicons Raw)) (old new : List Written) → SaysLexicons text (Ok lexicons) → new ≡ old ++ declared name line (lexc lexicons)
    → HasPut (placed_of (record { number = line; declares = Lexicon name named })) text old new
put_lexicons line name named text lexicons old new says is = (declared name line (lexc lexicons), (lexicons, says, refl), is)

pub put_grammar : (line : ℕ) (name named text : List ℕ) (grammar : GrammarTree Raw) (old new : List Written) → SaysGrammar text (Ok grammar) → new ≡ old ++ declared name line (twolc grammar)
    → HasPut (placed_of (record { number = line; declares = Grammar name named })) text old new
put_grammar line name named text grammar old new says is = (declared name line (twolc grammar), (grammar, says, refl), is)

-- a line that names a file is of one of these kinds
pub none_else : (d : Declaration) (file : List ℕ) → file_in (line_of d) ≡ file ∷ [] → ((named : List ℕ) → d ≡ Definitions named → ⊥) → ((name named : List ℕ) → d ≡ Lexicon name named → ⊥) → ((name named : List ℕ) → d ≡ Grammar name named → ⊥)
    → ((named : List ℕ) → d ≡ Glosses named → ⊥) → ⊥
none_else (Lexicon name it) file names definitions lexicon grammar glosses = lexicon name it refl
none_else (Grammar name it) file names definitions lexicon grammar glosses = grammar name it refl
none_else (Glosses it) file names definitions lexicon grammar glosses = glosses it refl
none_else (Definitions it) file names definitions lexicon grammar glosses = definitions it refl
none_else (Symbols symbols) file names definitions lexicon grammar glosses = let clash : [] ≡ file ∷ [] = names in cc
none_else (Required required) file names definitions lexicon grammar glosses = let clash : [] ≡ file ∷ [] = names in cc

-- with one line more
files_more : (files : Files) (lines : List Placed) (written more : List Written) (l : Placed) → FilesDefine readers files lines written → FileDefines readers files l (file_in l.said) more
    → FilesDefine readers files (lines ++ l ∷ []) (written ++ more)
files_more files [] written more l is defines = (more, [], defines, refl, ap (λ (z : List Written). z ++ more) is ∙ sym (append-nil more))
files_more files (k ∷ lines) written more l (front, rest, here, others, is) defines =
    (front, rest ++ more, here, files_more files lines rest more l others defines, ap (λ (z : List Written). z ++ more) is ∙ append_assoc front rest more)

-- A loop over lines, of which the file of the one at this place is read.
module _ (files : Files) (xs : List ManifestLine) (i : ℕ) (x : ManifestLine) (below : i < length xs) (is : x ≡ get_or xs i x) where
  pub front_more : map placed_of (take (i + 1) xs) ≡ map placed_of (take i xs) ++ placed_of x ∷ []
  front_more = ap (map placed_of) (take_more xs i x below ∙ ap (λ (e : ManifestLine). take i xs ++ e ∷ []) (sym is)) ∙ map-append placed_of (take i xs) (x ∷ [])

  split : map placed_of xs ≡ map placed_of (take i xs) ++ placed_of x ∷ map placed_of (drop (i + 1) xs)
  split =
      ap (map placed_of) (sym (take-append-drop i xs)) ∙ map-append placed_of (take i xs) (drop i xs)
      ∙ ap (λ (z : List ManifestLine). map placed_of (take i xs) ++ map placed_of z) (left_behind xs i x below is)

  pub defined_more : (old new : List Written) → FilesDefine readers files (map placed_of (take i xs)) old → HasDefined files (placed_of x) old new → FilesDefine readers files (map placed_of (take (i + 1) xs)) new
  defined_more old new so_far here =
      subst (λ (z : List Placed). FilesDefine readers files z new) (sym front_more)
      (subst (FilesDefine readers files (map placed_of (take i xs) ++ placed_of x ∷ [])) (sym here.put) (files_more files (map placed_of (take i xs)) old here.more (placed_of x) so_far here.defines))

  pub free_more : ((found : Fault) → First (NamedFault readers files) (map placed_of (take i xs)) found → ⊥) → ((found : Fault) → NamedFault readers files (placed_of x) found → ⊥)
      → (found : Fault) → First (NamedFault readers files) (map placed_of (take (i + 1) xs)) found → ⊥
  free_more none here =
      subst (λ (z : List Placed). HaveNone (NamedFault readers files) z) (sym front_more)
      (none_append (NamedFault readers files) (map placed_of (take i xs)) (placed_of x ∷ []) none (none_more (NamedFault readers files) (placed_of x) [] here (λ found h. h)))

  pub fault_here : (error : PlanError) → ((found : Fault) → First (NamedFault readers files) (map placed_of (take i xs)) found → ⊥) → IsRefusedBy (NamedFault readers files (placed_of x)) error
      → IsRefusedBy (First (NamedFault readers files) (map placed_of xs)) error
  fault_here (Refused found) none h =
      subst (λ (z : List Placed). First (NamedFault readers files) z found) (sym split)
      (first_past (NamedFault readers files) (map placed_of (take i xs)) (placed_of x ∷ map placed_of (drop (i + 1) xs)) found none (inl h))
  fault_here (Memory refused) none h = tt
