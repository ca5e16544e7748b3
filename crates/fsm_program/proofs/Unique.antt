-- Files say one thing, words ask for one, and a status is of one ending.
use Rattle.std.proofs.Common.{◌≡◌, ◌≢◌, ◌⊎◌, ℕ, List, Option, Some, None, Ok, Err, IfOk, Result, refl, sym, ap, subst, ◌∙◌, inl, inr, arith}
use Rattle.fsm_io.specs.Folders.{Files, Told, IsTold, file_of}
use Rattle.fsm_io.specs.Reading.{LinesView, at_start}
use Rattle.regex_ast.specs.declared.fault.Fault.{Fault}
use Rattle.reply_meaning.specs.declared.ending.Ending.{Ending}
use Rattle.reply_meaning.specs.declared.ending.Ending.TheVariants.{Finished, WriteFailed, ReadFailed, Spent}
use Rattle.project_meaning.specs.Projects.{Project}
use Rattle.interlinear.specs.Glosses.{Entry}
use Rattle.interlinear.specs.Replies.{GlossesLine}
use Rattle.lookup_answers.specs.declared.direction.Direction.{Direction}
use Rattle.reply_meaning.specs.Replies.{Replies}
use Rattle.reply_meaning.specs.Transcripts.{HasAnswered}
use Rattle.project_sources.specs.Sources.{Said, project_in}
use Rattle.project_sources.specs.Faults.{rows}
use Rattle.project_sources.specs.Laws.{all_readers}
use Rattle.project_sources.proofs.Once.{one_answer, all_exact}
use Rattle.project_sources.proofs.Glossing.{one_table, some_table}
use Rattle.project_store.specs.Loaded.{AreNames, IsLoadedFrom, LoadedView}
use Rattle.reply_text.specs.Projects.{accepted_line, refused_line}
use Rattle.generated_report.specs.Reports.{IsReport}
use Rattle.named_networks.specs.Comparisons.{IsCompared, compared, refused as refused_pair}
use Rattle.named_networks.specs.Responses.{Response, answer as answer_of, refusal as refusal_of}
use Rattle.named_networks.specs.Texts.{IsAtt, no_net, written as written_text, zero_symbol}
use Rattle.named_networks.specs.declared.told.Question.{Question}
use Rattle.pair_lines.specs.Ready.{PairRulesView, ShowsRules}
use Rattle.pair_lines.specs.Replies.{HasGrammar, RefusesPairs, RepliesToPairs, no_grammar, no_net as no_net_of_pairs}
use Rattle.project_meaning.specs.Leaves.{Leaf}
use Rattle.project_meaning.specs.Trees.{Grammar}
use Rattle.project_store.specs.Networks.{NetworkView, Shows}
use Rattle.saved_networks.specs.Faults.{file_fault}
use Rattle.saved_networks.specs.Networks.{IsSavedAs, SavedView}
use Rattle.saved_networks.specs.Refusals.{refused_line as file_refused_line}
use Rattle.saved_networks.specs.Replies.{RepliesBySaved}
use Rattle.saved_networks.specs.declared.faults.SavedError.{SavedError}
use Rattle.saved_networks.specs.declared.faults.SavedError.TheVariants as unsaved
use Rattle.saved_networks.specs.declared.faults.SavedWhy.{SavedWhy}
use Rattle.fsm_program.specs.Ends.{Ends, Asked, Declines, HaveFault, IsOfNames, ReadsFolder, ReadsInput, Tells, for_att, for_check, for_compared, for_gen, for_look, for_help, for_pairs, for_saved, Loads, Query, TakesMemory, no_words, helped, refused, folder_failed, generated, no_memory, checked, answered, file_refused, paired, responded, response_bytes, response_status, saved, IsAnswered, IsNotLoaded, IsWhyUnread, usage_text, status_of, glosses_in, words_in, for_serve}
use Rattle.fsm_program.specs.Outside.{Outside, ReadNothing, WroteNothing, Wrote, FolderFailed, IsSaid}
use Rattle.fsm_program.specs.Files.{IsLoaded, IsLoadError, most_read}
use Rattle.project_store.specs.Projects.{HasTable, Reads}
use Rattle.project_sources.specs.Limits.{most_bytes}
use Rattle.fsm_program.specs.Running.{HasSpent, most_taken}
use Rattle.fsm_program.specs.Saved.{HasSavedText, IsNotOpened, IsSavedFault}
use Rattle.fsm_program.specs.Tasks.{RepliesToLine, RepliesToLineIn}
use Rattle.fsm_program.specs.declared.look_up.Subject.TheVariants as subjects
use Rattle.fsm_program.proofs.Lawful.{answered_so}
use Rattle.fsm_program.specs.declared.load.LoadError.{LoadError}
use Rattle.fsm_program.specs.declared.words.WordsError.{WordsError}
use Rattle.fsm_program.specs.declared.words.WordsError.TheVariants as unread
use Rattle.fsm_program.specs.declared.words.WordsError.TheVariants.{Usage}
use Rattle.fsm_program.specs.declared.load.LoadError.TheVariants.{Failed, Memory, Refused}

-- files say one thing
pub one_told : (files : Option Files) (r q : Result Project Fault) → IsTold files (λ fs. Reads fs r) → Told files (λ fs. Reads fs q) → r ≡ q
one_told None r q told other = absurd told
one_told (Some fs) r q told other = one_answer all_readers all_exact fs rows r q told other

pub one_table_told : (files : Option Files) (a b : List Entry) → IsTold files (λ fs. HasTable fs a) → Told files (λ fs. HasTable fs b) → a ≡ b
one_table_told None a b told other = absurd told
one_table_told (Some fs) a b told other = one_table all_readers all_exact fs a b told other

-- those of a project have a table of glosses
pub some_told : (files : Option Files) (project : Project) → IsTold files (λ fs. Reads fs (Ok project)) → (table : List Entry) × IsTold files (λ fs. HasTable fs table)
some_told None project told = absurd told
some_told (Some fs) project told = some_table all_readers fs rows project told

pub same_fault : (a b : Fault) → ◌≡◌ {A = Result Project Fault} (Err a) (Err b) → a ≡ b
same_fault a b e = cc

pub same_project : (a b : Project) → ◌≡◌ {A = Result Project Fault} (Ok a) (Ok b) → a ≡ b
same_project a b e = cc

pub no_fault : {P : Type 0} (fault : Fault) (project : Project) → ◌≡◌ {A = Result Project Fault} (Err fault) (Ok project) → P
no_fault fault project e = cc

-- words ask for one thing
pub asks_none : {P : Type 0} (asked : Option Asked) (what : Asked) → asked ≡ None → asked ≡ Some what → P
asks_none asked what none some = let e : None ≡ Some what = sym none ∙ some in cc

pub same_asked : (asked : Option Asked) (a b : Asked) → asked ≡ Some a → asked ≡ Some b → a ≡ b
same_asked asked a b e f = let g : Some a ≡ Some b = sym e ∙ f in cc

-- what is so of the one is so of the other
pub moved : {asked : Option Asked} (P : Asked → Type 0) (a b : Asked) → asked ≡ Some a → asked ≡ Some b → P a → P b
moved {asked} P a b e f p = subst P (same_asked asked a b e f) p

pub no_help : {P : Type 0} (asked : Option Asked) (what : Asked) → asked ≡ Some for_help → asked ≡ Some what → Loads what → P
no_help asked what help is loads = absurd (subst Loads (same_asked asked what for_help is help) loads)

-- help takes no memory
pub no_help_takes : {P : Type 0} (asked : Option Asked) (what : Asked) → asked ≡ Some for_help → asked ≡ Some what → TakesMemory what → P
no_help_takes asked what help is takes = absurd (subst TakesMemory (same_asked asked what for_help is help) takes)

-- what makes a project of its own loads none
pub no_load : {P : Type 0} (asked : Option Asked) (what : Asked) (stems : ℕ) → asked ≡ Some (for_gen stems) → asked ≡ Some what → Loads what → P
no_load asked what stems made is loads = absurd (subst Loads (same_asked asked what (for_gen stems) is made) loads)

pub check_look : {P : Type 0} (asked : Option Asked) (query : Query) → asked ≡ Some for_check → asked ≡ Some (for_look query) → P
check_look asked query check look = let e : for_check ≡ for_look query = same_asked asked for_check (for_look query) check look in cc

pub check_serve : {P : Type 0} (asked : Option Asked) → asked ≡ Some for_check → asked ≡ Some for_serve → P
check_serve asked check serves = let e : for_check ≡ for_serve = same_asked asked for_check for_serve check serves in cc

pub look_serve : {P : Type 0} (asked : Option Asked) (query : Query) → asked ≡ Some (for_look query) → asked ≡ Some for_serve → P
look_serve asked query look serves = let e : for_look query ≡ for_serve = same_asked asked (for_look query) for_serve look serves in cc

pub same_stems : (asked : Option Asked) (a b : ℕ) → asked ≡ Some (for_gen a) → asked ≡ Some (for_gen b) → a ≡ b
same_stems asked a b e f = let g : for_gen a ≡ for_gen b = same_asked asked (for_gen a) (for_gen b) e f in cc

-- words for one thing aren't words for another
pub look_pairs : {P : Type 0} (asked : Option Asked) (query : Query) (net : List ℕ) → asked ≡ Some (for_look query) → asked ≡ Some (for_pairs net) → P
look_pairs asked query net look pairs = let e : for_look query ≡ for_pairs net = same_asked asked (for_look query) (for_pairs net) look pairs in cc

pub serve_pairs : {P : Type 0} (asked : Option Asked) (net : List ℕ) → asked ≡ Some for_serve → asked ≡ Some (for_pairs net) → P
serve_pairs asked net serves pairs = let e : for_serve ≡ for_pairs net = same_asked asked for_serve (for_pairs net) serves pairs in cc

pub same_net : (asked : Option Asked) (a b : List ℕ) → asked ≡ Some (for_pairs a) → asked ≡ Some (for_pairs b) → a ≡ b
same_net asked a b e f = let g : for_pairs a ≡ for_pairs b = same_asked asked (for_pairs a) (for_pairs b) e f in cc

pub same_file : (asked : Option Asked) (a b : List ℕ) → asked ≡ Some (for_saved a) → asked ≡ Some (for_saved b) → a ≡ b
same_file asked a b e f = let g : for_saved a ≡ for_saved b = same_asked asked (for_saved a) (for_saved b) e f in cc

-- what is asked for is told at once in each case
abbrev pub TellsAll : Asked → Type 0
TellsAll for_check = ⊥
TellsAll (for_look query) = ⊥
TellsAll for_serve = ⊥
TellsAll (for_gen stems) = ⊥
TellsAll (for_att net) = Unit {0}
TellsAll (for_saved file) = ⊥
TellsAll (for_pairs net) = ⊥
TellsAll (for_compared question first second) = Unit {0}
TellsAll for_help = ⊥

-- a refusal declines what was asked for
pub refused_strings : {version : ℕ} {project : Project} {net line : List ℕ} → RefusesPairs project version net line → (grammar : Grammar Leaf) → ¬ (HasGrammar project net grammar)
refused_strings (no_net_of_pairs none is) grammar has = none (has.0, has.1, has.2)
refused_strings (no_grammar defined none is) grammar has = none grammar has

pub no_answer : {P : Type 0} (a b : List ℕ) → refusal_of a ≡ answer_of b → P
no_answer a b e = cc

pub declined_text : {version : ℕ} {project : Project} {net : List ℕ} (bytes : List ℕ) → IsAtt project version net (refusal_of bytes) → Declines (for_att net) project
declined_text bytes (no_net none is) = inl none
declined_text bytes (zero_symbol defined has is) = inr has
declined_text bytes (written_text text defined none is_text is) = no_answer bytes text is

pub declined_pair : {version : ℕ} {project : Project} {question : Question} {first second : List ℕ} (bytes : List ℕ) → IsCompared project version question first second (refusal_of bytes) → Declines (for_compared question first second) project
declined_pair bytes (refused_pair why is_why is) = (why, is_why)
declined_pair bytes (compared line one other is_line is) = no_answer bytes line is

pub declines : (version : ℕ) (what : Asked) (project : Project) (bytes : List ℕ) → Tells version what project (refusal_of bytes) → Declines what project
declines version for_check project bytes tells = tells
declines version (for_look query) project bytes tells = tells
declines version for_serve project bytes tells = tells
declines version (for_gen stems) project bytes tells = tells
declines version (for_att net) project bytes tells = declined_text bytes tells
declines version (for_saved file) project bytes tells = tells
declines version (for_pairs net) project bytes (line, is, refuses) = refused_strings refuses
declines version (for_compared question first second) project bytes tells = declined_pair bytes tells
declines version for_help project bytes tells = tells

pub same_query : (asked : Option Asked) (a b : Query) → asked ≡ Some (for_look a) → asked ≡ Some (for_look b) → a ≡ b
same_query asked a b e f = let g : for_look a ≡ for_look b = same_asked asked (for_look a) (for_look b) e f in cc

-- what was said whole has its status
pub said_whole : (held0 held : Option (List ℕ)) {text : List ℕ} {said status : ℕ} {O : Type 0} → IsSaid held0 held text said status → (status ≡ 4 → O) → (O → ⊥) → status ≡ said
said_whole held0 held {said = said} {status = status} (front, rest, is, appended, either) four written = elim either as (λ _. status ≡ said) [ inl all ↦ all.0 | inr failed ↦ absurd (written (four failed)) ]

pub said_other : {P : Type 0} (held0 held : Option (List ℕ)) {text : List ℕ} {said status k : ℕ} → IsSaid held0 held text said status → status ≡ k → said ≢ k → 4 ≢ k → P
said_other held0 held (front, rest, is, appended, either) e other four = absurd (elim either as (λ _. ⊥) [ inl all ↦ other (sym all.0 ∙ e) | inr failed ↦ four (sym failed ∙ e) ])

pub answered_other : {P : Type 0} {status : ℕ} (ending : Ending) (k : ℕ) → status ≡ status_of ending → status ≡ k → (k ≡ 1) ⊎ (k ≡ 2) → P
answered_other Finished k s e either = absurd (elim either as (λ _. ⊥) [ inl is ↦ omega (arith, s, e, is) | inr is ↦ omega (arith, s, e, is) ])
answered_other WriteFailed k s e either = absurd (elim either as (λ _. ⊥) [ inl is ↦ omega (arith, s, e, is) | inr is ↦ omega (arith, s, e, is) ])
answered_other ReadFailed k s e either = absurd (elim either as (λ _. ⊥) [ inl is ↦ omega (arith, s, e, is) | inr is ↦ omega (arith, s, e, is) ])
answered_other Spent k s e either = absurd (elim either as (λ _. ⊥) [ inl is ↦ omega (arith, s, e, is) | inr is ↦ omega (arith, s, e, is) ])

pub answered_seven : {P : Type 0} {status : ℕ} (ending : Ending) → status ≡ status_of ending → status ≡ 7 → P
answered_seven Finished s e = absurd (omega (arith, s, e))
answered_seven WriteFailed s e = absurd (omega (arith, s, e))
answered_seven ReadFailed s e = absurd (omega (arith, s, e))
answered_seven Spent s e = absurd (omega (arith, s, e))

pub answered_spent : {S : Type 0} {Step : S → Option (List ℕ) → List ℕ → S → Type 0} {first : S} {gathered : ℕ} {left0 left held0 held : Option (List ℕ)} {status : ℕ} (ending : Ending) → status ≡ status_of ending
    → HasAnswered Step first most_taken gathered left0 left held0 held ending → status ≡ 6 → HasSpent left0 left
answered_spent Finished s a e = absurd (omega (arith, s, e))
answered_spent WriteFailed s a e = absurd (omega (arith, s, e))
answered_spent ReadFailed s a e = absurd (omega (arith, s, e))
answered_spent Spent s a e = (a.taken, a.consumed, a.spends refl)
