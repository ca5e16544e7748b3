-- How a run ends that answers one input alone, by what it did.
use Rattle.std.proofs.Common.{◌≡◌, ◌≢◌, ◌⊎◌, ◌≤◌, ℕ, List, Option, Some, None, Ok, Err, IfOk, Result, refl, sym, ap, subst, ◌∙◌, inl, inr, arith}
use Rattle.fsm_io.specs.Causes.{Rose}
use Rattle.fsm_io.specs.Folders.{Files, Told, IsTold, file_of}
use Rattle.fsm_io.specs.Reading.{LinesView, at_start}
use Rattle.regex_ast.specs.declared.fault.Fault.{Fault}
use Rattle.reply_meaning.specs.declared.ending.Ending.{Ending}
use Rattle.reply_meaning.specs.declared.ending.Ending.TheVariants.{Finished, WriteFailed, ReadFailed, Spent}
use Rattle.project_meaning.specs.Projects.{Project}
use Rattle.interlinear.specs.Glosses.{Entry}
use Rattle.interlinear.specs.Replies.{GlossesLine}
use Rattle.lookup_answers.specs.declared.direction.Direction.{Direction}
use Rattle.reply_meaning.specs.Replies.{Replies}
use Rattle.reply_meaning.specs.Transcripts.{HasAnswered}
use Rattle.project_sources.specs.Sources.{Said, project_in}
use Rattle.project_sources.specs.Faults.{rows}
use Rattle.project_sources.specs.Laws.{all_readers}
use Rattle.project_sources.proofs.Once.{one_answer, all_exact}
use Rattle.project_sources.proofs.Glossing.{one_table, some_table}
use Rattle.project_store.specs.Loaded.{AreNames, IsLoadedFrom, LoadedView}
use Rattle.reply_text.specs.Projects.{accepted_line, refused_line}
use Rattle.generated_report.specs.Reports.{IsReport}
use Rattle.named_networks.specs.Comparisons.{IsCompared, compared, refused as refused_pair}
use Rattle.named_networks.specs.Responses.{Response, answer as answer_of, refusal as refusal_of}
use Rattle.named_networks.specs.Texts.{IsAtt, no_net, written as written_text, zero_symbol}
use Rattle.named_networks.specs.declared.told.Question.{Question}
use Rattle.pair_lines.specs.Ready.{PairRulesView, ShowsRules}
use Rattle.pair_lines.specs.Replies.{HasGrammar, RefusesPairs, RepliesToPairs, no_grammar, no_net as no_net_of_pairs}
use Rattle.project_meaning.specs.Leaves.{Leaf}
use Rattle.project_meaning.specs.Trees.{Grammar}
use Rattle.project_store.specs.Networks.{NetworkView, Shows}
use Rattle.saved_networks.specs.Faults.{file_fault}
use Rattle.saved_networks.specs.Networks.{IsSavedAs, SavedView}
use Rattle.saved_networks.specs.Refusals.{refused_line as file_refused_line}
use Rattle.saved_networks.specs.Replies.{RepliesBySaved}
use Rattle.saved_networks.specs.declared.faults.SavedError.{SavedError}
use Rattle.saved_networks.specs.declared.faults.SavedError.TheVariants as unsaved
use Rattle.saved_networks.specs.declared.faults.SavedWhy.{SavedWhy}
use Rattle.fsm_program.specs.Ends.{Ends, Asked, Declines, HaveFault, IsOfNames, ReadsFolder, ReadsInput, Tells, for_att, for_check, for_compared, for_gen, for_look, for_help, for_pairs, for_saved, Loads, Query, TakesMemory, no_words, helped, refused, folder_failed, generated, no_memory, checked, answered, file_refused, paired, responded, response_bytes, response_status, saved, IsAnswered, IsNotLoaded, IsWhyUnread, usage_text, status_of, glosses_in, words_in, for_serve}
use Rattle.fsm_program.specs.Outside.{Outside, ReadNothing, WroteNothing, Wrote, FolderFailed, FolderKept, IsSaid}
use Rattle.fsm_program.specs.Files.{IsLoaded, IsLoadError, most_read}
use Rattle.project_store.specs.Projects.{HasTable, Reads}
use Rattle.project_sources.specs.Limits.{most_bytes}
use Rattle.fsm_program.specs.Running.{HasSpent, most_taken}
use Rattle.fsm_program.specs.Saved.{HasSavedText, IsNotOpened, IsSavedFault}
use Rattle.fsm_program.specs.Tasks.{RepliesToLine, RepliesToLineIn}
use Rattle.fsm_program.specs.declared.look_up.Subject.TheVariants as subjects
use Rattle.fsm_program.proofs.Lawful.{answered_so}
use Rattle.fsm_program.specs.declared.load.LoadError.{LoadError}
use Rattle.fsm_program.specs.declared.words.WordsError.{WordsError}
use Rattle.fsm_program.specs.declared.words.WordsError.TheVariants as unread
use Rattle.fsm_program.specs.declared.words.WordsError.TheVariants.{Usage}
use Rattle.fsm_program.specs.declared.load.LoadError.TheVariants.{Failed, Memory, Refused}

-- what follows of a value follows of it where it is an answer
pub if_ok : {A E : Type 0} (P Q : A → Type 0) → ((a : A) → P a → Q a) → (r : Result A E) → IfOk r P → IfOk r Q
if_ok P Q so (Ok a) h = so a h
if_ok P Q so (Err e) h = tt

pub most_read_is : 1048577 ≡ most_read
unfolding most_read most_bytes
most_read_is = refl

pub most_taken_is : 1099511627776 ≡ most_taken
unfolding most_taken
most_taken_is = refl

pub start_most : (lines : LinesView) → lines ≡ at_start 1099511627776 → lines ≡ at_start most_taken
start_most lines start = start ∙ ap (λ (n : ℕ). at_start n) most_taken_is

-- what loads a project reads the folder, and takes memory; and so does what is asked of names
loads_reads : (what : Asked) → Loads what → ReadsFolder what
loads_reads for_check loads = tt
loads_reads (for_look query) loads = tt
loads_reads for_serve loads = tt
loads_reads (for_gen stems) loads = absurd loads
loads_reads (for_att net) loads = tt
loads_reads (for_saved file) loads = absurd loads
loads_reads (for_pairs net) loads = tt
loads_reads (for_compared question first second) loads = tt
loads_reads for_help loads = absurd loads

loads_takes : (what : Asked) → Loads what → TakesMemory what
loads_takes for_check loads = tt
loads_takes (for_look query) loads = tt
loads_takes for_serve loads = tt
loads_takes (for_gen stems) loads = absurd loads
loads_takes (for_att net) loads = tt
loads_takes (for_saved file) loads = absurd loads
loads_takes (for_pairs net) loads = tt
loads_takes (for_compared question first second) loads = tt
loads_takes for_help loads = absurd loads

names_take : (what : Asked) → IsOfNames what → TakesMemory what
names_take for_check named = absurd named
names_take (for_look query) named = tt
names_take for_serve named = absurd named
names_take (for_gen stems) named = absurd named
names_take (for_att net) named = tt
names_take (for_saved file) named = tt
names_take (for_pairs net) named = tt
names_take (for_compared question first second) named = tt
names_take for_help named = absurd named

-- a count that is no lower and didn't rise is as it was
pub same_count : (before now : ℕ) → before ≤ now → ¬ (Rose before now) → now ≡ before
same_count before now later still = omega (arith, later, still)

module _ (version : ℕ) (what : Asked) (loads : Loads what) (before after : Outside) where
  pub ends_unloaded : (status : ℕ) (error : LoadError) → IsLoadError error before.files before.folder_faults after.folder_faults → before.folder_faults ≤ after.folder_faults → ReadNothing before after → IsNotLoaded error before.output after.output status
      → Ends version (Some what) before after status
  ends_unloaded status Failed rose later unread (same, is) = folder_failed what refl (loads_reads what loads) rose unread same is
  ends_unloaded status (Memory a) whole later unread (same, is) = no_memory what refl (loads_takes what loads) (same_count before.folder_faults after.folder_faults later whole) unread same is
  ends_unloaded status (Refused fault) (told, whole) later unread either =
      elim either as (λ _. Ends version (Some what) before after status) [
        | inl said ↦ refused what fault refl loads told whole unread said
        | inr (same, is) ↦ no_memory what refl (loads_takes what loads) (same_count before.folder_faults after.folder_faults later whole) unread same is
      ]

-- words that ask for nothing, or for the name in which there was no memory
pub ends_unread : (version : ℕ) (asked : Option Asked) (error : WordsError) (before after : Outside) (status : ℕ) → IsWhyUnread asked error → FolderKept before after → ReadNothing before after
    → (error ≡ Usage → Wrote before after usage_text 1 status) → (error ≢ Usage → (status ≡ 5) × WroteNothing before after) → Ends version asked before after status
ends_unread version asked Usage before after status why kept unread said none = no_words why unread (said refl)
ends_unread version asked (unread.Memory memory) before after status (named, is, of_names) kept nothing said none =
    let other = none (λ (e : unread.Memory memory ≡ Usage). cc) in no_memory named is (names_take named of_names) kept nothing other.1 other.0

-- the names of a project were written, or there was no memory for them
pub ends_checked : (version : ℕ) (before after : Outside) (status : ℕ) (loaded : LoadedView) → IsLoaded loaded before.files → ¬ FolderFailed before after → before.folder_faults ≤ after.folder_faults → ReadNothing before after → (status ≡ 5 → WroteNothing before after)
    → ((said : Said) → IsLoadedFrom said loaded → ((names : List (List ℕ)) × AreNames (project_in said) names × Wrote before after (accepted_line version names) 0 status) ⊎ (status ≡ 5)) → Ends version (Some for_check) before after status
ends_checked version before after status loaded (said, from, told, glosses) whole later unread unwritten written =
    elim (written said from) as (λ _. Ends version (Some for_check) before after status) [
      | inl (names, are, line) ↦ checked (project_in said) names refl told whole are unread line
      | inr is ↦ no_memory for_check refl tt (same_count before.folder_faults after.folder_faults later whole) unread (unwritten is) is
    ]

-- the lines were answered in what they are looked up in, or there was no memory for that
module _ (version : ℕ) (before after : Outside) (status : ℕ) (whole : ¬ FolderFailed before after) (later : before.folder_faults ≤ after.folder_faults) (nothing : status ≡ 5 → ReadNothing before after × WroteNothing before after) where
  ends_without : (what : Asked) → TakesMemory what → status ≡ 5 → Ends version (Some what) before after status
  ends_without what takes is = let none = nothing is in no_memory what refl takes (same_count before.folder_faults after.folder_faults later whole) none.0 none.1 is

  pub ends_answered : (loaded : LoadedView) (query : Query) (network : NetworkView) → IsLoaded loaded before.files → network.name ≡ query.net → network.glosses ≡ loaded.glosses
      → ((said : Said) → IsLoadedFrom said loaded → Shows network (project_in said)) → IsAnswered (RepliesToLineIn (subjects.Named network query.task) version) before after status ⊎ (status ≡ 5) → Ends version (Some (for_look query)) before after status
  ends_answered loaded query network (meant, from, told, glosses) name table shows either =
      elim either as (λ _. Ends version (Some (for_look query)) before after status) [
        | inl (ending, s, h) ↦
            let project = project_in meant in
            let lawful = answered_so (RepliesToLineIn (subjects.Named network query.task) version) (RepliesToLine query.task project network.glosses version network.name) (λ line reply replies. replies project (shows meant from)) h in
            answered query project loaded.glosses refl told glosses whole
            (subst (λ (t : List Entry). IsAnswered (RepliesToLine query.task project t version query.net) before after status) table
            (subst (λ (n : List ℕ). IsAnswered (RepliesToLine query.task project network.glosses version n) before after status) name (ending, s, lawful)))
        | inr is ↦ ends_without (for_look query) tt is
      ]

  pub ends_paired : (loaded : LoadedView) (net : List ℕ) (rules : PairRulesView) → IsLoaded loaded before.files → ((said : Said) → IsLoadedFrom said loaded → (rules.name ≡ net) × ShowsRules rules (project_in said))
      → IsAnswered (RepliesToLineIn (subjects.Rules rules) version) before after status ⊎ (status ≡ 5) → Ends version (Some (for_pairs net)) before after status
  ends_paired loaded net rules (meant, from, told, glosses) shows either =
      elim either as (λ _. Ends version (Some (for_pairs net)) before after status) [
        | inl (ending, s, h) ↦
            let project = project_in meant in
            let shown = shows meant from in
            let lawful = answered_so (RepliesToLineIn (subjects.Rules rules) version) (RepliesToPairs project version rules.name) (λ line reply replies. replies project shown.1) h in
            paired net project shown.1.0 refl told whole (subst (λ (n : List ℕ). HasGrammar project n shown.1.0) shown.0 shown.1.1)
            (subst (λ (n : List ℕ). IsAnswered (RepliesToPairs project version n) before after status) shown.0 (ending, s, lawful))
        | inr is ↦ ends_without (for_pairs net) tt is
      ]

  pub ends_saved : (file : List ℕ) (network : SavedView) (text : List ℕ) → Told before.files (HasSavedText file text) → IsSavedAs text network
      → IsAnswered (RepliesToLineIn (subjects.Saved network) version) before after status ⊎ (status ≡ 5) → Ends version (Some (for_saved file)) before after status
  ends_saved file network text there is_saved either =
      elim either as (λ _. Ends version (Some (for_saved file)) before after status) [
        | inl (ending, s, h) ↦ saved file text refl there whole (ending, s, answered_so (RepliesToLineIn (subjects.Saved network) version) (RepliesBySaved text version) (λ line reply replies. replies text is_saved) h)
        | inr is ↦ ends_without (for_saved file) tt is
      ]

-- what was asked of names was told at once
pub ends_told : (version : ℕ) (what : Asked) (before after : Outside) (status : ℕ) (loaded : LoadedView) (response : Response) → IsLoaded loaded before.files → ¬ FolderFailed before after
    → ((said : Said) → IsLoadedFrom said loaded → Tells version what (project_in said) response) → ReadNothing before after → Wrote before after (response_bytes response) (response_status response) status → Ends version (Some what) before after status
ends_told version what before after status loaded response (meant, from, told, glosses) whole tells unread said = responded what (project_in meant) response refl told whole (tells meant from) unread said

-- the file was refused, or there was no memory for that
pub ends_unsaved : (version : ℕ) (file : List ℕ) (before after : Outside) (status : ℕ) (error : SavedError) → ((line : ℕ) (why : SavedWhy) → error ≡ unsaved.Refused line why → Told before.files (IsSavedFault file line why)) → ¬ FolderFailed before after
    → before.folder_faults ≤ after.folder_faults → ReadNothing before after → IsNotOpened error file before.output after.output status → Ends version (Some (for_saved file)) before after status
ends_unsaved version file before after status (unsaved.Refused line why) faulty whole later unread either =
    elim either as (λ _. Ends version (Some (for_saved file)) before after status) [
      | inl said ↦ file_refused file line why refl (faulty line why refl) whole unread said
      | inr (same, is) ↦ no_memory (for_saved file) refl tt (same_count before.folder_faults after.folder_faults later whole) unread same is
    ]
ends_unsaved version file before after status (unsaved.Memory memory) faulty whole later unread (same, is) = no_memory (for_saved file) refl tt (same_count before.folder_faults after.folder_faults later whole) unread same is

-- the report was written, or there was no memory for it
pub ends_generated : (version stems : ℕ) (before after : Outside) (status : ℕ) → FolderKept before after → ReadNothing before after → (status ≡ 5 → WroteNothing before after)
    → ((report : List ℕ) × IsReport stems report × Wrote before after report 0 status) ⊎ (status ≡ 5) → Ends version (Some (for_gen stems)) before after status
ends_generated version stems before after status kept unread unwritten either =
    elim either as (λ _. Ends version (Some (for_gen stems)) before after status) [
      | inl (report, is, said) ↦ generated stems report refl is unread said
      | inr is ↦ no_memory (for_gen stems) refl tt kept unread (unwritten is) is
    ]
