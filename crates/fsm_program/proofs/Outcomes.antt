-- What follows of how a run ends that answers one input alone, and of its status.
use Rattle.std.proofs.Common.{◌≡◌, ◌≢◌, ◌⊎◌, ℕ, List, Option, Some, None, Ok, Err, IfOk, Result, refl, sym, ap, subst, ◌∙◌, inl, inr, arith}
use Rattle.fsm_io.specs.Folders.{Files, Told, IsTold, file_of}
use Rattle.fsm_io.specs.Reading.{LinesView, at_start}
use Rattle.regex_ast.specs.declared.fault.Fault.{Fault}
use Rattle.reply_meaning.specs.declared.ending.Ending.{Ending}
use Rattle.reply_meaning.specs.declared.ending.Ending.TheVariants.{Finished, WriteFailed, ReadFailed, Spent}
use Rattle.project_meaning.specs.Projects.{Project}
use Rattle.interlinear.specs.Glosses.{Entry}
use Rattle.interlinear.specs.Replies.{GlossesLine}
use Rattle.lookup_answers.specs.declared.direction.Direction.{Direction}
use Rattle.reply_meaning.specs.Replies.{Replies}
use Rattle.reply_meaning.specs.Transcripts.{HasAnswered}
use Rattle.project_sources.specs.Sources.{Said, project_in}
use Rattle.project_sources.specs.Faults.{rows}
use Rattle.project_sources.specs.Laws.{all_readers}
use Rattle.project_sources.proofs.Once.{one_answer, all_exact}
use Rattle.project_sources.proofs.Glossing.{one_table, some_table}
use Rattle.project_store.specs.Loaded.{AreNames, IsLoadedFrom, LoadedView}
use Rattle.reply_text.specs.Projects.{accepted_line, refused_line}
use Rattle.generated_report.specs.Reports.{IsReport}
use Rattle.named_networks.specs.Comparisons.{IsCompared, compared, refused as refused_pair}
use Rattle.named_networks.specs.Responses.{Response, answer as answer_of, refusal as refusal_of}
use Rattle.named_networks.specs.Texts.{IsAtt, no_net, written as written_text, zero_symbol}
use Rattle.named_networks.specs.declared.told.Question.{Question}
use Rattle.pair_lines.specs.Ready.{PairRulesView, ShowsRules}
use Rattle.pair_lines.specs.Replies.{HasGrammar, RefusesPairs, RepliesToPairs, no_grammar, no_net as no_net_of_pairs}
use Rattle.project_meaning.specs.Leaves.{Leaf}
use Rattle.project_meaning.specs.Trees.{Grammar}
use Rattle.project_store.specs.Networks.{NetworkView, Shows}
use Rattle.saved_networks.specs.Faults.{file_fault}
use Rattle.saved_networks.specs.Networks.{IsSavedAs, SavedView}
use Rattle.saved_networks.specs.Refusals.{refused_line as file_refused_line}
use Rattle.saved_networks.specs.Replies.{RepliesBySaved}
use Rattle.saved_networks.specs.declared.faults.SavedError.{SavedError}
use Rattle.saved_networks.specs.declared.faults.SavedError.TheVariants as unsaved
use Rattle.saved_networks.specs.declared.faults.SavedWhy.{SavedWhy}
use Rattle.fsm_program.specs.Ends.{Ends, Asked, Declines, HaveFault, IsOfNames, ReadsFolder, ReadsInput, Tells, for_att, for_check, for_compared, for_gen, for_look, for_help, for_pairs, for_saved, Loads, Query, TakesMemory, no_words, helped, refused, folder_failed, generated, no_memory, checked, answered, file_refused, paired, responded, response_bytes, response_status, saved, IsAnswered, IsNotLoaded, IsWhyUnread, usage_text, status_of, glosses_in, words_in, for_serve}
use Rattle.fsm_program.specs.Outside.{Outside, ReadNothing, WroteNothing, Wrote, FolderFailed, IsSaid}
use Rattle.fsm_program.specs.Files.{IsLoaded, IsLoadError, most_read}
use Rattle.project_store.specs.Projects.{HasTable, Reads}
use Rattle.project_sources.specs.Limits.{most_bytes}
use Rattle.fsm_program.specs.Running.{HasSpent, most_taken}
use Rattle.fsm_program.specs.Saved.{HasSavedText, IsNotOpened, IsSavedFault}
use Rattle.fsm_program.specs.Tasks.{RepliesToLine, RepliesToLineIn}
use Rattle.fsm_program.specs.declared.look_up.Subject.TheVariants as subjects
use Rattle.fsm_program.proofs.Lawful.{answered_so}
use Rattle.fsm_program.specs.declared.load.LoadError.{LoadError}
use Rattle.fsm_program.specs.declared.words.WordsError.{WordsError}
use Rattle.fsm_program.specs.declared.words.WordsError.TheVariants as unread
use Rattle.fsm_program.specs.declared.words.WordsError.TheVariants.{Usage}
use Rattle.fsm_program.specs.declared.load.LoadError.TheVariants.{Failed, Memory, Refused}
use Rattle.fsm_program.proofs.Unique.{TellsAll, answered_other, answered_seven, answered_spent, asks_none, check_look, check_serve, declined_pair, declined_text, declines, look_pairs, look_serve, moved, no_answer, no_fault, no_help, no_help_takes, no_load, one_table_told, one_told, refused_strings, said_other, said_whole, same_asked, same_fault, same_file, same_net, same_project, same_query, same_stems, serve_pairs, some_told}

module _ {version : ℕ} {asked : Option Asked} {before after : Outside} {status : ℕ} where
  -- words in no form
  pub unsaid : Ends version asked before after status → asked ≡ None → Wrote before after usage_text 1 status
  unsaid (no_words none l said) e = said
  unsaid (helped is l said) e = asks_none asked for_help e is
  unsaid (refused what fault is loads told held l said) e = asks_none asked what e is
  unsaid (folder_failed what is loads rose l h s) e = asks_none asked what e is
  unsaid (no_memory what is loads kept l h s) e = asks_none asked what e is
  unsaid (checked project names is told whole are l said) e = asks_none asked for_check e is
  unsaid (answered query project table is told glosses whole answers) e = asks_none asked (for_look query) e is
  unsaid (responded what project response is told whole tells l said) e = asks_none asked what e is
  unsaid (paired net project grammar is told whole has answers) e = asks_none asked (for_pairs net) e is
  unsaid (file_refused file line why is faulty whole l said) e = asks_none asked (for_saved file) e is
  unsaid (saved file text is there whole answers) e = asks_none asked (for_saved file) e is
  unsaid (generated stems report is reports l said) e = asks_none asked (for_gen stems) e is

  -- help
  pub help : Ends version asked before after status → asked ≡ Some for_help → Wrote before after usage_text 0 status
  help (no_words none l said) e = asks_none asked for_help none e
  help (helped is l said) e = said
  help (refused what fault is loads told held l said) e = no_help asked what e is loads
  help (folder_failed what is reads rose l h s) e = absurd (moved ReadsFolder what for_help is e reads)
  help (no_memory what is takes kept l h s) e = no_help_takes asked what e is takes
  help (checked project names is told whole are l said) e = no_help asked for_check e is tt
  help (answered query project table is told glosses whole answers) e = no_help asked (for_look query) e is tt
  help (responded what project response is told whole tells l said) e = absurd (moved (λ (w : Asked). Tells version w project response) what for_help is e tells)
  help (paired net project grammar is told whole has answers) e = no_help_takes asked (for_pairs net) e is tt
  help (file_refused file line why is faulty whole l said) e = no_help_takes asked (for_saved file) e is tt
  help (saved file text is there whole answers) e = no_help_takes asked (for_saved file) e is tt
  help (generated stems report is reports l said) e = no_help_takes asked (for_gen stems) e is tt

  -- a project with a fault
  pub refusal : Ends version asked before after status → (what : Asked) (fault : Fault) → asked ≡ Some what → Loads what → IsTold before.files (λ fs. Reads fs (Err fault)) → (FolderFailed before after → ⊥)
      → Wrote before after (refused_line fault) 2 status ⊎ (status ≡ 5)
  refusal (no_words none l said) what fault e loads told whole = asks_none asked what none e
  refusal (helped is l said) what fault e loads told whole = no_help asked what is e loads
  refusal (refused what' fault' is loads' told' held l said) what fault e loads told whole =
      inl (subst (λ (f : Fault). Wrote before after (refused_line f) 2 status) (sym (same_fault fault fault' (one_told before.files (Err fault) (Err fault') told told'))) said)
  refusal (folder_failed what' is loads' rose l h s) what fault e loads told whole = absurd (whole rose)
  refusal (no_memory what' is loads' kept l h s) what fault e loads told whole = inr s
  refusal (checked project names is told' whole' are l said) what fault e loads told whole = no_fault fault project (one_told before.files (Err fault) (Ok project) told told')
  refusal (answered query project table is told' glosses whole' answers) what fault e loads told whole = no_fault fault project (one_told before.files (Err fault) (Ok project) told told')
  refusal (responded what' project response is told' whole' tells l said) what fault e loads told whole = no_fault fault project (one_told before.files (Err fault) (Ok project) told told')
  refusal (paired net project grammar is told' whole' has answers) what fault e loads told whole = no_fault fault project (one_told before.files (Err fault) (Ok project) told told')
  refusal (file_refused file line why is faulty whole' l said) what fault e loads told whole = absurd (moved Loads what (for_saved file) e is loads)
  refusal (saved file text is there whole' answers) what fault e loads told whole = absurd (moved Loads what (for_saved file) e is loads)
  refusal (generated stems report is reports l said) what fault e loads told whole = no_load asked what stems is e loads

  -- a project without, of which the names were asked for
  pub check : Ends version asked before after status → (project : Project) → asked ≡ Some for_check → IsTold before.files (λ fs. Reads fs (Ok project)) → (FolderFailed before after → ⊥)
      → ((names : List (List ℕ)) × AreNames project names × Wrote before after (accepted_line version names) 0 status) ⊎ (status ≡ 5)
  check (no_words none l said) project e told whole = asks_none asked for_check none e
  check (helped is l said) project e told whole = no_help asked for_check is e tt
  check (refused what' fault' is loads' told' held l said) project e told whole = no_fault fault' project (sym (one_told before.files (Ok project) (Err fault') told told'))
  check (folder_failed what' is loads' rose l h s) project e told whole = absurd (whole rose)
  check (no_memory what' is loads' kept l h s) project e told whole = inr s
  check (checked project' names is told' whole' are l said) project e told whole =
      inl (names, subst (λ (p : Project). AreNames p names) (sym (same_project project project' (one_told before.files (Ok project) (Ok project') told told'))) are, said)
  check (answered query project' table is told' glosses whole' answers) project e told whole = check_look asked query e is
  check (responded what project' response is told' whole' tells l said) project e told whole = absurd (moved (λ (w : Asked). Tells version w project' response) what for_check is e tells)
  check (paired net project' grammar is told' whole' has answers) project e told whole = absurd (moved ReadsInput (for_pairs net) for_check is e tt)
  check (file_refused file line why is faulty whole' l said) project e told whole = absurd (moved ReadsInput (for_saved file) for_check is e tt)
  check (saved file text is there whole' answers) project e told whole = absurd (moved ReadsInput (for_saved file) for_check is e tt)
  check (generated stems report is reports l said) project e told whole = no_load asked for_check stems is e tt

  -- a project without, in which lines were looked up
  answer : Ends version asked before after status → (query : Query) (project : Project) (table : List Entry) → asked ≡ Some (for_look query) → IsTold before.files (λ fs. Reads fs (Ok project)) → IsTold before.files (λ fs. HasTable fs table)
      → (FolderFailed before after → ⊥) → IsAnswered (RepliesToLine query.task project table version query.net) before after status ⊎ (status ≡ 5)
  answer (no_words none l said) query project table e told glosses whole = asks_none asked (for_look query) none e
  answer (helped is l said) query project table e told glosses whole = no_help asked (for_look query) is e tt
  answer (refused what' fault' is loads' told' held l said) query project table e told glosses whole = no_fault fault' project (sym (one_told before.files (Ok project) (Err fault') told told'))
  answer (folder_failed what' is loads' rose l h s) query project table e told glosses whole = absurd (whole rose)
  answer (no_memory what' is loads' kept l h s) query project table e told glosses whole = inr s
  answer (checked project' names is told' whole' are l said) query project table e told glosses whole = check_look asked query is e
  answer (answered query' project' table' is told' glosses' whole' answers) query project table e told glosses whole =
      inl (subst (λ (p : Project). IsAnswered (RepliesToLine query.task p table version query.net) before after status) (sym (same_project project project' (one_told before.files (Ok project) (Ok project') told told')))
      (subst (λ (t : List Entry). IsAnswered (RepliesToLine query.task project' t version query.net) before after status) (sym (one_table_told before.files table table' glosses glosses'))
      (subst (λ (q : Query). IsAnswered (RepliesToLine q.task project' table' version q.net) before after status) (same_query asked query' query is e) answers)))
  answer (responded what project' response is told' whole' tells l said) query project table e told glosses whole = absurd (moved (λ (w : Asked). Tells version w project' response) what (for_look query) is e tells)
  answer (paired net project' grammar is told' whole' has answers) query project table e told glosses whole = look_pairs asked query net e is
  answer (file_refused file line why is faulty whole' l said) query project table e told glosses whole = absurd (moved Loads (for_look query) (for_saved file) e is tt)
  answer (saved file text is there whole' answers) query project table e told glosses whole = absurd (moved Loads (for_look query) (for_saved file) e is tt)
  answer (generated stems report is reports l said) query project table e told glosses whole = no_load asked (for_look query) stems is e tt

  -- the two tasks of look-ups
  pub look : Ends version asked before after status → (direction : Direction) (net : List ℕ) (project : Project) → asked ≡ Some (for_look (words_in direction net)) → IsTold before.files (λ fs. Reads fs (Ok project)) → (FolderFailed before after → ⊥)
      → IsAnswered (Replies project direction version net) before after status ⊎ (status ≡ 5)
  look ends direction net project e told whole = let some = some_told before.files project told in answer ends (words_in direction net) project some.0 e told some.1 whole

  pub gloss : Ends version asked before after status → (net : List ℕ) (project : Project) (table : List Entry) → asked ≡ Some (for_look (glosses_in net)) → IsTold before.files (λ fs. Reads fs (Ok project)) → IsTold before.files (λ fs. HasTable fs table)
      → (FolderFailed before after → ⊥) → IsAnswered (GlossesLine project table version net) before after status ⊎ (status ≡ 5)
  gloss ends net project table e told glosses whole = answer ends (glosses_in net) project table e told glosses whole

  -- a project without, whose commands aren't served
  pub unserved : Ends version asked before after status → (project : Project) → asked ≡ Some for_serve → IsTold before.files (λ fs. Reads fs (Ok project)) → (FolderFailed before after → ⊥) → status ≡ 5
  unserved (no_words none l said) project e told whole = asks_none asked for_serve none e
  unserved (helped is l said) project e told whole = no_help asked for_serve is e tt
  unserved (refused what' fault' is loads' told' held l said) project e told whole = no_fault fault' project (sym (one_told before.files (Ok project) (Err fault') told told'))
  unserved (folder_failed what' is loads' rose l h s) project e told whole = absurd (whole rose)
  unserved (no_memory what' is takes kept l h s) project e told whole = s
  unserved (checked project' names is told' whole' are l said) project e told whole = check_serve asked is e
  unserved (answered query project' table is told' glosses whole' answers) project e told whole = look_serve asked query is e
  unserved (responded what project' response is told' whole' tells l said) project e told whole = absurd (moved (λ (w : Asked). Tells version w project' response) what for_serve is e tells)
  unserved (paired net project' grammar is told' whole' has answers) project e told whole = serve_pairs asked net e is
  unserved (file_refused file line why is faulty whole' l said) project e told whole = absurd (moved Loads for_serve (for_saved file) e is tt)
  unserved (saved file text is there whole' answers) project e told whole = absurd (moved Loads for_serve (for_saved file) e is tt)
  unserved (generated stems report is reports l said) project e told whole = no_load asked for_serve stems is e tt

  -- a project that was made
  pub make : Ends version asked before after status → (stems : ℕ) → asked ≡ Some (for_gen stems) → ((report : List ℕ) × IsReport stems report × Wrote before after report 0 status) ⊎ (status ≡ 5)
  make (no_words none l said) stems e = asks_none asked (for_gen stems) none e
  make (helped is l said) stems e = no_help_takes asked (for_gen stems) is e tt
  make (refused what fault is loads told held l said) stems e = no_load asked what stems e is loads
  make (folder_failed what is reads rose l h s) stems e = absurd (moved ReadsFolder what (for_gen stems) is e reads)
  make (no_memory what is takes kept l h s) stems e = inr s
  make (checked project names is told whole are l said) stems e = no_load asked for_check stems e is tt
  make (answered query project table is told glosses whole answers) stems e = no_load asked (for_look query) stems e is tt
  make (responded what project response is told whole tells l said) stems e = absurd (moved (λ (w : Asked). Tells version w project response) what (for_gen stems) is e tells)
  make (paired net project grammar is told whole has answers) stems e = no_load asked (for_pairs net) stems e is tt
  make (file_refused file line why is faulty whole l said) stems e = absurd (moved ReadsFolder (for_saved file) (for_gen stems) is e tt)
  make (saved file text is there whole answers) stems e = absurd (moved ReadsFolder (for_saved file) (for_gen stems) is e tt)
  make (generated stems' report is reports l said) stems e = inl (report, subst (λ (n : ℕ). IsReport n report) (same_stems asked stems' stems is e) reports, said)

  -- a project without, of whose names something was asked that is told at once
  pub tell : Ends version asked before after status → (what : Asked) (project : Project) → TellsAll what → asked ≡ Some what → IsTold before.files (λ fs. Reads fs (Ok project)) → (FolderFailed before after → ⊥)
      → ((response : Response) × Tells version what project response × Wrote before after (response_bytes response) (response_status response) status) ⊎ (status ≡ 5)
  tell (no_words none l said) what project all e told whole = asks_none asked what none e
  tell (helped is l said) what project all e told whole = absurd (moved TellsAll what for_help e is all)
  tell (refused what' fault' is loads' told' held l said) what project all e told whole = no_fault fault' project (sym (one_told before.files (Ok project) (Err fault') told told'))
  tell (folder_failed what' is reads rose l h s) what project all e told whole = absurd (whole rose)
  tell (no_memory what' is takes kept l h s) what project all e told whole = inr s
  tell (checked project' names is told' whole' are l said) what project all e told whole = absurd (moved TellsAll what for_check e is all)
  tell (answered query project' table is told' glosses whole' answers) what project all e told whole = absurd (moved TellsAll what (for_look query) e is all)
  tell (responded what' project' response is told' whole' tells l said) what project all e told whole =
      inl (
        response,
        moved (λ (w : Asked). Tells version w project response) what' what is e
            (subst (λ (p : Project). Tells version what' p response) (sym (same_project project project' (one_told before.files (Ok project) (Ok project') told told'))) tells),
        said,
      )
  tell (paired net project' grammar is told' whole' has answers) what project all e told whole = absurd (moved TellsAll what (for_pairs net) e is all)
  tell (file_refused file line why is faulty whole' l said) what project all e told whole = absurd (moved TellsAll what (for_saved file) e is all)
  tell (saved file text is there whole' answers) what project all e told whole = absurd (moved TellsAll what (for_saved file) e is all)
  tell (generated stems report is reports l said) what project all e told whole = absurd (moved TellsAll what (for_gen stems) e is all)

  pub att : Ends version asked before after status → (net : List ℕ) (project : Project) → asked ≡ Some (for_att net) → IsTold before.files (λ fs. Reads fs (Ok project)) → (FolderFailed before after → ⊥)
      → ((response : Response) × IsAtt project version net response × Wrote before after (response_bytes response) (response_status response) status) ⊎ (status ≡ 5)
  att ends net project e told whole = tell ends (for_att net) project tt e told whole

  pub compare : Ends version asked before after status → (question : Question) (first second : List ℕ) (project : Project) → asked ≡ Some (for_compared question first second) → IsTold before.files (λ fs. Reads fs (Ok project)) → (FolderFailed before after → ⊥)
      → ((response : Response) × IsCompared project version question first second response × Wrote before after (response_bytes response) (response_status response) status) ⊎ (status ≡ 5)
  compare ends question first second project e told whole = tell ends (for_compared question first second) project tt e told whole

  -- a project without, on whose rules strings were tried
  pub pair : Ends version asked before after status → (net : List ℕ) (project : Project) → asked ≡ Some (for_pairs net) → IsTold before.files (λ fs. Reads fs (Ok project)) → (FolderFailed before after → ⊥)
      → ((grammar : Grammar Leaf) × HasGrammar project net grammar × IsAnswered (RepliesToPairs project version net) before after status)
      ⊎ ((line : List ℕ) × RefusesPairs project version net line × Wrote before after line 7 status) ⊎ (status ≡ 5)
  pair (no_words none l said) net project e told whole = asks_none asked (for_pairs net) none e
  pair (helped is l said) net project e told whole = no_help asked (for_pairs net) is e tt
  pair (refused what' fault' is loads' told' held l said) net project e told whole = no_fault fault' project (sym (one_told before.files (Ok project) (Err fault') told told'))
  pair (folder_failed what' is reads rose l h s) net project e told whole = absurd (whole rose)
  pair (no_memory what' is takes kept l h s) net project e told whole = inr (inr s)
  pair (checked project' names is told' whole' are l said) net project e told whole = absurd (moved ReadsInput (for_pairs net) for_check e is tt)
  pair (answered query project' table is told' glosses whole' answers) net project e told whole = look_pairs asked query net is e
  pair (responded what' project' response is told' whole' tells l said) net project e told whole =
      let (line, same, refuses) = moved (λ (w : Asked). Tells version w project' response) what' (for_pairs net) is e tells in
      inr (inl (
        line,
        subst (λ (p : Project). RefusesPairs p version net line) (sym (same_project project project' (one_told before.files (Ok project) (Ok project') told told'))) refuses,
        subst (λ (r : Response). Wrote before after (response_bytes r) (response_status r) status) same said,
      ))
  pair (paired net' project' grammar is told' whole' has answers) net project e told whole =
      let of_net = same_net asked net' net is e in
      let of_project = sym (same_project project project' (one_told before.files (Ok project) (Ok project') told told')) in
      inl (
        grammar,
        subst (λ (p : Project). HasGrammar p net grammar) of_project (subst (λ (n : List ℕ). HasGrammar project' n grammar) of_net has),
        subst (λ (p : Project). IsAnswered (RepliesToPairs p version net) before after status) of_project (subst (λ (n : List ℕ). IsAnswered (RepliesToPairs project' version n) before after status) of_net answers),
      )
  pair (file_refused file line why is faulty whole' l said) net project e told whole = absurd (moved Loads (for_pairs net) (for_saved file) e is tt)
  pair (saved file text is there whole' answers) net project e told whole = absurd (moved Loads (for_pairs net) (for_saved file) e is tt)
  pair (generated stems report is reports l said) net project e told whole = no_load asked (for_pairs net) stems is e tt

  -- a file in which lines were looked up
  pub look_saved : Ends version asked before after status → (file : List ℕ) (files : Files) → asked ≡ Some (for_saved file) → before.files ≡ Some files → (FolderFailed before after → ⊥)
      → ((text : List ℕ) × HasSavedText file text files × IsAnswered (RepliesBySaved text version) before after status)
      ⊎ ((line : ℕ) × (why : SavedWhy) × IsSavedFault file line why files × Wrote before after (file_refused_line file line why) 2 status) ⊎ (status ≡ 5)
  look_saved (no_words none l said) file files e held whole = asks_none asked (for_saved file) none e
  look_saved (helped is l said) file files e held whole = no_help_takes asked (for_saved file) is e tt
  look_saved (refused what fault is loads told held' l said) file files e held whole = absurd (moved Loads what (for_saved file) is e loads)
  look_saved (folder_failed what is reads rose l h s) file files e held whole = absurd (whole rose)
  look_saved (no_memory what is takes kept l h s) file files e held whole = inr (inr s)
  look_saved (checked project names is told whole' are l said) file files e held whole = absurd (moved ReadsInput (for_saved file) for_check e is tt)
  look_saved (answered query project table is told glosses whole' answers) file files e held whole = absurd (moved Loads (for_look query) (for_saved file) is e tt)
  look_saved (responded what project response is told whole' tells l said) file files e held whole = absurd (moved (λ (w : Asked). Tells version w project response) what (for_saved file) is e tells)
  look_saved (paired net project grammar is told whole' has answers) file files e held whole = absurd (moved Loads (for_pairs net) (for_saved file) is e tt)
  look_saved (file_refused file' line why is faulty whole' l said) file files e held whole =
      let same = same_file asked file' file is e in
      let there : IsSavedFault file' line why files = subst (λ (o : Option Files). Told o (IsSavedFault file' line why)) held faulty in
      inr (inl (line, why, subst (λ (f : List ℕ). IsSavedFault f line why files) same there, subst (λ (f : List ℕ). Wrote before after (file_refused_line f line why) 2 status) same said))
  look_saved (saved file' text is there whole' answers) file files e held whole =
      let same = same_file asked file' file is e in
      let has : HasSavedText file' text files = subst (λ (o : Option Files). Told o (HasSavedText file' text)) held there in
      inl (text, subst (λ (f : List ℕ). HasSavedText f text files) same has, answers)
  look_saved (generated stems report is reports l said) file files e held whole = absurd (moved ReadsFolder (for_saved file) (for_gen stems) e is tt)

  -- with no failure and bytes left to take, all was done, or there was no memory, or what was asked of names was declined
  pub completes : {I O : Type 0} → Ends version asked before after status → (status ≡ 3 → FolderFailed before after ⊎ I) → (status ≡ 4 → O) → (what : Asked) (project : Project) → asked ≡ Some what → Loads what
      → IsTold before.files (λ fs. Reads fs (Ok project)) → (FolderFailed before after → ⊥) → (I → ⊥) → (O → ⊥) → status ≢ 6 → (status ≡ 0) ⊎ (status ≡ 5) ⊎ ((status ≡ 7) × Declines what project)
  completes {I} {O} ends three four what project e loads told whole read written unspent = by what e loads
    where
      by_ending : (what : Asked) (ending : Ending) → status ≡ status_of ending → (status ≡ 0) ⊎ (status ≡ 5) ⊎ ((status ≡ 7) × Declines what project)
      by_ending what Finished s = inl s
      by_ending what WriteFailed s = absurd (written (four s))
      by_ending what ReadFailed s = absurd (elim (three s) as (λ _. ⊥) [ inl rose ↦ whole rose | inr rose ↦ read rose ])
      by_ending what Spent s = absurd (unspent s)

      by_response : (what : Asked) (response : Response) → Tells version what project response → Wrote before after (response_bytes response) (response_status response) status → (status ≡ 0) ⊎ (status ≡ 5) ⊎ ((status ≡ 7) × Declines what project)
      by_response what (answer_of bytes) tells said = inl (said_whole before.output after.output said four written)
      by_response what (refusal_of bytes) tells said = inr (inr (said_whole before.output after.output said four written, declines version what project bytes tells))

      by_telling : (what : Asked) → TellsAll what → asked ≡ Some what → (status ≡ 0) ⊎ (status ≡ 5) ⊎ ((status ≡ 7) × Declines what project)
      by_telling what all e = elim (tell ends what project all e told whole) as (λ _. (status ≡ 0) ⊎ (status ≡ 5) ⊎ ((status ≡ 7) × Declines what project)) [ inl (response, tells, said) ↦ by_response what response tells said | inr five ↦ inr (inl five) ]

      by : (what : Asked) → asked ≡ Some what → Loads what → (status ≡ 0) ⊎ (status ≡ 5) ⊎ ((status ≡ 7) × Declines what project)
      by for_check e loads = elim (check ends project e told whole) as (λ _. (status ≡ 0) ⊎ (status ≡ 5) ⊎ ((status ≡ 7) × Declines for_check project)) [ inl (names, are, said) ↦ inl (said_whole before.output after.output said four written) | inr five ↦ inr (inl five) ]
      by (for_look query) e loads =
          elim (let some = some_told before.files project told in answer ends query project some.0 e told some.1 whole) as (λ _. (status ≡ 0) ⊎ (status ≡ 5) ⊎ ((status ≡ 7) × Declines (for_look query) project)) [ inl (ending, s, a) ↦ by_ending (for_look query) ending s | inr five ↦ inr (inl five) ]
      by for_serve e loads = inr (inl (unserved ends project e told whole))
      by (for_gen stems) e loads = absurd loads
      by (for_att net) e loads = by_telling (for_att net) tt e
      by (for_saved file) e loads = absurd loads
      by (for_pairs net) e loads =
          elim (pair ends net project e told whole) as (λ _. (status ≡ 0) ⊎ (status ≡ 5) ⊎ ((status ≡ 7) × Declines (for_pairs net) project)) [
            | inl (grammar, has, (ending, s, a)) ↦ by_ending (for_pairs net) ending s
            | inr others ↦ elim others as (λ _. (status ≡ 0) ⊎ (status ≡ 5) ⊎ ((status ≡ 7) × Declines (for_pairs net) project)) [
              | inl (line, refuses, said) ↦ inr (inr (said_whole before.output after.output said four written, refused_strings refuses))
              | inr five ↦ inr (inl five)
            ]
          ]
      by (for_compared question first second) e loads = by_telling (for_compared question first second) tt e
      by for_help e loads = absurd loads

  -- the same of a file without a fault
  pub completes_saved : {I O : Type 0} → Ends version asked before after status → (status ≡ 3 → FolderFailed before after ⊎ I) → (status ≡ 4 → O) → (file : List ℕ) (files : Files) → asked ≡ Some (for_saved file) → before.files ≡ Some files
      → file_fault (file_of file files) ≡ None → (FolderFailed before after → ⊥) → (I → ⊥) → (O → ⊥) → status ≢ 6 → (status ≡ 0) ⊎ (status ≡ 5)
  completes_saved {I} {O} ends three four file files e held free whole read written unspent =
      elim (look_saved ends file files e held whole) as (λ _. (status ≡ 0) ⊎ (status ≡ 5)) [
        | inl (text, has, (ending, s, a)) ↦ by_ending ending s
        | inr others ↦ elim others as (λ _. (status ≡ 0) ⊎ (status ≡ 5)) [
          | inl (line, why, faulty, said) ↦ clash line why (sym free ∙ faulty)
          | inr five ↦ inr five
        ]
      ]
    where
      clash : {P : Type 0} (line : ℕ) (why : SavedWhy) → ◌≡◌ {A = Option (ℕ × SavedWhy)} None (Some (line, why)) → P
      clash line why e = cc

      by_ending : (ending : Ending) → status ≡ status_of ending → (status ≡ 0) ⊎ (status ≡ 5)
      by_ending Finished s = inl s
      by_ending WriteFailed s = absurd (written (four s))
      by_ending ReadFailed s = absurd (elim (three s) as (λ _. ⊥) [ inl rose ↦ whole rose | inr rose ↦ read rose ])
      by_ending Spent s = absurd (unspent s)

  -- status 1 comes for words in no form
  pub usage_cause : Ends version asked before after status → status ≡ 1 → asked ≡ None
  usage_cause (no_words none l said) e = none
  usage_cause (helped is l said) e = said_other before.output after.output said e (λ z. omega (arith, z)) (λ z. omega (arith, z))
  usage_cause (refused what fault is loads told held l said) e = said_other before.output after.output said e (λ z. omega (arith, z)) (λ z. omega (arith, z))
  usage_cause (folder_failed what is loads rose l h s) e = absurd (omega (arith, s, e))
  usage_cause (no_memory what is loads kept l h s) e = absurd (omega (arith, s, e))
  usage_cause (checked project names is told whole are l said) e = said_other before.output after.output said e (λ z. omega (arith, z)) (λ z. omega (arith, z))
  usage_cause (answered query project table is told glosses whole (ending, s, a)) e = answered_other ending 1 s e (inl refl)
  usage_cause (responded what project (answer_of bytes) is told whole tells l said) e = said_other before.output after.output said e (λ z. omega (arith, z)) (λ z. omega (arith, z))
  usage_cause (responded what project (refusal_of bytes) is told whole tells l said) e = said_other before.output after.output said e (λ z. omega (arith, z)) (λ z. omega (arith, z))
  usage_cause (paired net project grammar is told whole has (ending, s, a)) e = answered_other ending 1 s e (inl refl)
  usage_cause (file_refused file line why is faulty whole l said) e = said_other before.output after.output said e (λ z. omega (arith, z)) (λ z. omega (arith, z))
  usage_cause (saved file text is there whole (ending, s, a)) e = answered_other ending 1 s e (inl refl)
  usage_cause (generated stems report is reports l said) e = said_other before.output after.output said e (λ z. omega (arith, z)) (λ z. omega (arith, z))

  -- 2 for files with a fault
  pub fault_cause : Ends version asked before after status → status ≡ 2 → HaveFault asked before.files × ¬ FolderFailed before after
  fault_cause (no_words none l said) e = said_other before.output after.output said e (λ z. omega (arith, z)) (λ z. omega (arith, z))
  fault_cause (helped is l said) e = said_other before.output after.output said e (λ z. omega (arith, z)) (λ z. omega (arith, z))
  fault_cause (refused what fault is loads told held l said) e = (inl (what, fault, is, loads, told), held)
  fault_cause (folder_failed what is loads rose l h s) e = absurd (omega (arith, s, e))
  fault_cause (no_memory what is loads kept l h s) e = absurd (omega (arith, s, e))
  fault_cause (checked project names is told whole are l said) e = said_other before.output after.output said e (λ z. omega (arith, z)) (λ z. omega (arith, z))
  fault_cause (answered query project table is told glosses whole (ending, s, a)) e = answered_other ending 2 s e (inr refl)
  fault_cause (responded what project (answer_of bytes) is told whole tells l said) e = said_other before.output after.output said e (λ z. omega (arith, z)) (λ z. omega (arith, z))
  fault_cause (responded what project (refusal_of bytes) is told whole tells l said) e = said_other before.output after.output said e (λ z. omega (arith, z)) (λ z. omega (arith, z))
  fault_cause (paired net project grammar is told whole has (ending, s, a)) e = answered_other ending 2 s e (inr refl)
  fault_cause (file_refused file line why is faulty whole l said) e = (inr (file, line, why, is, faulty), whole)
  fault_cause (saved file text is there whole (ending, s, a)) e = answered_other ending 2 s e (inr refl)
  fault_cause (generated stems report is reports l said) e = said_other before.output after.output said e (λ z. omega (arith, z)) (λ z. omega (arith, z))

  -- and 6 where so many bytes were taken
  pub spent_cause : Ends version asked before after status → status ≡ 6 → HasSpent before.input after.input
  spent_cause (no_words none l said) e = said_other before.output after.output said e (λ z. omega (arith, z)) (λ z. omega (arith, z))
  spent_cause (helped is l said) e = said_other before.output after.output said e (λ z. omega (arith, z)) (λ z. omega (arith, z))
  spent_cause (refused what fault is loads told held l said) e = said_other before.output after.output said e (λ z. omega (arith, z)) (λ z. omega (arith, z))
  spent_cause (folder_failed what is loads rose l h s) e = absurd (omega (arith, s, e))
  spent_cause (no_memory what is loads kept l h s) e = absurd (omega (arith, s, e))
  spent_cause (checked project names is told whole are l said) e = said_other before.output after.output said e (λ z. omega (arith, z)) (λ z. omega (arith, z))
  spent_cause (answered query project table is told glosses whole (ending, s, a)) e = answered_spent ending s a e
  spent_cause (responded what project (answer_of bytes) is told whole tells l said) e = said_other before.output after.output said e (λ z. omega (arith, z)) (λ z. omega (arith, z))
  spent_cause (responded what project (refusal_of bytes) is told whole tells l said) e = said_other before.output after.output said e (λ z. omega (arith, z)) (λ z. omega (arith, z))
  spent_cause (paired net project grammar is told whole has (ending, s, a)) e = answered_spent ending s a e
  spent_cause (file_refused file line why is faulty whole l said) e = said_other before.output after.output said e (λ z. omega (arith, z)) (λ z. omega (arith, z))
  spent_cause (saved file text is there whole (ending, s, a)) e = answered_spent ending s a e
  spent_cause (generated stems report is reports l said) e = said_other before.output after.output said e (λ z. omega (arith, z)) (λ z. omega (arith, z))

  -- and 7 where what was asked of names was declined
  pub declined_cause : Ends version asked before after status → status ≡ 7 → (what : Asked) × (project : Project) × (asked ≡ Some what) × Told before.files (λ fs. Reads fs (Ok project)) × Declines what project × ¬ FolderFailed before after
  declined_cause (no_words none l said) e = said_other before.output after.output said e (λ z. omega (arith, z)) (λ z. omega (arith, z))
  declined_cause (helped is l said) e = said_other before.output after.output said e (λ z. omega (arith, z)) (λ z. omega (arith, z))
  declined_cause (refused what fault is loads told held l said) e = said_other before.output after.output said e (λ z. omega (arith, z)) (λ z. omega (arith, z))
  declined_cause (folder_failed what is reads rose l h s) e = absurd (omega (arith, s, e))
  declined_cause (no_memory what is takes kept l h s) e = absurd (omega (arith, s, e))
  declined_cause (checked project names is told whole are l said) e = said_other before.output after.output said e (λ z. omega (arith, z)) (λ z. omega (arith, z))
  declined_cause (answered query project table is told glosses whole (ending, s, a)) e = answered_seven ending s e
  declined_cause (responded what project (answer_of bytes) is told whole tells l said) e = said_other before.output after.output said e (λ z. omega (arith, z)) (λ z. omega (arith, z))
  declined_cause (responded what project (refusal_of bytes) is told whole tells l said) e = (what, project, is, told, declines version what project bytes tells, whole)
  declined_cause (paired net project grammar is told whole has (ending, s, a)) e = answered_seven ending s e
  declined_cause (file_refused file line why is faulty whole l said) e = said_other before.output after.output said e (λ z. omega (arith, z)) (λ z. omega (arith, z))
  declined_cause (saved file text is there whole (ending, s, a)) e = answered_seven ending s e
  declined_cause (generated stems report is reports l said) e = said_other before.output after.output said e (λ z. omega (arith, z)) (λ z. omega (arith, z))
