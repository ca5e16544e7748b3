-- How a run ends that answers one input alone: its status, and what it read and wrote.
use Rattle.std.specs.Prelude.{◌≡◌, ◌⊎◌, ◌++◌, ◌&&◌, ◌||◌, ℕ, Bool, List, [], ◌∷◌, Option, None, Some, Ok, Err, codes, decimal, nat_le, if◌then◌else◌}
use Rattle.std.specs.Option.{option_and_then, option_map}
use Rattle.std.specs.Str.{bytes_eq}
use Rattle.std.specs.Str.Parse.{digits_value}
use Rattle.regex_ast.specs.declared.fault.Fault.{Fault}
use Rattle.fsm_io.specs.Buffers.{most_gathered}
use Rattle.fsm_io.specs.Folders.{Asked as Read, Files, Told}
use Rattle.reply_meaning.specs.declared.ending.Ending.{Ending}
use Rattle.reply_meaning.specs.declared.ending.Ending.TheVariants.{Finished, WriteFailed, ReadFailed, Spent}
use Rattle.fsm_base.specs.Normal.{nfc_of}
use Rattle.named_networks.specs.Comparisons.{IsCompared, IsWhyNot}
use Rattle.named_networks.specs.Responses.{Response, answer, refusal}
use Rattle.named_networks.specs.Texts.{HasZeroSymbol, IsAtt}
use Rattle.named_networks.specs.declared.told.Question.{Question}
use Rattle.named_networks.specs.declared.told.Question.TheVariants.{Equal, Within}
use Rattle.pair_lines.specs.Replies.{HasGrammar, RefusesPairs, RepliesToPairs}
use Rattle.project_meaning.specs.Leaves.{Leaf}
use Rattle.project_meaning.specs.Projects.{Defines, Project}
use Rattle.project_meaning.specs.Trees.{Grammar}
use Rattle.generated_report.specs.Generated.{most_stems}
use Rattle.generated_report.specs.Reports.{IsReport}
use Rattle.interlinear.specs.Glosses.{Entry}
use Rattle.lookup_answers.specs.declared.direction.Direction.{Direction}
use Rattle.lookup_answers.specs.declared.direction.Direction.TheVariants.{Up, Down}
use Rattle.reply_meaning.specs.Replies.{line_of}
use Rattle.reply_meaning.specs.Transcripts.{HasAnswered, WithoutState}
use Rattle.project_store.specs.Loaded.{AreNames}
use Rattle.reply_text.specs.Projects.{accepted_line, refused_line}
use Rattle.project_store.specs.Projects.{HasTable, Reads}
use Rattle.saved_networks.specs.Refusals.{refused_line as file_refused_line}
use Rattle.saved_networks.specs.Replies.{RepliesBySaved}
use Rattle.saved_networks.specs.declared.faults.SavedWhy.{SavedWhy}
use Rattle.fsm_program.specs.FileNames.{is_file_name}
use Rattle.fsm_program.specs.Files.{AskedForFiles}
use Rattle.fsm_program.specs.Saved.{AskedForSaved, HasSavedText, IsSavedFault}
use Rattle.fsm_program.specs.Outside.{Outside, ReadNothing, WroteNothing, Wrote, FolderFailed, FolderKept, IsSaid}
use Rattle.fsm_program.specs.Tasks.{RepliesToLine}
use Rattle.fsm_program.specs.declared.load.LoadError.{LoadError}
use Rattle.fsm_program.specs.declared.load.LoadError.TheVariants.{Failed, Memory, Refused}
use Rattle.fsm_program.specs.declared.look_up.Task.{Task}
use Rattle.fsm_program.specs.declared.look_up.Task.TheVariants.{Words, Glosses}
use Rattle.fsm_program.specs.declared.words.Command.{Command}
use Rattle.fsm_program.specs.declared.words.Command.TheVariants as commands
use Rattle.fsm_program.specs.declared.words.NameForm.{NameForm}
use Rattle.fsm_program.specs.declared.words.NameForm.TheVariants.{Lines, Att, Pairs, File}
use Rattle.fsm_program.specs.declared.words.WordsError.{WordsError}
use Rattle.fsm_program.specs.declared.words.WordsError.TheVariants as unread
use Rattle.fsm_program.specs.Running.{most_taken}

-- what is done with the lines of the input, and in which name they are looked up, in Normalization Form C
pub record Query : Type 0 where
  pub task : Task
  pub net : List ℕ

-- lines are words, or texts that are glossed
abbrev pub words_in : Direction → List ℕ → Query
words_in direction net = record { task = Words direction; net = net }

abbrev pub glosses_in : List ℕ → Query
glosses_in net = record { task = Glosses; net = net }

-- what the words ask for
pub data Asked : Type 0 where
  for_check : Asked
  for_look : Query → Asked
  for_serve : Asked
  for_gen : ℕ → Asked
  for_att : List ℕ → Asked
  for_saved : List ℕ → Asked
  for_pairs : List ℕ → Asked
  for_compared : Question → List ℕ → List ℕ → Asked
  for_help : Asked

-- what a command of three words asks of the last one
abbrev pub form_of : List ℕ → Option NameForm
form_of command =
    if bytes_eq command (codes "up") then Some (Lines (Words Up))
    else if bytes_eq command (codes "down") then Some (Lines (Words Down))
    else if bytes_eq command (codes "gloss") then Some (Lines Glosses)
    else if bytes_eq command (codes "att") then Some Att
    else if bytes_eq command (codes "pairs") then Some Pairs
    else if bytes_eq command (codes "attup") then Some File
    else None

-- what a command of four words asks of the last two
abbrev pub question_of : List ℕ → Option Question
question_of command =
    if bytes_eq command (codes "equal") then Some Equal
    else if bytes_eq command (codes "within") then Some Within
    else None

-- `help`, `-h` or `--help`
abbrev pub is_help : List ℕ → Bool
is_help word = bytes_eq word (codes "help") || (bytes_eq word (codes "-h") || bytes_eq word (codes "--help"))

-- how many stems a project is made of: from 1 to the most
abbrev pub is_made : ℕ → Bool
is_made stems = nat_le 1 stems && nat_le stems most_stems

-- how many stems a word says: a number in decimal without a leading zero
abbrev pub stems_of : List ℕ → Option ℕ
stems_of word = let stems = digits_value 10 word in if bytes_eq word (decimal stems) && is_made stems then Some stems else None

-- a file has the form of the name of one that a manifest may name
abbrev pub asked_of_file : List ℕ → Option Asked
asked_of_file file = if is_file_name file then Some (for_saved file) else None

-- names are put into Normalization Form C (Unicode Standard Annex 15)
abbrev pub asked_of_name : NameForm → List ℕ → Option Asked
asked_of_name (Lines task) name = Some (for_look (record { task = task; net = nfc_of name }))
asked_of_name Att name = Some (for_att (nfc_of name))
asked_of_name Pairs name = Some (for_pairs (nfc_of name))
asked_of_name File name = asked_of_file name

-- what one word asks for, two, three whose second is the folder, and four
abbrev pub asked_of_one : List ℕ → Option Asked
asked_of_one word = if is_help word then Some for_help else None

abbrev pub asked_of_two : List ℕ → List ℕ → Option Asked
asked_of_two command word =
    if bytes_eq command (codes "check") then Some for_check
    else if bytes_eq command (codes "serve") then Some for_serve
    else if bytes_eq command (codes "gen") then option_map for_gen (stems_of word)
    else None

abbrev pub asked_of_three : List ℕ → List ℕ → Option Asked
asked_of_three command name = option_and_then (λ form. asked_of_name form name) (form_of command)

abbrev pub asked_of_four : List ℕ → List ℕ → List ℕ → Option Asked
asked_of_four command first second = option_map (λ question. for_compared question (nfc_of first) (nfc_of second)) (question_of command)

-- `check DIR`, `up DIR NET`, `down DIR NET`, `gloss DIR NET`, `serve DIR`, `gen N`, `att DIR NET`, `attup DIR FILE`, `pairs DIR NET`, `equal DIR A B`,
-- `within DIR A B` or `help`; other words are in no form
abbrev pub asked_of : List (List ℕ) → Option Asked
asked_of (word ∷ []) = asked_of_one word
asked_of (command ∷ word ∷ []) = asked_of_two command word
asked_of (command ∷ dir ∷ name ∷ []) = asked_of_three command name
asked_of (command ∷ dir ∷ first ∷ second ∷ []) = asked_of_four command first second
asked_of _ = None

-- what a command asks for
abbrev pub asked_by : Command → Asked
asked_by commands.Check = for_check
asked_by (commands.Up net) = for_look (words_in Up net)
asked_by (commands.Down net) = for_look (words_in Down net)
asked_by (commands.Gloss net) = for_look (glosses_in net)
asked_by commands.Serve = for_serve
asked_by (commands.Gen stems) = for_gen stems
asked_by (commands.Att net) = for_att net
asked_by (commands.AttUp file) = for_saved file
asked_by (commands.Pairs net) = for_pairs net
asked_by (commands.Compare question first second) = for_compared question first second
asked_by commands.Help = for_help

-- what is asked for is asked of names of networks, or of a file
abbrev pub IsOfNames : Asked → Type 0
IsOfNames for_check = ⊥
IsOfNames (for_look query) = Unit {0}
IsOfNames for_serve = ⊥
IsOfNames (for_gen stems) = ⊥
IsOfNames (for_att net) = Unit {0}
IsOfNames (for_saved file) = Unit {0}
IsOfNames (for_pairs net) = Unit {0}
IsOfNames (for_compared question first second) = Unit {0}
IsOfNames for_help = ⊥

-- why words aren't read: they are in no form, or there was no memory for the names that they have
abbrev pub IsWhyUnread : Option Asked → WordsError → Type 0
IsWhyUnread what unread.Usage = what ≡ None
IsWhyUnread what (unread.Memory refused) = (named : Asked) × (what ≡ Some named) × IsOfNames named

-- the words load a project
abbrev pub Loads : Asked → Type 0
Loads for_check = Unit {0}
Loads (for_look query) = Unit {0}
Loads for_serve = Unit {0}
Loads (for_gen stems) = ⊥
Loads (for_att net) = Unit {0}
Loads (for_saved file) = ⊥
Loads (for_pairs net) = Unit {0}
Loads (for_compared question first second) = Unit {0}
Loads for_help = ⊥

-- they read files of the folder: those of a project, or one that was saved
abbrev pub ReadsFolder : Asked → Type 0
ReadsFolder for_check = Unit {0}
ReadsFolder (for_look query) = Unit {0}
ReadsFolder for_serve = Unit {0}
ReadsFolder (for_gen stems) = ⊥
ReadsFolder (for_att net) = Unit {0}
ReadsFolder (for_saved file) = Unit {0}
ReadsFolder (for_pairs net) = Unit {0}
ReadsFolder (for_compared question first second) = Unit {0}
ReadsFolder for_help = ⊥

-- they read the input: each of its lines is looked up, or is a command
abbrev pub ReadsInput : Asked → Type 0
ReadsInput for_check = ⊥
ReadsInput (for_look query) = Unit {0}
ReadsInput for_serve = Unit {0}
ReadsInput (for_gen stems) = ⊥
ReadsInput (for_att net) = ⊥
ReadsInput (for_saved file) = Unit {0}
ReadsInput (for_pairs net) = Unit {0}
ReadsInput (for_compared question first second) = ⊥
ReadsInput for_help = ⊥

-- what they ask for takes memory
abbrev pub TakesMemory : Asked → Type 0
TakesMemory for_check = Unit {0}
TakesMemory (for_look query) = Unit {0}
TakesMemory for_serve = Unit {0}
TakesMemory (for_gen stems) = Unit {0}
TakesMemory (for_att net) = Unit {0}
TakesMemory (for_saved file) = Unit {0}
TakesMemory (for_pairs net) = Unit {0}
TakesMemory (for_compared question first second) = Unit {0}
TakesMemory for_help = ⊥

abbrev pub usage_text : List ℕ
usage_text = line_of (codes "check DIR") ++ line_of (codes "up DIR NET") ++ line_of (codes "down DIR NET") ++ line_of (codes "gloss DIR NET") ++ line_of (codes "serve DIR") ++ line_of (codes "gen N") ++ line_of (codes "att DIR NET")
    ++ line_of (codes "attup DIR FILE") ++ line_of (codes "pairs DIR NET") ++ line_of (codes "equal DIR A B") ++ line_of (codes "within DIR A B") ++ line_of (codes "help")

abbrev pub status_of : Ending → ℕ
status_of Finished = 0
status_of WriteFailed = 4
status_of ReadFailed = 3
status_of Spent = 6

-- the lines of the input were answered, and this is the status of how that ended
abbrev pub IsAnswered : (Option (List ℕ) → List ℕ → Type 0) → Outside → Outside → ℕ → Type 0
IsAnswered R before after status =
    (ending : Ending) × (status ≡ status_of ending) × HasAnswered (WithoutState R) tt most_taken most_gathered before.input after.input before.output after.output ending

-- what is told of names of a project at once, without a line of the input: an answer, or the line that refuses them
abbrev pub Tells : ℕ → Asked → Project → Response → Type 0
Tells version for_check project response = ⊥
Tells version (for_look query) project response = ⊥
Tells version for_serve project response = ⊥
Tells version (for_gen stems) project response = ⊥
Tells version (for_att net) project response = IsAtt project version net response
Tells version (for_saved file) project response = ⊥
Tells version (for_pairs net) project response = (line : List ℕ) × (response ≡ refusal line) × RefusesPairs project version net line
Tells version (for_compared question first second) project response = IsCompared project version question first second response
Tells version for_help project response = ⊥

abbrev pub response_bytes : Response → List ℕ
response_bytes (answer bytes) = bytes
response_bytes (refusal bytes) = bytes

abbrev pub response_status : Response → ℕ
response_status (answer bytes) = 0
response_status (refusal bytes) = 7

-- a project refuses what is asked of its names: they aren't there, or aren't what is asked for
abbrev pub Declines : Asked → Project → Type 0
Declines for_check project = ⊥
Declines (for_look query) project = ⊥
Declines for_serve project = ⊥
Declines (for_gen stems) project = ⊥
Declines (for_att net) project = ¬ (Defines project net) ⊎ HasZeroSymbol project
Declines (for_saved file) project = ⊥
Declines (for_pairs net) project = (grammar : Grammar Leaf) → ¬ (HasGrammar project net grammar)
Declines (for_compared question first second) project = (why : List ℕ) × IsWhyNot project first second why
Declines for_help project = ⊥

-- what the folder was asked for by the words: the file that was saved alone, or files of its project alone, in their order
abbrev pub AskedFor : Option Asked → Option Files → Option (List Read) → Option (List Read) → Type 0
AskedFor (Some (for_saved file)) files old new = AskedForSaved file old new
AskedFor _ files old new = AskedForFiles files old new

-- the files that the words read have a fault: those of a project, or one that was saved
abbrev pub HaveFault : Option Asked → Option Files → Type 0
HaveFault asked files = ((what : Asked) × (fault : Fault) × (asked ≡ Some what) × Loads what × Told files (λ files. Reads files (Err fault)))
    ⊎ ((file : List ℕ) × (line : ℕ) × (why : SavedWhy) × (asked ≡ Some (for_saved file)) × Told files (IsSavedFault file line why))

-- Every way to end where no commands are served. `asked` is what the words ask for, `version` the number that the replies name, and
-- `before` and `after` are what stands outside. The folder didn't fail where what it holds is answered or refused, nor did its count of faults
-- change where there was no memory: names may find none before the folder is read, and a count at its last value counts as risen.
pub data Ends (version : ℕ) (asked : Option Asked) (before after : Outside) (status : ℕ) : Type 0 where
  no_words : asked ≡ None → ReadNothing before after → Wrote before after usage_text 1 status → Ends version asked before after status
  helped : asked ≡ Some for_help → ReadNothing before after → Wrote before after usage_text 0 status → Ends version asked before after status
  refused : (what : Asked) (fault : Fault) → asked ≡ Some what → Loads what → Told before.files (λ files. Reads files (Err fault)) → ¬ FolderFailed before after → ReadNothing before after
      → Wrote before after (refused_line fault) 2 status → Ends version asked before after status
  folder_failed : (what : Asked) → asked ≡ Some what → ReadsFolder what → FolderFailed before after → ReadNothing before after → WroteNothing before after → status ≡ 3 → Ends version asked before after status
  no_memory : (what : Asked) → asked ≡ Some what → TakesMemory what → FolderKept before after → ReadNothing before after → WroteNothing before after → status ≡ 5 → Ends version asked before after status
  checked : (project : Project) (names : List (List ℕ)) → asked ≡ Some for_check → Told before.files (λ files. Reads files (Ok project)) → ¬ FolderFailed before after → AreNames project names → ReadNothing before after
      → Wrote before after (accepted_line version names) 0 status → Ends version asked before after status
  answered : (query : Query) (project : Project) (table : List Entry) → asked ≡ Some (for_look query) → Told before.files (λ files. Reads files (Ok project)) → Told before.files (λ files. HasTable files table)
      → ¬ FolderFailed before after → IsAnswered (RepliesToLine query.task project table version query.net) before after status → Ends version asked before after status
  responded : (what : Asked) (project : Project) (response : Response) → asked ≡ Some what → Told before.files (λ files. Reads files (Ok project)) → ¬ FolderFailed before after → Tells version what project response → ReadNothing before after
      → Wrote before after (response_bytes response) (response_status response) status → Ends version asked before after status
  paired : (net : List ℕ) (project : Project) (grammar : Grammar Leaf) → asked ≡ Some (for_pairs net) → Told before.files (λ files. Reads files (Ok project)) → ¬ FolderFailed before after → HasGrammar project net grammar
      → IsAnswered (RepliesToPairs project version net) before after status → Ends version asked before after status
  file_refused : (file : List ℕ) (line : ℕ) (why : SavedWhy) → asked ≡ Some (for_saved file) → Told before.files (IsSavedFault file line why) → ¬ FolderFailed before after → ReadNothing before after
      → Wrote before after (file_refused_line file line why) 2 status → Ends version asked before after status
  saved : (file text : List ℕ) → asked ≡ Some (for_saved file) → Told before.files (HasSavedText file text) → ¬ FolderFailed before after → IsAnswered (RepliesBySaved text version) before after status → Ends version asked before after status
  generated : (stems : ℕ) (report : List ℕ) → asked ≡ Some (for_gen stems) → IsReport stems report → ReadNothing before after → Wrote before after report 0 status → Ends version asked before after status

-- how a run ends whose project isn't loaded
abbrev pub IsNotLoaded : LoadError → Option (List ℕ) → Option (List ℕ) → ℕ → Type 0
IsNotLoaded Failed held0 held status = (held ≡ held0) × (status ≡ 3)
IsNotLoaded (Memory error) held0 held status = (held ≡ held0) × (status ≡ 5)
IsNotLoaded (Refused fault) held0 held status = IsSaid held0 held (refused_line fault) 2 status ⊎ ((held ≡ held0) × (status ≡ 5))
