-- What is asked of a project that C holds, and why there is no answer. Names, words and texts are put into Normalization Form C.
use Rattle.std.specs.Prelude.{◌≡◌, ◌<◌, ◌⊎◌, ◌++◌, ℕ, ⊤, List, Option, Some, Ok, Err, Contains, decimal, length}
use Rattle.std.specs.List.{flat_map}
use Rattle.std.specs.Str.{IsUtf8}
use Rattle.editor_meaning.specs.Editing.{AreNames}
use Rattle.fsm_base.specs.Alphabet.{texts_of}
use Rattle.fsm_base.specs.Cut.{cut}
use Rattle.fsm_base.specs.Normal.{nfc_of}
use Rattle.fsm_io.specs.Lines.{most_line}
use Rattle.interlinear.specs.Glosses.{Entry}
use Rattle.interlinear.specs.Replies.{GlossesText}
use Rattle.lookup_answers.specs.declared.direction.Direction.{Direction}
use Rattle.project_meaning.specs.Projects.{Defines}
use Rattle.project_sources.specs.Edits.{Version as Meant}
use Rattle.project_store.specs.Loaded.{LoadedView}
use Rattle.project_store.specs.Projects.{HasTable, IsRead}
use Rattle.project_versions.specs.Versions.{Stands, VersionView}
use Rattle.regex_ast.specs.declared.fault.Fault.{Fault}
use Rattle.reply_meaning.specs.Replies.{RepliesToWord, line_of}
use Rattle.reply_meaning.specs.Transcripts.{first_version}
use Rattle.reply_text.specs.Projects.{refused_line}
use Rattle.saved_networks.specs.Networks.{IsSavedAs, SavedView}
use Rattle.saved_networks.specs.Refusals.{refused_line as saved_line}
use Rattle.saved_networks.specs.Replies.{RepliesToWordBySaved}
use Rattle.morph_c.specs.declared.held.Held.{Held}
use Rattle.morph_c.specs.declared.held.Held.TheVariants.{Faulty, Open, Saved, Unreadable}
use Rattle.morph_c.specs.declared.held.SavedRefusal.{SavedRefusal}
use Rattle.morph_c.specs.declared.trouble.Trouble.{Trouble}
use Rattle.morph_c.specs.declared.trouble.Trouble.TheVariants.{Memory, State, NotUtf8, Long, Newline, Refused, NoSymbol}

-- the project is open, at this version
abbrev pub IsOpen : Option Held → VersionView → Type 0
IsOpen held version = held ≡ Some (Open version)

-- an AT&T text is open, with this network
abbrev pub IsSaved : Option Held → SavedView → Type 0
IsSaved held network = held ≡ Some (Saved network)

-- the reply to a word that is looked up in a name
abbrev pub IsLookedUp : Option Held → Direction → List ℕ → List ℕ → List ℕ → Type 0
IsLookedUp held direction net word bytes =
    (v : VersionView) × IsOpen held v × ((meant : Meant) → Stands v meant → RepliesToWord meant.project direction meant.number (nfc_of net) (nfc_of word) bytes)

-- the reply to a word that is looked up in an AT&T text
abbrev pub IsLookedUpInSaved : Option Held → List ℕ → List ℕ → Type 0
IsLookedUpInSaved held word bytes =
    (network : SavedView) × IsSaved held network × ((text : List ℕ) → IsSavedAs text network → RepliesToWordBySaved text first_version (nfc_of word) bytes)

-- the reply to a text whose words are looked up in a name and told in glosses
abbrev pub IsGlossed : Option Held → List ℕ → List ℕ → List ℕ → Type 0
IsGlossed held net text bytes =
    (v : VersionView) × IsOpen held v × ((meant : Meant) (table : List Entry) → Stands v meant → HasTable meant.files table → GlossesText meant.project table meant.number (nfc_of net) (nfc_of text) bytes)

-- how many texts there are, and each on a line
abbrev pub listed : List (List ℕ) → List ℕ
listed texts = line_of (decimal (length texts)) ++ flat_map line_of texts

-- the symbols of a word, cut by the alphabet that the files say
abbrev pub IsCut : Option Held → List ℕ → List ℕ → Type 0
IsCut held word bytes =
    (v : VersionView) × IsOpen held v × ((loaded : LoadedView) × IsRead v.files loaded × ((symbols : List (List ℕ)) × (cut (texts_of loaded.alphabet) (nfc_of word) ≡ Ok symbols) × (bytes ≡ listed symbols)))

-- the names
abbrev pub AreListed : Option Held → List ℕ → Type 0
AreListed held bytes =
    (v : VersionView) × IsOpen held v × ((names : List (List ℕ)) × (bytes ≡ listed names) × ((meant : Meant) → Stands v meant → AreNames (Defines meant.project) names))

-- the first fault of a file that was to be an AT&T text
abbrev pub IsSavedFault : Option Held → List ℕ → Type 0
IsSavedFault held bytes = (refusal : SavedRefusal) × (held ≡ Some (Unreadable refusal)) × (bytes ≡ saved_line refusal.file refusal.line refusal.why)

-- the first fault of the files
abbrev pub IsFault : Option Held → List ℕ → Type 0
IsFault held bytes = ((fault : Fault) × (held ≡ Some (Faulty fault)) × (bytes ≡ refused_line fault)) ⊎ IsSavedFault held bytes

-- why bytes are no line of text
abbrev pub IsNoLine : List ℕ → Trouble → Type 0
IsNoLine bytes Memory = ⊤
IsNoLine bytes NotUtf8 = IsUtf8 bytes → ⊥
IsNoLine bytes Long = most_line < length bytes
IsNoLine bytes Newline = Contains bytes 10
IsNoLine bytes State = ⊥
IsNoLine bytes Refused = ⊥
IsNoLine bytes (NoSymbol at) = ⊥

-- no version is open
abbrev pub IsNotOpen : Option Held → Type 0
IsNotOpen held = (v : VersionView) → IsOpen held v → ⊥

-- no AT&T text is open
abbrev pub IsNotSaved : Option Held → Type 0
IsNotSaved held = (network : SavedView) → IsSaved held network → ⊥

-- why nothing is told of a project: it isn't open, or there was no memory
abbrev pub IsWhyNone : Option Held → Trouble → Type 0
IsWhyNone held why = (why ≡ Memory) ⊎ ((why ≡ State) × IsNotOpen held)

-- why a line isn't looked up in a name
abbrev pub IsNoLook : Option Held → List ℕ → List ℕ → Trouble → Type 0
IsNoLook held net line why = IsWhyNone held why ⊎ (IsNoLine net why ⊎ IsNoLine line why)

-- why a word isn't looked up in an AT&T text
abbrev pub IsNoLookInSaved : Option Held → List ℕ → Trouble → Type 0
IsNoLookInSaved held word why = ((why ≡ Memory) ⊎ ((why ≡ State) × IsNotSaved held)) ⊎ IsNoLine word why

-- why a word isn't cut
abbrev pub IsNoCut : Option Held → List ℕ → Trouble → Type 0
IsNoCut held word why = IsWhyNone held why ⊎ (IsNoLine word why
    ⊎ ((at : ℕ) × (why ≡ NoSymbol at) × ((v : VersionView) × IsOpen held v × ((loaded : LoadedView) × IsRead v.files loaded × (cut (texts_of loaded.alphabet) (nfc_of word) ≡ Err at)))))

-- why no fault is told
abbrev pub IsNoFault : Option Held → Trouble → Type 0
IsNoFault held why =
    (why ≡ Memory) ⊎ ((why ≡ State) × ((fault : Fault) → held ≡ Some (Faulty fault) → ⊥) × ((refusal : SavedRefusal) → held ≡ Some (Unreadable refusal) → ⊥))
