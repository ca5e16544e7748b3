-- A file of glosses, and the gloss of a text. A line is a key, a tab and its gloss. A text is glossed from left to right:
-- at each place the longest key that begins there gives its gloss, and where none begins the character stays.
-- An entry is a key by its characters and a gloss by its bytes.
use Rattle.std.specs.Prelude.{◌≡◌, ℕ, zero, suc, ◌+◌, ◌-◌, ◌++◌, ◌==◌, Bool, true, List, [], ◌∷◌, length, map, Option, None, Some, Result, Ok, Err, ⊤, is_some, unwrap_or, if◌then◌else◌, nat_eq, codes, chars, encode_utf8}
use Rattle.std.specs.Cmp.Lexicographic.{pointwise}
use Rattle.std.specs.Map.{lookup}
use Rattle.fsm_base.specs.Cut.{longest}
use Rattle.regex_ast.specs.declared.fault.ReadError.{ReadError}
use Rattle.regex_ast.specs.declared.fault.ReadError.TheVariants.{Fault, Memory}
use Rattle.regex_ast.specs.declared.fault.Why.{Why}
use Rattle.regex_ast.specs.declared.fault.Why.TheVariants as why
use Rattle.regex_reader.specs.Files.{FaultAt}
use Rattle.interlinear.specs.Words.{pieces_of}

abbrev pub Entry : Type 0
Entry = List ℕ × List ℕ

abbrev pub keys_in : List Entry → List (List ℕ)
keys_in entries = map (λ entry. entry.0) entries

abbrev pub gloss_of : List Entry → List ℕ → Option (List ℕ)
gloss_of entries key = lookup (pointwise nat_eq key) entries

abbrev pub lines_of : List ℕ → List (List ℕ)
lines_of text = pieces_of (codes "\n") text

abbrev pub fields_of : List ℕ → List (List ℕ)
fields_of line = pieces_of (codes "\t") line

-- a line that is empty, or that begins with `!`
abbrev pub says_nothing : List ℕ → Bool
says_nothing [] = true
says_nothing (b ∷ bs) = b == 33

-- a key isn't empty
abbrev pub with_key : List ℕ → List ℕ → Option Entry
with_key [] gloss = None
with_key (c ∷ cs) gloss = Some (c ∷ cs, gloss)

-- the entry of a line's fields
abbrev pub entry_of : List (List ℕ) → Option Entry
entry_of (key ∷ gloss ∷ []) = with_key (chars key) gloss
entry_of _ = None

-- the entries with one more, whose key is a new one
abbrev pub with_entry : List Entry → Option Entry → Result (List Entry) Why
with_entry entries None = Err why.Statement
with_entry entries (Some entry) = if is_some (gloss_of entries entry.0) then Err why.Duplicate else Ok (entries ++ entry ∷ [])

-- the entries behind a line
abbrev pub with_line : List Entry → List ℕ → Result (List Entry) Why
with_line entries line = if says_nothing line then Ok entries else with_entry entries (entry_of (fields_of line))

-- what other lines say, or the fault of this one
abbrev pub or_fault : ℕ → Result (List Entry) Why → (List Entry → Result (List Entry) FaultAt) → Result (List Entry) FaultAt
or_fault line (Ok entries) others = others entries
or_fault line (Err reason) others = Err (record { line = line; why = reason })

-- the entries behind lines, the first of which has this number, or the first fault
abbrev pub with_lines : List Entry → ℕ → List (List ℕ) → Result (List Entry) FaultAt
with_lines entries number [] = Ok entries
with_lines entries number (line ∷ lines) = or_fault number (with_line entries line) (λ more. with_lines more (number + 1) lines)

-- what a file of glosses says
abbrev pub table_of : List ℕ → Result (List Entry) FaultAt
table_of text = with_lines [] 1 (lines_of text)

-- a text says this as a file of glosses: its table, or its first fault
abbrev pub SaysTable : List ℕ → Result (List Entry) FaultAt → Type 0
SaysTable text answer = table_of text ≡ answer

-- a table as it is read: the entries of these lines, or their first fault, or want of memory
abbrev pub AreRead : List (List ℕ) → Result (List Entry) ReadError → Type 0
AreRead lines (Ok table) = with_lines [] 1 lines ≡ Ok table
AreRead lines (Err (Fault line reason)) = with_lines [] 1 lines ≡ Err (record { line = line; why = reason })
AreRead lines (Err (Memory refused)) = ⊤

abbrev pub IsTableRead : List ℕ → Result (List Entry) ReadError → Type 0
IsTableRead text read = AreRead (lines_of text) read

-- the gloss of a key, or the character where no key begins, and that of what stands behind it
abbrev pub glossed_by : List Entry → ℕ → Option (List ℕ) → (ℕ → List ℕ) → List ℕ
glossed_by entries c None behind = encode_utf8 c ++ behind 1
glossed_by entries c (Some key) behind = unwrap_or (gloss_of entries key) [] ++ behind (length key)

-- the gloss of characters behind the first ones, as many as this number
abbrev pub glossed_behind : List Entry → ℕ → List ℕ → List ℕ
glossed_behind entries skipped [] = []
glossed_behind entries zero (c ∷ cs) = glossed_by entries c (longest (keys_in entries) (c ∷ cs)) (λ skipped. glossed_behind entries (skipped - 1) cs)
glossed_behind entries (suc skipped) (c ∷ cs) = glossed_behind entries skipped cs

-- the gloss of a text
abbrev pub glossed : List Entry → List ℕ → List ℕ
glossed entries text = glossed_behind entries 0 (chars text)
