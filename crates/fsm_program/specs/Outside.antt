-- What a run meets outside, at one moment, and what it did there between two.
use Rattle.std.specs.Prelude.{◌≡◌, ◌⊎◌, ◌++◌, ℕ, List, [], Option}
use Rattle.std.specs.Io.KnownBytes.{Appends}
use Rattle.fsm_io.specs.Causes.{Rose}
use Rattle.fsm_io.specs.Folders.{Files}

-- the folder's files, the input's bytes that are left and the output's that are held, where they are told, and each one's
-- count of faults
pub record Outside : Type 0 where
  pub files : Option Files
  pub folder_faults : ℕ
  pub input : Option (List ℕ)
  pub input_faults : ℕ
  pub output : Option (List ℕ)
  pub output_faults : ℕ

abbrev pub outside : Option Files → ℕ → Option (List ℕ) → ℕ → Option (List ℕ) → ℕ → Outside
outside files folder_faults input input_faults output output_faults = record {
  files = files;
  folder_faults = folder_faults;
  input = input;
  input_faults = input_faults;
  output = output;
  output_faults = output_faults;
}

abbrev pub ReadNothing : Outside → Outside → Type 0
ReadNothing before after = after.input ≡ before.input

abbrev pub WroteNothing : Outside → Outside → Type 0
WroteNothing before after = after.output ≡ before.output

abbrev pub FolderFailed : Outside → Outside → Type 0
FolderFailed before after = Rose before.folder_faults after.folder_faults

-- its count of faults is as it was
abbrev pub FolderKept : Outside → Outside → Type 0
FolderKept before after = after.folder_faults ≡ before.folder_faults

abbrev pub InputFailed : Outside → Outside → Type 0
InputFailed before after = Rose before.input_faults after.input_faults

abbrev pub OutputFailed : Outside → Outside → Type 0
OutputFailed before after = Rose before.output_faults after.output_faults

-- the text was written and this is the status, or a front of it and the status is 4
abbrev pub IsSaid : Option (List ℕ) → Option (List ℕ) → List ℕ → ℕ → ℕ → Type 0
IsSaid held0 held text said status = (front : List ℕ) × (rest : List ℕ) × (text ≡ front ++ rest) × Appends held0 held front × (((status ≡ said) × (rest ≡ [])) ⊎ (status ≡ 4))

abbrev pub Wrote : Outside → Outside → List ℕ → ℕ → ℕ → Type 0
Wrote before after text said status = IsSaid before.output after.output text said status
