-- What is read of a manifest: its lines, or its first fault.
use Rattle.std.specs.Prelude.{◌≢◌, ⊤, ℕ, List, All, Contains, IsTrue}
use Rattle.fsm_base.specs.Symbols.{IsSymbol}
use Rattle.word_relations.specs.Words.{IsDistinct}
use Rattle.regex_ast.specs.declared.fault.ReadError.{ReadError}
use Rattle.regex_ast.specs.declared.fault.ReadError.TheVariants.{Fault, Memory}
use Rattle.regex_reader.specs.Files.{FaultAt}
use Rattle.project_manifest.specs.Lines.{LineFault, ManifestFault, Placed, fault_at, files_in, is_gloss, line_rows, symbols_of}
use Rattle.project_manifest.specs.Manifests.{Saying, project_name}
use Rattle.project_manifest.specs.Rows.{First, HaveNone}

-- no file is named twice, and none is the manifest; each symbol has a text
pub record IsManifest (lines : List Placed) : Type 0 where
  pub distinct : IsDistinct (files_in lines)
  pub others : All (λ file. file ≢ project_name) (files_in lines)
  pub symbols : All IsSymbol (symbols_of lines)

-- one of the lines names the table of glosses
abbrev pub HaveGlosses : List Placed → Type 0
HaveGlosses lines = (l : Placed) × Contains lines l × IsTrue (is_gloss l.said)

-- a line behind others has none of the faults of a line
abbrev pub IsFaultless : List Placed → Saying → Type 0
IsFaultless before s = HaveNone (LineFault before s) line_rows

-- the first of them that it has, or want of memory
abbrev pub IsLineError : List Placed → Saying → ReadError → Type 0
IsLineError before s (Fault line why) = First (LineFault before s) line_rows (fault_at line why)
IsLineError before s (Memory refused) = ⊤

-- a text has none of them
abbrev pub HasNoFault : List ℕ → Type 0
HasNoFault text = (found : FaultAt) → ManifestFault line_rows text found → ⊥

-- the first one of a text, or want of memory
abbrev pub IsManifestError : List ℕ → ReadError → Type 0
IsManifestError text (Fault line why) = ManifestFault line_rows text (fault_at line why)
IsManifestError text (Memory refused) = ⊤
