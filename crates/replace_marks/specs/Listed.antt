-- The marks of one mapping, as they are listed.
use Rattle.std.specs.Prelude.{ℕ, List, ◌∷◌, ◌++◌, map}
use Rattle.fsm_base.specs.declared.letters.Sym.{Sym}
use Rattle.replace_marks.specs.declared.marks.Mark.{Mark}
use Rattle.replace_marks.specs.declared.marks.Mark.TheVariants.{Up, Low, Open, Close}

abbrev pub marks_by : List Sym → ℕ → List Mark
marks_by symbols number = Open number ∷ Close number ∷ (map (Up number) symbols ++ map (Low number) symbols)
