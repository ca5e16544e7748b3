use Rattle.std.proofs.Common.{◌≡◌, ◌∷◌, ◌++◌, map, take}
use Rattle.replace_marks.specs.declared.marks.Mark.TheVariants.{Up, Low, Open, Close}
use Rattle.replace_marks.proofs.marks.add_marks_by.Given as goal

abbrev pub invariant-loop-symbol : goal.invariant-loop-symbol
invariant-loop-symbol l = l.marks.items ≡ l.fn.marks.items ++ (Open l.map ∷ Close l.map ∷ map (Up l.map) (take l.symbol-index l.syms))

abbrev pub invariant-loop-symbol-2 : goal.invariant-loop-symbol-2
invariant-loop-symbol-2 l = l.marks.items ≡ l.fn.marks.items ++ (Open l.map ∷ Close l.map ∷ (map (Up l.map) l.syms ++ map (Low l.map) (take l.symbol-index l.syms)))
