use Rattle.std.proofs.Common.{◌≡◌, ◌++◌, Some, map, take}
use Rattle.std.specs.List.{flat_map}
use Rattle.fsm_base.specs.declared.letters.Sym.{Sym}
use Rattle.replace_words.specs.Firsts.{first_mark}
use Rattle.replace_rules.specs.Letters.{table_of, marks_with}
use Rattle.replace_rules.proofs.rows.add_symbols.Given as goal

abbrev pub invariant-loop-place : goal.invariant-loop-place
invariant-loop-place l = (first : Sym → Sym) → l.firsts ≡ map first l.symbols → l.rows.items ≡ l.initial.rows.items ++ table_of (λ m. Some (first_mark first m)) (flat_map marks_with (take l.place l.symbols))
