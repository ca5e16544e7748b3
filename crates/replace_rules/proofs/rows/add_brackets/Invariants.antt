use Rattle.std.proofs.Common.{◌≡◌, ◌++◌, Some}
use Rattle.fsm_base.specs.declared.letters.Sym.{Sym}
use Rattle.replace_words.specs.Firsts.{first_mark}
use Rattle.replace_rules.specs.Letters.{table_of, brackets}
use Rattle.replace_rules.proofs.rows.add_brackets.Given as goal

abbrev pub invariant-loop-place : goal.invariant-loop-place
invariant-loop-place l = (f : Sym → Sym) → l.rows.items ≡ l.initial.rows.items ++ table_of (λ m. Some (first_mark f m)) (brackets l.place)
