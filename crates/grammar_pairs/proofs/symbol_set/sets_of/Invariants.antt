use Rattle.std.proofs.Common.{◌↔◌, ℕ, List, map, take}
use Rattle.fsm_base.specs.declared.letters.Sym.{Sym}
use Rattle.grammar_pairs.specs.Plain.{set_of}
use Rattle.grammar_pairs.specs.Tables.{HasSymbol, IsMember}
use Rattle.grammar_pairs.proofs.symbol_set.sets_of.Given as goal

-- the sets so far
abbrev pub invariant-sets : goal.invariant-sets
invariant-sets l = (name : List ℕ) (s : Sym) → HasSymbol l.table name s ↔ IsMember (map set_of (take l.set-index l.sets)) name s
