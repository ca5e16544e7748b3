use Rattle.std.proofs.Common.{zero, suc, List, [], ◌∷◌, Contains, arith}
use Rattle.word_relations.specs.Words.{IsOver}
use Rattle.fsm_base.specs.Alphabet.{symbols_of}
use Rattle.fsm_base.specs.declared.letters.Sym.{Sym}
use Rattle.morph_c.proofs.replies.texts_of.Goals as goal

over_one : (letters : List Sym) (symbol : Sym) → Contains letters symbol → IsOver letters (symbol ∷ [])
over_one letters symbol has zero d less = has
over_one letters symbol has (suc k) d less = absurd (omega (arith, less))

pub text-requires : goal.text-requires
text-requires c = over_one (symbols_of c.args.alphabet.now) _ (c.requires c.symbols.symbol-index (record { 0 = 0 }) c.symbols-test.true)
