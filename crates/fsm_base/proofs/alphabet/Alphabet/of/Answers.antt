use Rattle.std.proofs.Common.{List, subst}
use Rattle.fsm_base.specs.Lone.{AreLone}
use Rattle.fsm_base.specs.declared.longest.Entry.{Entry}
use Rattle.fsm_base.proofs.AlphabetLemmas.{IsAlphabet-listed, IsKept-listed}
use Rattle.fsm_base.proofs.alphabet.Alphabet.of.Goals as goal

pub invariant_of-result : goal.invariant_of-result
invariant_of-result c =
    let lone = subst (λ (es : List Entry). AreLone es c.in_ok-lone.lone.items) c.deref.ensures.value c.in_ok-lone.ensures in
    rw (c.in_ok-symbols.ensures.items, c.in_ok-texts.ensures.texts)
    (IsKept-listed c.args.table.now c.args.syms.now _ _ c.in_ok-texts.ensures.formed c.requires.distinct c.requires.held c.in_ok-sorted.ensures.same c.in_ok-sorted.ensures.sorted lone)

pub returns-clause-formed : goal.returns-clause-formed
returns-clause-formed c =
    rw (c.in_ok-symbols.ensures.items, c.in_ok-texts.ensures.texts)
    (IsAlphabet-listed c.args.table.now c.args.syms.now c.in_ok-texts.ensures.formed c.requires.distinct c.requires.held)
