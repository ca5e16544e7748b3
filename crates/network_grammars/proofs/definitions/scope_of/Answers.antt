use Rattle.std.proofs.Common.{arith, refl}
use Rattle.network_grammars.proofs.Defined.{built_more, definition_form, scope_more}
use Rattle.network_grammars.proofs.definitions.scope_of.Goals as goal

pub words_of-requires-clause-form : goal.words_of-requires-clause-form
words_of-requires-clause-form c =
    definition_form c.deref-definition-items.result.now (rw c.deref-definition-items.ensures.value c.requires) c.definitions.definition-index c.definition-item.result (omega arith) c.definition-item.is

pub definitions-preserved : goal.definitions-preserved
definitions-preserved c =
    let old = c.definitions.scope in
    let new = c.put.new.self in
    let name = c.definition-item.result.name in
    let words = c.in_ok-words.words in
    let put = rw c.as_str.ensures at c.in_ok-put.ensures in
    record {
      scope = scope_more old new name words put c.definitions.invariant.scope c.in_ok-words.ensures.letters;
      built = built_more old new name words put c.args.grammar.now c.deref-definition-items.result.now c.definitions.definition-index c.definition-item.result (omega arith) c.definition-item.is refl c.in_ok-words.ensures.words c.definitions.invariant.built;
    }
