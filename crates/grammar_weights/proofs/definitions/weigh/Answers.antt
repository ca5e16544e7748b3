use Rattle.std.proofs.Common.{map, subst, sym, take, arith}
use Rattle.std.specs.Prelude.{reverse}
use Rattle.grammar_pairs.specs.Plain.{definition_of}
use Rattle.grammar_weights.specs.Weighed.{IsWeighed}
use Rattle.grammar_weights.proofs.Weighing.{definitions_more, none_above}
use Rattle.grammar_weights.proofs.definitions.weigh.Goals as goal

pub definitions-init : goal.definitions-init
definitions-init c = none_above (record { places = c.new.result; forms = c.new-2.result }) c.new.ensures

pub definitions-preserved : goal.definitions-preserved
definitions-preserved c =
    subst (λ above. IsWeighed c.add_definition.new.weighed above) (sym (definitions_more c.args.definitions.now c.definitions.definition-index c.definition-item.result (omega arith) c.definition-item.is))
    (c.in_ok-add_definition.ensures (reverse (map definition_of (take c.definitions.definition-index c.args.definitions.now))) c.definitions.invariant)
