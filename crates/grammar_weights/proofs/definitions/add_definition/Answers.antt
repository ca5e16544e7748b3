use Rattle.std.proofs.Common.{◌≡◌, length, arith}
use Rattle.std.proofs.lemmas.Result.{on_ok_weaker}
use Rattle.grammar_pairs.specs.Plain.{definition_of}
use Rattle.grammar_weights.proofs.Weighing.{one_below}
use Rattle.grammar_weights.proofs.definitions.add_definition.Goals as goal

pub returns : goal.returns
returns c =
    let old = c.args.weighed.now in
    let place : c.in-Ok.place ≡ length old.forms.items = omega (arith, c.in-Ok.ensures, c.len.ensures, old.forms.ok.0) in
    on_ok_weaker c.put.result
    (λ put above is.
    one_below old (record { places = c.put.new.self; forms = c.push.new.self }) above is (definition_of c.args.definition.now) c.in_ok-weight.weight (c.in_ok-weight.ensures above is)
    (rw c.leaf.ensures at c.in_ok-push.ensures.items) (rw place at put))
    (rw c.as_str.ensures at c.put.ensures)
