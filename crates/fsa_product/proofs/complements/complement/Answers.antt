use Rattle.std.proofs.Common.{ap, ◌∙◌, map, not, length}
use Rattle.std.proofs.lemmas.List.{length-map}
use Rattle.fsa_product.proofs.Turned.{complement_language}
use Rattle.fsa_product.proofs.complements.complement.Goals as goal

pub returns-clause-states : goal.returns-clause-states
returns-clause-states g c =
    ap length (ap (λ d. d.finals) c.of.ensures ∙ c.in_ok-finals.ensures ∙ ap (map not) c.finals.ensures.finals) ∙ length-map c.args.a.now.finals not

pub returns-clause-language : goal.returns-clause-language
returns-clause-language g c =
    complement_language c.args.a.now c.letters.ensures.complete c.of.result
    (ap (λ d. d.letters) c.of.ensures ∙ c.in_ok-letters.ensures.items ∙ c.letters.ensures.letters)
    (ap (λ d. d.next) c.of.ensures ∙ c.in_ok-next.ensures.items ∙ c.table.ensures.table)
    (ap (λ d. d.finals) c.of.ensures ∙ c.in_ok-finals.ensures ∙ ap (map not) c.finals.ensures.finals)
