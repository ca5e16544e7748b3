use Rattle.std.proofs.Common.{◌<◌, List, ℕ, length, refl, sym, subst, arith}
use Rattle.std.specs.Prelude.{Vec}
use Rattle.std.specs.Global.{Global}
use Rattle.std.proofs.lemmas.List.{length-map}
use Rattle.std.proofs.lemmas.Option.{slice_get_read}
use Rattle.regex_ast.specs.declared.fault.Why.TheVariants as why
use Rattle.name_order.specs.Graph.{graph_of, IsWhole}
use Rattle.name_order.specs.Orders.{IsFirstCycle, IsOrdered}
use Rattle.project_sources.specs.Faults.{fault}
use Rattle.project_definitions.specs.Plain.{body_of}
use Rattle.project_definitions.specs.Referring.{CycleFault, body_places, references_of}
use Rattle.project_definitions.specs.declared.definition.Definition.{Definition}
use Rattle.project_definitions.proofs.Steps.{refused_by}
use Rattle.project_definitions.proofs.Referring.{references_whole}
use Rattle.project_definitions.proofs.references.order_in.Goals as goal

pub order_of-requires : goal.order_of-requires
order_of-requires c =
    subst (λ (lists : List (Vec ℕ Global)). IsWhole (graph_of lists)) (sym c.deref.ensures.value) (subst IsWhole (sym c.in_ok-references.ensures) (references_whole c.args.definitions.now))

pub returns-clause-error : goal.returns-clause-error
returns-clause-error c =
    let definitions = c.args.definitions.now in
    let place = c.in-Cycle.place in
    let d = c.index-definitions-place.result in
    let found : IsFirstCycle (graph_of c.deref.result.now) place = subst (IsOrdered (graph_of c.deref.result.now)) c.in-Cycle.is c.in_ok-order.ensures in
    let first : IsFirstCycle (references_of definitions) place =
    subst (λ (g : List (List ℕ)). IsFirstCycle g place) c.in_ok-references.ensures (subst (λ (lists : List (Vec ℕ Global)). IsFirstCycle (graph_of lists) place) c.deref.ensures.value found) in
    let size = length-map definitions (λ (d : Definition). body_places (length definitions) (body_of d.body)) in
    let below : place < length definitions = omega (arith, first.within, size) in
    let at = slice_get_read definitions (length definitions) place d refl below c.index-definitions-place.is in
    refused_by (CycleFault definitions) (fault d.file d.line why.Cycle) c.refused.result (record { place = place; definition = d; first = first; at = at; is = refl }) (rw c.as_str.ensures at c.refused.ensures)
