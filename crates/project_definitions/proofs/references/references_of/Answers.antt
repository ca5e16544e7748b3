use Rattle.std.proofs.Common.{◌≡◌, ◌+◌, ◌<◌, ◌++◌, [], ◌∷◌, List, ℕ, length, map, get_or, take, sym, ap, ◌∙◌, arith}
use Rattle.std.specs.Prelude.{Vec}
use Rattle.std.specs.Global.{Global}
use Rattle.std.proofs.lemmas.List.{map-append, take_all}
use Rattle.name_order.specs.Graph.{graph_of}
use Rattle.project_definitions.specs.Plain.{body_of}
use Rattle.project_definitions.specs.Referring.{body_places}
use Rattle.project_definitions.specs.declared.definition.Definition.{Definition}
use Rattle.project_definitions.proofs.Steps.{made_more}
use Rattle.project_definitions.proofs.references.references_of.Goals as goal

abbrev items_of : Vec ℕ Global → List ℕ
items_of list = list.items

-- the list of one definition more
listed_more : (definitions : List Definition) (i : ℕ) (d : Definition) (old new : List (Vec ℕ Global)) (list : Vec ℕ Global) → i < length definitions → d ≡ get_or definitions i d
    → new ≡ old ++ list ∷ [] → list.items ≡ body_places (length definitions) (body_of d.body)
    → graph_of old ≡ map (λ d. body_places (length definitions) (body_of d.body)) (take i definitions)
    → graph_of new ≡ map (λ d. body_places (length definitions) (body_of d.body)) (take (i + 1) definitions)
listed_more definitions i d old new list below is new_is list_is so_far =
    let of : Definition → List ℕ = λ d. body_places (length definitions) (body_of d.body) in
    ap (map items_of) new_is ∙ map-append items_of old (list ∷ []) ∙ (λ j. so_far j ++ list_is j ∷ []) ∙ sym (made_more of definitions i d below is)

pub definitions-preserved : goal.definitions-preserved
definitions-preserved c =
    listed_more c.args.definitions.now c.definitions.definition-index c.definition-item.result c.definitions.references.items c.push.new.self.items c.in_ok-places_of.field-0 (omega arith) c.definition-item.is c.in_ok-push.ensures.items
    c.in_ok-places_of.ensures c.definitions.invariant

pub returns : goal.returns
returns c =
    c.definitions.invariant ∙ ap (map (λ (d : Definition). body_places (length c.args.definitions.now) (body_of d.body))) (take_all c.definitions.definition-index c.args.definitions.now (omega arith))
