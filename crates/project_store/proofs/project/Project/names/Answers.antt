use Rattle.std.proofs.Common.{map, ap, ◌∙◌, arith}
use Rattle.std.proofs.lemmas.List.{take_all}
use Rattle.project_store.proofs.Named.{names_are}
use Rattle.project_store.proofs.Shown.{said_names}
use Rattle.project_store.proofs.project.Project.names.Goals as goal

pub returns : goal.returns
returns c said from =
    let all = c.definitions.invariant ∙ ap (map (λ d. d.name)) (take_all c.definitions.definition-index c.definitions-definition-items.result.now (omega arith) ∙ c.definitions-definition-items.ensures.definitions) in
    names_are said c.args.self.now from c.definitions.names.items c.sort.new.self.items (all ∙ ap (λ v. map (λ d. d.name) v.definitions) c.self.view_is ∙ said_names said c.args.self.now from) c.in_ok-sort.ensures.permutation c.in_ok-sort.ensures.sorted
