use Rattle.std.proofs.Common.{sym, subst}
use Rattle.fsm_base.specs.Alphabet.{symbols_of}
use Rattle.network_algebra.specs.Networks.{IsNetwork}
use Rattle.project_sources.specs.Sources.{project_in}
use Rattle.project_store.specs.Building.{IsBuiltAt}
use Rattle.generated_report.specs.Told.{FindsUpper}
use Rattle.generated_report.proofs.Nets.{empty_over, finds_defined, finds_nothing}
use Rattle.generated_report.proofs.networks.net_of.Goals as goal
use Rattle.generated_report.proofs.networks.net_of.Goals.{in-Some+in_ok-network-in-Some, in-None+in_ok-new-in-None}

pub returns-clause-over : goal.returns-clause-over
returns-clause-over c =
    let alphabet = c.args.project.now.alphabet in
    c.in_ok-compiled.ensures.alphabet alphabet
    (elim c.match-find.branch as (λ _. IsNetwork (symbols_of alphabet) c.match-find.network) [
      | in-Some+in_ok-network-in-Some w ↦ subst (IsNetwork (symbols_of alphabet)) (sym w.network-is) w.in_ok-network-in-Some.ensures.over
      | in-None+in_ok-new-in-None w ↦ subst (IsNetwork (symbols_of alphabet)) (sym w.network-is) (empty_over (symbols_of alphabet) w.in_ok-new-in-None.field-0 w.in_ok-new-in-None.ensures)
    ])

pub returns-clause-finds : goal.returns-clause-finds
returns-clause-finds c said from =
    let project = c.args.project.now in
    let name = c.args.name.now in
    let network = c.match-find.network in
    let net = c.in_ok-compiled.compiled.net in
    let same = c.in_ok-compiled.ensures.relation in
    elim c.match-find.branch as (λ _. FindsUpper project.alphabet net (project_in said) name) [
      | in-Some+in_ok-network-in-Some w ↦
          (let (d, at, named) = w.in-Some.ensures in
          let built = subst (IsBuiltAt project w.in-Some.place) (sym w.network-is) w.in_ok-network-in-Some.ensures in
          finds_defined said project from name network net same w.in-Some.place d at named built (c.in_ok-compiled.ensures.alphabet project.alphabet built.over))
      | in-None+in_ok-new-in-None w ↦ finds_nothing said project from name network net same w.in-None.ensures w.in_ok-new-in-None.field-0 w.network-is w.in_ok-new-in-None.ensures
    ]
