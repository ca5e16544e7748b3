use Rattle.std.proofs.Common.{ℕ, List, ap, refl, subst, sym}
use Rattle.project_store.specs.Loaded.{IsLoadedFrom, LoadedView}
use Rattle.named_networks.specs.Comparisons.{compared, refused}
use Rattle.named_networks.specs.Named.{ArePlaces, IsNamed}
use Rattle.named_networks.specs.Responses.{refusal}
use Rattle.named_networks.specs.declared.comparing.Named.{Named}
use Rattle.named_networks.proofs.comparing.compared.Goals as goal

pub returns-in-Refused : goal.returns-in-Refused
returns-in-Refused c said from =
    let here = subst (λ (l : LoadedView). IsLoadedFrom said l) (sym c.into_parts-project.ensures.project) from in
    let (why, reason, is) = subst (λ (n : Named). IsNamed said c.args.version c.args.first.now c.args.second.now n) c.in-Refused.is (c.in_ok-line.ensures.named said here) in
    refused why reason (ap (λ (b : List ℕ). refusal b) is)

pub told_of-requires-clause-first : goal.told_of-requires-clause-first
told_of-requires-clause-first c = let places = subst (λ (n : Named). ArePlaces c.into_parts-project.result.0 n) c.in-Languages.is c.in_ok-line.ensures.places in places.0.within

pub told_of-requires-clause-second : goal.told_of-requires-clause-second
told_of-requires-clause-second c = let places = subst (λ (n : Named). ArePlaces c.into_parts-project.result.0 n) c.in-Languages.is c.in_ok-line.ensures.places in places.1.within

pub told_of-requires-clause-one : goal.told_of-requires-clause-one
told_of-requires-clause-one c = let places = subst (λ (n : Named). ArePlaces c.into_parts-project.result.0 n) c.in-Languages.is c.in_ok-line.ensures.places in places.0.kind

pub told_of-requires-clause-other : goal.told_of-requires-clause-other
told_of-requires-clause-other c = let places = subst (λ (n : Named). ArePlaces c.into_parts-project.result.0 n) c.in-Languages.is c.in_ok-line.ensures.places in places.1.kind

pub returns : goal.returns
returns c said from =
    let here = subst (λ (l : LoadedView). IsLoadedFrom said l) (sym c.into_parts-project.ensures.project) from in
    let (one, other) = subst (λ (n : Named). IsNamed said c.args.version c.args.first.now c.args.second.now n) c.in-Languages.is (c.in_ok-line.ensures.named said here) in
    compared c.in_ok-line-in-Languages.line.items one.0 other.0 (c.in_ok-line-in-Languages.ensures said c.args.first.now c.args.second.now here one.1 other.1) refl
