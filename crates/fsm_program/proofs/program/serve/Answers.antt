use Rattle.std.proofs.Common.{◌⊎◌, ap, arith, inl, inr, refl}
use Rattle.fsm_io.specs.Causes.{Rose}
use Rattle.reply_meaning.specs.Transcripts.{first_version}
use Rattle.fsm_program.specs.Beside.{LaneReadFailed, LaneWriteFailed, OfSomeLane, alone}
use Rattle.fsm_program.specs.Ends.{for_serve}
use Rattle.fsm_program.proofs.Beside.{ends_served, served_read, served_write}
use Rattle.fsm_program.proofs.Endings.{ends_unloaded, most_read_is}
use Rattle.fsm_program.proofs.program.serve.Goals as goal

pub load_version-requires : goal.load_version-requires
load_version-requires g c = most_read_is

pub returns-in-Ok-clause-ends : goal.returns-in-Ok-clause-ends
returns-in-Ok-clause-ends g c =
    let loads = c.in-Ok.ensures.loaded in
    ends_served first_version _ _ _ _ c.served.result loads.0 loads.2 c.in-Ok.ensures.whole c.load_version.ensures.later
    (λ is. let none = c.served.ensures.none is in (ap (λ i. g.I.Source.left i) none.0, ap (λ o. g.O.Sink.held o) none.1, none.2)) (c.served.ensures.served loads.0 loads.1)

pub returns-in-Ok-clause-read : goal.returns-in-Ok-clause-read
returns-in-Ok-clause-read g c three =
    let loads = c.in-Ok.ensures.loaded in
    elim (c.served.ensures.served loads.0 loads.1) as (λ _. Rose (g.F.Folder.faults c.args.folder.now) (g.F.Folder.faults c.load_version.new.folder) ⊎ Rose (g.I.Source.faults c.args.input.now) (g.I.Source.faults c.served.new.input) ⊎ OfSomeLane LaneReadFailed c.args.lanes.now c.served.new.lanes) [
      | inl (ending, endings, s, live, causes) ↦ inr (served_read ending endings live causes c.served.result s three)
      | inr five ↦ absurd (omega (arith, three, five))
    ]

pub returns-in-Ok-clause-write : goal.returns-in-Ok-clause-write
returns-in-Ok-clause-write g c four =
    let loads = c.in-Ok.ensures.loaded in
    elim (c.served.ensures.served loads.0 loads.1) as (λ _. Rose (g.O.Sink.faults c.args.output.now) (g.O.Sink.faults c.served.new.output) ⊎ OfSomeLane LaneWriteFailed c.args.lanes.now c.served.new.lanes) [
      | inl (ending, endings, s, live, causes) ↦ served_write ending endings live causes c.served.result s four
      | inr five ↦ absurd (omega (arith, four, five))
    ]

pub returns-in-Err-clause-ends : goal.returns-in-Err-clause-ends
returns-in-Err-clause-ends g c = alone (ends_unloaded first_version for_serve tt _ _ _ c.in-Err.error c.in-Err.ensures.error c.load_version.ensures.later refl c.not_loaded.ensures.ends) refl
