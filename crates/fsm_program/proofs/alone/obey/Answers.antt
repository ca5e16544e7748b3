use Rattle.std.proofs.Common.{Some, ap, refl, subst, sym}
use Rattle.fsm_program.specs.Ends.{Ends, asked_by}
use Rattle.fsm_program.specs.Outside.{outside}
use Rattle.fsm_program.proofs.Endings.{ends_generated}
use Rattle.fsm_program.proofs.alone.obey.Goals as goal

pub returns-in-Check-clause-ends : goal.returns-in-Check-clause-ends
returns-in-Check-clause-ends g c =
    subst (λ command. Ends c.args.version (Some (asked_by command)) (outside (g.F.Folder.files c.args.folder.now) (g.F.Folder.faults c.args.folder.now) (g.I.Source.left c.args.input.now) (g.I.Source.faults c.args.input.now) (g.O.Sink.held c.args.output.now) (g.O.Sink.faults c.args.output.now)) (outside (g.F.Folder.files c.check.new.folder) (g.F.Folder.faults c.check.new.folder) (g.I.Source.left c.args.input.now) (g.I.Source.faults c.args.input.now) (g.O.Sink.held c.check.new.output) (g.O.Sink.faults c.check.new.output)) c.check.result) (sym c.in-Check.is)
    (c.check.ensures.ends (g.I.Source.left c.args.input.now) (g.I.Source.faults c.args.input.now))

pub returns-in-Gen-clause-ends : goal.returns-in-Gen-clause-ends
returns-in-Gen-clause-ends g c =
    subst (λ command. Ends c.args.version (Some (asked_by command)) (outside (g.F.Folder.files c.args.folder.now) (g.F.Folder.faults c.args.folder.now) (g.I.Source.left c.args.input.now) (g.I.Source.faults c.args.input.now) (g.O.Sink.held c.args.output.now) (g.O.Sink.faults c.args.output.now)) (outside (g.F.Folder.files c.args.folder.now) (g.F.Folder.faults c.args.folder.now) (g.I.Source.left c.args.input.now) (g.I.Source.faults c.args.input.now) (g.O.Sink.held c.generate.new.output) (g.O.Sink.faults c.generate.new.output)) c.generate.result) (sym c.in-Gen.is)
    (ends_generated c.args.version c.in-Gen.n _ _ c.generate.result refl refl (λ is. ap (λ o. g.O.Sink.held o) (c.generate.ensures.unwritten is)) c.generate.ensures.generated)

pub returns-in-Att-clause-ends : goal.returns-in-Att-clause-ends
returns-in-Att-clause-ends g c =
    subst (λ command. Ends c.args.version (Some (asked_by command)) (outside (g.F.Folder.files c.args.folder.now) (g.F.Folder.faults c.args.folder.now) (g.I.Source.left c.args.input.now) (g.I.Source.faults c.args.input.now) (g.O.Sink.held c.args.output.now) (g.O.Sink.faults c.args.output.now)) (outside (g.F.Folder.files c.tell.new.folder) (g.F.Folder.faults c.tell.new.folder) (g.I.Source.left c.args.input.now) (g.I.Source.faults c.args.input.now) (g.O.Sink.held c.tell.new.output) (g.O.Sink.faults c.tell.new.output)) c.tell.result) (sym c.in-Att.is)
    (c.tell.ensures.ends (g.I.Source.left c.args.input.now) (g.I.Source.faults c.args.input.now))

pub returns-in-Compare-clause-ends : goal.returns-in-Compare-clause-ends
returns-in-Compare-clause-ends g c =
    subst (λ command. Ends c.args.version (Some (asked_by command)) (outside (g.F.Folder.files c.args.folder.now) (g.F.Folder.faults c.args.folder.now) (g.I.Source.left c.args.input.now) (g.I.Source.faults c.args.input.now) (g.O.Sink.held c.args.output.now) (g.O.Sink.faults c.args.output.now)) (outside (g.F.Folder.files c.tell-in-Compare.new.folder) (g.F.Folder.faults c.tell-in-Compare.new.folder) (g.I.Source.left c.args.input.now) (g.I.Source.faults c.args.input.now) (g.O.Sink.held c.tell-in-Compare.new.output) (g.O.Sink.faults c.tell-in-Compare.new.output)) c.tell-in-Compare.result) (sym c.in-Compare.is)
    (c.tell-in-Compare.ensures.ends (g.I.Source.left c.args.input.now) (g.I.Source.faults c.args.input.now))
