use Rattle.std.proofs.Common.{Option, inl, inr, refl, subst, sym}
use Rattle.reply_meaning.specs.Transcripts.{first_version}
use Rattle.fsm_program.specs.Beside.{EndsBeside, alone}
use Rattle.fsm_program.specs.Ends.{Asked, AskedFor, for_serve}
use Rattle.fsm_program.specs.Outside.{outside}
use Rattle.fsm_program.proofs.program.ended.Goals as goal

pub returns-then-is_serve-clause-ends : goal.returns-then-is_serve-clause-ends
returns-then-is_serve-clause-ends g c =
    subst (λ (asked : Option Asked). EndsBeside first_version asked (outside (g.F.Folder.files c.args.folder.now) (g.F.Folder.faults c.args.folder.now) (g.I.Source.left c.args.input.now) (g.I.Source.faults c.args.input.now) (g.O.Sink.held c.args.output.now) (g.O.Sink.faults c.args.output.now))
    (outside (g.F.Folder.files c.serve.new.folder) (g.F.Folder.faults c.serve.new.folder) (g.I.Source.left c.serve.new.input) (g.I.Source.faults c.serve.new.input) (g.O.Sink.held c.serve.new.output) (g.O.Sink.faults c.serve.new.output)) c.args.lanes.now c.serve.new.lanes c.serve.result)
    (sym (c.is_serve.ensures.0 c.if-is_serve.true)) c.serve.ensures.ends

pub returns-then-is_serve-clause-unasked : goal.returns-then-is_serve-clause-unasked
returns-then-is_serve-clause-unasked g c none = absurd (none for_serve (c.is_serve.ensures.0 c.if-is_serve.true) tt)

pub returns-then-is_serve-clause-lines_read : goal.returns-then-is_serve-clause-lines_read
returns-then-is_serve-clause-lines_read g c none = absurd (none for_serve (c.is_serve.ensures.0 c.if-is_serve.true) tt)

pub returns-then-is_serve-clause-unread_declined : goal.returns-then-is_serve-clause-unread_declined
returns-then-is_serve-clause-unread_declined g c seven = absurd (c.serve.ensures.status seven)

pub returns-then-is_serve-clause-asked : goal.returns-then-is_serve-clause-asked
returns-then-is_serve-clause-asked g c =
    subst (λ (asked : Option Asked). AskedFor asked (g.F.Folder.files c.args.folder.now) (g.F.Folder.asked c.args.folder.now) (g.F.Folder.asked c.serve.new.folder)) (sym (c.is_serve.ensures.0 c.if-is_serve.true)) c.serve.ensures.asked

pub returns-else-is_serve-clause-ends : goal.returns-else-is_serve-clause-ends
returns-else-is_serve-clause-ends g c = alone c.run_alone.ensures.ends refl

pub returns-else-is_serve-clause-read : goal.returns-else-is_serve-clause-read
returns-else-is_serve-clause-read g c three = elim (c.run_alone.ensures.read three) [ inl rose ↦ inl rose | inr rose ↦ inr (inl rose) ]
