use Rattle.std.proofs.Common.{ℕ, List, subst}
use Rattle.edit_script.specs.Commands.{HasKind}
use Rattle.edit_script.specs.declared.commands.CommandKind.{CommandKind}
use Rattle.editor_session.proofs.Requests.{followed_look_up, no_word}
use Rattle.editor_session.proofs.request.unkept.Goals as goal

pub returns-in-Some-LookUp-clause-followed : goal.returns-in-Some-LookUp-clause-followed
returns-in-Some-LookUp-clause-followed g c left0 budget heard h =
    followed_look_up left0 _ budget _ heard _ h
    (subst (λ (k : CommandKind). HasKind c.args.lines.now.text k) c.in-Some-LookUp.field-0-is (subst (λ (l : List ℕ). HasKind l c.in-Some-LookUp.field-0) c.text.ensures c.in-Some-LookUp.ensures))

pub unreachable-requires : goal.unreachable-requires
unreachable-requires g c =
    no_word c.args.lines.now.text c.requires.texts
    (subst (λ (k : CommandKind). HasKind c.args.lines.now.text k) c.in-Some-Word.field-0-is (subst (λ (l : List ℕ). HasKind l c.in-Some-Word.field-0) c.text.ensures c.in-Some-Word.ensures))
