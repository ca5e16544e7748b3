use Rattle.std.proofs.Common.{◌≡◌, ◌↔◌, IsTrue}
use Rattle.project_definitions.specs.Plain.{body_of}
use Rattle.touched_names.specs.Bodies.{uses_symbols}
use Rattle.touched_names.specs.Itself.{IsTouchedItself}
use Rattle.touched_names.proofs.Kept.{itself_by_alphabet}
use Rattle.touched_names.proofs.Leafwise.{ok_follows}
use Rattle.touched_names.proofs.changes.is_touched_itself.Goals as goal

pub returns : goal.returns
returns c =
    let kept = c.in_ok-is_kept.ensures.0 c.if-not-branch.false in
    ok_follows c.body_uses.result (λ uses. uses ≡ uses_symbols (body_of c.args.definition.now.body))
    (λ touched. IsTrue touched ↔ IsTouchedItself c.args.old.now c.args.numbers.now (IsTrue c.args.same_symbols) c.args.place c.args.definition.now)
    (λ r is. itself_by_alphabet (uses_symbols (body_of c.args.definition.now.body)) c.args.same_symbols r kept c.if-same_symbols.false is) c.body_uses.ensures
