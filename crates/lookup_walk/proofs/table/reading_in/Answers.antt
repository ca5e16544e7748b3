use Rattle.std.proofs.Common.{◌≡◌, List, Some, None, subst, sym, ap, ◌∙◌}
use Rattle.std.specs.List.{Contains}
use Rattle.lookup_walk.specs.declared.moves.Move.{Move}
use Rattle.lookup_walk.specs.declared.moves.Spot.{Spot}
use Rattle.lookup_walk.proofs.table.reading_in.Goals as goal

pub returns-then-state-rows : goal.returns-then-state-rows
returns-then-state-rows c = λ m.
    let row = (c.requires.rows c.args.state _ c.if-state-rows.true).reading m in (
      λ h.
          let r = (c.moves_at.ensures m).0 h in
          ((row.0 (subst (λ (part : List Move). Contains part m) c.part.ensures r.0)).0, r.1),
      λ (held, at).
          let symbol : m.at.read ≡ Some c.args.symbol = ap (λ (s : Spot). s.read) at in
          let here = row.1 (held, ap (λ (s : Spot). s.state) at, λ none. (let e : Some c.args.symbol ≡ None = sym symbol ∙ none in cc)) in
          (c.moves_at.ensures m).1 (subst (λ (part : List Move). Contains part m) (sym c.part.ensures) here, at),
    )
