use Rattle.std.proofs.Common.{IfSome, All, List, Option, subst, sym, ◌∙◌}
use Rattle.fsm_program.specs.Foreseen.{IsForeseen}
use Rattle.fsm_program.specs.declared.ahead.Foreseen.{Foreseen}
use Rattle.fsm_program.specs.declared.look_up.LookUp.{LookUp}
use Rattle.fsm_program.proofs.Taken.{behind_first}
use Rattle.fsm_program.proofs.session.Session.turns_ahead.Goals as goal

pub turns-requires : goal.turns-requires
turns-requires g c =
    let all = c.in-Ok.ensures in
    subst (λ (l : LookUp). All (λ (one : Option Foreseen). IfSome one (IsForeseen l)) c.in-Some.others.now) (sym c.in-None.ensures.same)
    (behind_first (λ (one : Option Foreseen). IfSome one (IsForeseen c.args.self.now.look_up)) c.in-Some.first.now c.in-Some.others.now (subst (λ (l : List (Option Foreseen)). All (λ (one : Option Foreseen). IfSome one (IsForeseen c.args.self.now.look_up)) l) (sym c.deref.ensures.value ∙ c.in-Some.ensures.cases.0) all))
