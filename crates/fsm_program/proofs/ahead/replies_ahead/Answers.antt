use denote.Param.Send.{sendable}
use Rattle.std.proofs.Common.{IfSome, ap, subst, ◌∙◌}
use Rattle.std.proofs.Crossing.{crosses}
use Rattle.rayon.proofs.ListFacts.{IfOk-then}
use Rattle.fsm_program.specs.Foreseen.{IsForeseen}
use Rattle.fsm_program.specs.declared.look_up.LookUp.{LookUp}
use Rattle.fsm_program.proofs.Crossing.{look_up_sync}
use Rattle.fsm_program.proofs.Taken.{zipped}
use Rattle.fsm_program.proofs.ahead.replies_ahead.Goals as goal

pub map-requires-send-F : goal.map-requires-send-F
map-requires-send-F g c κs o = let shared = look_up_sync in search (sendable, crosses) depth 20

pub map-requires-sync-F : goal.map-requires-sync-F
map-requires-sync-F g c κs o = let shared = look_up_sync in search (sendable, crosses) depth 20

pub with_min_len-requires-send-Self : goal.with_min_len-requires-send-Self
with_min_len-requires-send-Self g c κs o = let shared = look_up_sync in search (sendable, crosses) depth 20

pub collect-requires-send-Self : goal.collect-requires-send-Self
collect-requires-send-Self g c κs o = let shared = look_up_sync in search (sendable, crosses) depth 20

pub returns : goal.returns
returns g c =
    let same = ap (λ it. it.f.0.now) c.with_min_len.ensures.base ∙ ap (λ f. f.0.now) c.map.ensures.f in
    IfOk-then c.collect.result _ _ c.collect.ensures (λ v h.
    rw h.2 (zipped _ (λ one. IfSome one (IsForeseen c.args.look_up.now)) (λ x y is. subst (λ (l : LookUp). IfSome y (IsForeseen l)) same is) _ _ h.1.2))
