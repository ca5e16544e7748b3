use Rattle.std.proofs.Common.{inl}
use Rattle.project_definitions.specs.Plain.{body_of}
use Rattle.network_build.proofs.Sounds.{AreOwn, body_free, ground_over_own, network_made, own_within, ready_over_own}
use Rattle.network_build.proofs.body.over_own_symbols.Goals as goal

pub network_of_ready-requires-clause-ground : goal.network_of_ready-requires-clause-ground
network_of_ready-requires-clause-ground c =
    rw c.deref.ensures.value (ground_over_own c.args.parts.now c.args.alphabet.now c.in_ok-own.own.items (body_of c.args.body.now) c.in_ok-own.ensures.same c.in_ok-own.ensures.distinct c.requires.ground)

pub network_of_ready-requires-clause-ready : goal.network_of_ready-requires-clause-ready
network_of_ready-requires-clause-ready c =
    rw c.deref.ensures.value (ready_over_own c.args.parts.now c.args.alphabet.now c.in_ok-own.own.items (body_of c.args.body.now) c.in_ok-own.ensures.same c.requires.free c.requires.formed c.requires.fits c.requires.built)

pub returns : goal.returns
returns c =
    let body = body_of c.args.body.now in
    let parts = c.args.parts.now in
    let alphabet = c.args.alphabet.now in
    let mine : AreOwn c.deref.result.now body parts = rw c.deref.ensures.value c.in_ok-own.ensures.same in
    network_made parts alphabet c.deref.result.now body c.network_of_ready.result (own_within parts alphabet c.deref.result.now body mine c.requires.ground c.requires.built) (λ s at. inl ((mine s).0 at))
    (body_free parts c.deref.result.now alphabet body c.requires.free) c.network_of_ready.ensures
