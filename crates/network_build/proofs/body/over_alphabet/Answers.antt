use Rattle.std.proofs.Common.{inr}
use Rattle.project_definitions.specs.Plain.{body_of}
use Rattle.network_build.proofs.Sounds.{network_made, ready_over_alphabet}
use Rattle.network_build.proofs.body.over_alphabet.Goals as goal

pub network_of_ready-requires-clause-ready : goal.network_of_ready-requires-clause-ready
network_of_ready-requires-clause-ready c =
    ready_over_alphabet c.args.parts.now c.args.alphabet.now (body_of c.args.body.now) c.requires.filled c.requires.formed c.requires.fits c.requires.built

pub returns : goal.returns
returns c =
    let alphabet = c.args.alphabet.now in
    network_made c.args.parts.now alphabet alphabet (body_of c.args.body.now) c.network_of_ready.result (λ s at. at) (λ s at. inr (c.requires.uses, at)) (λ R is. is) c.network_of_ready.ensures
