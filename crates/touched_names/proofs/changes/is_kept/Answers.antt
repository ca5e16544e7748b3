use Rattle.std.proofs.Common.{◌≡◌, ◌↔◌, IsTrue, length, refl}
use Rattle.std.proofs.lemmas.Option.{slice_get_read}
use Rattle.body_equality.specs.Renumbered.{renumbered}
use Rattle.project_definitions.specs.Bodies.{mapped_body}
use Rattle.project_definitions.specs.Plain.{body_of}
use Rattle.touched_names.specs.Itself.{IsKept}
use Rattle.touched_names.proofs.Kept.{kept_here, kept_nowhere}
use Rattle.touched_names.proofs.Leafwise.{ok_follows}
use Rattle.touched_names.proofs.changes.is_kept.Goals as goal

pub returns-in-Some : goal.returns-in-Some
returns-in-Some c =
    let h = c.in-Some.ensures.lookup in
    let at = slice_get_read c.args.old.now (length c.args.old.now) c.args.place c.in-Some.before.now refl h.3.0 h.1 in
    ok_follows c.same_body.result (λ same. IsTrue same ↔ (body_of c.in-Some.before.now.body ≡ mapped_body (renumbered c.args.numbers.now) (body_of c.args.definition.now.body)))
    (λ kept. IsTrue kept ↔ IsKept c.args.old.now c.args.numbers.now c.args.place c.args.definition.now)
    (λ same told. kept_here c.args.old.now c.args.numbers.now c.args.place c.in-Some.before.now c.args.definition.now at same told) c.same_body.ensures

pub returns-in-None : goal.returns-in-None
returns-in-None c = let h = c.in-None.ensures.lookup in kept_nowhere c.args.old.now c.args.numbers.now c.args.place c.args.definition.now h.3
