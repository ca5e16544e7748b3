use Rattle.project_definitions.specs.Plain.{body_of}
use Rattle.project_definitions.proofs.Steps.{meets_as}
use Rattle.project_definitions.proofs.demands.meets.Goals as goal

pub returns : goal.returns
returns c =
    meets_as c.args.forms.now (body_of c.args.body.now) c.args.demand c.in_ok-form.form c.does_meet.result c.in_ok-form.ensures.fits c.in_ok-form.ensures.weight c.does_meet.ensures
