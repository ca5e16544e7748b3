use Rattle.std.proofs.Common.{◌≡◌, ◌<◌, ◌∙◌, List, ap, arith, false, length, subst, sym}
use Rattle.std.proofs.lemmas.Option.{slice_get-get_or}
use Rattle.expr_kinds.specs.declared.form.Form.{Form}
use Rattle.expr_kinds.specs.declared.form.Kind.TheVariants.{Language}
use Rattle.name_order.specs.Orders.{IsOrder}
use Rattle.project_definitions.specs.Referring.{references_of}
use Rattle.project_store.specs.Loaded.{LoadedView}
use Rattle.project_store.proofs.KindsOfNames.{form_kind}
use Rattle.project_store.proofs.project.Project.kind_at.Goals as goal

pub returns-clause-kind : goal.returns-clause-kind
returns-clause-kind c said name from at =
    let loaded = c.args.self.now in
    let none : Form = record { kind = Language; fits = false; weight = 0; built = false } in
    let same : c.forms.result.now ≡ loaded.forms = c.forms.ensures.forms ∙ ap (λ (v : LoadedView). v.forms) c.self.view_is in
    let ordered = subst (λ (v : LoadedView). IsOrder (references_of v.definitions) c.order.result.now) c.self.view_is c.order.ensures in
    let count = from.plan.forms.count in
    let within : c.args.place < length c.forms.result.now = subst (λ (fs : List Form). c.args.place < length fs) (sym same) (omega (arith, c.requires, count)) in
    form_kind said loaded from c.order.result.now ordered c.forms.result.now same c.args.place name at _ (slice_get-get_or c.forms.result.now c.args.place none within)
