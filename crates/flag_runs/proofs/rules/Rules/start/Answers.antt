use Rattle.std.proofs.Common.{◌≡◌, ◌↔◌, List, rules, subst}
use Rattle.std.specs.Prelude.{replicate}
use Rattle.fsm_base.specs.declared.letters.Sym.{Sym}
use Rattle.flag_diacritics.specs.Numbers.{Features}
use Rattle.flag_diacritics.specs.declared.setting.Setting.TheVariants.{Neutral}
use Rattle.fst_flagged.specs.Conditions.{Hold}
use Rattle.flag_runs.specs.Runs.{Passes, RulesView}
use Rattle.flag_runs.proofs.Holding.{start_is}
use Rattle.flag_runs.proofs.rules.Rules.start.Goals as goal

pub returns : goal.returns
returns c =
    let inside = c.self.inside in
    let upper : c.in_ok-vec.field-0.items ≡ replicate inside.features Neutral = search rules in
    let lower : c.in_ok-vec-2.field-0.items ≡ replicate inside.features Neutral = search rules in
    let values : Features = record { upper = c.in_ok-vec.field-0.items; lower = c.in_ok-vec-2.field-0.items } in
    let view : RulesView = record { conditions = inside.conditions.items; actions = inside.actions.items } in
    subst (λ (r : RulesView). (word : List Sym) → Passes r values word ↔ Hold r.conditions word) c.self.view_is
    (start_is view inside.flags.items inside.features values c.self.invariant (λ i. record { upper = upper i; lower = lower i }))
