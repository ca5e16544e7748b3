use Rattle.std.proofs.Common.{sym, ◌∙◌}
use Rattle.lexc_forms.proofs.Sides.{alike, apart, second}
use Rattle.lexc_forms.proofs.forms.split_sides.Goals as goal

pub returns-in_default : goal.returns-in_default
returns-in_default c = alike c.args.letters.now c.in_default.ensures.first

pub returns-then-has_colon : goal.returns-then-has_colon
returns-then-has_colon c =
    second c.args.letters.now c.split_at.result.0.now c.split_at.result.1.now c.split_at-2.result.1.now c.in-Some.place c.in-Some.ensures.first c.split_at.ensures.front c.split_at.ensures.back c.split_at-2.ensures.back (sym c.has_colon.ensures ∙ c.if-has_colon.true)

pub returns : goal.returns
returns c =
    apart c.args.letters.now c.split_at.result.0.now c.split_at.result.1.now c.split_at-2.result.1.now c.in-Some.place c.in-Some.ensures.first c.split_at.ensures.front c.split_at.ensures.back c.split_at-2.ensures.back (sym c.has_colon.ensures ∙ c.if-has_colon.false)
