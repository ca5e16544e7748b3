use Rattle.std.proofs.Common.{◌∙◌}
use Rattle.att_text.proofs.Numbers.{digits_all}
use Rattle.att_text.proofs.fields.are_digits.Goals as goal

pub returns : goal.returns
returns c = c.all_digits.ensures ∙ digits_all c.args.field.now
