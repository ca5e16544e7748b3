use Rattle.std.proofs.Common.{◌∙◌}
use Rattle.lexc_forms.proofs.Marks.{unmarked_no_flag, no_flag_front, is_flag_front}
use Rattle.lexc_forms.proofs.flags.flag_front.Goals as goal

pub returns-in_default : goal.returns-in_default
returns-in_default c = unmarked_no_flag c.args.text.now c.in_default.ensures

pub returns-in-Some-2 : goal.returns-in-Some-2
returns-in-Some-2 c =
    let flag = rw c.in-Some-2.is at c.in_ok-flag.ensures in
    is_flag_front c.args.text.now c.in-Some.len c.in-Some.ensures c.split_at.result.0.now c.as_str.result.now c.split_at.ensures.front (c.as_str.ensures ∙ c.in_ok-front.ensures) c.in-Some-2.flag flag

pub returns : goal.returns
returns c =
    let none = rw c.in-None.is at c.in_ok-flag.ensures in
    no_flag_front c.args.text.now c.in-Some.len c.in-Some.ensures c.split_at.result.0.now c.as_str.result.now c.split_at.ensures.front (c.as_str.ensures ∙ c.in_ok-front.ensures) none
