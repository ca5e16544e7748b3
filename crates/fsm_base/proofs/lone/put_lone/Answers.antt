use Rattle.std.proofs.Common.{◌∙◌}
use Rattle.fsm_base.proofs.LoneLemmas.{put_is}
use Rattle.fsm_base.proofs.lone.put_lone.Goals as goal

pub returns-clause-put : goal.returns-clause-put
returns-clause-put c =
    put_is c.args.lone.now c.args.longer.now c.args.entry.now.text c.as_bytes-text.result.now c.from-byte.result c.args.entry.now.symbol c.requires.bytes c.requires.marks
    (c.as_bytes-text.ensures.value ∙ c.as_str.ensures) c.if-len-ne1.false c.from-byte.ensures c.if-is_longer.false
