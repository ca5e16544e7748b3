use Rattle.std.proofs.Common.{Some, subst}
use Rattle.twolc_tokens.specs.Reading.{IsColon}
use Rattle.twolc_tokens.proofs.Colons.{cut}
use Rattle.twolc_tokens.proofs.atom.sides.Goals as goal

pub split_at-requires-2 : goal.split_at-requires-2
split_at-requires-2 c = cut c.args.atom.now c.split_at.result.1.now c.in-Some.place c.utf8.atom (subst (λ bs. IsColon bs (Some c.in-Some.place)) c.as_bytes.ensures.value c.in-Some.ensures) c.split_at.ensures.back
