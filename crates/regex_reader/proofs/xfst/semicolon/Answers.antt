use Rattle.std.proofs.Common.{length}
use Rattle.regex_reader.proofs.Placed.{semicolon_within}
use Rattle.regex_reader.proofs.xfst.semicolon.Goals as goal

pub returns-clause-within : goal.returns-clause-within
returns-clause-within c = semicolon_within (length c.iter.result.rest.now) c.position.result c.iter.ensures.bound c.position.ensures.bound
