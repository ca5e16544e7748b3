-- What is asked of names and told at once.
use Rattle.fsm_program.specs.Ends.{Asked, for_att, for_compared}
use Rattle.fsm_program.specs.declared.naming.Request.{Request}
use Rattle.fsm_program.specs.declared.naming.Request.TheVariants as requests

abbrev pub asked_in : Request → Asked
asked_in (requests.Att net) = for_att net
asked_in (requests.Compared question first second) = for_compared question first second
