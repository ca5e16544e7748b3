use Rattle.fsm_program.proofs.Beside.{att_beside, check_beside, compare_beside, completes_beside, completes_saved_beside, declined_beside, fault_beside, gloss_beside, help_beside, look_beside, look_saved_beside, make_beside, pair_beside, refusal_beside, serve_beside, spent_beside, unreached_beside, unsaid_beside, unserved_beside, usage_beside}
use Rattle.fsm_program.proofs.program.run.Goals as goal

pub returns-clause-usage : goal.returns-clause-usage
returns-clause-usage g c = usage_beside c.ended.ensures.ends

pub returns-clause-no_words : goal.returns-clause-no_words
returns-clause-no_words g c = unsaid_beside c.ended.ensures.ends

pub returns-clause-helped : goal.returns-clause-helped
returns-clause-helped g c = help_beside c.ended.ensures.ends

pub returns-clause-fault : goal.returns-clause-fault
returns-clause-fault g c = fault_beside c.ended.ensures.ends

pub returns-clause-refused : goal.returns-clause-refused
returns-clause-refused g c = refusal_beside c.ended.ensures.ends

pub returns-clause-checked : goal.returns-clause-checked
returns-clause-checked g c = check_beside c.ended.ensures.ends

pub returns-clause-answered : goal.returns-clause-answered
returns-clause-answered g c = look_beside c.ended.ensures.ends

pub returns-clause-glossed : goal.returns-clause-glossed
returns-clause-glossed g c = gloss_beside c.ended.ensures.ends

pub returns-clause-att : goal.returns-clause-att
returns-clause-att g c = att_beside c.ended.ensures.ends

pub returns-clause-compared : goal.returns-clause-compared
returns-clause-compared g c = compare_beside c.ended.ensures.ends

pub returns-clause-paired : goal.returns-clause-paired
returns-clause-paired g c = pair_beside c.ended.ensures.ends

pub returns-clause-saved : goal.returns-clause-saved
returns-clause-saved g c = look_saved_beside c.ended.ensures.ends

pub returns-clause-declined : goal.returns-clause-declined
returns-clause-declined g c = declined_beside c.ended.ensures.ends

pub returns-clause-generated : goal.returns-clause-generated
returns-clause-generated g c = make_beside c.ended.ensures.ends

pub returns-clause-served : goal.returns-clause-served
returns-clause-served g c = serve_beside c.ended.ensures.ends

pub returns-clause-complete : goal.returns-clause-complete
returns-clause-complete g c = completes_beside c.ended.ensures.ends c.ended.ensures.read c.ended.ensures.write

pub returns-clause-complete_saved : goal.returns-clause-complete_saved
returns-clause-complete_saved g c = completes_saved_beside c.ended.ensures.ends c.ended.ensures.read c.ended.ensures.write

pub returns-clause-spent : goal.returns-clause-spent
returns-clause-spent g c = spent_beside c.ended.ensures.ends

pub returns-clause-unserved : goal.returns-clause-unserved
returns-clause-unserved g c = unserved_beside c.ended.ensures.ends

pub returns-clause-unreached : goal.returns-clause-unreached
returns-clause-unreached g c = unreached_beside c.ended.ensures.ends
