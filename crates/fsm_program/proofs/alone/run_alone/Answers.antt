use Rattle.fsm_program.proofs.Outcomes.{att, check, compare, completes, completes_saved, declined_cause, fault_cause, gloss, help, look, look_saved, make, pair, refusal, spent_cause, unsaid, usage_cause}
use Rattle.fsm_program.proofs.alone.run_alone.Goals as goal

pub returns-clause-usage : goal.returns-clause-usage
returns-clause-usage g c = usage_cause c.ended.ensures.ends

pub returns-clause-no_words : goal.returns-clause-no_words
returns-clause-no_words g c = unsaid c.ended.ensures.ends

pub returns-clause-helped : goal.returns-clause-helped
returns-clause-helped g c = help c.ended.ensures.ends

pub returns-clause-fault : goal.returns-clause-fault
returns-clause-fault g c = fault_cause c.ended.ensures.ends

pub returns-clause-refused : goal.returns-clause-refused
returns-clause-refused g c = refusal c.ended.ensures.ends

pub returns-clause-checked : goal.returns-clause-checked
returns-clause-checked g c = check c.ended.ensures.ends

pub returns-clause-answered : goal.returns-clause-answered
returns-clause-answered g c = look c.ended.ensures.ends

pub returns-clause-glossed : goal.returns-clause-glossed
returns-clause-glossed g c = gloss c.ended.ensures.ends

pub returns-clause-att : goal.returns-clause-att
returns-clause-att g c = att c.ended.ensures.ends

pub returns-clause-compared : goal.returns-clause-compared
returns-clause-compared g c = compare c.ended.ensures.ends

pub returns-clause-paired : goal.returns-clause-paired
returns-clause-paired g c = pair c.ended.ensures.ends

pub returns-clause-saved : goal.returns-clause-saved
returns-clause-saved g c = look_saved c.ended.ensures.ends

pub returns-clause-declined : goal.returns-clause-declined
returns-clause-declined g c = declined_cause c.ended.ensures.ends

pub returns-clause-generated : goal.returns-clause-generated
returns-clause-generated g c = make c.ended.ensures.ends

pub returns-clause-complete : goal.returns-clause-complete
returns-clause-complete g c = completes c.ended.ensures.ends c.ended.ensures.read c.ended.ensures.write

pub returns-clause-complete_saved : goal.returns-clause-complete_saved
returns-clause-complete_saved g c = completes_saved c.ended.ensures.ends c.ended.ensures.read c.ended.ensures.write

pub returns-clause-spent : goal.returns-clause-spent
returns-clause-spent g c = spent_cause c.ended.ensures.ends
