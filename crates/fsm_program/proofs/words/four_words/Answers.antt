use Rattle.std.proofs.Common.{ap, sym, ◌∙◌}
use Rattle.std.specs.Option.{option_map}
use Rattle.fsm_base.specs.Normal.{nfc_of}
use Rattle.fsm_program.specs.Ends.{for_compared}
use Rattle.fsm_program.proofs.Unread.{unread_named}
use Rattle.fsm_program.proofs.words.four_words.Goals as goal

pub returns-in_err-first : goal.returns-in_err-first
returns-in_err-first c =
    unread_named _ _ _ _ _ c.from_residual.ensures.1 (ap (option_map (λ question. for_compared question (nfc_of c.args.first.now) (nfc_of c.args.second.now))) (sym c.question_of.ensures ∙ c.in-Some.is)) tt

pub returns-in_err-second : goal.returns-in_err-second
returns-in_err-second c =
    unread_named _ _ _ _ _ c.from_residual-in_err-second.ensures.1 (ap (option_map (λ question. for_compared question (nfc_of c.args.first.now) (nfc_of c.args.second.now))) (sym c.question_of.ensures ∙ c.in-Some.is)) tt
