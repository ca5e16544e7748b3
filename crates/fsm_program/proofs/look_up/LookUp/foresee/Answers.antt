use Rattle.std.proofs.Common.{List, ℕ, length, ap, subst, ◌∙◌, arith}
use Rattle.std.specs.Str.{IsUtf8}
use Rattle.std.proofs.lemmas.Str.{is_utf8-from_IsUtf8}
use Rattle.fsm_base.specs.Normal.{nfc_of}
use Rattle.fsm_program.specs.Tasks.{RepliesToTextIn}
use Rattle.fsm_program.proofs.Taken.{made}
use Rattle.fsm_program.proofs.LastByte.{length-without_last}
use Rattle.fsm_program.proofs.Tasks.{in_text}
use Rattle.fsm_program.proofs.look_up.LookUp.foresee.Goals as goal

pub reply_to_text-requires : goal.reply_to_text-requires
reply_to_text-requires c =
    omega (arith, c.if-line-gt-MOST_LINE.false, ap length (c.in-Ok.ensures.cases.0 ∙ c.without_return.ensures), length-without_last 13 c.args.line.now)

pub returns-in-Ok-reply_to_text : goal.returns-in-Ok-reply_to_text
returns-in-Ok-reply_to_text c =
    let bytes = c.in-Ok-reply_to_text.reply.items in
    let is_word = is_utf8-from_IsUtf8 _ (subst IsUtf8 c.without_return.ensures c.in-Ok.ensures.cases.1) in
    let self = c.args.self.now in
    let replies = subst (λ (w : List ℕ). RepliesToTextIn self.subject self.version (nfc_of w) bytes) (c.in-Ok.ensures.cases.0 ∙ c.without_return.ensures) c.in-Ok-reply_to_text.ensures in
    made self c.args.line.now bytes c.of.result (in_text self.subject self.version c.args.line.now bytes is_word replies) c.of.ensures
