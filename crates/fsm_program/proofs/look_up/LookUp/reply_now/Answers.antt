use Rattle.std.proofs.Common.{List, ℕ, codes, length, refl, sym, ap, subst, ◌∙◌, arith}
use Rattle.std.specs.Str.{IsUtf8}
use Rattle.std.proofs.lemmas.Str.{IsUtf8-from_is_utf8, is_utf8-from_IsUtf8}
use Rattle.fsm_base.specs.Normal.{nfc_of}
use Rattle.reply_meaning.specs.Replies.{headed}
use Rattle.fsm_program.specs.Tasks.{RepliesToTextIn}
use Rattle.fsm_program.proofs.LastByte.{length-without_last}
use Rattle.fsm_program.proofs.Sending.{sends_as}
use Rattle.fsm_program.proofs.Tasks.{in_line, in_memory, in_text}
use Rattle.fsm_program.proofs.look_up.LookUp.reply_now.Goals as goal

pub reply_to_text-requires : goal.reply_to_text-requires
reply_to_text-requires g c =
    omega (arith, c.requires, ap length (c.in-Ok.ensures.cases.0 ∙ c.without_return.ensures), length-without_last 13 c.args.line.now)

pub returns-in-Ok-reply_to_text-clause-sends : goal.returns-in-Ok-reply_to_text-clause-sends
returns-in-Ok-reply_to_text-clause-sends g c =
    let bytes = c.in-Ok-reply_to_text.bytes.items in
    let is_word = is_utf8-from_IsUtf8 _ (subst IsUtf8 c.without_return.ensures c.in-Ok.ensures.cases.1) in
    let self = c.args.self.now in
    let replies = subst (λ (w : List ℕ). RepliesToTextIn self.subject self.version (nfc_of w) bytes) (c.in-Ok.ensures.cases.0 ∙ c.without_return.ensures) c.in-Ok-reply_to_text.ensures in
    sends_as _ bytes (in_text self.subject self.version c.args.line.now bytes is_word replies) c.deref.ensures.value c.put.ensures.bytes c.put.ensures.few

pub returns-in-Err-reply_to_text-clause-sends : goal.returns-in-Err-reply_to_text-clause-sends
returns-in-Err-reply_to_text-clause-sends g c =
    let is_word = is_utf8-from_IsUtf8 _ (subst IsUtf8 c.without_return.ensures c.in-Ok.ensures.cases.1) in
    let self = c.args.self.now in
    sends_as (headed self.version (codes "memory")) (headed self.version (codes "memory")) (in_memory self.subject self.version c.args.line.now is_word) refl c.put_short.ensures.bytes c.put_short.ensures.few

pub returns-in-Err-clause-sends : goal.returns-in-Err-clause-sends
returns-in-Err-clause-sends g c =
    let self = c.args.self.now in
    sends_as (headed self.version (codes "line")) (headed self.version (codes "line"))
    (in_line self.subject self.version c.args.line.now (λ is_word. c.in-Err.ensures.cases.0 (subst IsUtf8 (sym c.without_return.ensures) (IsUtf8-from_is_utf8 _ is_word)))) refl c.put_short-in-Err.ensures.bytes c.put_short-in-Err.ensures.few
