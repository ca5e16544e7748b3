use Rattle.std.proofs.Common.{ℕ, List, IfOk, sym, subst, ◌∙◌}
use Rattle.fsm_base.specs.Normal.{nfc_of}
use Rattle.pair_lines.specs.Ready.{ShowsRules}
use Rattle.pair_lines.specs.Replies.{RepliesToText as RepliesToPairText}
use Rattle.project_store.specs.Networks.{Shows}
use Rattle.saved_networks.specs.Networks.{IsSavedAs}
use Rattle.saved_networks.specs.Replies.{RepliesToWordBySaved}
use Rattle.fsm_program.specs.Tasks.{RepliesToText, RepliesToTextIn}
use Rattle.fsm_program.specs.declared.look_up.Subject.{Subject}
use Rattle.fsm_program.proofs.Tasks.{if_ok_for}
use Rattle.fsm_program.proofs.look_up.LookUp.reply_to_text.Goals as goal

pub returns-in-Named : goal.returns-in-Named
returns-in-Named c =
    let version = c.args.self.now.version in
    let network = c.in-Named.network in
    let task = c.in-Named.task in
    subst (λ (s : Subject). IfOk c.reply_of_name.result (λ bytes. RepliesToTextIn s version (nfc_of c.args.text.now) bytes.items)) (sym c.in-Named.is)
    (if_ok_for (λ project. Shows network project) (λ project bytes. RepliesToText task project network.glosses version network.name (nfc_of c.args.text.now) bytes.items) c.reply_of_name.result
    (λ project shown. subst (λ (w : List ℕ). IfOk c.reply_of_name.result (λ bytes. RepliesToText task project network.glosses version network.name w bytes.items)) (c.as_str.ensures ∙ c.in_ok-text.ensures.text) (c.reply_of_name.ensures project shown)))

pub returns-in-Rules : goal.returns-in-Rules
returns-in-Rules c =
    let version = c.args.self.now.version in
    let rules = c.in-Rules.rules in
    subst (λ (s : Subject). IfOk c.reply_to.result (λ bytes. RepliesToTextIn s version (nfc_of c.args.text.now) bytes.items)) (sym c.in-Rules.is)
    (if_ok_for (λ project. ShowsRules rules project) (λ project bytes. RepliesToPairText project version rules.name (nfc_of c.args.text.now) bytes.items) c.reply_to.result
    (λ project shown. subst (λ (w : List ℕ). IfOk c.reply_to.result (λ bytes. RepliesToPairText project version rules.name w bytes.items)) (c.as_str-in-Rules.ensures ∙ c.in_ok-text.ensures.text) (c.reply_to.ensures project shown)))

pub returns : goal.returns
returns c =
    let version = c.args.self.now.version in
    let network = c.in-Saved.network in
    subst (λ (s : Subject). IfOk c.reply_to-in-Saved.result (λ bytes. RepliesToTextIn s version (nfc_of c.args.text.now) bytes.items)) (sym c.in-Saved.is)
    (if_ok_for (λ saved. IsSavedAs saved network) (λ saved bytes. RepliesToWordBySaved saved version (nfc_of c.args.text.now) bytes.items) c.reply_to-in-Saved.result
    (λ saved is. subst (λ (w : List ℕ). IfOk c.reply_to-in-Saved.result (λ bytes. RepliesToWordBySaved saved version w bytes.items)) (c.as_str-in-Saved.ensures ∙ c.in_ok-text.ensures.text) (c.reply_to-in-Saved.ensures saved is)))
