use Rattle.std.proofs.Common.{IfOk, List, map, subst}
use Rattle.std.proofs.lemmas.Result.{IfOk-weaker}
use Rattle.regex_ast.specs.declared.expr.Raw.{Raw}
use Rattle.regex_ast.specs.declared.twolc.PairAtom.{PairAtom}
use Rattle.twolc_expressions.specs.Views.{pair_view}
use Rattle.pair_lines.specs.Replies.{RepliesToString, RepliesToText}
use Rattle.pair_lines.specs.Strings.{letter_of}
use Rattle.pair_lines.proofs.Told.{text_reply}
use Rattle.pair_lines.proofs.pair_rules.PairRules.reply_to.Goals as goal

pub returns-in-Ok : goal.returns-in-Ok
returns-in-Ok c = λ project shown.
    let line = c.args.text.now in
    let atoms = c.in-Ok.string.items in
    let tells = subst
    (λ (z : List (PairAtom Raw)). IfOk c.reply_to_string.result (λ bytes. RepliesToString shown.0 c.args.version (map (λ (p : PairAtom Raw). letter_of (pair_view p)) z) bytes.items))
    c.deref.ensures.value (c.reply_to_string.ensures shown.0 shown.2) in
    IfOk-weaker c.reply_to_string.result _ (λ bytes. RepliesToText project c.args.version c.args.self.now.name line bytes.items)
    (λ bytes reply. text_reply c.args.self.now project c.args.version line atoms bytes.items shown c.in-Ok.ensures.pairs reply) tells
