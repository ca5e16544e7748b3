use Rattle.std.proofs.Common.{ℕ, List, Some, ap, length, map, subst, sym, ◌∙◌}
use Rattle.std.proofs.lemmas.Result.{IfOk-weaker}
use Rattle.word_relations.specs.Words.{IsOver}
use Rattle.twolc_expressions.specs.Views.{pair_view}
use Rattle.pair_lines.specs.Numbers.{IsNumbered, IsWithin, verdict_line}
use Rattle.pair_lines.specs.Ready.{AreOfGrammar, PairRulesView}
use Rattle.pair_lines.specs.Replies.{RepliesToString}
use Rattle.pair_lines.specs.Strings.{letter_of}
use Rattle.pair_lines.specs.declared.numbers.Numbered.{Numbered}
use Rattle.pair_lines.proofs.Told.{few_tests, outside_reply, over_tests, verdict_within, word_reply}
use Rattle.pair_lines.proofs.pair_rules.PairRules.reply_to_string.Goals as goal

pub verdict-requires-clause-over : goal.verdict-requires-clause-over
verdict-requires-clause-over c =
    let self = c.self.inside in
    let ready : PairRulesView = record { name = self.name; numbers = self.numbers; pairs = self.pairs; tests = self.tests; rules = self.rules.items } in
    let is = subst (λ (z : Numbered). IsNumbered self.numbers self.pairs (map (λ p. letter_of (pair_view p)) c.args.string.now) z) c.in-Word.is c.in_ok-word.ensures in
    subst (IsOver self.tests.pairs) (sym c.deref.ensures.value) (over_tests ready c.self.invariant c.in-Word.word.items is.1)

pub verdict-requires-clause-few_rules : goal.verdict-requires-clause-few_rules
verdict-requires-clause-few_rules c =
    let self = c.self.inside in
    let ready : PairRulesView = record { name = self.name; numbers = self.numbers; pairs = self.pairs; tests = self.tests; rules = self.rules.items } in
    few_tests ready c.self.invariant

pub tried-requires : goal.tried-requires
tried-requires c =
    let self = c.self.inside in
    let ready : PairRulesView = record { name = self.name; numbers = self.numbers; pairs = self.pairs; tests = self.tests; rules = self.rules.items } in
    subst (λ (n : ℕ). IsWithin n c.in_ok-verdict-in-Word.verdict) (ap length (sym c.deref-in-Word.ensures.value)) (verdict_within ready c.self.invariant c.deref.result.now c.in_ok-verdict-in-Word.verdict c.in_ok-verdict-in-Word.ensures)

pub returns-in_ok-verdict-in-Word : goal.returns-in_ok-verdict-in-Word
returns-in_ok-verdict-in-Word c = λ g o.
    let self = c.self.inside in
    let ready : PairRulesView = record { name = self.name; numbers = self.numbers; pairs = self.pairs; tests = self.tests; rules = self.rules.items } in
    let own = subst (AreOfGrammar g) (sym c.self.view_is) o in
    let is = subst (λ (z : Numbered). IsNumbered self.numbers self.pairs (map (λ p. letter_of (pair_view p)) c.args.string.now) z) c.in-Word.is c.in_ok-word.ensures in
    let word = sym c.deref.ensures.value in
    IfOk-weaker c.tried.result _ (λ bytes. RepliesToString g c.args.version (map (λ p. letter_of (pair_view p)) c.args.string.now) bytes.items)
    (λ bytes line.
    word_reply g ready own c.args.version (map (λ p. letter_of (pair_view p)) c.args.string.now) c.deref.result.now bytes.items c.in_ok-verdict-in-Word.verdict (is.0 ∙ ap (map (λ y. Some y)) word) (subst (IsOver self.pairs) word is.1) c.in_ok-verdict-in-Word.ensures
    (line ∙ ap (λ (z : List (List ℕ)). verdict_line c.args.version z c.in_ok-verdict-in-Word.verdict) c.deref-in-Word.ensures.value)) c.tried.ensures

pub returns-in-Outside : goal.returns-in-Outside
returns-in-Outside c = λ g o.
    let self = c.self.inside in
    let ready : PairRulesView = record { name = self.name; numbers = self.numbers; pairs = self.pairs; tests = self.tests; rules = self.rules.items } in
    let own = subst (AreOfGrammar g) (sym c.self.view_is) o in
    let is = subst (λ (z : Numbered). IsNumbered self.numbers self.pairs (map (λ p. letter_of (pair_view p)) c.args.string.now) z) c.in-Outside.is c.in_ok-word.ensures in
    IfOk-weaker c.no_pair.result _ (λ bytes. RepliesToString g c.args.version (map (λ p. letter_of (pair_view p)) c.args.string.now) bytes.items)
    (λ bytes line. outside_reply g ready own c.args.version (map (λ p. letter_of (pair_view p)) c.args.string.now) c.in-Outside.number bytes.items is line) c.no_pair.ensures
