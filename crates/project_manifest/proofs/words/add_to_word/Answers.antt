use Rattle.std.proofs.Common.{◌++◌, false, sym, ap, ◌∙◌}
use Rattle.project_manifest.specs.Manifests.{words_from}
use Rattle.project_manifest.specs.Sayings.{as_written}
use Rattle.project_manifest.proofs.Worded.{word_ends, word_goes_on}
use Rattle.project_manifest.proofs.words.add_to_word.Goals as goal

pub returns-then-ends_word : goal.returns-then-ends_word
returns-then-ends_word c = λ rest.
    ap (λ z. as_written c.end_word.new.words.items ++ words_from z false rest) c.in_ok-end_word.ensures.word
    ∙ word_ends c.args.byte c.args.taking (as_written c.args.words.now.items) (as_written c.end_word.new.words.items) c.args.word.now.items rest (sym c.ends_word.ensures ∙ c.if-ends_word.true) c.in_ok-end_word.ensures.words

pub returns : goal.returns
returns c = λ rest. word_goes_on c.args.byte c.args.taking c.takes.result (as_written c.args.words.now.items) c.args.word.now.items c.push.new.self.items rest (sym c.ends_word.ensures ∙ c.if-ends_word.false) c.takes.ensures c.in_ok-push.ensures.items
