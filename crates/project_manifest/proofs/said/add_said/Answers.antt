use Rattle.std.proofs.Common.{◌+◌, ◌∷◌, ◌++◌, [], map, sym, ap, ◌∙◌}
use Rattle.std.proofs.lemmas.List.{map-append}
use Rattle.project_manifest.specs.Manifests.{is_epsilon, saying}
use Rattle.project_manifest.specs.Sayings.{as_written, saying_of}
use Rattle.project_manifest.proofs.Worded.{says_nothing, says_something}
use Rattle.project_manifest.proofs.said.add_said.Goals as goal

pub returns-then-is_epsilon : goal.returns-then-is_epsilon
returns-then-is_epsilon c = λ rest.
    says_nothing (c.args.index + 1) (map saying_of c.args.found.now.items) c.args.line.now rest
    (sym (ap is_epsilon (ap as_written c.deref.ensures.value ∙ c.in_ok-words.ensures)) ∙ sym c.is_epsilon.ensures ∙ c.if-is_epsilon.true)

pub returns : goal.returns
returns c = λ rest.
    says_something (c.args.index + 1) (map saying_of c.args.found.now.items) (map saying_of c.push.new.self.items) c.args.line.now rest
    (sym (ap is_epsilon (ap as_written c.deref.ensures.value ∙ c.in_ok-words.ensures)) ∙ sym c.is_epsilon.ensures ∙ c.if-is_epsilon.false)
    (ap (map saying_of) c.in_ok-push.ensures.items ∙ map-append saying_of c.args.found.now.items _ ∙ ap (λ w. map saying_of c.args.found.now.items ++ saying (c.args.index + 1) w ∷ []) c.in_ok-words.ensures)
