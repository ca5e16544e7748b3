use Rattle.std.proofs.Common.{◌≡◌, ◌∙◌, ℕ, List, Global, IfOk, Vec, ap, slice_get, subst, sym}
use Rattle.std.proofs.lemmas.Option.{same_Some}
use Rattle.std.proofs.lemmas.Result.{IfOk-weaker}
use Rattle.project_meaning.specs.Projects.{names_of}
use Rattle.project_sources.specs.Sources.{project_in}
use Rattle.named_networks.specs.Comparisons.{IsComparison}
use Rattle.named_networks.specs.declared.told.Question.{Question}
use Rattle.named_networks.proofs.Answered.{alone}
use Rattle.named_networks.proofs.Found.{language_there}
use Rattle.named_networks.proofs.comparing.told_of.Goals as goal

pub returns-then-first-second : goal.returns-then-first-second
returns-then-first-second c said one other from at_one at_other =
    let project = project_in said in
    let named : one ≡ other = same_Some one other (sym at_one ∙ ap (slice_get (names_of said.written)) c.if-first-second.true ∙ at_other) in
    IfOk-weaker _ _ _
    (λ (bytes : Vec ℕ Global) is. subst (λ (n : List ℕ). IsComparison project c.args.version c.args.question one n bytes.items) named (alone project c.args.version c.args.question one bytes.items is))
    c.no_word.ensures

pub returns-in-Equal : goal.returns-in-Equal
returns-in-Equal c said one other from at_one at_other =
    let project = project_in said in
    let loaded = c.args.project.now in
    let alphabet = c.alphabet-alphabet.result.now in
    let p = language_there said loaded from c.args.first one at_one c.in_ok-one.one c.in_ok-one.ensures.first c.requires.one alphabet c.alphabet-alphabet.ensures c.symbols.result.now c.symbols.ensures.symbols c.in_ok-one-2.one c.in_ok-one-2.ensures in
    let q = language_there said loaded from c.args.second other at_other c.in_ok-one.other c.in_ok-one.ensures.second c.requires.other alphabet c.alphabet-alphabet.ensures c.symbols-2.result.now c.symbols-2.ensures.symbols c.in_ok-other.other c.in_ok-other.ensures in
    subst (λ (question : Question). IfOk c.equality.result (λ (bytes : Vec ℕ Global). IsComparison project c.args.version question one other bytes.items)) (sym c.in-Equal.is) (c.equality.ensures project one other p q)

pub returns : goal.returns
returns c said one other from at_one at_other =
    let project = project_in said in
    let loaded = c.args.project.now in
    let alphabet = c.alphabet-alphabet.result.now in
    let p = language_there said loaded from c.args.first one at_one c.in_ok-one.one c.in_ok-one.ensures.first c.requires.one alphabet c.alphabet-alphabet.ensures c.symbols.result.now c.symbols.ensures.symbols c.in_ok-one-2.one c.in_ok-one-2.ensures in
    let q = language_there said loaded from c.args.second other at_other c.in_ok-one.other c.in_ok-one.ensures.second c.requires.other alphabet c.alphabet-alphabet.ensures c.symbols-2.result.now c.symbols-2.ensures.symbols c.in_ok-other.other c.in_ok-other.ensures in
    subst (λ (question : Question). IfOk c.inclusion.result (λ (bytes : Vec ℕ Global). IsComparison project c.args.version question one other bytes.items)) (sym c.in-Within.is) (c.inclusion.ensures project one other p q)
