use Rattle.std.proofs.Common.{◌≡◌, ◌<◌, ◌++◌, ℕ, List, ap, codes, length, rules, subst, sym, ◌∙◌}
use Rattle.std.proofs.lemmas.Option.{same_Some, slice_get_within}
use Rattle.fsm_base.specs.Alphabet.{symbols_of, text_of}
use Rattle.fsm_base.specs.declared.letters.Sym.{Sym}
use Rattle.grammar_pairs.specs.Plain.{grammar_of}
use Rattle.grammar_pairs.specs.Texts.{in_texts}
use Rattle.network_grammars.specs.Meaning.{IsOverSymbols}
use Rattle.project_definitions.specs.declared.definition.Definition.{Definition}
use Rattle.project_store.specs.Loaded.{IsLoadedFrom}
use Rattle.project_store.proofs.Named.{stands_at}
use Rattle.project_store.proofs.Shown.{defined_here, shows_none}
use Rattle.reply_meaning.specs.Replies.{headed}
use Rattle.pair_lines.specs.Ready.{AreOfGrammar}
use Rattle.pair_lines.specs.Replies.{no_grammar, no_net}
use Rattle.pair_lines.proofs.Opening.{grammar_formed, grammar_symbols, has_grammar, has_no_grammar}
use Rattle.pair_lines.proofs.opened.Opened.of.Goals as goal

pub returns-in_default : goal.returns-in_default
returns-in_default c = λ said from.
    let project = c.project-project.result.now in
    let own = subst (IsLoadedFrom said) (sym c.project-project.ensures) from in
    no_net (shows_none said project own c.args.name (λ d among named. c.in_default.ensures d among (named ∙ sym c.as_str.ensures)))
    (c.in_ok-no_net.ensures ∙ ap (λ (z : List ℕ). headed c.args.version (codes "net " ++ z)) c.as_str-in_default.ensures)

pub offset_bounds-definitions-place : goal.offset_bounds-definitions-place
offset_bounds-definitions-place c =
    let within = slice_get_within c.project-project.result.now.definitions c.in-Some.place c.in-Some.ensures.0 c.in-Some.ensures.1 in
    let below : c.in-Some.place < length c.definitions.result.now =
    subst (λ (ds : List Definition). c.in-Some.place < length ds) (sym (c.definitions.ensures.definitions ∙ c.plan-plan.ensures.definitions)) within in
    search rules

pub bounds-definitions-place : goal.bounds-definitions-place
bounds-definitions-place c =
    let within = slice_get_within c.project-project.result.now.definitions c.in-Some.place c.in-Some.ensures.0 c.in-Some.ensures.1 in
    subst (λ (ds : List Definition). c.in-Some.place < length ds) (sym (c.definitions.ensures.definitions ∙ c.plan-plan.ensures.definitions)) within

pub returns-in_default-body : goal.returns-in_default-body
returns-in_default-body c = λ said from.
    let project = c.project-project.result.now in
    let own = subst (IsLoadedFrom said) (sym c.project-project.ensures) from in
    let place = c.in-Some.place in
    let d = c.index-definitions-place.result in
    let same = c.definitions.ensures.definitions ∙ c.plan-plan.ensures.definitions in
    let within = slice_get_within project.definitions place c.in-Some.ensures.0 c.in-Some.ensures.1 in
    let below = subst (λ (ds : List Definition). place < length ds) (sym same) within in
    let at = stands_at c.definitions.result.now project.definitions place d same below c.index-definitions-place.is in
    let found : c.in-Some.ensures.0 ≡ d = same_Some c.in-Some.ensures.0 d (sym c.in-Some.ensures.1 ∙ at) in
    let named : d.name ≡ c.args.name = ap (λ (z : Definition). z.name) (sym found) ∙ c.in-Some.ensures.2 ∙ c.as_str.ensures in
    no_grammar (defined_here said project own place d at c.args.name named) (has_no_grammar said project own place d at c.args.name named (λ grammar is. c.in_default-body.not-Twolc grammar (sym (ap (λ (z : Definition). z.body) c.index-definitions-place.is) ∙ is)))
    (c.in_ok-no_grammar.ensures ∙ ap (λ (z : List ℕ). headed c.args.version (codes "kind " ++ z)) c.as_str-in_default-body.ensures)

pub of_grammar-requires : goal.of_grammar-requires
of_grammar-requires c =
    let project = c.project-project.result.now in
    let place = c.in-Some.place in
    let d = c.index-definitions-place.result in
    let same = c.definitions.ensures.definitions ∙ c.plan-plan.ensures.definitions in
    let within = slice_get_within project.definitions place c.in-Some.ensures.0 c.in-Some.ensures.1 in
    let below = subst (λ (ds : List Definition). place < length ds) (sym same) within in
    let at = stands_at c.definitions.result.now project.definitions place d same below c.index-definitions-place.is in
    grammar_formed project c.plan-plan.ensures.formed place d at c.in-Twolc.grammar (ap (λ (z : Definition). z.body) c.index-definitions-place.is ∙ c.in-Twolc.is)

pub returns : goal.returns
returns c = λ said from.
    let project = c.project-project.result.now in
    let own = subst (IsLoadedFrom said) (sym c.project-project.ensures) from in
    let place = c.in-Some.place in
    let d = c.index-definitions-place.result in
    let grammar = c.in-Twolc.grammar in
    let rules = c.in_ok-rules.rules in
    let same = c.definitions.ensures.definitions ∙ c.plan-plan.ensures.definitions in
    let within = slice_get_within project.definitions place c.in-Some.ensures.0 c.in-Some.ensures.1 in
    let below = subst (λ (ds : List Definition). place < length ds) (sym same) within in
    let at = stands_at c.definitions.result.now project.definitions place d same below c.index-definitions-place.is in
    let found : c.in-Some.ensures.0 ≡ d = same_Some c.in-Some.ensures.0 d (sym c.in-Some.ensures.1 ∙ at) in
    let named : d.name ≡ c.args.name = ap (λ (z : Definition). z.name) (sym found) ∙ c.in-Some.ensures.2 ∙ c.as_str.ensures in
    let is_body = ap (λ (z : Definition). z.body) c.index-definitions-place.is ∙ c.in-Twolc.is in
    let is_name : rules.name ≡ c.args.name = c.in_ok-rules.ensures.name in
    let told = subst (λ (a : List (Sym × List ℕ)). IsOverSymbols (symbols_of a) grammar → AreOfGrammar (in_texts (text_of a) (grammar_of grammar)) rules) c.alphabet.ensures c.in_ok-rules.ensures.rules in (
      is_name,
      (
        in_texts (text_of project.alphabet) (grammar_of grammar),
        has_grammar said project own place d at rules.name (named ∙ sym is_name) grammar is_body,
        told (grammar_symbols project c.plan-plan.ensures.formed place d at grammar is_body),
      ),
    )
