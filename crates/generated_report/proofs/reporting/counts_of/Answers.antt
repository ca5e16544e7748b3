use Rattle.std.proofs.Common.{◌≤◌, ◌<◌, ◌-◌, ◌^◌, ℕ, List, length, codes, All, sym, ap, subst, ◌∙◌, arith}
use Rattle.std.specs.List.{AllZip}
use Rattle.std.proofs.lemmas.List.Elements.{All-weaker}
use Rattle.fsm_base.specs.declared.letters.Sym.{Sym}
use Rattle.interlinear.specs.Glosses.{Entry}
use Rattle.lookup.specs.Answering.{IsOverAlphabet}
use Rattle.lookup.specs.Nets.{NetView}
use Rattle.project_sources.specs.Sources.{project_in}
use Rattle.project_store.specs.Loaded.{IsLoadedFrom, LoadedView}
use Rattle.generated_report.specs.Told.{FindsUpper, IsTold}
use Rattle.generated_report.specs.Words.{words_in}
use Rattle.generated_report.specs.declared.told.Told.{Told}
use Rattle.generated_report.proofs.Nets.{as_many}
use Rattle.generated_report.proofs.reporting.counts_of.Goals as goal

pub told_of_words-requires-clause-over : goal.told_of_words-requires-clause-over
told_of_words-requires-clause-over g c κs o =
    subst (λ (net : NetView). IsOverAlphabet c.alphabet.result.now net) (sym c.net.ensures)
    (subst (λ (alphabet : List (Sym × List ℕ)). IsOverAlphabet alphabet c.in_ok-compiled.compiled.net) (sym c.alphabet.ensures) c.in_ok-compiled.ensures.over)

pub told_of_words-requires-clause-short : goal.told_of_words-requires-clause-short
told_of_words-requires-clause-short g c κs o =
    let few = c.requires in
    subst (λ (words : List (List ℕ)). All (λ word. length word < 2 ^ 32 - 1) words) (sym c.deref.ensures.value)
    (All-weaker (λ word. length word ≤ length c.args.text.now) (λ word. length word < 2 ^ 32 - 1) (λ word h. omega (arith, h, few)) c.in_ok-words.words.items c.in_ok-words.ensures.within)

pub returns : goal.returns
returns g c said from =
    let project = c.into_parts-project.result.0 in
    let meant = project_in said in
    let net = codes "Net" in
    let same = c.into_parts-project.ensures.project in
    let loaded : IsLoadedFrom said project = subst (IsLoadedFrom said) (sym same) from in
    let finds : FindsUpper c.alphabet.result.now c.net.result.now meant net =
    subst (λ (m : NetView). FindsUpper c.alphabet.result.now m meant net) (sym c.net.ensures)
    (subst (λ (alphabet : List (Sym × List ℕ)). FindsUpper alphabet c.in_ok-compiled.compiled.net meant net) (sym c.alphabet.ensures) (c.in_ok-compiled.ensures.finds said loaded)) in
    let glosses = c.glosses.ensures ∙ ap (λ (l : LoadedView). l.glosses) same in
    let words = c.deref.ensures.value ∙ c.in_ok-words.ensures.words in
    let told =
    subst (λ (ts : List Told). AllZip (IsTold meant c.args.ready.glosses net) (words_in c.args.text.now) ts) (sym c.deref-2.ensures.value)
    (subst (λ (ws : List (List ℕ)). AllZip (IsTold meant c.args.ready.glosses net) ws c.in_ok-told.told.items) words
    (subst (λ (entries : List Entry). AllZip (IsTold meant entries net) c.deref.result.now c.in_ok-told.told.items) glosses (c.in_ok-told.ensures meant net finds))) in
    c.of.ensures meant c.args.ready.glosses net (words_in c.args.text.now) (ap length (c.definitions.ensures.definitions ∙ c.plan.ensures.definitions) ∙ as_many said project loaded) told
