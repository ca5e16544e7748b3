use Rattle.std.proofs.Common.{◌≡◌, ◌↔◌, ℕ, List, ap, refl, subst, sym, ◌∙◌, true≢false}
use Rattle.std.specs.List.{Contains}
use Rattle.std.proofs.lemmas.Option.{slice_get_within}
use Rattle.fsm_base.specs.Alphabet.{symbols_of, texts_of}
use Rattle.fsm_base.specs.declared.letters.Sym.{Sym}
use Rattle.att_text.specs.Lines.{no_symbol}
use Rattle.att_text.specs.Paths.{Relates, RelatesTexts}
use Rattle.att_text.specs.Writing.{HasTextOf, UsesOnly}
use Rattle.network_algebra.specs.Networks.{PairsOf}
use Rattle.project_meaning.specs.Meaning.{Meaning, Word}
use Rattle.project_sources.specs.Sources.{project_in}
use Rattle.project_store.specs.Loaded.{IsLoadedFrom, LoadedView}
use Rattle.project_store.proofs.Shown.{defined_here, name_there, shows_none}
use Rattle.named_networks.specs.Responses.{refusal}
use Rattle.named_networks.specs.Texts.{HasZeroSymbol, no_net, written, zero_symbol}
use Rattle.named_networks.proofs.Written.{are_fields, texts_related, uses_only}
use Rattle.named_networks.proofs.texts.att.Goals as goal

pub returns-in_default : goal.returns-in_default
returns-in_default c said from =
    let loaded = c.into_parts-project.result.0 in
    let here = subst (λ (l : LoadedView). IsLoadedFrom said l) (sym c.into_parts-project.ensures.project) from in
    no_net (shows_none said loaded here c.args.name.now c.in_default.ensures) (ap (λ (b : List ℕ). refusal b) c.in_ok-no_net.ensures)

pub returns-then-branch : goal.returns-then-branch
returns-then-branch c said from =
    let loaded = c.into_parts-project.result.0 in
    let here = subst (λ (l : LoadedView). IsLoadedFrom said l) (sym c.into_parts-project.ensures.project) from in
    let (d, at, named) = c.in-Some.ensures in
    let texts : texts_of c.alphabet-alphabet.result.now ≡ (project_in said).alphabet = ap (λ (al : List (Sym × List ℕ)). texts_of al) c.alphabet-alphabet.ensures ∙ here.texts in
    zero_symbol (defined_here said loaded here c.in-Some.place d at c.args.name.now named) (subst (λ (ts : List (List ℕ)). Contains ts no_symbol) texts (c.in_ok-has_symbol.ensures.0 c.if-branch.true))
    (ap (λ (b : List ℕ). refusal b) c.in_ok-zero_symbol.ensures)

pub network_at-requires-clause-place : goal.network_at-requires-clause-place
network_at-requires-clause-place c = let (d, at, named) = c.in-Some.ensures in slice_get_within c.into_parts-project.result.0.definitions c.in-Some.place d at

pub write_att-requires-clause-symbols : goal.write_att-requires-clause-symbols
write_att-requires-clause-symbols c =
    let symbols = symbols_of c.into_parts-project.result.0.alphabet in
    subst (λ (al : List (Sym × List ℕ)). UsesOnly (symbols_of al) c.in_ok-pairs.pairs) (sym c.alphabet-alphabet.ensures)
    (uses_only symbols c.in_ok-pairs.pairs (c.in_ok-pairs.ensures.symbols symbols c.in_ok-network.ensures.over))

pub write_att-requires-clause-fields : goal.write_att-requires-clause-fields
write_att-requires-clause-fields c =
    are_fields c.alphabet-alphabet.result.now c.in_ok-are_unbroken.ensures.formed (λ zero. true≢false (sym (c.in_ok-has_symbol.ensures.1 zero) ∙ c.if-branch.false)) (c.in_ok-are_unbroken.ensures.unbroken.0 c.if-not-branch.false)

pub returns : goal.returns
returns c said from =
    let loaded = c.into_parts-project.result.0 in
    let here = subst (λ (l : LoadedView). IsLoadedFrom said l) (sym c.into_parts-project.ensures.project) from in
    let (d, at, named) = c.in-Some.ensures in
    let name = c.args.name.now in
    let project = project_in said in
    let n = c.in_ok-network.network in
    let pairs = c.in_ok-pairs.pairs in
    let bytes = c.in_ok-write_att.field-0.items in
    let texts : texts_of c.alphabet-alphabet.result.now ≡ project.alphabet = ap (λ (al : List (Sym × List ℕ)). texts_of al) c.alphabet-alphabet.ensures ∙ here.texts in
    let none : HasZeroSymbol project → ⊥ = λ zero. true≢false (sym (c.in_ok-has_symbol.ensures.1 (subst (λ (ts : List (List ℕ)). Contains ts no_symbol) (sym texts) zero)) ∙ c.if-branch.false) in
    let means = c.in_ok-network.ensures.means said here name (name_there said loaded here c.in-Some.place d at name named) in
    let related : (upper lower : Word) → RelatesTexts (HasTextOf c.alphabet-alphabet.result.now) pairs upper lower ↔ Meaning project name upper lower =
    subst (λ (al : List (Sym × List ℕ)). (upper lower : Word) → RelatesTexts (HasTextOf al) pairs upper lower ↔ Meaning project name upper lower) (sym c.alphabet-alphabet.ensures)
    (texts_related loaded.alphabet (PairsOf n) (Meaning project name) pairs means c.in_ok-pairs.ensures.pairs) in
    let says : (upper lower : Word) → Relates bytes upper lower ↔ RelatesTexts (HasTextOf c.alphabet-alphabet.result.now) pairs upper lower = c.in_ok-write_att.ensures.relation in
    written bytes (defined_here said loaded here c.in-Some.place d at name named) none
    (record {
      lawful = c.in_ok-write_att.ensures.text;
      relation = λ upper lower. (λ r. (related upper lower).0 ((says upper lower).0 r), λ m. (says upper lower).1 ((related upper lower).1 m));
      start = c.in_ok-write_att.ensures.start;
    }) refl
