use Rattle.std.proofs.Common.{◌≡◌, ◌≤◌, List, ℕ, Some, ap, get_or, length, refl, slice_get, subst, ◌∙◌, sym, true≢false}
use Rattle.std.proofs.lemmas.List.Elements.{All-contains}
use Rattle.std.proofs.lemmas.Option.{slice_get-get_or}
use Rattle.std.proofs.lemmas.Slice.Eq.{bytes_eq-Decides}
use Rattle.word_relations.proofs.Places.{Contains-from_slice_get}
use Rattle.fsm_base.specs.Alphabet.{symbols_of, text_of, texts_of}
use Rattle.fsm_base.specs.declared.letters.Sym.{Sym}
use Rattle.named_networks.proofs.Written.{before_all, before_more, one_text, text_at}
use Rattle.named_networks.proofs.fields.has_symbol.Goals as goal

pub returns-then-eq : goal.returns-then-eq
returns-then-eq c =
    let alphabet = c.args.alphabet.now in
    let first : Sym = record { 0 = 0 } in
    let s = get_or c.symbols-symbol-items.result.now c.symbols.symbol-index first in
    let at : slice_get (symbols_of alphabet) c.symbols.symbol-index ≡ Some s = subst (λ (xs : List Sym). slice_get xs c.symbols.symbol-index ≡ Some s) c.symbols-symbol-items.ensures.symbols (slice_get-get_or c.symbols-symbol-items.result.now c.symbols.symbol-index first c.symbols-test.true) in
    let text : c.as_str-in-symbols.result.now ≡ text_of alphabet s = c.as_str-in-symbols.ensures ∙ c.in_ok-text.ensures ∙ one_text alphabet s in
    let is = sym text ∙ (bytes_eq-Decides c.as_str-in-symbols.result.now c.args.wanted.now).0 (sym c.eq.ensures ∙ c.if-eq.true) in
    let there = text_at alphabet c.symbols-symbol-items.ensures.formed c.symbols.symbol-index s at ∙ ap (λ (z : List ℕ). Some z) is in
    (λ yes. Contains-from_slice_get (texts_of alphabet) c.symbols.symbol-index c.args.wanted.now there, λ among. refl)

pub symbols-preserved : goal.symbols-preserved
symbols-preserved c =
    let alphabet = c.args.alphabet.now in
    let first : Sym = record { 0 = 0 } in
    let s = get_or c.symbols-symbol-items.result.now c.symbols.symbol-index first in
    let at : slice_get (symbols_of alphabet) c.symbols.symbol-index ≡ Some s = subst (λ (xs : List Sym). slice_get xs c.symbols.symbol-index ≡ Some s) c.symbols-symbol-items.ensures.symbols (slice_get-get_or c.symbols-symbol-items.result.now c.symbols.symbol-index first c.symbols-test.true) in
    let text : c.as_str-in-symbols.result.now ≡ text_of alphabet s = c.as_str-in-symbols.ensures ∙ c.in_ok-text.ensures ∙ one_text alphabet s in
    before_more (λ t. t ≡ c.args.wanted.now → ⊥) alphabet c.symbols-symbol-items.ensures.formed c.symbols.symbol-index s at
    (λ is. true≢false (sym ((bytes_eq-Decides c.as_str-in-symbols.result.now c.args.wanted.now).1 (text ∙ is)) ∙ sym c.eq.ensures ∙ c.if-eq.false)) c.symbols.invariant

pub returns : goal.returns
returns c =
    let alphabet = c.args.alphabet.now in
    let all = before_all (λ t. t ≡ c.args.wanted.now → ⊥) alphabet c.symbols.symbol-index (subst (λ (xs : List Sym). length xs ≤ c.symbols.symbol-index) c.symbols-symbol-items.ensures.symbols c.symbols-test.false) c.symbols.invariant in
    (λ no. absurd (true≢false (sym no)), λ among. absurd (All-contains (λ t. t ≡ c.args.wanted.now → ⊥) (texts_of alphabet) c.args.wanted.now all among refl))
