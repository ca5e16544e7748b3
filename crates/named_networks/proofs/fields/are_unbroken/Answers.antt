use Rattle.std.proofs.Common.{◌≡◌, ◌≤◌, List, Some, get_or, length, refl, slice_get, subst, ◌∙◌, sym, true≢false}
use Rattle.std.proofs.lemmas.List.Elements.{All-contains}
use Rattle.std.proofs.lemmas.Option.{slice_get-get_or}
use Rattle.word_relations.proofs.Places.{Contains-from_slice_get}
use Rattle.fsm_base.specs.Alphabet.{symbols_of, text_of, texts_of}
use Rattle.fsm_base.specs.declared.letters.Sym.{Sym}
use Rattle.named_networks.specs.Fields.{HasNoBreak}
use Rattle.named_networks.proofs.Written.{before_all, before_more, one_text, text_at}
use Rattle.named_networks.proofs.fields.are_unbroken.Goals as goal

pub returns-then-not-is_unbroken-clause-unbroken : goal.returns-then-not-is_unbroken-clause-unbroken
returns-then-not-is_unbroken-clause-unbroken c =
    let alphabet = c.args.alphabet.now in
    let first : Sym = record { 0 = 0 } in
    let s = get_or c.symbols-symbol-items.result.now c.symbols.symbol-index first in
    let at : slice_get (symbols_of alphabet) c.symbols.symbol-index ≡ Some s = subst (λ (xs : List Sym). slice_get xs c.symbols.symbol-index ≡ Some s) c.symbols-symbol-items.ensures.symbols (slice_get-get_or c.symbols-symbol-items.result.now c.symbols.symbol-index first c.symbols-test.true) in
    let text : c.as_str-in-symbols.result.now ≡ text_of alphabet s = c.as_str-in-symbols.ensures ∙ c.in_ok-text.ensures ∙ one_text alphabet s in
    let among = Contains-from_slice_get (texts_of alphabet) c.symbols.symbol-index (text_of alphabet s) (text_at alphabet c.symbols-symbol-items.ensures.formed c.symbols.symbol-index s at) in (
      λ no. absurd (true≢false (sym no)),
      λ all. absurd (true≢false (sym (c.is_unbroken.ensures.1 (subst HasNoBreak (sym text) (All-contains HasNoBreak (texts_of alphabet) (text_of alphabet s) all among))) ∙ c.if-not-is_unbroken.true)),
    )

pub symbols-preserved : goal.symbols-preserved
symbols-preserved c =
    let alphabet = c.args.alphabet.now in
    let first : Sym = record { 0 = 0 } in
    let s = get_or c.symbols-symbol-items.result.now c.symbols.symbol-index first in
    let at : slice_get (symbols_of alphabet) c.symbols.symbol-index ≡ Some s = subst (λ (xs : List Sym). slice_get xs c.symbols.symbol-index ≡ Some s) c.symbols-symbol-items.ensures.symbols (slice_get-get_or c.symbols-symbol-items.result.now c.symbols.symbol-index first c.symbols-test.true) in
    let text : c.as_str-in-symbols.result.now ≡ text_of alphabet s = c.as_str-in-symbols.ensures ∙ c.in_ok-text.ensures ∙ one_text alphabet s in
    before_more HasNoBreak alphabet c.symbols-symbol-items.ensures.formed c.symbols.symbol-index s at (subst HasNoBreak text (c.is_unbroken.ensures.0 c.if-not-is_unbroken.false)) c.symbols.invariant

pub returns-clause-unbroken : goal.returns-clause-unbroken
returns-clause-unbroken c =
    let alphabet = c.args.alphabet.now in
    (λ yes. before_all HasNoBreak alphabet c.symbols.symbol-index (subst (λ (xs : List Sym). length xs ≤ c.symbols.symbol-index) c.symbols-symbol-items.ensures.symbols c.symbols-test.false) c.symbols.invariant, λ all. refl)
