use Rattle.std.proofs.Common.{◌≡◌, ◌++◌, [], ◌∷◌, ℕ, List, Some, append-nil, get_or, slice_get, take, sym, ap, ◌∙◌, arith}
use Rattle.std.proofs.lemmas.Option.{slice_get-get_or}
use Rattle.word_relations.proofs.Places.{take_more-slice_get}
use Rattle.fsm_base.specs.Alphabet.{symbols_of, text_of, texts_of}
use Rattle.fsm_base.specs.declared.letters.Sym.{Sym}
use Rattle.touched_names.proofs.Numbers.{text_at}
use Rattle.touched_names.proofs.texts.texts_in.Goals as goal

pub symbols-preserved : goal.symbols-preserved
symbols-preserved c =
    let alphabet = c.args.alphabet.now in
    let symbols = c.symbols-symbol-items.result.now in
    let k = c.symbols.symbol-index in
    let s : Sym = get_or symbols k (record { 0 = 0 }) in
    let at : slice_get (symbols_of alphabet) k ≡ Some s =
    ap (λ (xs : List Sym). slice_get xs k) (sym c.symbols-symbol-items.ensures.symbols) ∙ slice_get-get_or symbols k (record { 0 = 0 }) (omega (arith, c.symbols-test.true)) in
    let text = text_at alphabet c.symbols-symbol-items.ensures.formed.distinct k s at in
    let is : c.in_ok-text.field-0 ≡ text_of alphabet s = c.in_ok-text.ensures ∙ append-nil (text_of alphabet s) in
    c.in_ok-push.ensures.items
    ∙ ap (λ (xs : List (List ℕ)). xs ++ c.in_ok-text.field-0 ∷ []) c.symbols.invariant
    ∙ ap (λ (t : List ℕ). take k (texts_of alphabet) ++ t ∷ []) is
    ∙ sym (take_more-slice_get (texts_of alphabet) k (text_of alphabet s) text)
