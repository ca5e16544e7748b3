use Rattle.std.proofs.Common.{ℕ, ◌+◌, ◌++◌, ◌∷◌, [], List, Err, drop, map, sym, ap, subst, ◌∙◌, arith}
use Rattle.std.specs.List.Sorted.{IsPermutation}
use Rattle.fsm_base.specs.Alphabet.{texts_of}
use Rattle.fsm_base.specs.Cut.{cut}
use Rattle.fsm_base.specs.Longest.{BeginsWithNone}
use Rattle.fsm_base.specs.Sorted.{IsNext, pair_of, texts_in}
use Rattle.fsm_base.specs.declared.letters.Sym.{Sym}
use Rattle.fsm_base.specs.declared.longest.Entry.{Entry}
use Rattle.fsm_base.proofs.AlphabetLemmas.{IsCutTo, BeginsWithNone-sorted, cut_to_stop, next_taken, rest_is}
use Rattle.fsm_base.proofs.alphabet.Alphabet.tokens.Goals as goal

pub next_symbol-requires-clause-lone : goal.next_symbol-requires-clause-lone
next_symbol-requires-clause-lone c = rw (c.deref.ensures.value, c.deref-in-symbols.ensures.value) c.self.invariant.lone_symbols

pub returns-in_default-clause-stopped : goal.returns-in_default-clause-stopped
returns-in_default-clause-stopped c =
    let alphabet = c.args.self.now in
    let sorted = c.self.inside.sorted.items in
    let bytes = c.as_bytes-bytes.result.now in
    let none = subst (λ (es : List Entry). BeginsWithNone (texts_in es) (drop c.symbols.from bytes)) c.deref.ensures.value
    (subst (λ (v : List ℕ). BeginsWithNone (texts_in c.deref.result.now) v) (rest_is c.symbols.from bytes) c.in_default.ensures) in
    let same = subst (λ (a : List (Sym × List ℕ)). IsPermutation a (map pair_of sorted)) c.self.view_is c.self.invariant.same_entries in
    ap (λ (t : List ℕ). cut (texts_of alphabet) t) (sym c.as_bytes-bytes.ensures.value)
    ∙ cut_to_stop alphabet bytes c.symbols.word.items c.symbols.from c.symbols.invariant c.symbols-test.true (BeginsWithNone-sorted alphabet _ _ same none)
    ∙ ap Err (sym c.character_at.ensures)

pub symbols-smaller : goal.symbols-smaller
symbols-smaller c =
    let bytes = c.as_bytes-bytes.result.now in
    let inside = c.self.inside in
    let word = c.symbols.word.items in
    let from = c.symbols.from in
    let next = c.in-Some.next in
    let to = subst (λ (a : List (Sym × List ℕ)). IsCutTo a bytes word from) (sym c.self.view_is) c.symbols.invariant in
    let is = subst (λ (es : List Entry). IsNext es (drop from bytes) next.symbol next.len) c.deref.ensures.value
    (subst (λ (v : List ℕ). IsNext c.deref.result.now v next.symbol next.len) (rest_is from bytes) c.in-Some.ensures) in
    let taken = next_taken inside.symbols.items inside.texts.items inside.sorted.items inside.lone.items bytes word from next.symbol next.len c.self.invariant to is in
    omega (arith, taken.1, c.symbols-test.true)

pub symbols-preserved : goal.symbols-preserved
symbols-preserved c =
    let bytes = c.as_bytes-bytes.result.now in
    let inside = c.self.inside in
    let word = c.symbols.word.items in
    let from = c.symbols.from in
    let next = c.in-Some.next in
    let to = subst (λ (a : List (Sym × List ℕ)). IsCutTo a bytes word from) (sym c.self.view_is) c.symbols.invariant in
    let is = subst (λ (es : List Entry). IsNext es (drop from bytes) next.symbol next.len) c.deref.ensures.value
    (subst (λ (v : List ℕ). IsNext c.deref.result.now v next.symbol next.len) (rest_is from bytes) c.in-Some.ensures) in
    let taken = next_taken inside.symbols.items inside.texts.items inside.sorted.items inside.lone.items bytes word from next.symbol next.len c.self.invariant to is in
    rw (c.in_ok-push.ensures.items) (subst (λ (a : List (Sym × List ℕ)). IsCutTo a bytes (word ++ next.symbol ∷ []) (from + next.len)) c.self.view_is taken.0)
