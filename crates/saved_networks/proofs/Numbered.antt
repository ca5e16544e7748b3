-- The alphabet of all symbols of a table, each at the place of its number.
use Rattle.std.proofs.Common.{◌≡◌, ◌<◌, ℕ, List, [], length, get_or, slice_get, All, Contains, Some, sym, ap, ◌∙◌, arith}
use Rattle.std.proofs.lemmas.List.{ext_get_or, length-map}
use Rattle.std.proofs.lemmas.List.Elements.{All-contains_itself, All-weaker}
use Rattle.std.proofs.lemmas.Option.{get_or_from_slice_get, slice_get-get_or, slice_get-map, slice_get_within}
use Rattle.std.specs.List.{slice_index_or}
use Rattle.std.specs.Option.{option_map}
use Rattle.word_relations.specs.Words.{IsDistinct}
use Rattle.word_relations.proofs.Places.{Contains-from_slice_get, slice_get_from_Contains}
use Rattle.fsm_base.specs.declared.letters.Sym.{Sym}
use Rattle.fsm_base.specs.Alphabet.{listed, text_of, texts_of}
use Rattle.fsm_base.proofs.AlphabetLemmas.{text_of-listed}

-- each symbol has its place for its number
abbrev pub AreNumbered : List Sym → Type 0
AreNumbered symbols = (place : ℕ) (x : Sym) → slice_get symbols place ≡ Some x → x.0 ≡ place

same_symbol : (s t : Sym) → s.0 ≡ t.0 → s ≡ t
same_symbol s t e = λ i. record { 0 = e i }

module _ (table : List (List ℕ)) (symbols : List Sym) (numbers : AreNumbered symbols) (count : length symbols ≡ length table) where
  pub all_distinct : IsDistinct symbols
  all_distinct i j x at_i at_j = sym (numbers i x at_i) ∙ numbers j x at_j

  held : (s : Sym) → Contains symbols s → s.0 < length table
  held s among =
      let at = slice_get_from_Contains symbols s among in
      let within = slice_get_within symbols at.0 s at.1 in
      let number = numbers at.0 s at.1 in
      omega (arith, within, number, count)

  pub all_held : All (λ (s : Sym). s.0 < length table) symbols
  all_held = All-weaker (Contains symbols) (λ (s : Sym). s.0 < length table) held symbols (All-contains_itself symbols)

  -- a number below the table's length is that of a symbol
  pub all_among : (s : Sym) → s.0 < length table → Contains symbols s
  all_among s within =
      let inside : s.0 < length symbols = omega (arith, within, count) in
      let at = slice_get-get_or symbols s.0 s inside in
      let same = same_symbol (get_or symbols s.0 s) s (numbers s.0 (get_or symbols s.0 s) at) in
      Contains-from_slice_get symbols s.0 s (at ∙ ap (λ (z : Sym). Some z) same)

  -- the symbol's text in the alphabet is that in the table
  pub text_at : (s : Sym) → s.0 < length table → slice_get table s.0 ≡ Some (text_of (listed table symbols) s)
  text_at s within = slice_get-get_or table s.0 [] within ∙ ap (λ (z : List ℕ). Some z) (sym (text_of-listed table symbols s (all_among s within)))

  -- the texts of the alphabet are those of the table, in their order
  pub listed_texts : texts_of (listed table symbols) ≡ table
  listed_texts = ext_get_or [] (texts_of (listed table symbols)) table (long ∙ count) each
    where
      entry : Sym → Sym × List ℕ
      entry s = (s, slice_index_or table s.0 [])

      long : length (texts_of (listed table symbols)) ≡ length symbols
      long = length-map (listed table symbols) (λ e. e.1) ∙ length-map symbols entry

      each : (i : ℕ) → i < length (texts_of (listed table symbols)) → get_or (texts_of (listed table symbols)) i [] ≡ get_or table i []
      each i within =
          let inside : i < length symbols = omega (arith, within, long) in
          let x : Sym = get_or symbols i (record { 0 = 0 }) in
          let at : slice_get symbols i ≡ Some x = slice_get-get_or symbols i (record { 0 = 0 }) inside in
          let there : slice_get (texts_of (listed table symbols)) i ≡ Some (slice_index_or table x.0 []) =
          slice_get-map (λ (e : Sym × List ℕ). e.1) (listed table symbols) i
          ∙ ap (option_map (λ (e : Sym × List ℕ). e.1)) (slice_get-map entry symbols i ∙ ap (option_map entry) at) in
          get_or_from_slice_get (texts_of (listed table symbols)) i (slice_index_or table x.0 []) [] there ∙ ap (λ (k : ℕ). get_or table k []) (numbers i x at)
