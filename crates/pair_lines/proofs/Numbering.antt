-- Pairs by the numbers of their symbols, and by their texts.
use Rattle.std.proofs.Common.{◌≡◌, ◌<◌, ◌≤◌, ◌+◌, ◌↔◌, ◌⊎◌, ℕ, Bool, true, false, cond, List, [], ◌∷◌, ◌++◌, Option, Some, None, length, map, take, drop, get_or, slice_get, refl, sym, ap, subst, ◌∙◌, inl, inr, arith, append_assoc, append-nil, true≢false}
use Rattle.std.specs.List.{Contains}
use Rattle.std.specs.Option.{option_and_then, option_map}
use Rattle.std.specs.Str.{bytes_eq}
use Rattle.std.proofs.lemmas.List.{length-map, map-append, take-append-drop, take_all, take_more}
use Rattle.std.proofs.lemmas.List.Elements.{All-append, All-cons, All-head, All-nil, All-tail, Contains-append_left, Contains-push, Contains-push_cases}
use Rattle.std.proofs.lemmas.Option.{same_Some, slice_get-get_or, slice_get-map, slice_get_within}
use Rattle.std.proofs.lemmas.Slice.Eq.{bytes_eq-Decides}
use Rattle.fsm_base.specs.Alphabet.{IsAlphabet, spelled, symbols_of, text_of, texts_of}
use Rattle.fsm_base.specs.declared.letters.Pair.{Pair}
use Rattle.fsm_base.specs.declared.letters.Sym.{Sym}
use Rattle.fsm_base.proofs.AlphabetLemmas.{text_of-pair}
use Rattle.word_relations.specs.Words.{IsOver, joined}
use Rattle.word_relations.proofs.Members.{Contains-cons_cases, Contains-map_cases, Contains-nil_cases}
use Rattle.word_relations.proofs.Places.{Contains-from_slice_get, slice_get_from_Contains}
use Rattle.grammar_pairs.specs.Tables.{under}
use Rattle.grammar_pairs.specs.Texts.{IsPairOver, letter_in}
use Rattle.project_meaning.specs.Grammars.{Letter}
use Rattle.pair_lines.specs.Numbers.{IsAmong, IsNumbered, pair_in, side_in}
use Rattle.pair_lines.specs.Ready.{HasNumbers}
use Rattle.pair_lines.specs.declared.numbers.Numbered.TheVariants.{Outside}

-- Symbols and texts of an alphabet.

entry_of : (alphabet : List (Sym × List ℕ)) → IsAlphabet alphabet → (s : Sym) → Contains (symbols_of alphabet) s → Contains alphabet (s, text_of alphabet s)
entry_of alphabet formed s among =
    let (e, there, is) = Contains-map_cases (λ (e : Sym × List ℕ). e.0) alphabet s among in
    let text : text_of alphabet e.0 ≡ e.1 = text_of-pair alphabet formed.distinct e.0 e.1 there in
    let own : e ≡ (s, text_of alphabet s) = (λ i. (is i, (sym text ∙ ap (text_of alphabet) is) i)) in
    subst (Contains alphabet) own there

-- symbols with one text are one
one_symbol : (alphabet : List (Sym × List ℕ)) → IsAlphabet alphabet → (s t : Sym) (text : List ℕ) → Contains alphabet (s, text) → Contains alphabet (t, text) → s ≡ t
one_symbol alphabet formed s t text first second =
    let (i, at) = slice_get_from_Contains alphabet (s, text) first in
    let (j, at') = slice_get_from_Contains alphabet (t, text) second in
    let texts : (k : ℕ) (e : Sym × List ℕ) → slice_get alphabet k ≡ Some e → slice_get (texts_of alphabet) k ≡ Some e.1 = λ k e here. slice_get-map (λ (e : Sym × List ℕ). e.1) alphabet k ∙ ap (option_map (λ (e : Sym × List ℕ). e.1)) here in
    let same : i ≡ j = formed.apart i j text (texts i (s, text) at) (texts j (t, text) at') in
    let both : (s, text) ≡ (t, text) = same_Some (s, text) (t, text) (sym at ∙ ap (slice_get alphabet) same ∙ at') in
    ap (λ (e : Sym × List ℕ). e.0) both

-- The table of an alphabet, symbol by symbol.

abbrev pub HasFront : List (Sym × List ℕ) → ℕ → List (List ℕ × Sym) → Type 0
HasFront alphabet i table = HasNumbers (take i alphabet) table

cases_of : (b : Bool) → (b ≡ true) ⊎ (b ≡ false)
cases_of true = inl refl
cases_of false = inr refl

pub none_numbered : (alphabet : List (Sym × List ℕ)) (table : List (List ℕ × Sym)) → table ≡ [] → HasFront alphabet 0 table
none_numbered alphabet table none text s = (
  λ e. (let clash : None ≡ Some s = ap (under text) (sym none) ∙ e in absurd (cc)),
  λ h. absurd (Contains-nil_cases (s, text) h),
)

pub one_numbered : (alphabet : List (Sym × List ℕ)) → IsAlphabet alphabet → (i : ℕ) (e : Sym × List ℕ) (old new : List (List ℕ × Sym)) → slice_get alphabet i ≡ Some e → take (i + 1) alphabet ≡ take i alphabet ++ e ∷ []
    → ((other : List ℕ) → under other new ≡ cond (bytes_eq e.1 other) (Some e.0) (under other old)) → HasFront alphabet i old → HasFront alphabet (i + 1) new
one_numbered alphabet formed i e old new here longer put so_far text s =
    subst (λ (z : List (Sym × List ℕ)). (under text new ≡ Some s) ↔ Contains z (s, text)) (sym longer)
    (elim (cases_of (bytes_eq e.1 text)) as (λ _. (under text new ≡ Some s) ↔ Contains (take i alphabet ++ e ∷ []) (s, text)) [
      | inl same ↦ at_text ((bytes_eq-Decides e.1 text).0 same) (put text ∙ ap (λ (b : Bool). cond b (Some e.0) (under text old)) same)
      | inr other ↦ elsewhere (λ same. true≢false (sym ((bytes_eq-Decides e.1 text).1 same) ∙ other)) (put text ∙ ap (λ (b : Bool). cond b (Some e.0) (under text old)) other)
    ])
  where
    e_among : Contains alphabet e
    e_among = Contains-from_slice_get alphabet i e here

    front_among : Contains (take i alphabet) (s, text) → Contains alphabet (s, text)
    front_among h = subst (λ (z : List (Sym × List ℕ)). Contains z (s, text)) (take-append-drop i alphabet) (Contains-append_left (take i alphabet) (drop i alphabet) (s, text) h)

    at_text : e.1 ≡ text → under text new ≡ Some e.0 → (under text new ≡ Some s) ↔ Contains (take i alphabet ++ e ∷ []) (s, text)
    at_text same found = (
      λ is.
          (let symbol : e.0 ≡ s = same_Some e.0 s (sym found ∙ is) in
          let own : e ≡ (s, text) = (λ j. (symbol j, same j)) in
          subst (Contains (take i alphabet ++ e ∷ [])) own (Contains-push (take i alphabet) e)),
      λ h.
          elim (Contains-push_cases (take i alphabet) e (s, text) h) as (λ _. under text new ≡ Some s) [
            | inl before ↦ (let own : Contains alphabet (e.0, text) = subst (λ (t : List ℕ). Contains alphabet (e.0, t)) same e_among in
                found ∙ ap (λ (z : Sym). Some z) (one_symbol alphabet formed e.0 s text own (front_among before)))
            | inr is ↦ found ∙ ap (λ (z : Sym × List ℕ). Some z.0) is
          ],
    )

    elsewhere : (e.1 ≡ text → ⊥) → under text new ≡ under text old → (under text new ≡ Some s) ↔ Contains (take i alphabet ++ e ∷ []) (s, text)
    elsewhere differs same = (
      λ is. Contains-append_left (take i alphabet) (e ∷ []) (s, text) ((so_far text s).0 (sym same ∙ is)),
      λ h.
          elim (Contains-push_cases (take i alphabet) e (s, text) h) as (λ _. under text new ≡ Some s) [
            | inl before ↦ same ∙ (so_far text s).1 before
            | inr is ↦ absurd (differs (ap (λ (z : Sym × List ℕ). z.1) is))
          ],
    )

-- one symbol of the alphabet more, by its text
pub symbol_numbered : (alphabet : List (Sym × List ℕ)) → IsAlphabet alphabet → (symbols : List Sym) (i : ℕ) (s : Sym) (text : List ℕ) (old new : List (List ℕ × Sym)) → symbols ≡ symbols_of alphabet → i < length symbols
    → slice_get symbols i ≡ Some s → text ≡ joined (spelled alphabet (s ∷ [])) → ((other : List ℕ) → under other new ≡ cond (bytes_eq text other) (Some s) (under other old)) → HasFront alphabet i old → HasFront alphabet (i + 1) new
symbol_numbered alphabet formed symbols i s text old new same below at text_is put so_far =
    by (slice_get alphabet i) refl (sym (slice_get-map (λ (e : Sym × List ℕ). e.0) alphabet i) ∙ ap (λ (z : List Sym). slice_get z i) (sym same) ∙ at)
  where
    by : (o : Option (Sym × List ℕ)) → slice_get alphabet i ≡ o → option_map (λ (e : Sym × List ℕ). e.0) o ≡ Some s → HasFront alphabet (i + 1) new
    by None here is = let clash : None ≡ Some s = is in absurd (cc)
    by (Some e) here is =
        let symbol : e.0 ≡ s = same_Some e.0 s is in
        let within = slice_get_within alphabet i e here in
        let among = Contains-from_slice_get alphabet i e here in
        let own : text_of alphabet e.0 ≡ e.1 = text_of-pair alphabet formed.distinct e.0 e.1 among in
        let name : text ≡ e.1 = text_is ∙ append-nil (text_of alphabet s) ∙ ap (text_of alphabet) (sym symbol) ∙ own in
        let item : get_or alphabet i e ≡ e = same_Some (get_or alphabet i e) e (sym (slice_get-get_or alphabet i e within) ∙ here) in
        let longer : take (i + 1) alphabet ≡ take i alphabet ++ e ∷ [] = take_more alphabet i e within ∙ ap (λ (z : Sym × List ℕ). take i alphabet ++ z ∷ []) item in
        one_numbered alphabet formed i e old new here longer
        (subst (λ (t : List ℕ). (other : List ℕ) → under other new ≡ cond (bytes_eq t other) (Some e.0) (under other old)) name
        (subst (λ (z : Sym). (other : List ℕ) → under other new ≡ cond (bytes_eq text other) (Some z) (under other old)) (sym symbol) put)) so_far

pub all_numbered : (alphabet : List (Sym × List ℕ)) (symbols : List Sym) (i : ℕ) (table : List (List ℕ × Sym)) → symbols ≡ symbols_of alphabet → length symbols ≤ i → HasFront alphabet i table → HasNumbers alphabet table
all_numbered alphabet symbols i table same past so_far =
    let count : length alphabet ≤ i = (let size = ap (λ (z : List Sym). length z) same in omega (arith, past, size, length-map alphabet (λ (e : Sym × List ℕ). e.0))) in
    subst (λ (z : List (Sym × List ℕ)). HasNumbers z table) (take_all i alphabet count) so_far

-- A pair by the table.

module _ (alphabet : List (Sym × List ℕ)) (formed : IsAlphabet alphabet) (table : List (List ℕ × Sym)) (has : HasNumbers alphabet table) where
  side_told : (side : Option (List ℕ)) (found : Option Sym) → side_in table side ≡ Some found → option_map (text_of alphabet) found ≡ side
  side_told None found is = let same : None ≡ found = same_Some None found is in ap (option_map (text_of alphabet)) (sym same)
  side_told (Some text) found is = by (under text table) refl is
    where
      by : (o : Option Sym) → under text table ≡ o → option_map (λ (s : Sym). Some s) o ≡ Some found → option_map (text_of alphabet) found ≡ Some text
      by None e is = let clash : None ≡ Some found = is in absurd (cc)
      by (Some s) e is =
          let same : Some s ≡ found = same_Some (Some s) found is in
          ap (option_map (text_of alphabet)) (sym same) ∙ ap (λ (t : List ℕ). Some t) (text_of-pair alphabet formed.distinct s text ((has text s).0 e))

  side_back : (found : Option Sym) → ((s : Sym) → found ≡ Some s → Contains (symbols_of alphabet) s) → side_in table (option_map (text_of alphabet) found) ≡ Some found
  side_back None among = refl
  side_back (Some s) among = ap (option_map (λ (z : Sym). Some z)) ((has (text_of alphabet s) s).1 (entry_of alphabet formed s (among s refl)))

  pub pair_told : (x : Letter) (y : Pair) → pair_in table x ≡ Some y → letter_in (text_of alphabet) y ≡ x
  pair_told x y is = by (side_in table x.up) (side_in table x.low) refl refl is
    where
      by : (u l : Option (Option Sym)) → side_in table x.up ≡ u → side_in table x.low ≡ l → option_and_then (λ (up : Option Sym). option_map (λ (low : Option Sym). record { up = up; low = low }) l) u ≡ Some y → letter_in (text_of alphabet) y ≡ x
      by None l e h is = let clash : None ≡ Some y = is in absurd (cc)
      by (Some up) None e h is = let clash : None ≡ Some y = is in absurd (cc)
      by (Some up) (Some low) e h is =
          let own : record { up = up; low = low } ≡ y = same_Some (record { up = up; low = low }) y is in
          let first : option_map (text_of alphabet) y.up ≡ x.up = ap (λ (z : Pair). option_map (text_of alphabet) z.up) (sym own) ∙ side_told x.up up e in
          let second : option_map (text_of alphabet) y.low ≡ x.low = ap (λ (z : Pair). option_map (text_of alphabet) z.low) (sym own) ∙ side_told x.low low h in
          λ i. record { up = first i; low = second i }

  pub pair_back : (y : Pair) → IsPairOver (symbols_of alphabet) y → pair_in table (letter_in (text_of alphabet) y) ≡ Some y
  pair_back y over =
      let up = side_back y.up over.up in
      let low = side_back y.low over.low in
      λ i. option_and_then (λ (u : Option Sym). option_map (λ (l : Option Sym). record { up = u; low = l }) (low i)) (up i)

-- A string by the table.

module _ (table : List (List ℕ × Sym)) (pairs : List Pair) where
  pub not_found : (x : Letter) → pair_in table x ≡ None → ¬ IsAmong table pairs x
  not_found x none (y, is, among) = let clash : None ≡ Some y = sym none ∙ is in cc

  pub not_there : (x : Letter) (found : Pair) → pair_in table x ≡ Some found → ¬ Contains pairs found → ¬ IsAmong table pairs x
  not_there x found at none (y, is, among) = none (subst (Contains pairs) (same_Some y found (sym is ∙ at)) among)

  pub record AreNumbered (letters : List Letter) (word : List Pair) : Type 0 where
    pub same : map (pair_in table) letters ≡ map (λ y. Some y) word
    pub over : IsOver pairs word

  pub numbered_none : AreNumbered [] []
  numbered_none = record { same = refl; over = All-nil (Contains pairs) }

  pub numbered_more : (letters : List Letter) (word : List Pair) (x : Letter) (y : Pair) → AreNumbered letters word → pair_in table x ≡ Some y → Contains pairs y → AreNumbered (letters ++ x ∷ []) (word ++ y ∷ [])
  numbered_more letters word x y so_far is among = record {
    same = map-append (pair_in table) letters (x ∷ []) ∙ (λ i. so_far.same i ++ is i ∷ []) ∙ sym (map-append (λ (z : Pair). Some z) word (y ∷ []));
    over = All-append (Contains pairs) word (y ∷ []) so_far.over (All-cons (Contains pairs) y [] among (All-nil (Contains pairs)));
  }

  each_among : (letters : List Letter) (word : List Pair) → map (pair_in table) letters ≡ map (λ y. Some y) word → IsOver pairs word → (x : Letter) → Contains letters x → IsAmong table pairs x
  each_among [] word same over x h = absurd (Contains-nil_cases x h)
  each_among (l ∷ letters) [] same over x h = let clash : pair_in table l ∷ map (pair_in table) letters ≡ [] = same in absurd (cc)
  each_among (l ∷ letters) (y ∷ word) same over x h =
      let both : pair_in table l ∷ map (pair_in table) letters ≡ Some y ∷ map (λ z. Some z) word = same in
      let head : pair_in table l ≡ Some y = cc in
      let tail : map (pair_in table) letters ≡ map (λ z. Some z) word = cc in
      elim (Contains-cons_cases l letters x h) as (λ _. IsAmong table pairs x) [
        | inl is ↦ (y, ap (pair_in table) (sym is) ∙ head, All-head (Contains pairs) y word over)
        | inr more ↦ each_among letters word tail (All-tail (Contains pairs) y word over) x more
      ]

  pub same_length : (letters : List Letter) (word : List Pair) → map (pair_in table) letters ≡ map (λ y. Some y) word → length letters ≡ length word
  same_length letters word same = sym (length-map letters (pair_in table)) ∙ ap (λ (z : List (Option Pair)). length z) same ∙ length-map word (λ y. Some y)

  pub numbered_outside : (letters behind : List Letter) (word : List Pair) (x : Letter) (number : ℕ) → AreNumbered letters word → ¬ IsAmong table pairs x → number ≡ length word + 1 → IsNumbered table pairs (letters ++ x ∷ behind) (Outside number)
  numbered_outside letters behind word x number so_far none is =
      (letters, x, behind, refl, is ∙ ap (λ n. n + 1) (sym (same_length letters word so_far.same)), each_among letters word so_far.same so_far.over, none)

  -- the string up to a place
  module _ {A : Type 0} (f : A → Letter) (xs : List A) (i : ℕ) (x : A) (below : i < length xs) (is : x ≡ get_or xs i x) where
    longer : take (i + 1) xs ≡ take i xs ++ x ∷ []
    longer = take_more xs i x below ∙ ap (λ (z : A). take i xs ++ z ∷ []) (sym is)

    pub numbered_step : (word new : List Pair) (y : Pair) → AreNumbered (map f (take i xs)) word → pair_in table (f x) ≡ Some y → Contains pairs y → new ≡ word ++ y ∷ [] → AreNumbered (map f (take (i + 1) xs)) new
    numbered_step word new y so_far found among new_is =
        subst (AreNumbered (map f (take (i + 1) xs))) (sym new_is)
        (subst (λ (z : List Letter). AreNumbered z (word ++ y ∷ [])) (sym (map-append f (take i xs) (x ∷ [])) ∙ ap (map f) (sym longer)) (numbered_more (map f (take i xs)) word (f x) y so_far found among))

    pub numbered_stop : (word : List Pair) (number : ℕ) → AreNumbered (map f (take i xs)) word → ¬ IsAmong table pairs (f x) → number ≡ length word + 1 → IsNumbered table pairs (map f xs) (Outside number)
    numbered_stop word number so_far none count =
        let whole : map f xs ≡ map f (take i xs) ++ f x ∷ map f (drop (i + 1) xs) =
        ap (map f) (sym (take-append-drop (i + 1) xs) ∙ ap (λ (z : List A). z ++ drop (i + 1) xs) longer) ∙ map-append f (take i xs ++ x ∷ []) (drop (i + 1) xs)
        ∙ ap (λ (z : List Letter). z ++ map f (drop (i + 1) xs)) (map-append f (take i xs) (x ∷ [])) ∙ append_assoc (map f (take i xs)) (f x ∷ []) (map f (drop (i + 1) xs)) in
        subst (λ (z : List Letter). IsNumbered table pairs z (Outside number)) (sym whole) (numbered_outside (map f (take i xs)) (map f (drop (i + 1) xs)) word (f x) number so_far none count)
