-- Alphabets: the text of a symbol, and the words that a cut gives.
use Rattle.std.proofs.Common.{◌≡◌, ℕ, ◌+◌, ◌-◌, ◌<◌, ◌≤◌, zero, suc, Bool, true, false, cond, List, [], ◌∷◌, ◌++◌, length, map, take, drop, Option, Some, None, Ok, Err, All, Contains, nat_eq, get_or, slice_get, refl, sym, ap, subst, ◌∙◌, ◌⊎◌, inl, inr, arith, append-nil, true≢false}
use Rattle.std.proofs.lemmas.Bool.Decides.{Decides-eqb}
use Rattle.std.proofs.lemmas.List.{map-append, length-drop, length-append, drop_all}
use Rattle.std.proofs.lemmas.List.Prefix.{front_rest}
use Rattle.std.proofs.Math.Seq.{take-add, take-length, take-append_seam, drop-nil}
use Rattle.std.proofs.lemmas.List.Elements.{All-contains, All-push, All-map, All-weaker, All-nil, All-get_or}
use Rattle.std.proofs.lemmas.List.Sorted.{IsPermutation-map, IsPermutation-sym, Contains-permutation}
use Rattle.std.proofs.lemmas.Option.{slice_get-map, slice_get_cases, slice_get-get_or}
use Rattle.std.specs.List.{slice_index_or}
use Rattle.std.specs.List.Sorted.{IsPermutation}
use Rattle.std.specs.Option.{option_map}
use Rattle.word_relations.specs.Words.{IsDistinct, IsOver, joined}
use Rattle.fsm_base.specs.Symbols.{IsSymbol, IsTable}
use Rattle.fsm_base.specs.Alphabet.{IsAlphabet, listed, symbols_of, texts_of, text_of, spelled}
use Rattle.fsm_base.specs.Cut.{cut, characters}
use Rattle.fsm_base.specs.Longest.{IsLongest, BeginsWithNone}
use Rattle.fsm_base.specs.Kept.{IsKept}
use Rattle.fsm_base.specs.Lone.{AreLone}
use Rattle.fsm_base.specs.Sorted.{IsByText, IsNext, entries_of, pair_of, texts_in}
use Rattle.fsm_base.specs.declared.letters.Sym.{Sym}
use Rattle.fsm_base.specs.declared.longest.Entry.{Entry}
use Rattle.fsm_base.proofs.CutLemmas.{Contains-cons_cases, preceded, preceded-nil, preceded-push, joined-push, cut-symbol, cut-none, longest-from_is, longest-from_none}

-- symbols with one number are one symbol
pub same_symbol : (s t : Sym) → nat_eq s.0 t.0 ≡ true → s ≡ t
same_symbol s t test = let e : s.0 ≡ t.0 = (Decides-eqb s.0 t.0).0 test in λ i. record { 0 = e i }

-- a part of a list of distinct things
pub IsDistinct-tail : {X : Type 0} (x : X) (xs : List X) → IsDistinct (x ∷ xs) → IsDistinct xs
IsDistinct-tail x xs apart i j y at_i at_j = let e : suc i ≡ suc j = apart (suc i) (suc j) y at_i at_j in omega arith

pub no_repeat : {X : Type 0} (x : X) (xs : List X) → IsDistinct (x ∷ xs) → Contains xs x → ⊥
no_repeat x xs apart h =
    let e : 0 ≡ suc h.0 = apart 0 (suc h.0) x refl (slice_get-get_or xs h.0 x h.1 ∙ ap Some h.2) in
    absurd (omega arith)

-- a pair of the alphabet is a symbol and its text
pub text_of-pair : (alphabet : List (Sym × List ℕ)) → IsDistinct (symbols_of alphabet) → (s : Sym) (t : List ℕ) → Contains alphabet (s, t) → text_of alphabet s ≡ t
text_of-pair [] apart s t h = absurd (omega (arith, h.1))
text_of-pair (e ∷ alphabet) apart s t h = by (nat_eq s.0 e.0.0) refl (Contains-cons_cases e alphabet (s, t) h) (text_of-pair alphabet (IsDistinct-tail e.0 (symbols_of alphabet) apart) s t)
  where
    Contains-symbol : (es : List (Sym × List ℕ)) (k : ℕ) → k < length es → get_or es k (s, t) ≡ (s, t) → Contains (symbols_of es) s
    Contains-symbol [] k l e = absurd (omega arith)
    Contains-symbol (x ∷ es) zero l e = (0, omega arith, ap (λ p. p.0) e)
    Contains-symbol (x ∷ es) (suc k) l e = let later = Contains-symbol es k (omega arith) e in (suc later.0, omega (arith, later.1), later.2)

    by : (b : Bool) → nat_eq s.0 e.0.0 ≡ b → (e ≡ (s, t)) ⊎ Contains alphabet (s, t) → (Contains alphabet (s, t) → text_of alphabet s ≡ t) → cond b e.1 (text_of alphabet s) ≡ t
    by true test (inl is) later = ap (λ p. p.1) is
    by true test (inr among) later =
        let same : s ≡ e.0 = same_symbol s e.0 test in
        absurd (no_repeat e.0 (symbols_of alphabet) apart (subst (λ v. Contains (symbols_of alphabet) v) same (Contains-symbol alphabet among.0 among.1 among.2)))
    by false test (inl is) later =
        let yes' : nat_eq s.0 e.0.0 ≡ true = (Decides-eqb s.0 e.0.0).1 (ap (λ p. p.0.0) (sym is)) in
        absurd (true≢false (sym yes' ∙ test))
    by false test (inr among) later = later among

-- the same texts stand in both orders
texts-sorted : (sorted : List Entry) → texts_of (map pair_of sorted) ≡ texts_in sorted
texts-sorted [] = refl
texts-sorted (e ∷ sorted) = ap (λ (z : List (List ℕ)). e.text ∷ z) (texts-sorted sorted)

texts_permuted : (alphabet : List (Sym × List ℕ)) (sorted : List Entry) → IsPermutation alphabet (map pair_of sorted) → IsPermutation (texts_of alphabet) (texts_in sorted)
texts_permuted alphabet sorted p = subst (λ ts. IsPermutation (texts_of alphabet) ts) (texts-sorted sorted) (IsPermutation-map (λ e. e.1) alphabet (map pair_of sorted) p)

pub IsLongest-sorted : (alphabet : List (Sym × List ℕ)) (sorted : List Entry) (text s : List ℕ) → IsPermutation alphabet (map pair_of sorted) → IsLongest (texts_in sorted) text s → IsLongest (texts_of alphabet) text s
IsLongest-sorted alphabet sorted text s p is =
    let moved = texts_permuted alphabet sorted p in
    record {
      listed = Contains-permutation _ _ s (IsPermutation-sym _ _ moved) is.listed;
      begins = is.begins;
      longest = λ other among begins. is.longest other (Contains-permutation _ _ other moved among) begins;
    }

pub BeginsWithNone-sorted : (alphabet : List (Sym × List ℕ)) (sorted : List Entry) (text : List ℕ) → IsPermutation alphabet (map pair_of sorted) → BeginsWithNone (texts_in sorted) text → BeginsWithNone (texts_of alphabet) text
BeginsWithNone-sorted alphabet sorted text p none = λ s among begins. none s (Contains-permutation _ _ s (texts_permuted alphabet sorted p) among) begins

-- a symbol of a pair is a symbol of the alphabet
pub Contains-symbols_of : (alphabet : List (Sym × List ℕ)) (s : Sym) (t : List ℕ) → Contains alphabet (s, t) → Contains (symbols_of alphabet) s
Contains-symbols_of alphabet s t h = by alphabet h.0 h.1 h.2
  where
    by : (es : List (Sym × List ℕ)) (k : ℕ) → k < length es → get_or es k (s, t) ≡ (s, t) → Contains (symbols_of es) s
    by [] k l e = absurd (omega arith)
    by (x ∷ es) zero l e = (0, omega arith, ap (λ p. p.0) e)
    by (x ∷ es) (suc k) l e = let later = by es k (omega arith) e in (suc later.0, omega (arith, later.1), later.2)

-- these symbols of a word are cut from the bytes as far as this place
pub record IsCutTo (alphabet : List (Sym × List ℕ)) (bytes : List ℕ) (word : List Sym) (from : ℕ) : Type 0 where
  pub within : from ≤ length bytes
  pub over : IsOver (symbols_of alphabet) word
  pub spells : take from bytes ≡ joined (spelled alphabet word)
  pub cuts : cut (texts_of alphabet) bytes ≡ preceded (spelled alphabet word) (cut (texts_of alphabet) (drop from bytes))

pub cut_to_start : (alphabet : List (Sym × List ℕ)) (bytes : List ℕ) → IsCutTo alphabet bytes [] 0
cut_to_start alphabet bytes = record {
  within = omega arith;
  over = All-nil (Contains (symbols_of alphabet));
  spells = refl;
  cuts = sym (preceded-nil (cut (texts_of alphabet) bytes));
}

-- the word with one more symbol, the longest that begins at its place
pub cut_to_more : (alphabet : List (Sym × List ℕ)) (bytes : List ℕ) (word : List Sym) (from : ℕ) (s : Sym) (t : List ℕ)
    → IsAlphabet alphabet → Contains alphabet (s, t) → IsCutTo alphabet bytes word from → IsLongest (texts_of alphabet) (drop from bytes) t → IsCutTo alphabet bytes (word ++ s ∷ []) (from + length t)
cut_to_more alphabet bytes word from s t formed among to is =
    let texts = texts_of alphabet in
    let own : text_of alphabet s ≡ t = text_of-pair alphabet formed.distinct s t among in
    let rest = is.begins.0 in
    let splits : drop from bytes ≡ t ++ rest = is.begins.1 in
    let some : 0 < length t = All-contains IsSymbol texts t formed.symbols is.listed in
    let spelled_more : spelled alphabet (word ++ s ∷ []) ≡ spelled alphabet word ++ t ∷ [] =
    map-append (λ v. text_of alphabet v) word (s ∷ []) ∙ ap (λ (v : List ℕ). spelled alphabet word ++ v ∷ []) own in
    let behind : drop (from + length t) bytes ≡ rest = drop_drop from (length t) bytes ∙ front_rest (drop from bytes) t rest splits in
    let front : take (length t) (drop from bytes) ≡ t = ap (λ (v : List ℕ). take (length t) v) splits ∙ take-append_seam t rest in
    record {
      within = omega (arith, to.within, length-drop from bytes, ap length splits, length-append t rest);
      over = All-push (Contains (symbols_of alphabet)) word s to.over (Contains-symbols_of alphabet s t among);
      spells = take-add from (length t) bytes ∙ ap (λ (v : List ℕ). v ++ take (length t) (drop from bytes)) to.spells
          ∙ ap (λ (v : List ℕ). joined (spelled alphabet word) ++ v) front
          ∙ sym (joined-push (spelled alphabet word) t) ∙ ap (λ (v : List (List ℕ)). joined v) (sym spelled_more);
      cuts = to.cuts
          ∙ ap (λ r. preceded (spelled alphabet word) r) (cut-symbol texts (drop from bytes) t rest some splits (longest-from_is texts (drop from bytes) t is))
          ∙ preceded-push (spelled alphabet word) t (cut texts rest)
          ∙ ap (λ (v : List (List ℕ)). preceded v (cut texts rest)) (sym spelled_more)
          ∙ ap (λ (v : List ℕ). preceded (spelled alphabet (word ++ s ∷ [])) (cut texts v)) (sym behind);
    }
  where
    drop_drop : (n m : ℕ) (xs : List ℕ) → drop (n + m) xs ≡ drop m (drop n xs)
    drop_drop zero m xs = ap (λ k. drop k xs) (omega arith)
    drop_drop (suc n) m [] = ap (λ (z : List ℕ). z) (drop-nil (suc n + m)) ∙ sym (drop-nil m)
    drop_drop (suc n) m (x ∷ xs) = let e : suc n + m ≡ suc (n + m) = omega arith in ap (λ k. drop k (x ∷ xs)) e ∙ drop_drop n m xs

-- the whole text is cut
pub cut_to_end : (alphabet : List (Sym × List ℕ)) (bytes : List ℕ) (word : List Sym) (from : ℕ) → IsCutTo alphabet bytes word from → length bytes ≤ from → cut (texts_of alphabet) bytes ≡ Ok (spelled alphabet word)
cut_to_end alphabet bytes word from to all =
    to.cuts ∙ ap (λ (v : List ℕ). preceded (spelled alphabet word) (cut (texts_of alphabet) v)) (drop_all from bytes all)
    ∙ ap Ok (append-nil (spelled alphabet word))

-- no symbol begins at this place
pub cut_to_stop : (alphabet : List (Sym × List ℕ)) (bytes : List ℕ) (word : List Sym) (from : ℕ) → IsCutTo alphabet bytes word from → from < length bytes → BeginsWithNone (texts_of alphabet) (drop from bytes)
    → cut (texts_of alphabet) bytes ≡ Err (characters (take from bytes) + 1)
cut_to_stop alphabet bytes word from to more none =
    to.cuts
    ∙ ap (λ r. preceded (spelled alphabet word) r) (cut-none (texts_of alphabet) (drop from bytes) (omega (arith, length-drop from bytes)) (longest-from_none (texts_of alphabet) (drop from bytes) none))
    ∙ ap (λ (v : List ℕ). Err (characters v + 1)) (sym to.spells)

-- the pairs of a list of symbols
pub symbols_of-listed : (table : List (List ℕ)) (syms : List Sym) → symbols_of (listed table syms) ≡ syms
symbols_of-listed table [] = refl
symbols_of-listed table (s ∷ syms) = ap (λ (z : List Sym). s ∷ z) (symbols_of-listed table syms)

pub listed-entries : (table : List (List ℕ)) (syms : List Sym) → map pair_of (entries_of table syms) ≡ listed table syms
listed-entries table [] = refl
listed-entries table (s ∷ syms) = ap (λ (z : List (Sym × List ℕ)). (s, slice_index_or table s.0 []) ∷ z) (listed-entries table syms)

-- the symbols of a table, each once, are an alphabet
pub IsAlphabet-listed : (table : List (List ℕ)) (syms : List Sym) → IsTable table → IsDistinct syms → All (λ s. s.0 < length table) syms → IsAlphabet (listed table syms)
IsAlphabet-listed table syms formed apart held = record {
  distinct = subst (λ v. IsDistinct v) (sym (symbols_of-listed table syms)) apart;
  apart = λ i j x at_i at_j. same_place i j x (slice_get-text i x at_i) (slice_get-text j x at_j);
  symbols = All-map IsSymbol (λ (p : Sym × List ℕ). p.1) (listed table syms)
      (All-map (λ (p : Sym × List ℕ). IsSymbol p.1) (λ (s : Sym). (s, slice_index_or table s.0 [])) syms
      (All-weaker (λ (s : Sym). s.0 < length table) (λ s. IsSymbol (slice_index_or table s.0 [])) (λ s l. All-get_or IsSymbol table s.0 [] l formed.symbols) syms held));
}
  where
    texts-listed : (syms : List Sym) → texts_of (listed table syms) ≡ map (λ (s : Sym). slice_index_or table s.0 []) syms
    texts-listed [] = refl
    texts-listed (s ∷ syms) = ap (λ (z : List (List ℕ)). slice_index_or table s.0 [] ∷ z) (texts-listed syms)

    -- the symbol at a place has this text in the table
    slice_get-text : (i : ℕ) (x : List ℕ) → slice_get (texts_of (listed table syms)) i ≡ Some x → (s : Sym) × (slice_get syms i ≡ Some s) × (slice_get table s.0 ≡ Some x)
    slice_get-text i x at = elim ((slice_get_cases syms i).1) as (λ _. (s : Sym) × (slice_get syms i ≡ Some s) × (slice_get table s.0 ≡ Some x)) [
      | inl p ↦
          let e : Some (slice_index_or table p.0.0 []) ≡ Some x =
          sym (ap (option_map (λ (s : Sym). slice_index_or table s.0 [])) p.2) ∙ sym (slice_get-map (λ (s : Sym). slice_index_or table s.0 []) syms i)
          ∙ ap (λ v. slice_get v i) (sym (texts-listed syms)) ∙ at in
          let within : p.0.0 < length table = subst (λ (v : Sym). v.0 < length table) p.3 (All-get_or (λ (s : Sym). s.0 < length table) syms i p.0 p.1 held) in
          (p.0, p.2, slice_get-get_or table p.0.0 [] within ∙ e)
      | inr p ↦
          let e : None ≡ Some x =
          sym (ap (option_map (λ (s : Sym). slice_index_or table s.0 [])) p.1) ∙ sym (slice_get-map (λ (s : Sym). slice_index_or table s.0 []) syms i)
          ∙ ap (λ v. slice_get v i) (sym (texts-listed syms)) ∙ at in
          cc
    ]

    same_place : (i j : ℕ) (x : List ℕ) → (s : Sym) × (slice_get syms i ≡ Some s) × (slice_get table s.0 ≡ Some x) → (s : Sym) × (slice_get syms j ≡ Some s) × (slice_get table s.0 ≡ Some x) → i ≡ j
    same_place i j x p q =
        let number : p.0.0 ≡ q.0.0 = formed.distinct p.0.0 q.0.0 x p.2 q.2 in
        let same : q.0 ≡ p.0 = λ k. record { 0 = sym number k } in
        apart i j p.0 p.1 (q.1 ∙ ap Some same)

-- an entry is a pair of the alphabet
pub Contains-entry : (alphabet : List (Sym × List ℕ)) (sorted : List Entry) (entry : Entry) → IsPermutation alphabet (map pair_of sorted) → Contains sorted entry → Contains alphabet (entry.symbol, entry.text)
Contains-entry alphabet sorted entry p h = Contains-permutation _ _ _ (IsPermutation-sym _ _ p) (there sorted h.0 h.1 h.2)
  where
    there : (es : List Entry) (k : ℕ) → k < length es → get_or es k entry ≡ entry → Contains (map pair_of es) (entry.symbol, entry.text)
    there [] k l e = absurd (omega arith)
    there (x ∷ es) zero l e = (0, omega arith, ap pair_of e)
    there (x ∷ es) (suc k) l e = let later = there es k (omega arith) e in (suc later.0, omega (arith, later.1), later.2)

-- a symbol of an alphabet has its text in the table
pub text_of-listed : (table : List (List ℕ)) (syms : List Sym) (s : Sym) → Contains syms s → text_of (listed table syms) s ≡ slice_index_or table s.0 []
text_of-listed table syms s h = by syms h.0 h.1 h.2
  where
    step : (x : Sym) (ss : List Sym) (b : Bool) → nat_eq s.0 x.0 ≡ b → (b ≡ false → text_of (listed table ss) s ≡ slice_index_or table s.0 [])
        → cond b (slice_index_or table x.0 []) (text_of (listed table ss) s) ≡ slice_index_or table s.0 []
    step x ss true test later = ap (λ (v : Sym). slice_index_or table v.0 []) (sym (same_symbol s x test))
    step x ss false test later = later refl

    by : (ss : List Sym) (k : ℕ) → k < length ss → get_or ss k s ≡ s → text_of (listed table ss) s ≡ slice_index_or table s.0 []
    by [] k l e = absurd (omega arith)
    by (x ∷ ss) zero l e = step x ss (nat_eq s.0 x.0) refl (λ no. absurd (true≢false (sym ((Decides-eqb s.0 x.0).1 (ap (λ (v : Sym). v.0) (sym e))) ∙ no)))
    by (x ∷ ss) (suc k) l e = step x ss (nat_eq s.0 x.0) refl (λ _. by ss k (omega arith) e)

-- an alphabet as it is kept
pub IsKept-listed : (table : List (List ℕ)) (syms : List Sym) (sorted : List Entry) (lone : List (Option Sym)) → IsTable table → IsDistinct syms → All (λ s. s.0 < length table) syms
    → IsPermutation (entries_of table syms) sorted → IsByText sorted → AreLone sorted lone → IsKept syms table sorted lone
IsKept-listed table syms sorted lone formed apart held same by_text are = record {
  formed = IsAlphabet-listed table syms formed apart held;
  same_symbols = sym (symbols_of-listed table syms);
  within = held;
  same_entries = subst (λ v. IsPermutation v (map pair_of sorted)) (listed-entries table syms) (IsPermutation-map pair_of (entries_of table syms) sorted same);
  by_text = by_text;
  lone_symbols = are;
}

-- the symbol of the longest text is taken, and it is not empty
pub next_taken : (symbols : List Sym) (texts : List (List ℕ)) (sorted : List Entry) (lone : List (Option Sym)) (bytes : List ℕ) (word : List Sym) (from : ℕ) (symbol : Sym) (len : ℕ)
    → IsKept symbols texts sorted lone → IsCutTo (listed texts symbols) bytes word from → IsNext sorted (drop from bytes) symbol len
    → IsCutTo (listed texts symbols) bytes (word ++ symbol ∷ []) (from + len) × (0 < len)
next_taken symbols texts sorted lone bytes word from symbol len kept to next =
    let alphabet = listed texts symbols in
    let longest = IsLongest-sorted alphabet sorted (drop from bytes) next.text kept.same_entries next.longest in
    let some : 0 < length next.text = All-contains IsSymbol (texts_of alphabet) next.text kept.formed.symbols longest.listed in
    let held = Contains-entry alphabet sorted (record { text = next.text; symbol = symbol }) kept.same_entries next.listed in (
      subst (λ (n : ℕ). IsCutTo alphabet bytes (word ++ symbol ∷ []) (from + n)) (sym next.len_is) (cut_to_more alphabet bytes word from symbol next.text kept.formed held to longest),
      omega (arith, next.len_is, some),
    )

-- the text that is kept for a symbol of the alphabet
pub text_kept : (symbols : List Sym) (texts : List (List ℕ)) (sorted : List Entry) (lone : List (Option Sym)) (alphabet : List (Sym × List ℕ)) (s : Sym)
    → IsKept symbols texts sorted lone → listed texts symbols ≡ alphabet → Contains (symbols_of alphabet) s → (s.0 < length texts) × (slice_index_or texts s.0 [] ≡ text_of alphabet s)
text_kept symbols texts sorted lone alphabet s kept is h =
    let among : Contains symbols s = subst (λ (ss : List Sym). Contains ss s) (ap symbols_of (sym is) ∙ sym kept.same_symbols) h in (
      All-contains (λ (v : Sym). v.0 < length texts) symbols s kept.within among,
      sym (text_of-listed texts symbols s among) ∙ ap (λ (a : List (Sym × List ℕ)). text_of a s) is,
    )

-- what a range to the end of a slice holds
pub rest_is : (n : ℕ) (xs : List ℕ) → take (length xs - n) (drop n xs) ≡ drop n xs
rest_is n xs = ap (λ (k : ℕ). take k (drop n xs)) (sym (length-drop n xs)) ∙ take-length (drop n xs)
