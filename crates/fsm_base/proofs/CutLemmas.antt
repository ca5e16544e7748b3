-- The cut of a text takes the longest symbol at each place.
use Rattle.std.proofs.Common.{◌≡◌, ℕ, ◌+◌, ◌-◌, ◌<◌, ◌≤◌, zero, suc, Bool, true, false, cond, List, [], ◌∷◌, ◌++◌, length, drop, Option, Some, None, Result, Ok, Err, All, Contains, MatchOption, MatchResult, nat_eq, nat_lt, refl, sym, ap, subst, ◌∙◌, ◌⊎◌, inl, inr, arith, append_assoc, append-nil, length-append}
use Rattle.std.proofs.lemmas.Bool.{cases_lt}
use Rattle.std.proofs.lemmas.Bool.Decides.{Decides-eqb, nat_tests}
use Rattle.std.proofs.lemmas.List.Elements.{All-contains}
use Rattle.std.proofs.lemmas.List.Sums.{sum_by-append}
use Rattle.std.proofs.lemmas.Slice.Eq.{starts_is}
use Rattle.std.specs.List.{starts_with, slice_index_or}
use Rattle.word_relations.specs.Words.{joined}
use Rattle.fsm_base.specs.Symbols.{IsSymbol}
use Rattle.fsm_base.specs.Cut.{longer, longest, begins_character, characters, followed, cut_by, cut_behind, cut}
use Rattle.fsm_base.specs.Longest.{BeginsWith, IsLongest, BeginsWithNone, TakesLongest, StopsAt}

-- the first of a list, or one of the others
pub Contains-cons_cases : {X : Type 0} (y : X) (xs : List X) (x : X) → Contains (y ∷ xs) x → (y ≡ x) ⊎ Contains xs x
Contains-cons_cases y xs x h = by h.0 h.1 h.2
  where
    by : (k : ℕ) → k < length (y ∷ xs) → slice_index_or (y ∷ xs) k x ≡ x → (y ≡ x) ⊎ Contains xs x
    by zero l e = inl e
    by (suc k) l e = inr (k, omega arith, e)

pub Contains-first : {X : Type 0} (y : X) (xs : List X) → Contains (y ∷ xs) y
Contains-first y xs = (0, omega arith, refl)

pub Contains-later : {X : Type 0} (y : X) (xs : List X) (x : X) → Contains xs x → Contains (y ∷ xs) x
Contains-later y xs x h = (suc h.0, omega (arith, h.1), h.2)

-- the test of a front
pub begins_from_test : (text s : List ℕ) → starts_with nat_eq text s ≡ true → BeginsWith text s
begins_from_test text s passes = (drop (length s) text, (starts_is Decides-eqb text s _ refl).0 passes)

pub test_from_begins : (text s : List ℕ) → BeginsWith text s → starts_with nat_eq text s ≡ true
test_from_begins text s b = (starts_is Decides-eqb text s _ refl).1 b.0 b.1

-- two fronts of one text that are as long are the same
pub front_same : (s t r q : List ℕ) → s ++ r ≡ t ++ q → length s ≡ length t → s ≡ t
front_same [] [] r q e l = refl
front_same [] (y ∷ t) r q e l = absurd (omega arith)
front_same (x ∷ s) [] r q e l = absurd (omega arith)
front_same (x ∷ s) (y ∷ t) r q e l =
    let head : x ≡ y = cc in
    let tail : s ++ r ≡ t ++ q = cc in
    let rest : s ≡ t = front_same s t r q tail (omega arith) in
    cc

-- `longest` gives the longest symbol
pub longest_is : (symbols : List (List ℕ)) (text : List ℕ) → MatchOption (longest symbols text) (BeginsWithNone symbols text) (IsLongest symbols text)
longest_is [] text = λ s among _. absurd (omega (arith, among.1))
longest_is (s ∷ symbols) text = by (starts_with nat_eq text s) refl (longest symbols text) (longest_is symbols text)
  where
    by : (b : Bool) → starts_with nat_eq text s ≡ b → (o : Option (List ℕ)) → MatchOption o (BeginsWithNone symbols text) (IsLongest symbols text)
        → MatchOption (cond b (Some (longer s o)) o) (BeginsWithNone (s ∷ symbols) text) (IsLongest (s ∷ symbols) text)
    by false test None none = λ t among begins. elim (Contains-cons_cases s symbols t among) [
      | inl e ↦ let passes = test_from_begins text s (subst (λ v. BeginsWith text v) (sym e) begins) in cc
      | inr later ↦ none t later begins
    ]
    by false test (Some u) is = record {
      listed = Contains-later s symbols u is.listed;
      begins = is.begins;
      longest = λ t among begins. elim (Contains-cons_cases s symbols t among) as (λ _. length t ≤ length u) [
        | inl e ↦ let passes = test_from_begins text s (subst (λ v. BeginsWith text v) (sym e) begins) in cc
        | inr later ↦ is.longest t later begins
      ];
    }
    by true test None none = record {
      listed = Contains-first s symbols;
      begins = begins_from_test text s test;
      longest = λ t among begins. elim (Contains-cons_cases s symbols t among) as (λ _. length t ≤ length s) [
        | inl e ↦ let same : length s ≡ length t = ap length e in omega arith
        | inr later ↦ absurd (none t later begins)
      ];
    }
    by true test (Some u) is = elim (cases_lt (length s) (length u)) as (λ _. IsLongest (s ∷ symbols) text (longer s (Some u))) [
      | inl below ↦
          let shorter : nat_lt (length s) (length u) ≡ true = grind (arith, nat_tests) in
          let e : longer s (Some u) ≡ u = ap (λ b. cond b u s) shorter in
          subst (λ v. IsLongest (s ∷ symbols) text v) (sym e) (record {
            listed = Contains-later s symbols u is.listed;
            begins = is.begins;
            longest = λ t among begins. elim (Contains-cons_cases s symbols t among) as (λ _. length t ≤ length u) [
              | inl same ↦ let l : length s ≡ length t = ap length same in omega arith
              | inr later ↦ is.longest t later begins
            ];
          })
      | inr above ↦
          let no_shorter : nat_lt (length s) (length u) ≡ false = grind (arith, nat_tests) in
          let e : longer s (Some u) ≡ s = ap (λ b. cond b u s) no_shorter in
          subst (λ v. IsLongest (s ∷ symbols) text v) (sym e) (record {
            listed = Contains-first s symbols;
            begins = begins_from_test text s test;
            longest = λ t among begins. elim (Contains-cons_cases s symbols t among) as (λ _. length t ≤ length s) [
              | inl same ↦ let l : length s ≡ length t = ap length same in omega arith
              | inr later ↦ let l : length t ≤ length u = is.longest t later begins in omega arith
            ];
          })
    ]

-- only one symbol is the longest
pub longest-from_is : (symbols : List (List ℕ)) (text s : List ℕ) → IsLongest symbols text s → longest symbols text ≡ Some s
longest-from_is symbols text s is = by (longest symbols text) refl (longest_is symbols text)
  where
    by : (o : Option (List ℕ)) → longest symbols text ≡ o → MatchOption o (BeginsWithNone symbols text) (IsLongest symbols text) → longest symbols text ≡ Some s
    by None e none = absurd (none s is.listed is.begins)
    by (Some t) e other = e ∙ ap Some (front_same t s other.begins.0 is.begins.0 (sym other.begins.1 ∙ is.begins.1)
        (let up : length t ≤ length s = is.longest t other.listed other.begins in
        let down : length s ≤ length t = other.longest s is.listed is.begins in
        omega arith))

pub longest-from_none : (symbols : List (List ℕ)) (text : List ℕ) → BeginsWithNone symbols text → longest symbols text ≡ None
longest-from_none symbols text none = by (longest symbols text) refl (longest_is symbols text)
  where
    by : (o : Option (List ℕ)) → longest symbols text ≡ o → MatchOption o (BeginsWithNone symbols text) (IsLongest symbols text) → longest symbols text ≡ None
    by None e _ = e
    by (Some t) e is = absurd (none t is.listed is.begins)

-- the cut behind the rest of a symbol is the cut of what follows it
cut_behind-append : (symbols : List (List ℕ)) (s rest : List ℕ) → cut_behind symbols (length s) (s ++ rest) ≡ cut symbols rest
cut_behind-append symbols [] rest = refl
cut_behind-append symbols (b ∷ s) rest = cut_behind-append symbols s rest

-- the cut of a text that begins with a symbol
pub cut-symbol : (symbols : List (List ℕ)) (text s rest : List ℕ) → 0 < length s → text ≡ s ++ rest → longest symbols text ≡ Some s → cut symbols text ≡ followed s (cut symbols rest)
cut-symbol symbols text [] rest some e is = absurd (omega arith)
cut-symbol symbols text (b ∷ s) rest some e is =
    let is' : longest symbols (b ∷ (s ++ rest)) ≡ Some (b ∷ s) = subst (λ t. longest symbols t ≡ Some (b ∷ s)) e is in
    let less : length s ≡ length (b ∷ s) - 1 = omega arith in
    let behind : cut_behind symbols (length (b ∷ s) - 1) (s ++ rest) ≡ cut symbols rest = subst (λ n. cut_behind symbols n (s ++ rest) ≡ cut symbols rest) less (cut_behind-append symbols s rest) in
    ap (λ t. cut symbols t) e
    ∙ ap (λ o. cut_by o (λ n. cut_behind symbols (n - 1) (s ++ rest))) is'
    ∙ ap (λ r. followed (b ∷ s) r) behind

-- the cut of a text that begins with none
pub cut-none : (symbols : List (List ℕ)) (text : List ℕ) → 0 < length text → longest symbols text ≡ None → cut symbols text ≡ Err 1
cut-none symbols [] some is = absurd (omega arith)
cut-none symbols (b ∷ text) some is = ap (λ o. cut_by o (λ n. cut_behind symbols (n - 1) text)) is

-- these symbols, and then what a cut gives
abbrev pub preceded : List (List ℕ) → Result (List (List ℕ)) ℕ → Result (List (List ℕ)) ℕ
preceded word (Ok more) = Ok (word ++ more)
preceded word (Err place) = Err (characters (joined word) + place)

pub characters-append : (xs ys : List ℕ) → characters (xs ++ ys) ≡ characters xs + characters ys
characters-append xs ys = sum_by-append (λ b. cond (begins_character b) 1 0) xs ys

pub preceded-nil : (r : Result (List (List ℕ)) ℕ) → preceded [] r ≡ r
preceded-nil (Ok more) = refl
preceded-nil (Err place) = ap Err (omega arith)

pub preceded-cons : (s : List ℕ) (word : List (List ℕ)) (r : Result (List (List ℕ)) ℕ) → followed s (preceded word r) ≡ preceded (s ∷ word) r
preceded-cons s word (Ok more) = refl
preceded-cons s word (Err place) = ap Err (omega (arith, characters-append s (joined word)))

pub joined-push : (word : List (List ℕ)) (s : List ℕ) → joined (word ++ s ∷ []) ≡ joined word ++ s
joined-push [] s = append-nil s
joined-push (t ∷ word) s = ap (λ (z : List ℕ). t ++ z) (joined-push word s) ∙ sym (append_assoc t (joined word) s)

pub preceded-push : (word : List (List ℕ)) (s : List ℕ) (r : Result (List (List ℕ)) ℕ) → preceded word (followed s r) ≡ preceded (word ++ s ∷ []) r
preceded-push word s (Ok more) = ap Ok (sym (append_assoc word (s ∷ []) more))
preceded-push word s (Err place) = ap Err (omega (arith, characters-append (joined word) s, ap characters (joined-push word s)))

module _ (symbols : List (List ℕ)) (are : All IsSymbol symbols) where
  -- the cut begins with the symbols that are taken
  pub cut-from_takes : (word : List (List ℕ)) (text rest : List ℕ) → TakesLongest symbols text word rest → cut symbols text ≡ preceded word (cut symbols rest)
  cut-from_takes [] text rest e = ap (λ t. cut symbols t) e ∙ sym (preceded-nil (cut symbols rest))
  cut-from_takes (s ∷ word) text rest t =
      cut-symbol symbols text s t.0 (All-contains IsSymbol symbols s are t.1.listed) t.2 (longest-from_is symbols text s t.1)
      ∙ ap (λ r. followed s r) (cut-from_takes word t.0 rest t.3)
      ∙ preceded-cons s word (cut symbols rest)

  -- the word of a cut, and no other, takes the longest symbol at each place
  pub cut-from_whole : (text : List ℕ) (word : List (List ℕ)) → TakesLongest symbols text word [] → cut symbols text ≡ Ok word
  cut-from_whole text word t = cut-from_takes word text [] t ∙ ap Ok (append-nil word)

  -- the cut stops at this place, and at no other
  pub cut-from_stop : (text : List ℕ) (place : ℕ) → StopsAt symbols text place → cut symbols text ≡ Err place
  cut-from_stop text place s =
      cut-from_takes s.word text s.rest s.takes
      ∙ ap (λ r. preceded s.word r) (cut-none symbols s.rest s.more (longest-from_none symbols s.rest s.none))
      ∙ ap Err (sym s.at)

  -- one more symbol at the front
  stop_later : (text s rest : List ℕ) (place : ℕ) → IsLongest symbols text s → text ≡ s ++ rest → StopsAt symbols rest place → StopsAt symbols text (characters s + place)
  stop_later text s rest place is e stop = record {
    word = s ∷ stop.word;
    rest = stop.rest;
    takes = (rest, is, e, stop.takes);
    more = stop.more;
    none = stop.none;
    at = omega (arith, stop.at, characters-append s (joined stop.word));
  }

  takes_by : (n : ℕ) (text : List ℕ) → length text ≤ n → MatchResult (cut symbols text) (λ word. TakesLongest symbols text word []) (StopsAt symbols text)
  takes_by n [] l = refl
  takes_by zero (b ∷ text) l = absurd (omega arith)
  takes_by (suc n) (b ∷ text) l = by (λ rest shorter. takes_by n rest shorter) (longest symbols (b ∷ text)) refl (longest_is symbols (b ∷ text))
    where
      later : (s rest : List ℕ) → IsLongest symbols (b ∷ text) s → (b ∷ text) ≡ s ++ rest → (r : Result (List (List ℕ)) ℕ) → MatchResult r (λ word. TakesLongest symbols rest word []) (StopsAt symbols rest)
          → MatchResult (followed s r) (λ word. TakesLongest symbols (b ∷ text) word []) (StopsAt symbols (b ∷ text))
      later s rest is e (Ok word) t = (rest, is, e, t)
      later s rest is e (Err place) t = stop_later (b ∷ text) s rest place is e t

      by : ((rest : List ℕ) → length rest ≤ n → MatchResult (cut symbols rest) (λ word. TakesLongest symbols rest word []) (StopsAt symbols rest)) → (o : Option (List ℕ)) → longest symbols (b ∷ text) ≡ o → MatchOption o (BeginsWithNone symbols (b ∷ text)) (IsLongest symbols (b ∷ text))
          → MatchResult (cut symbols (b ∷ text)) (λ word. TakesLongest symbols (b ∷ text) word []) (StopsAt symbols (b ∷ text))
      by takes None e none =
          subst (λ r. MatchResult r (λ word. TakesLongest symbols (b ∷ text) word []) (StopsAt symbols (b ∷ text))) (sym (cut-none symbols (b ∷ text) (omega arith) e))
          (record { word = []; rest = b ∷ text; takes = refl; more = omega arith; none = none; at = refl })
      by takes (Some s) e is =
          let some : 0 < length s = All-contains IsSymbol symbols s are is.listed in
          let rest = is.begins.0 in
          let whole : (b ∷ text) ≡ s ++ rest = is.begins.1 in
          let shorter : length rest ≤ n = omega (arith, ap length whole, length-append s rest) in
          subst (λ r. MatchResult r (λ word. TakesLongest symbols (b ∷ text) word []) (StopsAt symbols (b ∷ text))) (sym (cut-symbol symbols (b ∷ text) s rest some whole e))
          (later s rest is whole (cut symbols rest) (takes rest shorter))

  -- the cut takes the longest symbol at each place
  pub cut_takes : (text : List ℕ) → MatchResult (cut symbols text) (λ word. TakesLongest symbols text word []) (StopsAt symbols text)
  cut_takes text = takes_by (length text) text (omega arith)

-- the symbols that are taken and the rest, joined, are the text
pub joined-takes : (symbols : List (List ℕ)) (word : List (List ℕ)) (text rest : List ℕ) → TakesLongest symbols text word rest → text ≡ joined word ++ rest
joined-takes symbols [] text rest e = e
joined-takes symbols (s ∷ word) text rest t = t.2 ∙ ap (λ (z : List ℕ). s ++ z) (joined-takes symbols word t.0 rest t.3) ∙ sym (append_assoc s (joined word) rest)
