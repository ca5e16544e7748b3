-- The keys of a table, and the gloss of a text, key by key.
use Rattle.std.proofs.Common.{◌≡◌, ◌-◌, min, ◌<◌, ◌≤◌, ℕ, Bool, true, false, cond, List, [], ◌∷◌, ◌++◌, length, map, take, drop, Vec, Global, Option, Some, None, unwrap_or, Contains, nat_eq, refl, sym, ap, subst, ◌∙◌, inl, inr, arith, append_assoc, length-append, encode_utf8, chars, get_or, Bor, Ok, Err, is_some}
use Rattle.std.proofs.lemmas.Bool.{cases_lt}
use Rattle.std.proofs.lemmas.List.{length-take, take-append-drop}
use Rattle.std.proofs.lemmas.List.Elements.{All-contains, All-map, All-weaker}
use Rattle.std.specs.Cmp.Lexicographic.{pointwise, bytes_decides}
use Rattle.std.specs.Bool.{if◌then◌else◌}
use Rattle.std.specs.Option.{option_copied}
use Rattle.std.specs.Map.{lookup}
use Rattle.regex_ast.specs.declared.fault.Why.TheVariants as why
use Rattle.fsm_base.specs.Cut.{longest}
use Rattle.fsm_base.specs.Longest.{BeginsWith, IsLongest, BeginsWithNone}
use Rattle.fsm_base.proofs.CutLemmas.{Contains-cons_cases, Contains-first, Contains-later, front_same, longest-from_is, longest-from_none}
use Rattle.interlinear.specs.Glosses.{Entry, keys_in, gloss_of, glossed_by, glossed_behind, with_entry, with_key, entry_of, fields_of}
use Rattle.interlinear.specs.Tables.{kept, IsWithin, AreWithin}

-- a look-up among the entries as they are kept
pub lookup-kept : (entries : List (Vec ℕ Global × List ℕ)) (key : List ℕ) → lookup (λ (other : Vec ℕ Global). pointwise nat_eq key other.items) entries ≡ gloss_of (map kept entries) key
lookup-kept [] key = refl
lookup-kept (entry ∷ entries) key = ap (λ (o : Option (List ℕ)). cond (pointwise nat_eq key entry.0.items) (Some entry.1) o) (lookup-kept entries key)

-- what has a gloss is a key, and what has none isn't
gloss_none : (entries : List Entry) (key : List ℕ) → gloss_of entries key ≡ None → Contains (keys_in entries) key → ⊥
gloss_none [] key none among = absurd (omega (arith, among.1))
gloss_none (e ∷ entries) key none among = by (pointwise nat_eq key e.0) refl (gloss_none entries key) none among
  where
    by : (b : Bool) → pointwise nat_eq key e.0 ≡ b → (gloss_of entries key ≡ None → Contains (keys_in entries) key → ⊥) → cond b (Some e.1) (gloss_of entries key) ≡ None → Contains (e.0 ∷ keys_in entries) key → ⊥
    by true is later none among = cc
    by false is later none among = elim (Contains-cons_cases e.0 (keys_in entries) key among) [
      | inl same ↦ let yes : pointwise nat_eq key e.0 ≡ true = (bytes_decides key e.0).1 (sym same) in cc
      | inr others ↦ later none others
    ]

gloss_some : (entries : List Entry) (key gloss : List ℕ) → gloss_of entries key ≡ Some gloss → Contains (keys_in entries) key
gloss_some [] key gloss is = cc
gloss_some (e ∷ entries) key gloss is = by (pointwise nat_eq key e.0) refl (gloss_some entries key gloss) is
  where
    by : (b : Bool) → pointwise nat_eq key e.0 ≡ b → (gloss_of entries key ≡ Some gloss → Contains (keys_in entries) key) → cond b (Some e.1) (gloss_of entries key) ≡ Some gloss → Contains (e.0 ∷ keys_in entries) key
    by true is later some = subst (λ v. Contains (e.0 ∷ keys_in entries) v) (sym ((bytes_decides key e.0).0 is)) (Contains-first e.0 (keys_in entries))
    by false is later some = Contains-later e.0 (keys_in entries) key (later some)

pub within-more : (most more : ℕ) (entries : List Entry) → most ≤ more → AreWithin most entries → AreWithin more entries
within-more most more entries up within = All-weaker (IsWithin most) (IsWithin more) (λ e w. (w.0, omega (arith, w.1))) entries within

module _ (entries : List Entry) (most : ℕ) (within : AreWithin most entries) where
  key_within : (key : List ℕ) → Contains (keys_in entries) key → (0 < length key) × (length key ≤ most)
  key_within key among = All-contains (λ (k : List ℕ). (0 < length k) × (length k ≤ most)) (keys_in entries) key (All-map (λ (k : List ℕ). (0 < length k) × (length k ≤ most)) (λ (e : Entry). e.0) entries within) among

  -- no key that begins the text is longer than any key, nor than the text
  pub none_longer_first : (text : List ℕ) (n : ℕ) → n ≡ min most (length text) → (key : List ℕ) → Contains (keys_in entries) key → BeginsWith text key → length key ≤ n
  none_longer_first text n is key among begins = omega (arith, is, (key_within key among).1, ap length begins.1, length-append key begins.0)

  pub none_left : (text : List ℕ) (n : ℕ) → n ≤ 0 → ((key : List ℕ) → Contains (keys_in entries) key → BeginsWith text key → length key ≤ n) → BeginsWithNone (keys_in entries) text
  none_left text n none longer key among begins = omega (arith, none, longer key among begins, (key_within key among).0)

module _ (entries : List Entry) (text : List ℕ) (n : ℕ) (fits : n ≤ length text) (none_longer : (key : List ℕ) → Contains (keys_in entries) key → BeginsWith text key → length key ≤ n) where
  -- this front is no key
  pub none_longer_next : gloss_of entries (take n text) ≡ None → (key : List ℕ) → Contains (keys_in entries) key → BeginsWith text key → length key ≤ n - 1
  none_longer_next none key among begins = elim (cases_lt (length key) n) as (λ _. length key ≤ n - 1) [
    | inl below ↦ omega arith
    | inr above ↦
        let up : length key ≤ n = none_longer key among begins in
        let same : key ≡ take n text = front_same key (take n text) begins.0 (drop n text) (sym begins.1 ∙ sym (take-append-drop n text)) (omega (arith, up, above, length-take n text)) in
        absurd (gloss_none entries key (ap (gloss_of entries) same ∙ none) among)
  ]

  -- this front is the longest key
  pub longest_here : (gloss : List ℕ) → gloss_of entries (take n text) ≡ Some gloss → IsLongest (keys_in entries) text (take n text)
  longest_here gloss is = record {
    listed = gloss_some entries (take n text) gloss is;
    begins = (drop n text, sym (take-append-drop n text));
    longest = λ other among begins. omega (arith, none_longer other among begins, length-take n text);
  }

-- One more entry.

pub some_copied : {X : Type 0} (o : Option (Bor X)) → is_some (option_copied o) ≡ is_some o
some_copied None = refl
some_copied (Some x) = refl

pub none_copied : {X : Type 0} (o : Option (Bor X)) → is_some o ≡ false → option_copied o ≡ None
none_copied None none = refl
none_copied (Some x) none = cc

pub entry_again : (entries : List Entry) (entry : Entry) → is_some (gloss_of entries entry.0) ≡ true → with_entry entries (Some entry) ≡ Err why.Duplicate
entry_again entries entry there = ap (λ (b : Bool). if b then Err why.Duplicate else Ok (entries ++ entry ∷ [])) there

pub entry_added : (entries : List Entry) (entry : Entry) → is_some (gloss_of entries entry.0) ≡ false → with_entry entries (Some entry) ≡ Ok (entries ++ entry ∷ [])
entry_added entries entry new = ap (λ (b : Bool). if b then Err why.Duplicate else Ok (entries ++ entry ∷ [])) new

-- The gloss of a text.

skipped_all : (entries : List Entry) (key rest : List ℕ) → glossed_behind entries (length key) (key ++ rest) ≡ glossed_behind entries 0 rest
skipped_all entries [] rest = refl
skipped_all entries (c ∷ key) rest = skipped_all entries key rest

glossed-key : (entries : List Entry) (text key rest : List ℕ) → 0 < length key → text ≡ key ++ rest → longest (keys_in entries) text ≡ Some key → glossed_behind entries 0 text ≡ unwrap_or (gloss_of entries key) [] ++ glossed_behind entries 0 rest
glossed-key entries text [] rest some e is = absurd (omega arith)
glossed-key entries text (c ∷ s) rest some e is =
    let is' : longest (keys_in entries) (c ∷ (s ++ rest)) ≡ Some (c ∷ s) = subst (λ t. longest (keys_in entries) t ≡ Some (c ∷ s)) e is in
    let less : length s ≡ length (c ∷ s) - 1 = omega arith in
    let behind : glossed_behind entries (length (c ∷ s) - 1) (s ++ rest) ≡ glossed_behind entries 0 rest = subst (λ n. glossed_behind entries n (s ++ rest) ≡ glossed_behind entries 0 rest) less (skipped_all entries s rest) in
    ap (glossed_behind entries 0) e
    ∙ ap (λ o. glossed_by entries c o (λ n. glossed_behind entries (n - 1) (s ++ rest))) is'
    ∙ ap (λ (r : List ℕ). unwrap_or (gloss_of entries (c ∷ s)) [] ++ r) behind

module _ (entries : List Entry) (old new whole : List ℕ) where
  -- a key gives its gloss
  pub glossed_more : (text part rest : List ℕ) (n : ℕ) → 0 < n → n ≤ length text → IsLongest (keys_in entries) text (take n text) → gloss_of entries (take n text) ≡ Some part → rest ≡ drop n text → new ≡ old ++ part
      → old ++ glossed_behind entries 0 text ≡ whole → new ++ glossed_behind entries 0 rest ≡ whole
  glossed_more text part rest n some fits is found rest_is new_is so_far =
      ap (λ (z : List ℕ). z ++ glossed_behind entries 0 rest) new_is ∙ append_assoc old part (glossed_behind entries 0 rest)
      ∙ ap (λ (z : List ℕ). old ++ z) (sym (glossed-key entries text (take n text) rest (omega (arith, length-take n text, some, fits)) (sym (take-append-drop n text) ∙ ap (λ (r : List ℕ). take n text ++ r) (sym rest_is)) (longest-from_is (keys_in entries) text (take n text) is)
      ∙ ap (λ (o : Option (List ℕ)). unwrap_or o [] ++ glossed_behind entries 0 rest) found))
      ∙ so_far

  -- a character stays
  pub glossed_stays : (text : List ℕ) (c : ℕ) (rest : List ℕ) → text ≡ c ∷ rest → BeginsWithNone (keys_in entries) text → new ≡ old ++ encode_utf8 c → old ++ glossed_behind entries 0 text ≡ whole → new ++ glossed_behind entries 0 rest ≡ whole
  glossed_stays text c rest split none new_is so_far =
      ap (λ (z : List ℕ). z ++ glossed_behind entries 0 rest) new_is ∙ append_assoc old (encode_utf8 c) (glossed_behind entries 0 rest)
      ∙ ap (λ (z : List ℕ). old ++ z) (sym (ap (glossed_behind entries 0) split ∙ ap (λ o. glossed_by entries c o (λ n. glossed_behind entries (n - 1) rest)) (subst (λ t. longest (keys_in entries) t ≡ None) split (longest-from_none (keys_in entries) text none))))
      ∙ so_far

-- The entry of a line.

pub with_key-some : (key gloss : List ℕ) → 0 < length key → with_key key gloss ≡ Some (key, gloss)
with_key-some [] gloss some = absurd (omega arith)
with_key-some (c ∷ cs) gloss some = refl

two_fields : (fields : List (List ℕ)) (key gloss : List ℕ) → 2 ≤ length fields → length fields < 3 → key ≡ get_or fields 0 key → gloss ≡ get_or fields 1 gloss → fields ≡ key ∷ gloss ∷ []
two_fields [] key gloss two few key_is gloss_is = absurd (omega arith)
two_fields (x ∷ []) key gloss two few key_is gloss_is = absurd (omega arith)
two_fields (x ∷ y ∷ []) key gloss two few key_is gloss_is = ap (λ (z : List ℕ). z ∷ y ∷ []) (sym key_is) ∙ ap (λ (z : List ℕ). key ∷ z ∷ []) (sym gloss_is)
two_fields (x ∷ y ∷ z ∷ fields) key gloss two few key_is gloss_is = absurd (omega arith)

pub entry_read : (line : List ℕ) (fields : List (List ℕ)) (key gloss letters : List ℕ) → fields ≡ fields_of line → 2 ≤ length fields → length fields < 3 → key ≡ get_or fields 0 key → gloss ≡ get_or fields 1 gloss → letters ≡ chars key → 0 < length letters
    → Some (letters, gloss) ≡ entry_of (fields_of line)
entry_read line fields key gloss letters fields_are two few key_is gloss_is letters_are some =
    sym (ap entry_of (sym fields_are ∙ two_fields fields key gloss two few key_is gloss_is) ∙ ap (λ (k : List ℕ). with_key k gloss) (sym letters_are) ∙ with_key-some letters gloss some)
