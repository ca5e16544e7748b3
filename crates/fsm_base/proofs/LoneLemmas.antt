-- Lone symbols: which there are among entries, and that a text that begins with one has it as its longest symbol.
use Rattle.std.proofs.Common.{◌≡◌, ℕ, ◌+◌, ◌<◌, ◌≤◌, zero, suc, ◌⊎◌, inl, inr, List, [], ◌∷◌, ◌++◌, length, take, drop, Bool, true, false, Option, Some, Contains, get_or, set, slice_get, refl, subst, sym, ap, arith, ◌∙◌, true≢false}
use Rattle.std.proofs.lemmas.Bool.{cases_lt}
use Rattle.std.proofs.lemmas.List.{length-set, map-append, take_more}
use Rattle.std.proofs.lemmas.List.Elements.{Contains-push_cases}
use Rattle.std.proofs.lemmas.Option.{same_Some, slice_get-get_or, slice_get_within}
use Rattle.std.proofs.Math.Seq.{take-append_seam}
use Rattle.word_relations.proofs.Places.{slice_get-set_other, slice_get-set_same}
use Rattle.fsm_base.specs.Lone.{AreLone, IsLone, MarksLonger}
use Rattle.fsm_base.specs.Longest.{BeginsWith, IsLongest}
use Rattle.fsm_base.specs.Sorted.{IsNext, texts_in, text_at}
use Rattle.fsm_base.specs.declared.letters.Sym.{Sym}
use Rattle.fsm_base.specs.declared.longest.Entry.{Entry}
use Rattle.fsm_base.proofs.SortedLemmas.{get_or-texts}

-- the text of an entry is among the texts
pub Contains-text : (entries : List Entry) (entry : Entry) → Contains entries entry → Contains (texts_in entries) entry.text
Contains-text entries entry h = by entries h.0 h.1 h.2
  where
    by : (es : List Entry) (k : ℕ) → k < length es → get_or es k entry ≡ entry → Contains (texts_in es) entry.text
    by [] k l e = absurd (omega arith)
    by (x ∷ es) zero l e = (0, omega arith, ap (λ (y : Entry). y.text) e)
    by (x ∷ es) (suc k) l e = let later = by es k (omega arith) e in (suc later.0, omega (arith, later.1), later.2)

-- a text that begins with a lone byte has its symbol as the longest
pub lone_longest : (texts : List (List ℕ)) (byte : ℕ) (rest : List ℕ) → Contains texts (byte ∷ []) → ((rest : List ℕ) → Contains texts (byte ∷ rest) → rest ≡ []) → IsLongest texts (byte ∷ rest) (byte ∷ [])
lone_longest texts byte rest among no_longer = record {
  listed = among;
  begins = (rest, refl);
  longest = shorter;
}
  where
    shorter : (other : List ℕ) → Contains texts other → BeginsWith (byte ∷ rest) other → length other ≤ 1
    shorter [] held begins = omega arith
    shorter (x ∷ other) held (after, is) =
        let same : byte ≡ x = cc in
        let none : other ≡ [] = no_longer other (subst (λ y. Contains texts (y ∷ other)) (sym same) held) in
        let n = ap length none in
        omega arith

pub next_lone : (entries : List Entry) (lone : List (Option Sym)) (bytes : List ℕ) (symbol : Sym) → AreLone entries lone
    → (byte : ℕ) × (rest : List ℕ) × (bytes ≡ byte ∷ rest) × (slice_get lone byte ≡ Some (Some symbol)) → IsNext entries bytes symbol 1
next_lone entries lone bytes symbol are (byte, rest, is, at) =
    let l = are byte symbol at in
    record {
      text = byte ∷ [];
      listed = l.listed;
      longest = subst (λ v. IsLongest (texts_in entries) v (byte ∷ [])) (sym is) (lone_longest (texts_in entries) byte rest (Contains-text entries (record { text = byte ∷ []; symbol = symbol }) l.listed) l.no_longer);
      len_is = refl;
    }

-- the entry at the place of the longest text
pub next_found : (entries : List Entry) (bytes : List ℕ) (place : ℕ) (entry : Entry) → place < length entries → entry ≡ get_or entries place entry → IsLongest (texts_in entries) bytes (text_at entries place)
    → IsNext entries bytes entry.symbol (length entry.text)
next_found entries bytes place entry within at is = record {
  text = entry.text;
  listed = (place, within, sym at);
  longest = subst (λ (t : List ℕ). IsLongest (texts_in entries) bytes t) (get_or-texts entries place entry [] within ∙ ap (λ (e : Entry). e.text) (sym at)) is;
  len_is = refl;
}

-- one more text of which the first byte is marked
pub marks_more : (entries : List Entry) (i : ℕ) (entry : Entry) (old new : List Bool) → i < length entries → entry ≡ get_or entries i entry
    → ((byte : ℕ) → slice_get old byte ≡ Some true → slice_get new byte ≡ Some true) → ((byte next : ℕ) (rest : List ℕ) → entry.text ≡ byte ∷ next ∷ rest → slice_get new byte ≡ Some true)
    → MarksLonger (texts_in (take i entries)) old → MarksLonger (texts_in (take (i + 1) entries)) new
marks_more entries i entry old new inside at kept own before byte next rest held =
    let more : take (i + 1) entries ≡ take i entries ++ entry ∷ [] = take_more entries i entry inside ∙ ap (λ (y : Entry). take i entries ++ y ∷ []) (sym at) in
    let texts : texts_in (take (i + 1) entries) ≡ texts_in (take i entries) ++ entry.text ∷ [] = ap texts_in more ∙ map-append (λ (e : Entry). e.text) (take i entries) (entry ∷ []) in
    elim (Contains-push_cases (texts_in (take i entries)) entry.text (byte ∷ next ∷ rest) (subst (λ ts. Contains ts (byte ∷ next ∷ rest)) texts held)) as (λ _. slice_get new byte ≡ Some true) [
      | inl was ↦ kept byte (before byte next rest was)
      | inr same ↦ own byte next rest same
    ]

-- a mark stays where another place is marked
pub marked_stays : (old : List Bool) (k byte : ℕ) → slice_get old byte ≡ Some true → slice_get (set old k true) byte ≡ Some true
marked_stays old k byte h = elim (cases_lt byte k) as (λ _. slice_get (set old k true) byte ≡ Some true) [
  | inl l ↦ slice_get-set_other old k byte true (λ e. omega arith) ∙ h
  | inr le ↦ elim (cases_lt k byte) as (λ _. slice_get (set old k true) byte ≡ Some true) [
    | inl l ↦ slice_get-set_other old k byte true (λ e. omega arith) ∙ h
    | inr ge ↦
        let e : byte ≡ k = omega arith in
        subst (λ j. slice_get (set old j true) byte ≡ Some true) e (slice_get-set_same old byte true (slice_get_within old byte true h))
  ]
]

-- what stands at a byte was put there, or stood there before
put_cases : (old : List (Option Sym)) (k : ℕ) (own : Sym) (byte : ℕ) (symbol : Sym) → slice_get (set old k (Some own)) byte ≡ Some (Some symbol)
    → (slice_get old byte ≡ Some (Some symbol)) ⊎ ((byte ≡ k) × (own ≡ symbol))
put_cases old k own byte symbol at = elim (cases_lt byte k) as (λ _. (slice_get old byte ≡ Some (Some symbol)) ⊎ ((byte ≡ k) × (own ≡ symbol))) [
  | inl l ↦ inl (sym (slice_get-set_other old k byte (Some own) (λ e. omega arith)) ∙ at)
  | inr le ↦ elim (cases_lt k byte) as (λ _. (slice_get old byte ≡ Some (Some symbol)) ⊎ ((byte ≡ k) × (own ≡ symbol))) [
    | inl l ↦ inl (sym (slice_get-set_other old k byte (Some own) (λ e. omega arith)) ∙ at)
    | inr ge ↦
        let e : byte ≡ k = omega arith in
        let inside : k < length old = omega (arith, slice_get_within (set old k (Some own)) byte (Some symbol) at, length-set old k (Some own)) in
        let there : slice_get (set old k (Some own)) k ≡ Some (Some own) = slice_get-set_same old k (Some own) inside in
        let same : Some own ≡ Some symbol = same_Some (Some own) (Some symbol) (sym there ∙ ap (slice_get (set old k (Some own))) (sym e) ∙ at) in
        inr (e, same_Some own symbol same)
  ]
]

-- a text of one byte
one_byte : (text : List ℕ) → length text ≡ 1 → text ≡ get_or text 0 0 ∷ []
one_byte [] one = absurd (omega arith)
one_byte (x ∷ []) one = refl
one_byte (x ∷ y ∷ rest) one = absurd (omega arith)

pub put_is : (old : List (Option Sym)) (longer : List Bool) (text bytes : List ℕ) (k : ℕ) (own : Sym) → length old ≡ 256 → length longer ≡ 256 → bytes ≡ text → length bytes ≡ 1 → k ≡ get_or bytes 0 0 → get_or longer k false ≡ false
    → (byte : ℕ) (symbol : Sym) → slice_get (set old k (Some own)) byte ≡ Some (Some symbol) → (slice_get old byte ≡ Some (Some symbol)) ⊎ ((text ≡ byte ∷ []) × (own ≡ symbol) × (slice_get longer byte ≡ Some false))
put_is old longer text bytes k own count marks same one first not_longer byte symbol at =
    let whole : text ≡ k ∷ [] = sym same ∙ one_byte bytes one ∙ ap (λ (n : ℕ). n ∷ []) (sym first) in
    let inside : byte < length longer = omega (arith, slice_get_within (set old k (Some own)) byte (Some symbol) at, length-set old k (Some own)) in
    elim (put_cases old k own byte symbol at) as (λ _. (slice_get old byte ≡ Some (Some symbol)) ⊎ ((text ≡ byte ∷ []) × (own ≡ symbol) × (slice_get longer byte ≡ Some false))) [
      | inl was ↦ inl was
      | inr (e, is) ↦ inr (
        whole ∙ ap (λ (n : ℕ). n ∷ []) (sym e),
        is,
        slice_get-get_or longer byte false inside ∙ ap Some (ap (λ (n : ℕ). get_or longer n false) e ∙ not_longer),
      )
    ]

-- lone symbols with one that was put
pub lone_more : (entries : List Entry) (longer : List Bool) (i : ℕ) (entry : Entry) (old new : List (Option Sym)) → i < length entries → entry ≡ get_or entries i entry → MarksLonger (texts_in entries) longer
    → ((byte : ℕ) (symbol : Sym) → slice_get new byte ≡ Some (Some symbol) → (slice_get old byte ≡ Some (Some symbol)) ⊎ ((entry.text ≡ byte ∷ []) × (entry.symbol ≡ symbol) × (slice_get longer byte ≡ Some false)))
    → AreLone entries old → AreLone entries new
lone_more entries longer i entry old new inside at marks put are byte symbol there = elim (put byte symbol there) as (λ _. IsLone entries byte symbol) [
  | inl was ↦ are byte symbol was
  | inr (text, own, not_longer) ↦
      let whole : entry ≡ record { text = byte ∷ []; symbol = symbol } = λ k. record { text = text k; symbol = own k } in
      record {
        listed = subst (λ (e : Entry). Contains entries e) whole (i, inside, sym at);
        no_longer = λ rest held. alone rest held not_longer;
      }
]
  where
    alone : (rest : List ℕ) → Contains (texts_in entries) (byte ∷ rest) → slice_get longer byte ≡ Some false → rest ≡ []
    alone [] held not_longer = refl
    alone (next ∷ rest) held not_longer = absurd (true≢false (same_Some true false (sym (marks byte next rest held) ∙ not_longer)))

-- a list that was lent as a whole is what came back
pub lent_back : {X : Type 0} (new old : List X) (len : ℕ) → len ≡ length new → take len (new ++ drop (length new) old) ≡ new
lent_back new old len is = ap (λ (n : ℕ). take n (new ++ drop (length new) old)) is ∙ take-append_seam new (drop (length new) old)
