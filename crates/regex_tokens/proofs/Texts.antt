-- A text has one cut.
use Rattle.std.proofs.Common.{◌≡◌, ◌≤◌, ℕ, ◌+◌, true, false, cond, not, List, [], ◌∷◌, ◌++◌, length, take, drop, Option, Some, None, refl, sym, ap, subst, ◌∙◌, inl, inr, arith, append-nil, length-append}
use Rattle.std.specs.List.{list_any}
use Rattle.std.specs.Str.{bytes_eq}
use Rattle.regex_ast.specs.Flags.{IsFlag}
use Rattle.regex_tokens.specs.Bytes.{is_quoted_byte, is_braced_byte, is_run_byte}
use Rattle.regex_tokens.specs.Spelling.{spelling, IsSpaced, is_escape, written, meant, IsQuoted, IsBraced, IsRun, Spells}
use Rattle.regex_tokens.specs.declared.comments.Comments.{Comments}
use Rattle.regex_tokens.specs.Cuts.{IsLongest, IsFirst, HasNoFirst, IsRefused, Cuts, behind_gap, newlines}
use Rattle.regex_tokens.specs.Reading.{longest_first, is_flag, is_refused, HasNone, IsRead, IsTaken}
use Rattle.regex_tokens.specs.declared.token.Run.{Run}
use Rattle.regex_tokens.specs.declared.token.Ending.{Ending}
use Rattle.regex_tokens.specs.declared.token.Ending.TheVariants.{Whole, NoToken}
use Rattle.regex_tokens.specs.declared.token.Place.{Place}
use Rattle.regex_tokens.specs.declared.token.Operator.{Operator}
use Rattle.regex_tokens.specs.declared.token.Operator.TheVariants.{OpenSquare, CloseSquare, OpenRound, CloseRound, Optional, Arrow, LeftLongest, LeftShortest, RightLongest, RightShortest, Only, UpUp, Bar, LowUp, Slash, UpLow, LowLow, Backslash, Ampersand, Minus, Tilde, Dollar, Star, Plus, Caret, Colon, Semicolon, GroupComma, Comma, Question, Underscore, Dots, CrossWith, Then, Upper, Lower, Inverse, Reverse, Edge, Insertion}
use Rattle.regex_tokens.specs.declared.token.Token.{Token}
use Rattle.regex_tokens.specs.declared.token.Token.TheVariants.{Operator as operator, Quoted as quoted, Braced as braced, Run as run}
use Rattle.regex_tokens.proofs.Lists.{split_once}
use Rattle.regex_tokens.proofs.Pieces.{once}
use Rattle.regex_tokens.proofs.Utf8.{characters_once}
use Rattle.regex_tokens.proofs.Flags.{flag_takes, no_flag}
use Rattle.regex_tokens.proofs.Spells.{kind_of, Head, head, kind_here, spaced_is}
use Rattle.regex_tokens.proofs.Operators.{short}

-- Operators differ in their spelling.

abbrev named : List ℕ → List Operator → Option Operator
named w [] = None
named w (o ∷ os) = cond (bytes_eq w (spelling o)) (Some o) (named w os)

named_is : (o : Operator) → named (spelling o) longest_first ≡ Some o
named_is OpenSquare = refl
named_is CloseSquare = refl
named_is OpenRound = refl
named_is CloseRound = refl
named_is Optional = refl
named_is Arrow = refl
named_is LeftLongest = refl
named_is LeftShortest = refl
named_is RightLongest = refl
named_is RightShortest = refl
named_is Only = refl
named_is UpUp = refl
named_is Bar = refl
named_is LowUp = refl
named_is Slash = refl
named_is UpLow = refl
named_is LowLow = refl
named_is Backslash = refl
named_is Ampersand = refl
named_is Minus = refl
named_is Tilde = refl
named_is Dollar = refl
named_is Star = refl
named_is Plus = refl
named_is Caret = refl
named_is Colon = refl
named_is Semicolon = refl
named_is GroupComma = refl
named_is Comma = refl
named_is Question = refl
named_is Underscore = refl
named_is Dots = refl
named_is CrossWith = refl
named_is Then = refl
named_is Upper = refl
named_is Lower = refl
named_is Inverse = refl
named_is Reverse = refl
named_is Edge = refl
named_is Insertion = refl

same_some : {A : Type 0} (x y : A) → Some x ≡ Some y → x ≡ y
same_some x y e = cc

spelling_once : (o q : Operator) → spelling o ≡ spelling q → o ≡ q
spelling_once o q e = same_some o q (sym (named_is o) ∙ ap (λ w. named w longest_first) e ∙ named_is q)

-- Bytes spell one token.

long : (q : Operator) (bytes : List ℕ) → IsSpaced q bytes → 5 ≤ length bytes
long Insertion bytes h = omega (arith, ap length h.3, length-append (h.0 ∷ h.1) (46 ∷ 93 ∷ []))
long _ bytes h = absurd h

too_long : (o q : Operator) (bytes : List ℕ) → bytes ≡ spelling o → IsSpaced q bytes → ⊥
too_long o q bytes e h = omega (arith, ap length e, short o, long q bytes h)

operators_once : (o q : Operator) (bytes : List ℕ) → Spells (operator o) bytes → Spells (operator q) bytes → o ≡ q
operators_once o q bytes (inl e) (inl f) = spelling_once o q (sym e ∙ f)
operators_once o q bytes (inl e) (inr h) = absurd (too_long o q bytes e h)
operators_once o q bytes (inr h) (inl e) = absurd (too_long q o bytes e h)
operators_once o q bytes (inr h) (inr g) = spaced_is o bytes h ∙ sym (spaced_is q bytes g)

tails : (x y : ℕ) (xs ys : List ℕ) → x ∷ xs ≡ y ∷ ys → xs ≡ ys
tails x y xs ys e = cc

quoted_once : (cs ds bytes : List ℕ) → IsQuoted cs bytes → IsQuoted ds bytes → cs ≡ ds
quoted_once cs ds bytes h g = (split_once is_quoted_byte cs ds (34 ∷ []) (34 ∷ []) h.0 g.0 refl refl (tails 34 34 _ _ (sym h.1 ∙ g.1))).0

braced_once : (cs ds : List (List ℕ)) (bytes : List ℕ) → IsBraced cs bytes → IsBraced ds bytes → cs ≡ ds
braced_once cs ds bytes h g =
    let same : h.pieces ≡ g.pieces = (once is_braced_byte refl h.pieces g.pieces (125 ∷ []) (125 ∷ []) h.fine g.fine refl refl (tails 123 123 _ _ (sym h.spelled ∙ g.spelled))).0 in
    characters_once cs ds h.apart g.apart (h.same ∙ ap meant same ∙ sym g.same)

run_same : (r s : Run) → r.text ≡ s.text → r.escaped ≡ s.escaped → r ≡ s
run_same r s text escaped = λ i. record { text = text i; escaped = escaped i }

runs_once : (r s : Run) (bytes : List ℕ) → IsRun r bytes → IsRun s bytes → r ≡ s
runs_once r s bytes h g =
    let both : written (h.first ∷ h.more) ++ [] ≡ written (g.first ∷ g.more) ++ [] = ap (λ bs. bs ++ []) (sym h.spelled ∙ g.spelled) in
    let same : h.first ∷ h.more ≡ g.first ∷ g.more = (once is_run_byte refl (h.first ∷ h.more) (g.first ∷ g.more) [] [] h.fine g.fine refl refl both).0 in
    run_same r s (h.text ∙ ap meant same ∙ sym g.text) (h.escaped ∙ ap (list_any is_escape) same ∙ sym g.escaped)

same_kind : (t u : Token) (bytes : List ℕ) → Spells t bytes → Spells u bytes → kind_of t ≡ kind_of u
same_kind t u bytes h g = kind_here bytes (kind_of t) (head t bytes h) u bytes [] (sym (append-nil bytes)) g

pub spells_once : (t u : Token) (bytes : List ℕ) → Spells t bytes → Spells u bytes → t ≡ u
spells_once (operator o) (operator q) bytes h g = ap operator (operators_once o q bytes h g)
spells_once (quoted cs) (quoted ds) bytes h g = ap quoted (quoted_once cs ds bytes h g)
spells_once (braced cs) (braced ds) bytes h g = ap braced (braced_once cs ds bytes h g)
spells_once (run r) (run s) bytes h g = ap run (runs_once r s bytes h g)
spells_once t u bytes h g = let clash : kind_of t ≡ kind_of u = same_kind t u bytes h g in absurd cc

-- A text has one longest token.

take-front : (front rest : List ℕ) → take (length front) (front ++ rest) ≡ front
take-front [] rest = refl
take-front (b ∷ front) rest = ap (λ bs. b ∷ bs) (take-front front rest)

drop-front : (front rest : List ℕ) → drop (length front) (front ++ rest) ≡ rest
drop-front [] rest = refl
drop-front (b ∷ front) rest = drop-front front rest

pub longest_once : (text : List ℕ) (t u : Token) (f r g s : List ℕ) → IsLongest text t f r → IsLongest text u g s → (t ≡ u) × (f ≡ g) × (r ≡ s)
longest_once text t u f r g s h k =
    let size : length f ≡ length g = omega (arith, h.longest u g s k.stands k.spelled, k.longest t f r h.stands h.spelled) in
    let front : f ≡ g = sym (take-front f r) ∙ ap (take (length f)) (sym h.stands) ∙ ap (λ n. take n text) size ∙ ap (take (length g)) k.stands ∙ take-front g s in
    let behind : r ≡ s = sym (drop-front f r) ∙ ap (drop (length f)) (sym h.stands) ∙ ap (λ n. drop n text) size ∙ ap (drop (length g)) k.stands ∙ drop-front g s in
    (spells_once t u g (subst (Spells t) front h.spelled) k.spelled, front, behind)

-- The first token.

refused : (t : Token) → is_refused t ≡ true → IsRefused t
refused (operator o) e = absurd cc
refused (quoted text) e = flag_takes text e
refused (braced cs) e = absurd cc
refused (run r) e = flag_takes r.text e

not_flag : (text : List ℕ) → is_flag text ≡ false → IsFlag text → ⊥
not_flag text e = (no_flag text).0 (ap not e)

accepted : (t : Token) → is_refused t ≡ false → IsRefused t → ⊥
accepted (operator o) e h = h
accepted (quoted text) e h = not_flag text e h
accepted (braced cs) e h = h
accepted (run r) e h = not_flag r.text e h

pub first_some : (text : List ℕ) (t : Token) (n : ℕ) → IsRead text (Some (t, n)) → is_refused t ≡ false → IsTaken text (Some (t, n))
first_some text t n h e = (record { longest = h.0; taken = accepted t e }, h.1)

pub first_refused : (text : List ℕ) (t : Token) (n : ℕ) → IsRead text (Some (t, n)) → is_refused t ≡ true → HasNoFirst text
first_refused text t n h e u front rest g =
    let same : t ≡ u = (longest_once text t u (take n text) (drop n text) front rest h.0 g.longest).0 in
    g.taken (subst IsRefused same (refused t e))

pub first_none : (text : List ℕ) → HasNone text → HasNoFirst text
first_none text none t front rest g = none t front rest g.longest.stands g.longest.spelled

pub nothing_empty : (text : List ℕ) → length text ≡ 0 → HasNone text
nothing_empty [] e t front rest stands spells =
    let h : Head (kind_of t) front = head t front spells in
    let clash : [] ≡ h.first ∷ h.more ++ rest = stands ∙ ap (λ bs. bs ++ rest) h.spelled in
    cc
nothing_empty (b ∷ bs) e t front rest stands spells = omega (arith, e)

-- A text has one cut.

first_once : (text : List ℕ) (t u : Token) (f r g s : List ℕ) → IsFirst text t f r → IsFirst text u g s → (t ≡ u) × (f ≡ g) × (r ≡ s)
first_once text t u f r g s h k = longest_once text t u f r g s h.longest k.longest

empty_none : (text : List ℕ) → text ≡ [] → (t : Token) (front rest : List ℕ) → IsFirst text t front rest → ⊥
empty_none text e t front rest h = first_none text (nothing_empty text (ap length e)) t front rest h

place_same : (p q : Place) → p.line ≡ q.line → p.apart ≡ q.apart → p ≡ q
place_same p q line apart = λ i. record { line = line i; apart = apart i }

abbrev pub AreSame : List Token → List Place → Ending → List Token → List Place → Ending → Type 0
AreSame ts ps e us qs d = (ts ≡ us) × (ps ≡ qs) × (e ≡ d)

module _ (marks : Comments) where
  ends_once : (line : ℕ) (text : List ℕ) (e d : Ending) → Cuts marks line text [] [] e → Cuts marks line text [] [] d → e ≡ d
  ends_once line text Whole Whole h g = refl
  ends_once line text Whole (NoToken b) h g = absurd (g.0 h)
  ends_once line text (NoToken a) Whole h g = absurd (h.0 g)
  ends_once line text (NoToken a) (NoToken b) h g = ap NoToken (h.2 ∙ sym g.2)

  ends_first : (line : ℕ) (text : List ℕ) (e : Ending) (t : Token) (front rest : List ℕ) → Cuts marks line text [] [] e → IsFirst (behind_gap marks text) t front rest → ⊥
  ends_first line text Whole t front rest h g = empty_none (behind_gap marks text) h t front rest g
  ends_first line text (NoToken a) t front rest h g = h.1 t front rest g

  pub cuts_once : (ts : List Token) (line : ℕ) (text : List ℕ) (ps : List Place) (e : Ending) (us : List Token) (qs : List Place) (d : Ending) → Cuts marks line text ts ps e → Cuts marks line text us qs d → AreSame ts ps e us qs d
  cuts_once [] line text [] e [] [] d h g = (refl, refl, ends_once line text e d h g)
  cuts_once [] line text [] e (u ∷ us) (q ∷ qs) d h g = absurd (ends_first line text e u g.0 g.1 h g.2)
  cuts_once (t ∷ ts) line text (p ∷ ps) e [] [] d h g = absurd (ends_first line text d t h.0 h.1 g h.2)
  cuts_once (t ∷ ts) line text (p ∷ ps) e (u ∷ us) (q ∷ qs) d h g =
      let same = first_once (behind_gap marks text) t u h.0 h.1 g.0 g.1 h.2 g.2 in
      let place : p ≡ q = place_same p q (h.3 ∙ sym g.3) (h.4 ∙ sym g.4) in
      let next : p.line + newlines h.0 ≡ q.line + newlines g.0 = ap (λ x. x.line + newlines h.0) place ∙ ap (λ bs. q.line + newlines bs) same.1 in
      let there : Cuts marks (q.line + newlines g.0) g.1 ts ps e = subst (λ n. Cuts marks n g.1 ts ps e) next (subst (λ bs. Cuts marks (p.line + newlines h.0) bs ts ps e) same.2 h.5) in
      let more : AreSame ts ps e us qs d = cuts_once ts (q.line + newlines g.0) g.1 ps e us qs d there g.5 in
      (cons t u ts us same.0 more.0, cons p q ps qs place more.1, more.2)
    where
      cons : {A : Type 0} (x y : A) (xs ys : List A) → x ≡ y → xs ≡ ys → x ∷ xs ≡ y ∷ ys
      cons x y xs ys e f = rw (e, f) refl
  cuts_once [] line text (p ∷ ps) e us qs d h g = absurd h
  cuts_once (t ∷ ts) line text [] e us qs d h g = absurd h
  cuts_once ts line text ps e [] (q ∷ qs) d h g = absurd g
  cuts_once ts line text ps e (u ∷ us) [] d h g = absurd g
