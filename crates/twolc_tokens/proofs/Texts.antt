-- A text has one cut.
use Rattle.std.proofs.Common.{◌≡◌, ℕ, true, false, cond, List, [], ◌∷◌, ◌++◌, length, take, drop, Option, Some, None, refl, sym, ap, subst, ◌∙◌, inl, inr, arith}
use Rattle.std.specs.Str.{bytes_eq}
use Rattle.regex_ast.specs.declared.twolc.RuleKind.TheVariants.{Only, Must, Both, Never}
use Rattle.regex_tokens.specs.Bytes.{begins, is_quoted_byte}
use Rattle.regex_tokens.specs.Spelling.{IsQuoted}
use Rattle.regex_tokens.specs.Cuts.{behind_gap}
use Rattle.regex_tokens.specs.declared.comments.Comments.TheVariants.{OfEntries}
use Rattle.regex_tokens.specs.declared.token.Ending.{Ending}
use Rattle.regex_tokens.specs.declared.token.Ending.TheVariants.{Whole, NoToken}
use Rattle.regex_tokens.proofs.Lists.{split_once}
use Rattle.twolc_tokens.specs.Spelling.{spelling, IsAtom, Spells}
use Rattle.twolc_tokens.specs.Cuts.{IsLongest, IsFirst, HasNoFirst, IsRefused, Cuts, HasOneCut}
use Rattle.twolc_tokens.specs.Reading.{longest_first, HasNone, IsRead, IsTaken}
use Rattle.twolc_tokens.specs.declared.token.Operator.{Operator}
use Rattle.twolc_tokens.specs.declared.token.Operator.TheVariants.{OpenSquare, CloseSquare, OpenRound, CloseRound, Bar, Ampersand, Minus, Slash, Arrow, Tilde, Backslash, Dollar, Star, Plus, Caret, Question, Edge, Semicolon, Underscore, Equals}
use Rattle.twolc_tokens.specs.declared.token.Placed.{Placed}
use Rattle.twolc_tokens.specs.declared.token.Token.{Token}
use Rattle.twolc_tokens.specs.declared.token.Token.TheVariants.{Operator as operator, Quoted as quoted, Atom as atom}
use Rattle.twolc_tokens.proofs.Atoms.{Head, begins_atom, atom_head, no_question}
use Rattle.twolc_tokens.proofs.Fronts.{apart, no_operator}

-- Operators differ in their spelling.

abbrev named : List ℕ → List Operator → Option Operator
named w [] = None
named w (o ∷ os) = cond (bytes_eq w (spelling o)) (Some o) (named w os)

named_is : (o : Operator) → named (spelling o) longest_first ≡ Some o
named_is OpenSquare = refl
named_is CloseSquare = refl
named_is OpenRound = refl
named_is CloseRound = refl
named_is Bar = refl
named_is Ampersand = refl
named_is Minus = refl
named_is Slash = refl
named_is (Arrow Only) = refl
named_is (Arrow Must) = refl
named_is (Arrow Both) = refl
named_is (Arrow Never) = refl
named_is Tilde = refl
named_is Backslash = refl
named_is Dollar = refl
named_is Star = refl
named_is Plus = refl
named_is Caret = refl
named_is Question = refl
named_is Edge = refl
named_is Semicolon = refl
named_is Underscore = refl
named_is Equals = refl

same_some : {A : Type 0} (x y : A) → Some x ≡ Some y → x ≡ y
same_some x y e = cc

spelling_once : (o q : Operator) → spelling o ≡ spelling q → o ≡ q
spelling_once o q e = same_some o q (sym (named_is o) ∙ ap (λ w. named w longest_first) e ∙ named_is q)

-- Bytes spell one token.

tails : (x y : ℕ) (xs ys : List ℕ) → x ∷ xs ≡ y ∷ ys → xs ≡ ys
tails x y xs ys e = cc

quoted_once : (cs ds bytes : List ℕ) → IsQuoted cs bytes → IsQuoted ds bytes → cs ≡ ds
quoted_once cs ds bytes h g = (split_once is_quoted_byte cs ds (34 ∷ []) (34 ∷ []) h.0 g.0 refl refl (tails 34 34 _ _ (sym h.1 ∙ g.1))).0

no_end : (bytes : List ℕ) → bytes ++ [] ≡ bytes
no_end [] = refl
no_end (b ∷ bs) = ap (λ xs. b ∷ xs) (no_end bs)

atom_operator : (o : Operator) (bytes : List ℕ) → IsAtom bytes → bytes ≡ spelling o → ⊥
atom_operator o bytes a e = elim (apart o []) [
  | inl not ↦ (let h : Head begins_atom bytes = atom_head bytes a in let clash : true ≡ false = sym h.passes ∙ ap (begins begins_atom) (sym h.spelled ∙ e ∙ sym (no_end (spelling o))) ∙ not in cc)
  | inr question ↦ no_question bytes (e ∙ question) a
]

atom_quoted : (bytes cs : List ℕ) → IsAtom bytes → IsQuoted cs bytes → ⊥
atom_quoted bytes cs a q = let h : Head begins_atom bytes = atom_head bytes a in let clash : true ≡ false = sym h.passes ∙ ap (begins begins_atom) (sym h.spelled ∙ q.1) in cc

quoted_operator : (o : Operator) (bytes cs : List ℕ) → IsQuoted cs bytes → bytes ≡ spelling o → ⊥
quoted_operator o bytes cs q e = no_operator o bytes (cs ++ 34 ∷ []) [] q.1 (e ∙ sym (no_end (spelling o)))

pub spells_once : (t u : Token) (bytes : List ℕ) → Spells t bytes → Spells u bytes → t ≡ u
spells_once (operator o) (operator q) bytes h g = ap operator (spelling_once o q (sym h ∙ g))
spells_once (operator o) (quoted ds) bytes h g = absurd (quoted_operator o bytes ds g h)
spells_once (operator o) (atom b) bytes h g = absurd (atom_operator o bytes g.0 h)
spells_once (quoted cs) (operator q) bytes h g = absurd (quoted_operator q bytes cs h g)
spells_once (quoted cs) (quoted ds) bytes h g = ap quoted (quoted_once cs ds bytes h g)
spells_once (quoted cs) (atom b) bytes h g = absurd (atom_quoted bytes cs g.0 h)
spells_once (atom a) (operator q) bytes h g = absurd (atom_operator q bytes h.0 g)
spells_once (atom a) (quoted ds) bytes h g = absurd (atom_quoted bytes ds h.0 g)
spells_once (atom a) (atom b) bytes h g = ap atom (h.1 ∙ sym g.1)

-- A text has one longest token.

take-front : (front rest : List ℕ) → take (length front) (front ++ rest) ≡ front
take-front [] rest = refl
take-front (b ∷ front) rest = ap (λ bs. b ∷ bs) (take-front front rest)

drop-front : (front rest : List ℕ) → drop (length front) (front ++ rest) ≡ rest
drop-front [] rest = refl
drop-front (b ∷ front) rest = drop-front front rest

pub longest_once : (text : List ℕ) (t u : Token) (f r g s : List ℕ) → IsLongest text t f r → IsLongest text u g s → (t ≡ u) × (f ≡ g) × (r ≡ s)
longest_once text t u f r g s h k =
    let size : length f ≡ length g = omega (arith, h.longest u g s k.stands k.spelled, k.longest t f r h.stands h.spelled) in
    let front : f ≡ g = sym (take-front f r) ∙ ap (take (length f)) (sym h.stands) ∙ ap (λ n. take n text) size ∙ ap (take (length g)) k.stands ∙ take-front g s in
    let behind : r ≡ s = sym (drop-front f r) ∙ ap (drop (length f)) (sym h.stands) ∙ ap (λ n. drop n text) size ∙ ap (drop (length g)) k.stands ∙ drop-front g s in
    (spells_once t u g (subst (Spells t) front h.spelled) k.spelled, front, behind)

-- The first token.

pub first_some : (text : List ℕ) (t : Token) (n : ℕ) → IsRead text (Some (t, n)) → (IsRefused t → ⊥) → IsTaken text (Some (t, n))
first_some text t n h e = (record { longest = h.0; taken = e }, h.1)

pub first_refused : (text : List ℕ) (t : Token) (n : ℕ) → IsRead text (Some (t, n)) → IsRefused t → HasNoFirst text
first_refused text t n h e u front rest g =
    let same : t ≡ u = (longest_once text t u (take n text) (drop n text) front rest h.0 g.longest).0 in
    g.taken (subst IsRefused same e)

pub first_none : (text : List ℕ) → HasNone text → HasNoFirst text
first_none text none t front rest g = none t front rest g.longest.stands g.longest.spelled

-- a token takes a byte at least
pub long : (t : Token) (front : List ℕ) → Spells t front → front ≡ [] → ⊥
long (operator o) front h e = by o (sym h ∙ e)
  where
    by : (o : Operator) → spelling o ≡ [] → ⊥
    by OpenSquare e = cc
    by CloseSquare e = cc
    by OpenRound e = cc
    by CloseRound e = cc
    by Bar e = cc
    by Ampersand e = cc
    by Minus e = cc
    by Slash e = cc
    by (Arrow Only) e = cc
    by (Arrow Must) e = cc
    by (Arrow Both) e = cc
    by (Arrow Never) e = cc
    by Tilde e = cc
    by Backslash e = cc
    by Dollar e = cc
    by Star e = cc
    by Plus e = cc
    by Caret e = cc
    by Question e = cc
    by Edge e = cc
    by Semicolon e = cc
    by Underscore e = cc
    by Equals e = cc
long (quoted cs) front h e = let clash : 34 ∷ cs ++ 34 ∷ [] ≡ [] = sym h.1 ∙ e in cc
long (atom b) front h e = let s : Head begins_atom front = atom_head front h.0 in let clash : s.first ∷ s.more ≡ [] = sym s.spelled ∙ e in cc

-- A text has one cut.

first_once : (text : List ℕ) (t u : Token) (f r g s : List ℕ) → IsFirst text t f r → IsFirst text u g s → (t ≡ u) × (f ≡ g) × (r ≡ s)
first_once text t u f r g s h k = longest_once text t u f r g s h.longest k.longest

no_front : (front rest : List ℕ) → [] ≡ front ++ rest → front ≡ []
no_front [] rest e = refl
no_front (b ∷ bs) rest e = absurd cc

empty_none : (text : List ℕ) → text ≡ [] → (t : Token) (front rest : List ℕ) → IsFirst text t front rest → ⊥
empty_none text e t front rest h = long t front h.longest.spelled (no_front front rest (sym e ∙ h.longest.stands))

ends_once : (line : ℕ) (text : List ℕ) (e d : Ending) → Cuts line text [] e → Cuts line text [] d → e ≡ d
ends_once line text Whole Whole h g = refl
ends_once line text Whole (NoToken b) h g = absurd (g.0 h)
ends_once line text (NoToken a) Whole h g = absurd (h.0 g)
ends_once line text (NoToken a) (NoToken b) h g = ap NoToken (h.2 ∙ sym g.2)

ends_first : (line : ℕ) (text : List ℕ) (e : Ending) (t : Token) (front rest : List ℕ) → Cuts line text [] e → IsFirst (behind_gap OfEntries text) t front rest → ⊥
ends_first line text Whole t front rest h g = empty_none (behind_gap OfEntries text) h t front rest g
ends_first line text (NoToken a) t front rest h g = h.1 t front rest g

placed_same : (p q : Placed) → p.token ≡ q.token → p.line ≡ q.line → p ≡ q
placed_same p q token line = λ i. record { token = token i; line = line i }

cons : {A : Type 0} (x y : A) (xs ys : List A) → x ≡ y → xs ≡ ys → x ∷ xs ≡ y ∷ ys
cons x y xs ys e f = rw (e, f) refl

pub cuts_once : HasOneCut
cuts_once line text [] [] e d h g = (refl, ends_once line text e d h g)
cuts_once line text [] (u ∷ us) e d h g = absurd (ends_first line text e u.token g.0 g.1 h g.2)
cuts_once line text (t ∷ ts) [] e d h g = absurd (ends_first line text d t.token h.0 h.1 g h.2)
cuts_once line text (t ∷ ts) (u ∷ us) e d h g =
    let same = first_once (behind_gap OfEntries text) t.token u.token h.0 h.1 g.0 g.1 h.2 g.2 in
    let at : t.line ≡ u.line = h.3 ∙ sym g.3 in
    let there : Cuts u.line g.1 ts e = subst (λ n. Cuts n g.1 ts e) at (subst (λ bs. Cuts t.line bs ts e) same.2 h.4) in
    let more : (ts ≡ us) × (e ≡ d) = cuts_once u.line g.1 ts us e d there g.4 in
    (cons t u ts us (placed_same t u same.0 at) more.0, more.1)
