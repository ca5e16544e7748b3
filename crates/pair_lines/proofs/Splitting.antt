-- The words of a line: what stands between its blanks that no `%` escapes. Each is an atom where the line is a pair string.
use Rattle.std.proofs.Common.{◌≡◌, ◌≤◌, ◌<◌, ◌+◌, ℕ, Bool, true, false, cond, not, ◌&&◌, ◌==◌, List, [], ◌∷◌, ◌++◌, length, drop, refl, sym, ap, subst, ◌∙◌, inl, inr, arith, append_assoc, length-append, length-drop, suc}
use Rattle.std.proofs.lemmas.Bool.Decides.{nat_tests}
use Rattle.std.proofs.lemmas.Str.{IsCharBoundary-after_ascii}
use Rattle.std.specs.List.{list_all}
use Rattle.std.specs.Str.{IsCharBoundary, IsUtf8}
use Rattle.regex_tokens.specs.Bytes.{begins, is_blank}
use Rattle.regex_tokens.specs.Spelling.{Piece, plain, escaped, is_piece, written}
use Rattle.regex_tokens.proofs.Lists.{and_left, and_right}
use Rattle.regex_tokens.proofs.Utf8.{blank_is_ascii, boundary_by}
use Rattle.twolc_tokens.specs.Spelling.{IsAtom, IsRun, MayBeSide, is_run_byte}
use Rattle.twolc_tokens.proofs.Atoms.{Head, atom_head, begins_atom, run_byte_differs}
use Rattle.twolc_tokens.proofs.Colons.{next}
use Rattle.pair_lines.specs.Reading.{behind_blanks, word_len, word_len_from}
use Rattle.pair_lines.specs.Strings.{IsApart}

-- Blanks.

-- a blank in front is dropped
pub blank_in_front : (text : List ℕ) → begins is_blank text ≡ true → behind_blanks text ≡ behind_blanks (drop 1 text)
blank_in_front [] e = absurd (cc)
blank_in_front (b ∷ text) e = ap (λ (x : Bool). cond x (behind_blanks text) (b ∷ text)) e

pub blank_shorter : (text : List ℕ) → begins is_blank text ≡ true → length (drop 1 text) < length text
blank_shorter [] e = absurd (cc)
blank_shorter (b ∷ text) e = omega arith

pub blank_boundary : (text : List ℕ) → IsUtf8 text → begins is_blank text ≡ true → IsCharBoundary text 1
blank_boundary [] utf8 e = absurd (cc)
blank_boundary (b ∷ text) utf8 e = let low = blank_is_ascii b e in IsCharBoundary-after_ascii (b ∷ text) 0 utf8 (omega arith) (omega (arith, low))

pub no_blank_in_front : (text : List ℕ) → begins is_blank text ≡ false → behind_blanks text ≡ text
no_blank_in_front [] e = refl
no_blank_in_front (b ∷ text) e = ap (λ (x : Bool). cond x (behind_blanks text) (b ∷ text)) e

-- no blank is left in front
pub clear : (text : List ℕ) → begins is_blank (behind_blanks text) ≡ false
clear [] = refl
clear (b ∷ text) = by (is_blank b) refl (clear text)
  where
    by : (x : Bool) → is_blank b ≡ x → begins is_blank (behind_blanks text) ≡ false → begins is_blank (cond x (behind_blanks text) (b ∷ text)) ≡ false
    by true e rest = rest
    by false e rest = e

pub behind_blanks_short : (text : List ℕ) → length (behind_blanks text) ≤ length text
behind_blanks_short [] = omega arith
behind_blanks_short (b ∷ text) = by (is_blank b) (behind_blanks_short text)
  where
    by : (x : Bool) → length (behind_blanks text) ≤ length text → length (cond x (behind_blanks text) (b ∷ text)) ≤ length (b ∷ text)
    by true rest = omega (arith, rest)
    by false rest = omega arith

-- The length of a word.

-- the loop over its bytes
pub record SoFar (bytes : List ℕ) (len : ℕ) (inside : Bool) : Type 0 where
  pub within : len ≤ length bytes
  pub same : word_len bytes ≡ len + word_len_from inside (drop len bytes)

pub begin : (bytes : List ℕ) → SoFar bytes 0 false
begin bytes = record { within = omega arith; same = omega arith }

and_no : (b : Bool) → (b && false) ≡ false
and_no true = refl
and_no false = refl

and_yes : (b : Bool) → (b && true) ≡ b
and_yes true = refl
and_yes false = refl

step : (inside : Bool) (b : ℕ) (rest : List ℕ) → (is_blank b && not inside) ≡ false → word_len_from inside (b ∷ rest) ≡ word_len_from (b == 37 && not inside) rest + 1
step true b rest e = ap (λ (x : Bool). word_len_from x rest + 1) (sym (and_no (b == 37)))
step false b rest e =
    let here : is_blank b ≡ false = sym (and_yes (is_blank b)) ∙ e in
    ap (λ (x : Bool). cond x 0 (word_len_from (b == 37) rest + 1)) here ∙ ap (λ (x : Bool). word_len_from x rest + 1) (sym (and_yes (b == 37)))

pub go_on : (bytes : List ℕ) (len : ℕ) (inside : Bool) (b : ℕ) (rest : List ℕ) → drop len bytes ≡ b ∷ rest → SoFar bytes len inside → (is_blank b && not inside) ≡ false
    → SoFar bytes (len + 1) (b == 37 && not inside)
go_on bytes len inside b rest e h other =
    let n = next len bytes b rest e in
    let more = step inside b rest other in
    let moved : word_len_from inside (drop len bytes) ≡ word_len_from (b == 37 && not inside) (drop (len + 1) bytes) + 1 =
    ap (word_len_from inside) e ∙ more ∙ ap (λ (xs : List ℕ). word_len_from (b == 37 && not inside) xs + 1) (sym n.1) in
    record { within = omega (arith, n.2); same = h.same ∙ omega (arith, moved) }

pub found : (bytes : List ℕ) (len : ℕ) (inside : Bool) (b : ℕ) (rest : List ℕ) → drop len bytes ≡ b ∷ rest → SoFar bytes len inside → is_blank b ≡ true → inside ≡ false → len ≡ word_len bytes
found bytes len inside b rest e h blank outside =
    let none : word_len_from inside (drop len bytes) ≡ 0 =
    ap (word_len_from inside) e ∙ ap (λ (x : Bool). word_len_from x (b ∷ rest)) outside ∙ ap (λ (x : Bool). cond x 0 (word_len_from (b == 37) rest + 1)) blank in
    let same = h.same in omega (arith, same, none)

pub past : (bytes : List ℕ) (len : ℕ) (inside : Bool) → SoFar bytes len inside → length bytes ≤ len → len ≡ word_len bytes
past bytes len inside h end =
    let none : word_len_from inside (drop len bytes) ≡ 0 = ap (word_len_from inside) (nothing (drop len bytes) (omega (arith, length-drop len bytes))) ∙ by inside in
    let same = h.same in omega (arith, same, none)
  where
    nothing : (xs : List ℕ) → length xs ≡ 0 → xs ≡ []
    nothing [] e = refl
    nothing (x ∷ xs) e = absurd (omega arith)

    by : (inside : Bool) → word_len_from inside [] ≡ 0
    by true = refl
    by false = refl

-- the word is a front of the text, behind which there is a blank or nothing
pub len_within : (inside : Bool) (text : List ℕ) → word_len_from inside text ≤ length text
len_within inside [] = by inside
  where
    by : (inside : Bool) → word_len_from inside [] ≤ 0
    by true = omega arith
    by false = omega arith
len_within true (b ∷ text) = let rest = len_within false text in omega (arith, rest)
len_within false (b ∷ text) = by (is_blank b) (len_within (b == 37) text)
  where
    by : (x : Bool) → word_len_from (b == 37) text ≤ length text → cond x 0 (word_len_from (b == 37) text + 1) ≤ length (b ∷ text)
    by true rest = omega arith
    by false rest = omega (arith, rest)

pub apart_behind : (inside : Bool) (text : List ℕ) → IsApart (drop (word_len_from inside text) text)
apart_behind inside [] = by inside
  where
    by : (inside : Bool) → IsApart (drop (word_len_from inside []) [])
    by true = tt
    by false = tt
apart_behind true (b ∷ text) =
    let one : suc (word_len_from false text) ≡ word_len_from false text + 1 = omega arith in
    subst (λ (n : ℕ). IsApart (drop n (b ∷ text))) one (apart_behind false text)
apart_behind false (b ∷ text) = by (is_blank b) refl (apart_behind (b == 37) text)
  where
    by : (x : Bool) → is_blank b ≡ x → IsApart (drop (word_len_from (b == 37) text) text) → IsApart (drop (cond x 0 (word_len_from (b == 37) text + 1)) (b ∷ text))
    by true e rest = e
    by false e rest =
        let one : suc (word_len_from (b == 37) text) ≡ word_len_from (b == 37) text + 1 = omega arith in
        subst (λ (n : ℕ). IsApart (drop n (b ∷ text))) one rest

pub word_boundary : (text : List ℕ) → IsCharBoundary text (word_len text)
word_boundary text = boundary_by text (word_len text) (len_within false text) (λ b rest e. blank_is_ascii b (subst IsApart e (apart_behind false text)))

-- a word that is taken where no blank is in front has a byte
pub some_word : (text : List ℕ) → begins is_blank text ≡ false → 0 < length text → 0 < word_len text
some_word [] e some = absurd (omega (arith, some))
some_word (b ∷ text) e some =
    let is : word_len (b ∷ text) ≡ word_len_from (b == 37) text + 1 = ap (λ (x : Bool). cond x 0 (word_len_from (b == 37) text + 1)) e in
    omega (arith, is)

-- An atom is a word.

-- bytes in which no blank stands without an escape, and none of whose escapes is open at the end
abbrev Closed : List ℕ → Type 0
Closed bytes = (rest : List ℕ) → word_len (bytes ++ rest) ≡ length bytes + word_len rest

closed_twice : (a b : List ℕ) → Closed a → Closed b → Closed (a ++ b)
closed_twice a b first second rest =
    let one = first (b ++ rest) in
    let two = second rest in
    ap word_len (append_assoc a b rest) ∙ omega (arith, one, two, length-append a b)

closed_nothing : Closed []
closed_nothing rest = omega arith

closed_byte : (b : ℕ) → is_blank b ≡ false → (b == 37) ≡ false → Closed (b ∷ [])
closed_byte b visible other rest =
    ap (λ (x : Bool). cond x 0 (word_len_from (b == 37) rest + 1)) visible ∙ ap (λ (x : Bool). word_len_from x rest + 1) other ∙ omega arith

closed_escape : (b : ℕ) → Closed (37 ∷ b ∷ [])
closed_escape b rest = omega arith

run_byte : (b : ℕ) → is_run_byte b ≡ true → Closed (b ∷ [])
run_byte b fine = closed_byte b (opposite (is_blank b) (and_left (not (is_blank b)) _ fine)) (run_byte_differs b 37 refl fine)
  where
    opposite : (x : Bool) → not x ≡ true → x ≡ false
    opposite true e = absurd (cc)
    opposite false e = refl

closed_pieces : (pieces : List Piece) → list_all (is_piece is_run_byte) pieces ≡ true → Closed (written pieces)
closed_pieces [] fine = closed_nothing
closed_pieces (plain b ∷ more) fine = closed_twice (b ∷ []) (written more) (run_byte b (and_left (is_run_byte b) _ fine)) (closed_pieces more (and_right (is_run_byte b) _ fine))
closed_pieces (escaped b ∷ more) fine = closed_twice (37 ∷ b ∷ []) (written more) (closed_escape b) (closed_pieces more (and_right (is_piece is_run_byte (escaped b)) _ fine))

closed_run : (bytes text : List ℕ) → IsRun bytes text → Closed bytes
closed_run bytes text r = subst Closed (sym r.spelled) (closed_pieces (r.first ∷ r.more) r.fine)

closed_side : (bytes : List ℕ) → MayBeSide bytes → Closed bytes
closed_side bytes (inl none) = subst Closed (sym none) closed_nothing
closed_side bytes (inr (inl r)) = closed_run bytes r.0 r.1
closed_side bytes (inr (inr any)) = subst Closed (sym any) (closed_byte 63 refl refl)

closed_atom : (bytes : List ℕ) → IsAtom bytes → Closed bytes
closed_atom bytes (inl r) = closed_run bytes r.0 r.1
closed_atom bytes (inr (up, low, spelled, is_up, is_low)) =
    subst Closed (sym spelled) (closed_twice up (58 ∷ low) (closed_side up is_up) (closed_twice (58 ∷ []) low (closed_byte 58 refl refl) (closed_side low is_low)))

no_word : (rest : List ℕ) → IsApart rest → word_len rest ≡ 0
no_word [] apart = refl
no_word (b ∷ rest) blank = ap (λ (x : Bool). cond x 0 (word_len_from (b == 37) rest + 1)) blank

pub atom_len : (atom rest : List ℕ) → IsAtom atom → IsApart rest → word_len (atom ++ rest) ≡ length atom
atom_len atom rest is apart = let all = closed_atom atom is rest in let none = no_word rest apart in omega (arith, all, none)

-- an atom begins with no blank, and no `!`
no_blank : (b : ℕ) → begins_atom b ≡ true → is_blank b ≡ false
no_blank b e = grind (arith, nat_tests)

pub atom_clear : (atom rest : List ℕ) → IsAtom atom → begins is_blank (atom ++ rest) ≡ false
atom_clear atom rest is = let h : Head begins_atom atom = atom_head atom is in ap (λ (xs : List ℕ). begins is_blank (xs ++ rest)) h.spelled ∙ no_blank h.first h.passes
