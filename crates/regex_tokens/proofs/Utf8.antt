-- Where a text in UTF-8 may be cut, and its characters.
use Rattle.std.proofs.Common.{◌≡◌, ◌≢◌, ◌≤◌, ◌<◌, ℕ, ◌+◌, ◌/◌, ◌%◌, nat_lt, Bool, true, false, cond, not, ◌&&◌, ◌||◌, ◌==◌, List, [], ◌∷◌, ◌++◌, length, drop, get_or, refl, sym, ap, subst, ◌∙◌, arith, append_assoc, append-nil, drop-cons, mod-lt}
use Rattle.std.specs.List.{list_all, list_any, concat, prefix_len}
use Rattle.std.specs.Char.{encode_utf8}
use Rattle.std.specs.Str.{IsUtf8, IsCharBoundary}
use Rattle.std.proofs.lemmas.Str.{IsUtf8-past_char, encode_ascii, IsCharBoundary-after_ascii}
use Rattle.std.proofs.lemmas.List.Sums.{prefix_len-le-length}
use Rattle.std.proofs.lemmas.Bool.Decides.{Decides-eqb, nat_tests}
use Rattle.regex_tokens.specs.Bytes.{begins, is_blank, special, is_run_byte, is_quoted_byte, is_braced_byte, is_escapable, is_continuing, is_character}
use Rattle.regex_tokens.specs.Reading.{piece_len, IsPiecesLen, undone_from}
use Rattle.regex_tokens.proofs.Lists.{and_left, and_right, and_true, false_by, split_once, drop-prefix_len, begins-left}

abbrev pub is_ascii : ℕ → Bool
is_ascii b = nat_lt b 128

ascii : (b : ℕ) → is_ascii b ≡ true → b < 128
ascii b e = grind (arith, nat_tests)

pub ascii_test : (b : ℕ) → b < 128 → list_all is_ascii (b ∷ []) ≡ true
ascii_test b h = grind (arith, nat_tests)

-- what is behind ASCII is a text again
pub past_ascii : (xs ys : List ℕ) → list_all is_ascii xs ≡ true → IsUtf8 (xs ++ ys) → IsUtf8 ys
past_ascii [] ys all h = h
past_ascii (x ∷ xs) ys all h =
    let one : x ∷ xs ++ ys ≡ encode_utf8 x ++ (xs ++ ys) = ap (λ e. e ++ (xs ++ ys)) (sym (encode_ascii x (ascii x (and_left _ _ all)))) in
    past_ascii xs ys (and_right (is_ascii x) _ all) (IsUtf8-past_char (x ∷ xs ++ ys) (xs ++ ys) x h one)

-- a text may be cut before ASCII, and at its end
pub boundary_by : (text : List ℕ) (n : ℕ) → n ≤ length text → ((b : ℕ) (bs : List ℕ) → drop n text ≡ b ∷ bs → b < 128) → IsCharBoundary text n
boundary_by text n low stops = (low, λ less high. let small : get_or text n 0 < 128 = stops (get_or text n 0) _ (drop-cons text n 0 less) in absurd (omega (arith, small)))

-- Bytes that end a run, quotes or braces are ASCII.

any_below : (b : ℕ) (xs : List ℕ) → list_any (λ s. s == b) xs ≡ true → list_all is_ascii xs ≡ true → b < 128
any_below b [] any all = absurd cc
any_below b (x ∷ xs) any all = by (x == b) refl any (λ more. any_below b xs more (and_right (is_ascii x) _ all))
  where
    by : (here : Bool) → (x == b) ≡ here → (here || list_any (λ s. s == b) xs) ≡ true → (list_any (λ s. s == b) xs ≡ true → b < 128) → b < 128
    by true is any later = let same : x ≡ b = (Decides-eqb x b).0 is in subst (λ y. y < 128) same (ascii x (and_left _ _ all))
    by false is any later = later any

pub blank_is_ascii : (b : ℕ) → is_blank b ≡ true → b < 128
blank_is_ascii b e = grind (arith, nat_tests)

pub run_stops : (b : ℕ) → is_run_byte b ≡ false → b < 128
run_stops b e = by (is_blank b) (list_any (λ s. s == b) special) refl refl e
  where
    by : (x y : Bool) → is_blank b ≡ x → list_any (λ s. s == b) special ≡ y → (not x && not y) ≡ false → b < 128
    by true y is any e = blank_is_ascii b is
    by false true is any e = any_below b special any refl
    by false false is any e = absurd cc

pub quoted_stops : (b : ℕ) → is_quoted_byte b ≡ false → b < 128
quoted_stops b e = grind (arith, nat_tests)

pub braced_stops : (b : ℕ) → is_braced_byte b ≡ false → b < 128
braced_stops b e = grind (arith, nat_tests)

-- where no piece begins, the first byte may not stand without an escape
pub stop_here : (p : ℕ → Bool) (b : ℕ) (bs : List ℕ) → piece_len p (b ∷ bs) ≡ 0 → p b ≡ false
stop_here p b bs e = by (p b) refl e
  where
    by : (here : Bool) → p b ≡ here → ◌≡◌ {A = ℕ} (cond here 1 (cond (b == 37 && begins is_escapable bs) 2 0)) 0 → p b ≡ false
    by true is e = absurd (omega arith)
    by false is e = is

pub quoted_boundary : (text : List ℕ) → IsCharBoundary text (prefix_len is_quoted_byte text)
quoted_boundary text = boundary_by text (prefix_len is_quoted_byte text) (prefix_len-le-length is_quoted_byte text) (λ b bs e. quoted_stops b (sym (ap (begins is_quoted_byte) (sym (drop-prefix_len is_quoted_byte text) ∙ e)) ∙ begins-left is_quoted_byte text))

pub pieces_boundary : (p : ℕ → Bool) → ((b : ℕ) → p b ≡ false → b < 128) → (text : List ℕ) (n : ℕ) → IsPiecesLen p text n → IsCharBoundary text n
pieces_boundary p stops text n h = boundary_by text n h.within (λ b bs e. stops b (stop_here p b bs (sym (ap (piece_len p) e) ∙ h.stops)))

-- a text that begins with ASCII may be cut behind it
pub first_boundary : (b : ℕ) (text : List ℕ) → b < 128 → begins (λ c. c == b) text ≡ true → IsUtf8 text → IsCharBoundary text 1
first_boundary b [] small first utf8 = absurd cc
first_boundary b (c ∷ cs) small first utf8 = let same : c ≡ b = (Decides-eqb c b).0 first in IsCharBoundary-after_ascii (c ∷ cs) 0 utf8 (omega arith) (omega (arith, same))

-- Characters.

low : (b : ℕ) → b < 128 → is_continuing b ≡ false
low b h = grind (arith, nat_tests)

leading : (b : ℕ) → 192 ≤ b → is_continuing b ≡ false
leading b h = grind (arith, nat_tests)

continuing : (x : ℕ) → x < 64 → is_continuing (128 + x) ≡ true
continuing x h = grind (arith, nat_tests)

pub record Shape (c : ℕ) : Type 0 where
  pub first : ℕ
  pub more : List ℕ
  pub spelled : encode_utf8 c ≡ first ∷ more
  pub leads : is_continuing first ≡ false
  pub continues : list_all is_continuing more ≡ true
  pub escape : (first == 37) ≡ (c == 37)

low_escape : (c : ℕ) → 128 ≤ c → (c == 37) ≡ false
low_escape c h = grind (arith, nat_tests)

next : (x : ℕ) → is_continuing (128 + x % 64) ≡ true
next x = continuing (x % 64) (mod-lt x (omega arith))

below : (c n : ℕ) → nat_lt c n ≡ true → c < n
below c n e = grind (arith, nat_tests)

above : (c n : ℕ) → nat_lt c n ≡ false → n ≤ c
above c n e = grind (arith, nat_tests)

pub shape : (c : ℕ) → Shape c
unfolding encode_utf8
shape c = by (nat_lt c 128) refl
  where
    long : (first : ℕ) (more : List ℕ) → encode_utf8 c ≡ first ∷ more → 128 ≤ c → 192 ≤ first → list_all is_continuing more ≡ true → Shape c
    long first more e high lead all = record { first = first; more = more; spelled = e; leads = leading first lead; continues = all; escape = low_escape first (omega arith) ∙ sym (low_escape c high) }

    by4 : (z : Bool) → nat_lt c 128 ≡ false → nat_lt c 2048 ≡ false → nat_lt c 65536 ≡ z → Shape c
    by4 true x y z = long (224 + c / 4096) ((128 + c / 64 % 64) ∷ (128 + c % 64) ∷ []) (rw (x, y, z) refl) (above c 128 x) (omega arith) (and_true _ _ (next (c / 64)) (and_true _ _ (next c) refl))
    by4 false x y z = long (240 + c / 262144) ((128 + c / 4096 % 64) ∷ (128 + c / 64 % 64) ∷ (128 + c % 64) ∷ []) (rw (x, y, z) refl) (above c 128 x) (omega arith) (and_true _ _ (next (c / 4096)) (and_true _ _ (next (c / 64)) (and_true _ _ (next c) refl)))

    by3 : (y : Bool) → nat_lt c 128 ≡ false → nat_lt c 2048 ≡ y → Shape c
    by3 true x y = long (192 + c / 64) ((128 + c % 64) ∷ []) (rw (x, y) refl) (above c 128 x) (omega arith) (and_true _ _ (next c) refl)
    by3 false x y = by4 (nat_lt c 65536) x y refl

    by : (x : Bool) → nat_lt c 128 ≡ x → Shape c
    by true x = record { first = c; more = []; spelled = encode_ascii c (below c 128 x); leads = low c (below c 128 x); continues = refl; escape = refl }
    by false x = by3 (nat_lt c 2048) x refl

-- The loop over the characters of a text with escapes.

no_escape : (b : ℕ) → is_continuing b ≡ true → (b == 37) ≡ false
no_escape b h = grind (arith, nat_tests)

undone-continuing : (more rest : List ℕ) → list_all is_continuing more ≡ true → undone_from false (more ++ rest) ≡ more ++ undone_from false rest
undone-continuing [] rest all = refl
undone-continuing (b ∷ more) rest all = rw (no_escape b (and_left _ _ all)) (ap (λ bs. b ∷ bs) (undone-continuing more rest (and_right (is_continuing b) _ all)))

pub undone-escape : (c : ℕ) (rest : List ℕ) → c ≡ 37 → undone_from false (encode_utf8 c ++ rest) ≡ undone_from true rest
undone-escape c rest e = ap (λ x. undone_from false (encode_utf8 x ++ rest)) e ∙ ap (λ bs. undone_from false (bs ++ rest)) (encode_ascii 37 (omega arith))

pub undone-plain : (c : ℕ) (rest : List ℕ) → (c == 37) ≡ false → undone_from false (encode_utf8 c ++ rest) ≡ encode_utf8 c ++ undone_from false rest
undone-plain c rest e =
    let s : Shape c = shape c in
    let here : (s.first == 37) ≡ false = s.escape ∙ e in
    let whole : undone_from false (s.first ∷ s.more ++ rest) ≡ s.first ∷ s.more ++ undone_from false rest = rw here (ap (λ bs. s.first ∷ bs) (undone-continuing s.more rest s.continues)) in
    ap (λ bs. undone_from false (bs ++ rest)) s.spelled ∙ whole ∙ sym (ap (λ bs. bs ++ undone_from false rest) s.spelled)

pub undone-behind : (c : ℕ) (rest : List ℕ) → undone_from true (encode_utf8 c ++ rest) ≡ encode_utf8 c ++ undone_from false rest
undone-behind c rest =
    let s : Shape c = shape c in
    let whole : undone_from true (s.first ∷ s.more ++ rest) ≡ s.first ∷ s.more ++ undone_from false rest = ap (λ bs. s.first ∷ bs) (undone-continuing s.more rest s.continues) in
    ap (λ bs. undone_from true (bs ++ rest)) s.spelled ∙ whole ∙ sym (ap (λ bs. bs ++ undone_from false rest) s.spelled)

pub undone_goes_on : (found text behind all : List ℕ) (inside : Bool) (c : ℕ) → (c == 37 && not inside) ≡ false → text ≡ encode_utf8 c ++ behind → found ++ undone_from inside text ≡ all → (found ++ encode_utf8 c) ++ undone_from false behind ≡ all
undone_goes_on found text behind all inside c plain e so_far = append_assoc found (encode_utf8 c) (undone_from false behind) ∙ sym (ap (λ bs. found ++ bs) (ap (undone_from inside) e ∙ by inside plain)) ∙ so_far
  where
    by : (inside : Bool) → (c == 37 && not inside) ≡ false → undone_from inside (encode_utf8 c ++ behind) ≡ encode_utf8 c ++ undone_from false behind
    by true plain = undone-behind c behind
    by false plain = undone-plain c behind (first (c == 37) plain)
      where
        first : (x : Bool) → (x && true) ≡ false → x ≡ false
        first true e = e
        first false e = refl

pub undone_skips : (found text behind all : List ℕ) (c : ℕ) → c ≡ 37 → text ≡ encode_utf8 c ++ behind → found ++ undone_from false text ≡ all → found ++ undone_from true behind ≡ all
undone_skips found text behind all c is e so_far = sym (ap (λ bs. found ++ bs) (ap (undone_from false) e ∙ undone-escape c behind is)) ∙ so_far

-- The loop over the characters of a text.

pub concat-append : (xs : List (List ℕ)) (x : List ℕ) → concat (xs ++ x ∷ []) ≡ concat xs ++ x
concat-append [] x = append-nil x
concat-append (y ∷ xs) x = ap (λ bs. y ++ bs) (concat-append xs x) ∙ sym (append_assoc y (concat xs) x)

pub character : (c : ℕ) → is_character (encode_utf8 c) ≡ true
character c = let s : Shape c = shape c in ap is_character s.spelled ∙ and_true _ _ (ap not s.leads) s.continues

pub characters-append : (xs : List (List ℕ)) (c : ℕ) → list_all is_character xs ≡ true → list_all is_character (xs ++ encode_utf8 c ∷ []) ≡ true
characters-append [] c all = and_true _ _ (character c) refl
characters-append (x ∷ xs) c all = and_true _ _ (and_left _ _ all) (characters-append xs c (and_right (is_character x) _ all))

pub letters_go_on : (found : List (List ℕ)) (text behind all : List ℕ) (c : ℕ) → text ≡ encode_utf8 c ++ behind → concat found ++ text ≡ all → concat (found ++ encode_utf8 c ∷ []) ++ behind ≡ all
letters_go_on found text behind all c e so_far = ap (λ bs. bs ++ behind) (concat-append found (encode_utf8 c)) ∙ append_assoc (concat found) (encode_utf8 c) behind ∙ sym (ap (λ bs. concat found ++ bs) e) ∙ so_far

-- Characters that are joined are known from their text.

begins_character : (xs : List (List ℕ)) → list_all is_character xs ≡ true → begins is_continuing (concat xs) ≡ false
begins_character [] all = refl
begins_character ([] ∷ xs) all = absurd cc
begins_character ((b ∷ bs) ∷ xs) all = flip (is_continuing b) (and_left _ _ (and_left _ _ all))
  where
    flip : (x : Bool) → not x ≡ true → x ≡ false
    flip true e = cc
    flip false e = refl

pub characters_once : (xs ys : List (List ℕ)) → list_all is_character xs ≡ true → list_all is_character ys ≡ true → concat xs ≡ concat ys → xs ≡ ys
characters_once [] [] all_x all_y e = refl
characters_once [] ([] ∷ ys) all_x all_y e = absurd cc
characters_once [] ((c ∷ cs) ∷ ys) all_x all_y e = absurd cc
characters_once ([] ∷ xs) ys all_x all_y e = absurd cc
characters_once ((b ∷ bs) ∷ xs) [] all_x all_y e = absurd cc
characters_once ((b ∷ bs) ∷ xs) ([] ∷ ys) all_x all_y e = absurd cc
characters_once ((b ∷ bs) ∷ xs) ((c ∷ cs) ∷ ys) all_x all_y e =
    let more_x = and_right (is_character (b ∷ bs)) _ all_x in
    let more_y = and_right (is_character (c ∷ cs)) _ all_y in
    let head : b ≡ c = heads e in
    let both = split_once is_continuing bs cs (concat xs) (concat ys) (and_right (not (is_continuing b)) _ (and_left _ _ all_x)) (and_right (not (is_continuing c)) _ (and_left _ _ all_y)) (begins_character xs more_x) (begins_character ys more_y) (tails e) in
    let first : b ∷ bs ≡ c ∷ cs = rw (head, both.0) refl in
    let rest : xs ≡ ys = characters_once xs ys more_x more_y both.1 in
    rw (first, rest) refl
  where
    heads : b ∷ bs ++ concat xs ≡ c ∷ cs ++ concat ys → b ≡ c
    heads e = cc

    tails : b ∷ bs ++ concat xs ≡ c ∷ cs ++ concat ys → bs ++ concat xs ≡ cs ++ concat ys
    tails e = cc

pub in_escape : (c : ℕ) (inside : Bool) → inside ≡ true → (c == 37 && not inside) ≡ false
in_escape c inside e = false_by (c == 37 && not inside) (λ h. sym (and_right (c == 37) _ h) ∙ ap not e)

pub no_percent : (c : ℕ) (inside : Bool) → c ≢ 37 → (c == 37 && not inside) ≡ false
no_percent c inside h = false_by (c == 37 && not inside) (λ e. absurd (h ((Decides-eqb c 37).0 (and_left _ _ e))))
