-- The longest atom at the front of a text.
use Rattle.std.proofs.Common.{◌≡◌, ◌≤◌, ◌<◌, ℕ, ◌+◌, Bool, true, false, not, ◌&&◌, ◌||◌, ◌==◌, List, [], ◌∷◌, ◌++◌, length, take, drop, refl, sym, ap, subst, ◌∙◌, ◌⊎◌, inl, inr, arith, append_assoc, append-nil, length-append, length-drop}
use Rattle.std.specs.List.{list_all, list_any}
use Rattle.std.specs.Prelude.{codes}
use Rattle.std.specs.Str.{IsUtf8, IsCharBoundary}
use Rattle.std.proofs.lemmas.Str.{IsUtf8-drop}
use Rattle.std.proofs.lemmas.Bool.Decides.{Decides-eqb, nat_tests}
use Rattle.std.proofs.lemmas.List.{take-append-drop}
use Rattle.regex_tokens.specs.Bytes.{begins, is_blank}
use Rattle.regex_tokens.specs.Spelling.{Piece, plain, escaped, is_piece, written, meant}
use Rattle.regex_tokens.specs.Reading.{piece_len, IsPiecesLen}
use Rattle.regex_tokens.proofs.Lists.{and_left, and_right, false_by}
use Rattle.regex_tokens.proofs.Pieces.{Reach, reach, once}
use Rattle.regex_tokens.proofs.Spells.{begins_is, closed}
use Rattle.regex_tokens.proofs.Utf8.{is_ascii, blank_is_ascii, pieces_boundary, first_boundary}
use Rattle.twolc_tokens.specs.Spelling.{special, is_run_byte, IsRun, MayBeSide, IsAtom}
use Rattle.twolc_tokens.specs.Reading.{IsSideLen, HasNoAtom, IsAtomLen}

-- Bytes.

pub run_byte_differs : (b c : ℕ) → is_run_byte c ≡ false → is_run_byte b ≡ true → (b == c) ≡ false
run_byte_differs b c fails passes = false_by (b == c) (λ e. sym passes ∙ ap is_run_byte ((Decides-eqb b c).0 e) ∙ fails)

-- a byte with which an atom begins
abbrev pub begins_atom : ℕ → Bool
begins_atom b = b == 58 || (b == 63 || (b == 37 || is_run_byte b))

-- a byte with which a run begins
abbrev pub begins_run : ℕ → Bool
begins_run b = b == 37 || is_run_byte b

-- what begins with a byte
pub record Head (is : ℕ → Bool) (bytes : List ℕ) : Type 0 where
  pub first : ℕ
  pub more : List ℕ
  pub spelled : bytes ≡ first ∷ more
  pub passes : is first ≡ true

second : (a b : Bool) → b ≡ true → (a || b) ≡ true
second true b e = refl
second false b e = e

piece_head : (first : Piece) (more : List Piece) (bytes : List ℕ) → is_piece is_run_byte first ≡ true → bytes ≡ written (first ∷ more) → Head begins_run bytes
piece_head (plain b) more bytes fine e = record { first = b; more = written more; spelled = e; passes = second (b == 37) (is_run_byte b) fine }
piece_head (escaped b) more bytes fine e = record { first = 37; more = b ∷ written more; spelled = e; passes = refl }

pub run_head : (bytes text : List ℕ) → IsRun bytes text → Head begins_run bytes
run_head bytes text r = piece_head r.first r.more bytes (and_left _ _ r.fine) r.spelled

not_begins : (b c : ℕ) → begins_run b ≡ true → begins_run c ≡ false → b ≡ c → ⊥
not_begins b c passes fails e = let clash : true ≡ false = sym passes ∙ ap begins_run e ∙ fails in cc

heads : (x y : ℕ) (xs ys : List ℕ) → x ∷ xs ≡ y ∷ ys → x ≡ y
heads x y xs ys e = cc

tails : (x y : ℕ) (xs ys : List ℕ) → x ∷ xs ≡ y ∷ ys → xs ≡ ys
tails x y xs ys e = cc

-- a run doesn't begin with a byte that no run begins with
run_not : (c : ℕ) → begins_run c ≡ false → (run text rest behind : List ℕ) → IsRun run text → c ∷ behind ≡ run ++ rest → ⊥
run_not c fails run text rest behind r e =
    let h : Head begins_run run = run_head run text r in
    not_begins h.first c h.passes fails (sym (heads c h.first behind (h.more ++ rest) (e ∙ ap (λ bs. bs ++ rest) h.spelled)))

-- Sides.

begins_of : (b : ℕ) (text rest : List ℕ) → text ≡ b ∷ rest → begins (λ c. c == b) text ≡ true
begins_of b text rest e = ap (begins (λ c. c == b)) e ∙ (Decides-eqb b b).1 refl

true_false : true ≡ false → ⊥
true_false e = absurd cc

-- pieces behind which none is are the longest
pieces_len_is : (text : List ℕ) (n : ℕ) (ps : List Piece) (rest : List ℕ) → IsPiecesLen is_run_byte text n → list_all (is_piece is_run_byte) ps ≡ true → piece_len is_run_byte rest ≡ 0 → text ≡ written ps ++ rest → n ≡ length (written ps)
pieces_len_is text n ps rest h fine stop e =
    let both : written h.pieces ++ drop n text ≡ written ps ++ rest = ap (λ bs. bs ++ drop n text) h.spelled ∙ take-append-drop n text ∙ e in
    let same : (h.pieces ≡ ps) × (drop n text ≡ rest) = once is_run_byte refl h.pieces ps (drop n text) rest h.fine fine h.stops stop both in
    omega (arith, h.within, ap length both, length-append (written h.pieces) (drop n text), length-append (written ps) rest, ap length same.1, ap length (take-append-drop n text), length-append (take n text) (drop n text), ap length h.spelled, ap length e, length-drop_of n text h.within)
  where
    length-drop_of : (n : ℕ) (text : List ℕ) → n ≤ length text → n + length (drop n text) ≡ length text
    length-drop_of n text low = grind (arith, length-drop)

-- a side is the longest where a `:` is behind it
pub side_stops : (text side rest : List ℕ) (n : ℕ) → MayBeSide side → text ≡ side ++ 58 ∷ rest → IsSideLen text n → n ≡ length side
side_stops text side rest n (inl none) e (inl q) = absurd (true_false (sym q.0 ∙ ap (begins (λ b. b == 63)) (e ∙ ap (λ bs. bs ++ 58 ∷ rest) none)))
side_stops text side rest n (inl none) e (inr q) = pieces_len_is text n [] (58 ∷ rest) q.1 refl refl (e ∙ ap (λ bs. bs ++ 58 ∷ rest) none) ∙ sym (ap length none)
side_stops text side rest n (inr (inl r)) e (inl q) = absurd (run_not 63 refl side r.0 (58 ∷ rest) (drop 1 text) r.1 (sym (begins_is 63 text q.0) ∙ e))
side_stops text side rest n (inr (inl r)) e (inr q) = pieces_len_is text n (r.1.first ∷ r.1.more) (58 ∷ rest) q.1 r.1.fine refl (e ∙ ap (λ bs. bs ++ 58 ∷ rest) r.1.spelled) ∙ sym (ap length r.1.spelled)
side_stops text side rest n (inr (inr any)) e (inl q) = q.1 ∙ sym (ap length any)
side_stops text side rest n (inr (inr any)) e (inr q) = absurd (true_false (sym (begins_of 63 text (58 ∷ rest) (e ∙ ap (λ bs. bs ++ 58 ∷ rest) any)) ∙ q.0))

pieces_reach : (text : List ℕ) (n : ℕ) (ps : List Piece) (rest : List ℕ) → IsPiecesLen is_run_byte text n → list_all (is_piece is_run_byte) ps ≡ true → text ≡ written ps ++ rest → length (written ps) ≤ n
pieces_reach text n ps rest h fine e =
    let both : written h.pieces ++ drop n text ≡ written ps ++ rest = ap (λ bs. bs ++ drop n text) h.spelled ∙ take-append-drop n text ∙ e in
    let far : Reach is_run_byte h.pieces ps (drop n text) rest = reach is_run_byte refl h.pieces ps (drop n text) rest h.fine fine h.stops both in
    omega (arith, h.within, ap length e, length-append (written ps) rest, ap length far.behind, length-append (written far.more) (drop n text), length-drop_of n text h.within)
  where
    length-drop_of : (n : ℕ) (text : List ℕ) → n ≤ length text → n + length (drop n text) ≡ length text
    length-drop_of n text low = grind (arith, length-drop)

-- no side at the front is longer
pub side_within : (text side rest : List ℕ) (n : ℕ) → MayBeSide side → text ≡ side ++ rest → IsSideLen text n → length side ≤ n
side_within text side rest n (inl none) e h = omega (arith, ap length none)
side_within text side rest n (inr (inl r)) e (inl q) = absurd (run_not 63 refl side r.0 rest (drop 1 text) r.1 (sym (begins_is 63 text q.0) ∙ e))
side_within text side rest n (inr (inl r)) e (inr q) = let size : length (written (r.1.first ∷ r.1.more)) ≤ n = pieces_reach text n (r.1.first ∷ r.1.more) rest q.1 r.1.fine (e ∙ ap (λ bs. bs ++ rest) r.1.spelled) in omega (arith, ap length r.1.spelled)
side_within text side rest n (inr (inr any)) e (inl q) = omega (arith, q.1, ap length any)
side_within text side rest n (inr (inr any)) e (inr q) = absurd (true_false (sym (begins_of 63 text rest (e ∙ ap (λ bs. bs ++ rest) any)) ∙ q.0))

run_of_pieces : (bytes : List ℕ) (ps : List Piece) → list_all (is_piece is_run_byte) ps ≡ true → written ps ≡ bytes → (bytes ≡ []) ⊎ ((text : List ℕ) × IsRun bytes text)
run_of_pieces bytes [] fine e = inl (sym e)
run_of_pieces bytes (p ∷ ps) fine e = inr (meant (p ∷ ps), record { first = p; more = ps; fine = fine; spelled = sym e; text_is = refl })

first_taken : (text : List ℕ) → begins (λ b. b == 63) text ≡ true → take 1 text ≡ 63 ∷ []
first_taken text e = ap (take 1) (begins_is 63 text e)

pub side_is : (text : List ℕ) (n : ℕ) → IsSideLen text n → MayBeSide (take n text)
side_is text n (inl q) = inr (inr (ap (λ k. take k text) q.1 ∙ first_taken text q.0))
side_is text n (inr q) = elim (run_of_pieces (take n text) q.1.pieces q.1.fine q.1.spelled) [ inl none ↦ inl none | inr r ↦ inr (inl r) ]

some_first : (text : List ℕ) (b : ℕ) → begins (λ c. c == b) text ≡ true → 0 < length text
some_first [] b e = absurd cc
some_first (x ∷ xs) b e = omega arith

pub side_in_text : (text : List ℕ) (n : ℕ) → IsSideLen text n → n ≤ length text
side_in_text text n (inl q) = omega (arith, q.1, some_first text 63 q.0)
side_in_text text n (inr q) = q.1.within

any_ascii : (b : ℕ) (xs : List ℕ) → list_any (λ s. s == b) xs ≡ true → list_all is_ascii xs ≡ true → b < 128
any_ascii b [] any all = absurd cc
any_ascii b (x ∷ xs) any all = by (x == b) refl any (λ more. any_ascii b xs more (and_right (is_ascii x) _ all))
  where
    by : (here : Bool) → (x == b) ≡ here → (here || list_any (λ s. s == b) xs) ≡ true → (list_any (λ s. s == b) xs ≡ true → b < 128) → b < 128
    by true is any later = let same : x ≡ b = (Decides-eqb x b).0 is in let low : x < 128 = below x (and_left _ _ all) in omega arith
      where
        below : (x : ℕ) → is_ascii x ≡ true → x < 128
        below x e = grind (arith, nat_tests)
    by false is any later = later any

pub run_stops : (b : ℕ) → is_run_byte b ≡ false → b < 128
run_stops b e = by (is_blank b) (list_any (λ s. s == b) special) refl refl e
  where
    by : (x y : Bool) → is_blank b ≡ x → list_any (λ s. s == b) special ≡ y → (not x && not y) ≡ false → b < 128
    by true y is any e = blank_is_ascii b is
    by false true is any e = any_ascii b special any refl
    by false false is any e = absurd cc

pub side_boundary : (text : List ℕ) (n : ℕ) → IsUtf8 text → IsSideLen text n → IsCharBoundary text n
side_boundary text n utf8 (inl q) = subst (IsCharBoundary text) (sym q.1) (first_boundary 63 text (omega arith) q.0 utf8)
side_boundary text n utf8 (inr q) = pieces_boundary is_run_byte run_stops text n q.1

pub side_utf8 : (text : List ℕ) (n : ℕ) → IsUtf8 text → IsSideLen text n → IsUtf8 (drop n text)
side_utf8 text n utf8 h = IsUtf8-drop text n utf8 (side_boundary text n utf8 h)

-- Atoms.

joined_front : (up low : List ℕ) (behind : List ℕ) → (up ++ (codes ":" ++ low)) ++ behind ≡ up ++ 58 ∷ (low ++ behind)
joined_front up low behind = append_assoc up (58 ∷ low) behind

drop-front : (front rest : List ℕ) → drop (length front) (front ++ rest) ≡ rest
drop-front [] rest = refl
drop-front (b ∷ front) rest = drop-front front rest

take-front : (front rest : List ℕ) → take (length front) (front ++ rest) ≡ front
take-front [] rest = refl
take-front (b ∷ front) rest = ap (λ bs. b ∷ bs) (take-front front rest)

-- what stands behind an upper side where a `:` does
behind_up : (text up low behind : List ℕ) (n : ℕ) → text ≡ up ++ 58 ∷ (low ++ behind) → n ≡ length up → drop n text ≡ 58 ∷ (low ++ behind)
behind_up text up low behind n e size = ap (λ k. drop k text) size ∙ ap (drop (length up)) e ∙ drop-front up (58 ∷ (low ++ behind))

no_colon_longest : (text : List ℕ) (n : ℕ) → IsSideLen text n → begins (λ b. b == 58) (drop n text) ≡ false → (longer behind : List ℕ) → text ≡ longer ++ behind → IsAtom longer → (text_of : List ℕ) × IsRun longer text_of
no_colon_longest text n side bare longer behind e (inl r) = r
no_colon_longest text n side bare longer behind e (inr (up, low, spelled, is_up, is_low)) =
    let whole : text ≡ up ++ 58 ∷ (low ++ behind) = e ∙ ap (λ bs. bs ++ behind) spelled ∙ joined_front up low behind in
    let size : n ≡ length up = side_stops text up (low ++ behind) n is_up whole side in
    absurd (true_false (sym (begins_of 58 (drop n text) (low ++ behind) (behind_up text up low behind n whole size)) ∙ bare))

-- a run, where neither `?` is in front nor a `:` behind it
pub run_alone : (text : List ℕ) (n : ℕ) → IsSideLen text n → begins (λ b. b == 58) (drop n text) ≡ false → begins (λ b. b == 63) text ≡ false → IsAtomLen text n
run_alone text n side bare question = record {
  within = side_in_text text n side;
  is = λ some. elim (side_is text n side) [
    | inl none ↦ absurd (omega (arith, some, ap length none, length-take_of n text (side_in_text text n side)))
    | inr h ↦ elim h [ inl r ↦ inl r | inr any ↦ absurd (true_false (sym (begins_of 63 text (drop n text) (sym (take-append-drop n text) ∙ ap (λ bs. bs ++ drop n text) any)) ∙ question)) ]
  ];
  longest = λ longer behind e atom. side_within text longer behind n (inr (inl (no_colon_longest text n side bare longer behind e atom))) e side;
  utf8 = λ some utf8. side_utf8 text n utf8 side;
}
  where
    length-take_of : (n : ℕ) (text : List ℕ) → n ≤ length text → length (take n text) ≡ n
    length-take_of n text low = omega (arith, ap length (take-append-drop n text), length-append (take n text) (drop n text), length-drop n text)

-- `?` alone is no atom
pub question_alone : (text : List ℕ) (n : ℕ) → IsSideLen text n → begins (λ b. b == 58) (drop n text) ≡ false → begins (λ b. b == 63) text ≡ true → IsAtomLen text 0
question_alone text n side bare question = record {
  within = omega arith;
  is = λ some. absurd (omega arith);
  longest = λ longer behind e atom. let r = no_colon_longest text n side bare longer behind e atom in absurd (run_not 63 refl longer r.0 behind (drop 1 text) r.1 (sym (begins_is 63 text question) ∙ e));
  utf8 = λ some utf8. absurd (omega arith);
}

-- two sides with a `:` between them
pub two_sides : (text low : List ℕ) (n m : ℕ) → IsSideLen text n → drop n text ≡ 58 ∷ low → IsSideLen low m → IsAtomLen text (n + 1 + m)
two_sides text low n m up behind side =
    let whole : text ≡ take n text ++ 58 ∷ low = sym (take-append-drop n text) ∙ ap (λ bs. take n text ++ bs) behind in
    let front : text ≡ (take n text ++ (codes ":" ++ take m low)) ++ drop m low = whole ∙ ap (λ bs. take n text ++ 58 ∷ bs) (sym (take-append-drop m low)) ∙ sym (joined_front (take n text) (take m low) (drop m low)) in
    let n_len : length (take n text) ≡ n = length-take_of n text (side_in_text text n up) in
    let m_len : length (take m low) ≡ m = length-take_of m low (side_in_text low m side) in
    let size : length (take n text ++ (codes ":" ++ take m low)) ≡ n + 1 + m = omega (arith, n_len, m_len, length-append (take n text) (58 ∷ take m low)) in
    let taken : take (n + 1 + m) text ≡ take n text ++ (codes ":" ++ take m low) = ap (λ k. take k text) (sym size) ∙ ap (take (length (take n text ++ (codes ":" ++ take m low)))) front ∙ take-front (take n text ++ (codes ":" ++ take m low)) (drop m low) in
    let dropped : drop (n + 1 + m) text ≡ drop m low = ap (λ k. drop k text) (sym size) ∙ ap (drop (length (take n text ++ (codes ":" ++ take m low)))) front ∙ drop-front (take n text ++ (codes ":" ++ take m low)) (drop m low) in
    record {
      within = omega (arith, ap length front, length-append (take n text ++ (codes ":" ++ take m low)) (drop m low), size);
      is = λ some. inr (take n text, take m low, taken, side_is text n up, side_is low m side);
      longest = longest;
      utf8 = λ some utf8. subst IsUtf8 (sym dropped) (side_utf8 low m (subst IsUtf8 (ap (drop 1) behind) (closed 58 (drop n text) (omega arith) (begins_of 58 (drop n text) low behind) (side_utf8 text n utf8 up))) side);
    }
  where
    length-take_of : (n : ℕ) (text : List ℕ) → n ≤ length text → length (take n text) ≡ n
    length-take_of n text low = omega (arith, ap length (take-append-drop n text), length-append (take n text) (drop n text), length-drop n text)

    longest : (longer behind : List ℕ) → text ≡ longer ++ behind → IsAtom longer → length longer ≤ n + 1 + m
    longest longer rest e (inl r) = let short : length longer ≤ n = side_within text longer rest n (inr (inl r)) e up in omega arith
    longest longer rest e (inr (u, l, spelled, is_up, is_low)) =
        let all : text ≡ u ++ 58 ∷ (l ++ rest) = e ∙ ap (λ bs. bs ++ rest) spelled ∙ joined_front u l rest in
        let size : n ≡ length u = side_stops text u (l ++ rest) n is_up all up in
        let same : low ≡ l ++ rest = tails 58 58 low (l ++ rest) (sym behind ∙ behind_up text u l rest n all size) in
        let short : length l ≤ m = side_within low l rest m is_low same side in
        omega (arith, ap length spelled, length-append u (58 ∷ l), size)

-- What an atom begins with.

atom_by : (b : ℕ) → begins_run b ≡ true → begins_atom b ≡ true
atom_by b e = second (b == 58) _ (second (b == 63) (begins_run b) e)

side_head : (up rest : List ℕ) → MayBeSide up → Head begins_atom (up ++ 58 ∷ rest)
side_head up rest (inl none) = record { first = 58; more = rest; spelled = ap (λ bs. bs ++ 58 ∷ rest) none; passes = refl }
side_head up rest (inr (inl r)) = let h : Head begins_run up = run_head up r.0 r.1 in record { first = h.first; more = h.more ++ 58 ∷ rest; spelled = ap (λ bs. bs ++ 58 ∷ rest) h.spelled; passes = atom_by h.first h.passes }
side_head up rest (inr (inr any)) = record { first = 63; more = 58 ∷ rest; spelled = ap (λ bs. bs ++ 58 ∷ rest) any; passes = refl }

pub atom_head : (bytes : List ℕ) → IsAtom bytes → Head begins_atom bytes
atom_head bytes (inl r) = let h : Head begins_run bytes = run_head bytes r.0 r.1 in record { first = h.first; more = h.more; spelled = h.spelled; passes = atom_by h.first h.passes }
atom_head bytes (inr (up, low, spelled, is_up, is_low)) = let h : Head begins_atom (up ++ 58 ∷ low) = side_head up low is_up in record { first = h.first; more = h.more; spelled = spelled ∙ h.spelled; passes = h.passes }

-- `?` alone isn't one

no_run : begins_run 63 ≡ false
no_run = refl

question_sides : (up low : List ℕ) → MayBeSide up → 63 ∷ [] ≡ up ++ 58 ∷ low → ⊥
question_sides up low (inl none) e = let clash : 63 ≡ 58 = heads 63 58 [] low (e ∙ ap (λ bs. bs ++ 58 ∷ low) none) in omega (arith, clash)
question_sides up low (inr (inl r)) e = run_not 63 no_run up r.0 (58 ∷ low) [] r.1 e
question_sides up low (inr (inr any)) e = let clash : [] ≡ 58 ∷ low = tails 63 63 [] (58 ∷ low) (e ∙ ap (λ bs. bs ++ 58 ∷ low) any) in cc

pub no_question : (bytes : List ℕ) → bytes ≡ 63 ∷ [] → IsAtom bytes → ⊥
no_question bytes e (inl r) = run_not 63 no_run bytes r.0 [] [] r.1 (sym e ∙ sym (append-nil bytes))
no_question bytes e (inr (up, low, spelled, is_up, is_low)) = question_sides up low is_up (sym e ∙ spelled)

-- where the longest has no bytes there is none
pub none_at : (text : List ℕ) (n : ℕ) → IsAtomLen text n → n ≤ 0 → HasNoAtom text
none_at text n h none longer behind e atom = let s : Head begins_atom longer = atom_head longer atom in omega (arith, h.longest longer behind e atom, ap length s.spelled)
