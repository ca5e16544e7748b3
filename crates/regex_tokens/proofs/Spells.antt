-- Tokens are told apart by their first byte. The longest token of each kind, quotes, braces and runs.
use Rattle.std.proofs.Common.{◌≡◌, ◌≢◌, ◌≤◌, ◌<◌, ℕ, ◌+◌, Bool, true, false, not, ◌||◌, ◌==◌, List, [], ◌∷◌, ◌++◌, length, take, drop, refl, sym, ap, subst, ◌∙◌, inl, inr, arith, append_assoc, length-append, Some}
use Rattle.std.specs.List.{list_all, list_any, concat, prefix_len}
use Rattle.std.specs.Str.{IsUtf8, IsCharBoundary}
use Rattle.std.proofs.lemmas.Str.{IsCharBoundary-at_seam, IsUtf8-drop}
use Rattle.std.proofs.lemmas.Bool.Decides.{Decides-eqb}
use Rattle.std.proofs.lemmas.List.{take-append-drop}
use Rattle.regex_tokens.specs.Bytes.{begins, is_sign, is_run_byte, is_quoted_byte, is_braced_byte, is_character}
use Rattle.regex_tokens.specs.Spelling.{spelling, IsSpaced, Piece, plain, escaped, is_piece, written, meant, IsQuoted, IsBraced, IsRun, Spells}
use Rattle.regex_tokens.specs.Cuts.{IsLongest}
use Rattle.regex_tokens.specs.Reading.{piece_len, IsPiecesLen, undone_from, HasNone, IsRead, taken, left}
use Rattle.regex_tokens.specs.declared.token.Run.{Run}
use Rattle.regex_tokens.specs.declared.token.Operator.{Operator}
use Rattle.regex_tokens.specs.declared.token.Operator.TheVariants.{OpenSquare, CloseSquare, OpenRound, CloseRound, Optional, Arrow, LeftLongest, LeftShortest, RightLongest, RightShortest, Only, UpUp, Bar, LowUp, Slash, UpLow, LowLow, Backslash, Ampersand, Minus, Tilde, Dollar, Star, Plus, Caret, Colon, Semicolon, GroupComma, Comma, Question, Underscore, Dots, CrossWith, Then, Upper, Lower, Inverse, Reverse, Edge, Insertion}
use Rattle.regex_tokens.specs.declared.token.Token.{Token}
use Rattle.regex_tokens.specs.declared.token.Token.TheVariants.{Operator as operator, Quoted as quoted, Braced as braced, Run as run}
use Rattle.regex_tokens.proofs.Lists.{and_left, false_by, list_all-taken, begins-left, split_once, take-prefix_len, drop-prefix_len}
use Rattle.regex_tokens.proofs.Pieces.{begins_fine, Reach, reach, once, undone-written, escape_shows}
use Rattle.regex_tokens.proofs.Utf8.{past_ascii, ascii_test, quoted_boundary, pieces_boundary, run_stops, braced_stops}

-- Kinds.

pub data Kind : Type 0 where
  sign : Kind
  quote : Kind
  brace : Kind
  piece : Kind

abbrev pub kind_by : Bool → Bool → Bool → Kind
kind_by true y z = quote
kind_by false true z = brace
kind_by false false true = piece
kind_by false false false = sign

abbrev pub kind_of_byte : ℕ → Kind
kind_of_byte b = kind_by (b == 34) (b == 123) (b == 37 || is_run_byte b)

abbrev pub kind_of : Token → Kind
kind_of (operator o) = sign
kind_of (quoted text) = quote
kind_of (braced characters) = brace
kind_of (run r) = piece

pub record Head (kind : Kind) (bytes : List ℕ) : Type 0 where
  pub first : ℕ
  pub more : List ℕ
  pub spelled : bytes ≡ first ∷ more
  pub is : kind_of_byte first ≡ kind

sign_by : (x y z : Bool) → not (x || (y || z)) ≡ true → kind_by x y z ≡ sign
sign_by true y z e = absurd cc
sign_by false true z e = absurd cc
sign_by false false true e = absurd cc
sign_by false false false e = refl

pub sign_head : (bytes : List ℕ) → begins is_sign bytes ≡ true → Head sign bytes
sign_head [] e = absurd cc
sign_head (b ∷ bs) e = record { first = b; more = bs; spelled = refl; is = sign_by (b == 34) (b == 123) (b == 37 || is_run_byte b) e }

run_byte_differs : (b c : ℕ) → is_run_byte c ≡ false → is_run_byte b ≡ true → (b == c) ≡ false
run_byte_differs b c fails passes = false_by (b == c) (λ e. sym passes ∙ ap is_run_byte ((Decides-eqb b c).0 e) ∙ fails)

pub run_byte_kind : (b : ℕ) → is_run_byte b ≡ true → kind_of_byte b ≡ piece
run_byte_kind b e = rw (run_byte_differs b 34 refl e, run_byte_differs b 123 refl e, run_byte_differs b 37 refl e, e) refl

pub spaced_is : (o : Operator) (bytes : List ℕ) → IsSpaced o bytes → o ≡ Insertion
spaced_is Insertion bytes h = refl
spaced_is _ bytes h = absurd h

pub spaced_any : (o : Operator) (bytes : List ℕ) → IsSpaced o bytes → IsSpaced Insertion bytes
spaced_any Insertion bytes h = h
spaced_any _ bytes h = absurd h

signed : (o : Operator) → begins is_sign (spelling o) ≡ true
signed OpenSquare = refl
signed CloseSquare = refl
signed OpenRound = refl
signed CloseRound = refl
signed Optional = refl
signed Arrow = refl
signed LeftLongest = refl
signed LeftShortest = refl
signed RightLongest = refl
signed RightShortest = refl
signed Only = refl
signed UpUp = refl
signed Bar = refl
signed LowUp = refl
signed Slash = refl
signed UpLow = refl
signed LowLow = refl
signed Backslash = refl
signed Ampersand = refl
signed Minus = refl
signed Tilde = refl
signed Dollar = refl
signed Star = refl
signed Plus = refl
signed Caret = refl
signed Colon = refl
signed Semicolon = refl
signed GroupComma = refl
signed Comma = refl
signed Question = refl
signed Underscore = refl
signed Dots = refl
signed CrossWith = refl
signed Then = refl
signed Upper = refl
signed Lower = refl
signed Inverse = refl
signed Reverse = refl
signed Edge = refl
signed Insertion = refl

run_head : (first : Piece) (bytes : List ℕ) (more : List Piece) → is_piece is_run_byte first ≡ true → bytes ≡ written (first ∷ more) → Head piece bytes
run_head (plain b) bytes more fine e = record { first = b; more = written more; spelled = e; is = run_byte_kind b fine }
run_head (escaped b) bytes more fine e = record { first = 37; more = b ∷ written more; spelled = e; is = refl }

moved : (k : Kind) (a b : List ℕ) → a ≡ b → Head k b → Head k a
moved k a b e h = record { first = h.first; more = h.more; spelled = e ∙ h.spelled; is = h.is }

spaced_head : (bytes : List ℕ) → IsSpaced Insertion bytes → Head sign bytes
spaced_head bytes h = record { first = 91; more = 46 ∷ (h.0 ∷ h.1) ++ 46 ∷ 93 ∷ []; spelled = h.3; is = refl }

pub head : (t : Token) (bytes : List ℕ) → Spells t bytes → Head (kind_of t) bytes
head (operator o) bytes (inl e) = moved sign bytes (spelling o) e (sign_head (spelling o) (signed o))
head (operator o) bytes (inr h) = spaced_head bytes (spaced_any o bytes h)
head (quoted cs) bytes h = record { first = 34; more = cs ++ 34 ∷ []; spelled = h.1; is = refl }
head (braced cs) bytes h = record { first = 123; more = written h.pieces ++ 125 ∷ []; spelled = h.spelled; is = refl }
head (run r) bytes h = run_head h.first bytes h.more (and_left _ _ h.fine) h.spelled

heads : (x y : ℕ) (xs ys : List ℕ) → x ∷ xs ≡ y ∷ ys → x ≡ y
heads x y xs ys e = cc

tails : (x y : ℕ) (xs ys : List ℕ) → x ∷ xs ≡ y ∷ ys → xs ≡ ys
tails x y xs ys e = cc

-- a token at the front of a text is of the kind of the text's first byte
pub kind_here : (text : List ℕ) (k : Kind) → Head k text → (u : Token) (front rest : List ℕ) → text ≡ front ++ rest → Spells u front → k ≡ kind_of u
kind_here text k h u front rest e spells =
    let there : Head (kind_of u) front = head u front spells in
    let same : h.first ∷ h.more ≡ there.first ∷ there.more ++ rest = sym h.spelled ∙ e ∙ ap (λ bs. bs ++ rest) there.spelled in
    sym h.is ∙ ap kind_of_byte (heads h.first there.first h.more (there.more ++ rest) same) ∙ there.is

-- What is read, by its bytes and what is behind them.

take-front : (front rest : List ℕ) → take (length front) (front ++ rest) ≡ front
take-front [] rest = refl
take-front (b ∷ front) rest = ap (λ bs. b ∷ bs) (take-front front rest)

drop-front : (front rest : List ℕ) → drop (length front) (front ++ rest) ≡ rest
drop-front [] rest = refl
drop-front (b ∷ front) rest = drop-front front rest

pub read_some : (text : List ℕ) (t : Token) (front rest : List ℕ) (n : ℕ) → IsLongest text t front rest → length front ≡ n → IsUtf8 rest → IsRead text (Some (t, n))
read_some text t front rest n h e utf8 =
    let same_front : take n text ≡ front = sym (ap (λ k. take k text) e) ∙ ap (take (length front)) h.stands ∙ take-front front rest in
    let same_rest : drop n text ≡ rest = sym (ap (λ k. drop k text) e) ∙ ap (drop (length front)) h.stands ∙ drop-front front rest in (
      subst (λ bs. IsLongest text t (take n text) bs) (sym same_rest) (subst (λ bs. IsLongest text t bs rest) (sym same_front) h),
      subst (IsCharBoundary text) e (IsCharBoundary-at_seam text front rest h.stands utf8),
    )

-- Quotes.

between : (first last : ℕ) (cs rest : List ℕ) → (first ∷ cs ++ last ∷ []) ++ rest ≡ first ∷ cs ++ last ∷ rest
between first last cs rest = ap (λ bs. first ∷ bs) (append_assoc cs (last ∷ []) rest)

pub begins_is : (b : ℕ) (text : List ℕ) → begins (λ c. c == b) text ≡ true → text ≡ b ∷ drop 1 text
begins_is b [] e = absurd cc
begins_is b (c ∷ cs) e = ap (λ x. x ∷ cs) ((Decides-eqb c b).0 e)

quotes : (text ds longer behind : List ℕ) → IsQuoted ds longer → text ≡ longer ++ behind → text ≡ 34 ∷ ds ++ 34 ∷ behind
quotes text ds longer behind h e = e ∙ ap (λ bs. bs ++ behind) h.1 ∙ between 34 34 ds behind

quoted_longest : (text cs rest : List ℕ) → text ≡ 34 ∷ cs ++ 34 ∷ rest → list_all is_quoted_byte cs ≡ true → IsLongest text (quoted cs) (34 ∷ cs ++ 34 ∷ []) rest
quoted_longest text cs rest e all = record {
  stands = e ∙ sym (between 34 34 cs rest);
  spelled = (all, refl);
  longest = λ other longer behind spelled h. by other longer behind spelled h;
}
  where
    here : Head quote text
    here = record { first = 34; more = cs ++ 34 ∷ rest; spelled = e; is = refl }

    by : (other : Token) (longer behind : List ℕ) → text ≡ longer ++ behind → Spells other longer → length longer ≤ length (34 ∷ cs ++ 34 ∷ [])
    by (operator o) longer behind spelled h = let clash : quote ≡ sign = kind_here text quote here (operator o) longer behind spelled h in absurd cc
    by (quoted ds) longer behind spelled h =
        let same : cs ≡ ds = (split_once is_quoted_byte cs ds (34 ∷ rest) (34 ∷ behind) all h.0 refl refl (tails 34 34 _ _ (sym e ∙ quotes text ds longer behind h spelled))).0 in
        let equal : length longer ≡ length (34 ∷ cs ++ 34 ∷ []) = ap length h.1 ∙ sym (ap (λ xs. length (34 ∷ xs ++ 34 ∷ [])) same) in
        omega arith
    by (braced ds) longer behind spelled h = let clash : quote ≡ brace = kind_here text quote here (braced ds) longer behind spelled h in absurd cc
    by (run r) longer behind spelled h = let clash : quote ≡ piece = kind_here text quote here (run r) longer behind spelled h in absurd cc

quoted_none : (text inner end : List ℕ) → text ≡ 34 ∷ inner ++ end → list_all is_quoted_byte inner ≡ true → begins is_quoted_byte end ≡ false → begins (λ b. b == 34) end ≡ false → HasNone text
quoted_none text inner end e all stop unclosed other longer behind spelled h = by other longer behind spelled h
  where
    here : Head quote text
    here = record { first = 34; more = inner ++ end; spelled = e; is = refl }

    by : (other : Token) (longer behind : List ℕ) → text ≡ longer ++ behind → Spells other longer → ⊥
    by (operator o) longer behind spelled h = let clash : quote ≡ sign = kind_here text quote here (operator o) longer behind spelled h in cc
    by (quoted ds) longer behind spelled h =
        let same : end ≡ 34 ∷ behind = (split_once is_quoted_byte inner ds end (34 ∷ behind) all h.0 stop refl (tails 34 34 _ _ (sym e ∙ quotes text ds longer behind h spelled))).1 in
        let clash : true ≡ false = sym (ap (begins (λ b. b == 34)) same) ∙ unclosed in
        cc
    by (braced ds) longer behind spelled h = let clash : quote ≡ brace = kind_here text quote here (braced ds) longer behind spelled h in cc
    by (run r) longer behind spelled h = let clash : quote ≡ piece = kind_here text quote here (run r) longer behind spelled h in cc

opened : (b : ℕ) (text inner end : List ℕ) → begins (λ c. c == b) text ≡ true → inner ++ end ≡ drop 1 text → text ≡ b ∷ inner ++ end
opened b text inner end first e = begins_is b text first ∙ ap (λ bs. b ∷ bs) (sym e)

-- the text behind a closing byte
pub closed : (b : ℕ) (end : List ℕ) → b < 128 → begins (λ c. c == b) end ≡ true → IsUtf8 end → IsUtf8 (drop 1 end)
closed b end small first utf8 = past_ascii (b ∷ []) (drop 1 end) (ascii_test b small) (subst IsUtf8 (begins_is b end first) utf8)

-- the text between quotes, and what is behind it, as they are cut
pub record Quotes (text behind inner end : List ℕ) (n : ℕ) : Type 0 where
  pub utf8 : IsUtf8 text
  pub first : begins (λ c. c == 34) text ≡ true
  pub is_behind : behind ≡ drop 1 text
  pub size : n ≡ prefix_len is_quoted_byte behind
  pub is_inner : inner ≡ take n behind
  pub is_end : end ≡ drop n behind

quoted_inner : (text behind inner end : List ℕ) (n : ℕ) → Quotes text behind inner end n → inner ≡ taken is_quoted_byte behind
quoted_inner text behind inner end n h = h.is_inner ∙ ap (λ k. take k behind) h.size ∙ take-prefix_len is_quoted_byte behind

quoted_end : (text behind inner end : List ℕ) (n : ℕ) → Quotes text behind inner end n → end ≡ left is_quoted_byte behind
quoted_end text behind inner end n h = h.is_end ∙ ap (λ k. drop k behind) h.size ∙ drop-prefix_len is_quoted_byte behind

quoted_all : (text behind inner end : List ℕ) (n : ℕ) → Quotes text behind inner end n → list_all is_quoted_byte inner ≡ true
quoted_all text behind inner end n h = ap (list_all is_quoted_byte) (quoted_inner text behind inner end n h) ∙ list_all-taken is_quoted_byte behind

quoted_whole : (text behind inner end : List ℕ) (n : ℕ) → Quotes text behind inner end n → text ≡ 34 ∷ inner ++ end
quoted_whole text behind inner end n h = opened 34 text inner end h.first (ap (λ bs. bs ++ end) h.is_inner ∙ ap (λ bs. take n behind ++ bs) h.is_end ∙ take-append-drop n behind ∙ h.is_behind)

pub quoted_some : (text behind inner end : List ℕ) (n k : ℕ) → Quotes text behind inner end n → begins (λ c. c == 34) end ≡ true → k ≡ length inner + 2 → IsRead text (Some (quoted inner, k))
quoted_some text behind inner end n k h last size =
    let utf8_behind : IsUtf8 behind = subst IsUtf8 (sym h.is_behind) (closed 34 text (omega arith) h.first h.utf8) in
    let utf8 : IsUtf8 end = subst IsUtf8 (sym h.is_end) (subst (λ m. IsUtf8 (drop m behind)) (sym h.size) (IsUtf8-drop behind (prefix_len is_quoted_byte behind) utf8_behind (quoted_boundary behind))) in
    let spelled : text ≡ 34 ∷ inner ++ 34 ∷ drop 1 end = quoted_whole text behind inner end n h ∙ ap (λ bs. 34 ∷ inner ++ bs) (begins_is 34 end last) in
    read_some text (quoted inner) (34 ∷ inner ++ 34 ∷ []) (drop 1 end) k (quoted_longest text inner (drop 1 end) spelled (quoted_all text behind inner end n h)) (omega (arith, length-append inner (34 ∷ []), size)) (closed 34 end (omega arith) last utf8)

pub quoted_nothing : (text behind inner end : List ℕ) (n : ℕ) → Quotes text behind inner end n → begins (λ c. c == 34) end ≡ false → HasNone text
quoted_nothing text behind inner end n h last =
    quoted_none text inner end (quoted_whole text behind inner end n h) (quoted_all text behind inner end n h) (ap (begins is_quoted_byte) (quoted_end text behind inner end n h) ∙ begins-left is_quoted_byte behind) last

-- Braces.

braces : (text : List ℕ) (cs : List (List ℕ)) (longer behind : List ℕ) (h : IsBraced cs longer) → text ≡ longer ++ behind → text ≡ 123 ∷ written h.pieces ++ 125 ∷ behind
braces text cs longer behind h e = e ∙ ap (λ bs. bs ++ behind) h.spelled ∙ between 123 125 (written h.pieces) behind

braced_longest : (text : List ℕ) (cs : List (List ℕ)) (front rest : List ℕ) (h : IsBraced cs front) → text ≡ 123 ∷ written h.pieces ++ 125 ∷ rest → IsLongest text (braced cs) front rest
braced_longest text cs front rest h e = record {
  stands = e ∙ sym (between 123 125 (written h.pieces) rest) ∙ sym (ap (λ bs. bs ++ rest) h.spelled);
  spelled = h;
  longest = λ other longer behind spelled g. by other longer behind spelled g;
}
  where
    here : Head brace text
    here = record { first = 123; more = written h.pieces ++ 125 ∷ rest; spelled = e; is = refl }

    by : (other : Token) (longer behind : List ℕ) → text ≡ longer ++ behind → Spells other longer → length longer ≤ length front
    by (operator o) longer behind spelled g = let clash : brace ≡ sign = kind_here text brace here (operator o) longer behind spelled g in absurd cc
    by (quoted ds) longer behind spelled g = let clash : brace ≡ quote = kind_here text brace here (quoted ds) longer behind spelled g in absurd cc
    by (braced ds) longer behind spelled g =
        let same : h.pieces ≡ g.pieces = (once is_braced_byte refl h.pieces g.pieces (125 ∷ rest) (125 ∷ behind) h.fine g.fine refl refl (tails 123 123 _ _ (sym e ∙ braces text ds longer behind g spelled))).0 in
        let equal : length longer ≡ length front = ap length g.spelled ∙ sym (ap (λ ps. length (123 ∷ written ps ++ 125 ∷ [])) same) ∙ sym (ap length h.spelled) in
        omega arith
    by (run r) longer behind spelled g = let clash : brace ≡ piece = kind_here text brace here (run r) longer behind spelled g in absurd cc

braced_none : (text end : List ℕ) (ps : List Piece) → text ≡ 123 ∷ written ps ++ end → list_all (is_piece is_braced_byte) ps ≡ true → piece_len is_braced_byte end ≡ 0 → begins (λ b. b == 125) end ≡ false → HasNone text
braced_none text end ps e all stop unclosed other longer behind spelled g = by other longer behind spelled g
  where
    here : Head brace text
    here = record { first = 123; more = written ps ++ end; spelled = e; is = refl }

    by : (other : Token) (longer behind : List ℕ) → text ≡ longer ++ behind → Spells other longer → ⊥
    by (operator o) longer behind spelled g = let clash : brace ≡ sign = kind_here text brace here (operator o) longer behind spelled g in cc
    by (quoted ds) longer behind spelled g = let clash : brace ≡ quote = kind_here text brace here (quoted ds) longer behind spelled g in cc
    by (braced ds) longer behind spelled g =
        let same : end ≡ 125 ∷ behind = (once is_braced_byte refl ps g.pieces end (125 ∷ behind) all g.fine stop refl (tails 123 123 _ _ (sym e ∙ braces text ds longer behind g spelled))).1 in
        let clash : true ≡ false = sym (ap (begins (λ b. b == 125)) same) ∙ unclosed in
        cc
    by (run r) longer behind spelled g = let clash : brace ≡ piece = kind_here text brace here (run r) longer behind spelled g in cc

-- the pieces between braces, and what is behind them, as they are cut
pub record Braces (text behind inner end : List ℕ) (n : ℕ) : Type 0 where
  pub utf8 : IsUtf8 text
  pub first : begins (λ c. c == 123) text ≡ true
  pub is_behind : behind ≡ drop 1 text
  pub size : IsPiecesLen is_braced_byte behind n
  pub is_inner : inner ≡ take n behind
  pub is_end : end ≡ drop n behind

braced_whole : (text behind inner end : List ℕ) (n : ℕ) (h : Braces text behind inner end n) → text ≡ 123 ∷ written h.size.pieces ++ end
braced_whole text behind inner end n h = opened 123 text (written h.size.pieces) end h.first (ap (λ bs. bs ++ end) h.size.spelled ∙ ap (λ bs. take n behind ++ bs) h.is_end ∙ take-append-drop n behind ∙ h.is_behind)

pub braced_some : (text behind inner end : List ℕ) (n k : ℕ) (characters : List (List ℕ)) → Braces text behind inner end n → begins (λ c. c == 125) end ≡ true → list_all is_character characters ≡ true → concat characters ≡ undone_from false inner → k ≡ length inner + 2 → IsRead text (Some (braced characters, k))
braced_some text behind inner end n k characters h last apart same size =
    let utf8_behind : IsUtf8 behind = subst IsUtf8 (sym h.is_behind) (closed 123 text (omega arith) h.first h.utf8) in
    let utf8 : IsUtf8 end = subst IsUtf8 (sym h.is_end) (IsUtf8-drop behind n utf8_behind (pieces_boundary is_braced_byte braced_stops behind n h.size)) in
    let ps = h.size.pieces in
    let inner_is : written ps ≡ inner = h.size.spelled ∙ sym h.is_inner in
    let spelled : text ≡ 123 ∷ written ps ++ 125 ∷ drop 1 end = braced_whole text behind inner end n h ∙ ap (λ bs. 123 ∷ written ps ++ bs) (begins_is 125 end last) in
    let means : concat characters ≡ meant ps = same ∙ sym (ap (undone_from false) inner_is) ∙ undone-written is_braced_byte refl ps h.size.fine in
    let token : IsBraced characters (123 ∷ written ps ++ 125 ∷ []) = record { pieces = ps; fine = h.size.fine; spelled = refl; apart = apart; same = means } in
    read_some text (braced characters) (123 ∷ written ps ++ 125 ∷ []) (drop 1 end) k (braced_longest text characters (123 ∷ written ps ++ 125 ∷ []) (drop 1 end) token spelled) (omega (arith, length-append (written ps) (125 ∷ []), ap length inner_is, size)) (closed 125 end (omega arith) last utf8)

pub braced_nothing : (text behind inner end : List ℕ) (n : ℕ) → Braces text behind inner end n → begins (λ c. c == 125) end ≡ false → HasNone text
braced_nothing text behind inner end n h last = braced_none text end h.size.pieces (braced_whole text behind inner end n h) h.size.fine (ap (piece_len is_braced_byte) h.is_end ∙ h.size.stops) last

-- Runs.

run_longest : (text : List ℕ) (r : Run) (front rest : List ℕ) (h : IsRun r front) → text ≡ front ++ rest → piece_len is_run_byte rest ≡ 0 → IsLongest text (run r) front rest
run_longest text r front rest h e stop = record {
  stands = e;
  spelled = h;
  longest = λ other longer behind spelled g. by other longer behind spelled g;
}
  where
    here : Head piece text
    here = let there : Head piece front = head (run r) front h in record { first = there.first; more = there.more ++ rest; spelled = e ∙ ap (λ bs. bs ++ rest) there.spelled; is = there.is }

    by : (other : Token) (longer behind : List ℕ) → text ≡ longer ++ behind → Spells other longer → length longer ≤ length front
    by (operator o) longer behind spelled g = let clash : piece ≡ sign = kind_here text piece here (operator o) longer behind spelled g in absurd cc
    by (quoted ds) longer behind spelled g = let clash : piece ≡ quote = kind_here text piece here (quoted ds) longer behind spelled g in absurd cc
    by (braced ds) longer behind spelled g = let clash : piece ≡ brace = kind_here text piece here (braced ds) longer behind spelled g in absurd cc
    by (run s) longer behind spelled g =
        let both : written (h.first ∷ h.more) ++ rest ≡ written (g.first ∷ g.more) ++ behind = sym (ap (λ bs. bs ++ rest) h.spelled) ∙ sym e ∙ spelled ∙ ap (λ bs. bs ++ behind) g.spelled in
        let far : Reach is_run_byte (h.first ∷ h.more) (g.first ∷ g.more) rest behind = reach is_run_byte refl (h.first ∷ h.more) (g.first ∷ g.more) rest behind h.fine g.fine stop both in
        let size : length (longer ++ behind) ≡ length (front ++ rest) = sym (ap length spelled) ∙ ap length e in
        omega (arith, size, length-append longer behind, length-append front rest, ap length far.behind, length-append (written far.more) rest)

run_of : (text : List ℕ) (n : ℕ) (r : Run) (ps : List Piece) → list_all (is_piece is_run_byte) ps ≡ true → written ps ≡ take n text → piece_len is_run_byte (drop n text) ≡ 0 → take n text ≢ [] → r.text ≡ undone_from false (take n text) → r.escaped ≡ list_any (λ b. b == 37) (take n text) → IsLongest text (run r) (take n text) (drop n text)
run_of text n r [] fine spelled stop some means marked = absurd (some (sym spelled))
run_of text n r (p ∷ ps) fine spelled stop some means marked = run_longest text r (take n text) (drop n text) (record {
  first = p;
  more = ps;
  fine = fine;
  spelled = sym spelled;
  text = means ∙ sym (ap (undone_from false) spelled) ∙ undone-written is_run_byte refl (p ∷ ps) fine;
  escaped = marked ∙ sym (ap (list_any (λ b. b == 37)) spelled) ∙ escape_shows is_run_byte refl (p ∷ ps) fine;
}) (sym (take-append-drop n text)) stop

pub run_some : (text front : List ℕ) (n k : ℕ) (r : Run) → IsPiecesLen is_run_byte text n → front ≡ take n text → 0 < length front → r.text ≡ undone_from false front → r.escaped ≡ list_any (λ b. b == 37) front → k ≡ n → IsRead text (Some (run r, k))
run_some text front n k r h e some means marked size = subst (λ m. IsRead text (Some (run r, m))) (sym size) (
  run_of text n r h.pieces h.fine h.spelled h.stops (λ none. let empty : length front ≡ 0 = ap length (e ∙ none) in absurd (omega arith)) (means ∙ ap (undone_from false) e) (marked ∙ ap (list_any (λ b. b == 37)) e),
  pieces_boundary is_run_byte run_stops text n h,
)

no_run : (text : List ℕ) → Head piece text → piece_len is_run_byte text ≡ 0 → HasNone text
no_run text here stop other longer behind spelled g = by other longer behind spelled g
  where
    by : (other : Token) (longer behind : List ℕ) → text ≡ longer ++ behind → Spells other longer → ⊥
    by (operator o) longer behind spelled g = let clash : piece ≡ sign = kind_here text piece here (operator o) longer behind spelled g in cc
    by (quoted ds) longer behind spelled g = let clash : piece ≡ quote = kind_here text piece here (quoted ds) longer behind spelled g in cc
    by (braced ds) longer behind spelled g = let clash : piece ≡ brace = kind_here text piece here (braced ds) longer behind spelled g in cc
    by (run s) longer behind spelled g =
        begins_fine is_run_byte g.first g.more behind (and_left _ _ g.fine) (sym (ap (piece_len is_run_byte) (spelled ∙ ap (λ bs. bs ++ behind) g.spelled)) ∙ stop)

piece_byte : (b : ℕ) → (b == 37 || is_run_byte b) ≡ true → kind_of_byte b ≡ piece
piece_byte b e = by (b == 37) refl e
  where
    by : (here : Bool) → (b == 37) ≡ here → (here || is_run_byte b) ≡ true → kind_of_byte b ≡ piece
    by true is e = ap kind_of_byte ((Decides-eqb b 37).0 is)
    by false is e = run_byte_kind b e

pub piece_head : (text : List ℕ) → begins (λ b. b == 37 || is_run_byte b) text ≡ true → Head piece text
piece_head [] e = absurd cc
piece_head (b ∷ bs) e = record { first = b; more = bs; spelled = refl; is = piece_byte b e }

pub run_nothing : (text front : List ℕ) (n : ℕ) → IsPiecesLen is_run_byte text n → front ≡ take n text → begins (λ b. b == 37 || is_run_byte b) text ≡ true → length front ≡ 0 → HasNone text
run_nothing text front n h e first none = no_run text (piece_head text first) (ap (piece_len is_run_byte) (sym (take-append-drop n text) ∙ ap (λ bs. bs ++ drop n text) (sym e ∙ empty front none)) ∙ h.stops)
  where
    empty : (bs : List ℕ) → length bs ≡ 0 → bs ≡ []
    empty [] e = refl
    empty (b ∷ bs) e = absurd (omega arith)
