-- What is left out of a text by its bytes is left out by its characters.
use Rattle.std.proofs.Common.{◌≡◌, ◌≢◌, ℕ, ◌+◌, ◌/◌, ◌%◌, ◌<◌, ◌≤◌, zero, suc, Bool, true, false, cond, not, ◌||◌, ◌&&◌, ◌==◌, List, [], ◌∷◌, ◌++◌, length, take, drop, Ok, Err, nat_eq, ltb, count_by, refl, sym, ap, subst, ◌∙◌, ◌⊎◌, inl, inr, arith, append-nil, length-append, encode_utf8, encode_utf8_all, ◌*◌}
use Rattle.std.proofs.lemmas.Bool.Decides.{nat_tests}
use Rattle.std.proofs.lemmas.List.{take-append-drop, drop_all}
use Rattle.std.proofs.Math.Seq.{take-length}
use Rattle.std.proofs.lemmas.List.Sums.{sum_by-append, take_while-cons}
use Rattle.std.proofs.lemmas.Str.{length-encode, len_utf8_bounds, chars_from_encodes, encodes-chars, encodes-append, chars_past_char, chars-IsAscii, encodes-IsAscii, is_utf8-from_IsUtf8, IsUtf8-from_is_utf8}
use Rattle.std.proofs.lemmas.Str.Ascii.{All-from_ascii}
use Rattle.std.specs.List.{before_first, list_any, starts_with}
use Rattle.std.specs.Str.{IsAscii, IsUtf8, NoCharPasses, NonePass, chars, is_utf8}
use Rattle.std.specs.Str.Pattern.{FindsText}
use Rattle.std.specs.Str.Replace.{ReplacesMatches}
use lib.Pointwise.{pointwise}
use denote.Ref.{Bor}
use lib.Utf8.{encode}
use Rattle.std.specs.Str.Lossy.{utf8_valid_len}
use Rattle.unicode_normalization.specs.Forms.{nfc, Nfc}
use Rattle.unicode_normalization.proofs.FormsLemmas.{normalize-ascii}
use Rattle.unicode_normalization.proofs.LengthLemmas.{length-normalize-chars}
use Rattle.fsm_base.specs.declared.normalize.TextError.TheVariants.{NotUtf8, Control}
use Rattle.fsm_base.specs.Normal.{is_refused, line_behind, most_growth, nfc_of, source_text, text_of_characters, without_mark, without_returns}
use Rattle.fsm_base.proofs.CutLemmas.{begins_from_test}

-- each byte is from 128 on
abbrev IsWide : List ℕ → Type 0
IsWide [] = Unit {0}
IsWide (b ∷ bytes) = (128 ≤ b) × IsWide bytes

-- the bytes of a character from 128 on are such, and one at least
record HasWideBytes (c : ℕ) (bytes : List ℕ) : Type 0 where
  above : 128 ≤ c
  first : ℕ
  rest : List ℕ
  is : bytes ≡ first ∷ rest
  wide : IsWide (first ∷ rest)

encode_cases : (c : ℕ) → (encode c ≡ c ∷ []) ⊎ HasWideBytes c (encode c)
unfolding encode
encode_cases c = by (ltb c 128) (ltb c 2048) (ltb c 65536) (λ e. grind (arith, nat_tests, e))
  where
    by : (x y z : Bool) → (x ≡ false → 128 ≤ c)
        → let bytes = cond x (c ∷ []) (cond y ((192 + c / 64) ∷ (128 + c % 64) ∷ []) (cond z ((224 + c / 4096) ∷ (128 + (c / 64) % 64) ∷ (128 + c % 64) ∷ []) ((240 + c / 262144) ∷ (128 + (c / 4096) % 64) ∷ (128 + (c / 64) % 64) ∷ (128 + c % 64) ∷ []))) in (bytes ≡ c ∷ []) ⊎ HasWideBytes c bytes
    by true y z above = inl refl
    by false true z above = inr (record { above = above refl; first = _; rest = _; is = refl; wide = (omega arith, (omega arith, tt)) })
    by false false true above = inr (record { above = above refl; first = _; rest = _; is = refl; wide = (omega arith, (omega arith, (omega arith, tt))) })
    by false false false above = inr (record { above = above refl; first = _; rest = _; is = refl; wide = (omega arith, (omega arith, (omega arith, (omega arith, tt)))) })

other : (n b : ℕ) → n < 128 → 128 ≤ b → nat_eq n b ≡ false
other n b low high = grind (arith, nat_tests, low, high)

-- newlines
abbrev newline_count : ℕ → ℕ
newline_count b = cond (b == 10) 1 0

count_wide : (bytes : List ℕ) → IsWide bytes → count_by (λ b. b == 10) bytes ≡ 0
count_wide [] w = refl
count_wide (b ∷ bytes) w = let rest = count_wide bytes w.1 in grind (arith, nat_tests, w.0, rest)

count_encode : (c : ℕ) → count_by (λ b. b == 10) (encode c) ≡ count_by (λ b. b == 10) (c ∷ [])
count_encode c = elim (encode_cases c) as (λ _. count_by (λ b. b == 10) (encode c) ≡ count_by (λ b. b == 10) (c ∷ [])) [
  | inl e ↦ ap (count_by (λ b. b == 10)) e
  | inr w ↦
      let none : count_by (λ b. b == 10) (encode c) ≡ 0 = ap (count_by (λ b. b == 10)) w.is ∙ count_wide (w.first ∷ w.rest) w.wide in
      let own : count_by (λ b. b == 10) (c ∷ []) ≡ 0 = count_wide (c ∷ []) (w.above, tt) in
      none ∙ sym own
]

pub line_behind-encodes : (cs : List ℕ) → line_behind (encode_utf8_all cs) ≡ line_behind cs
line_behind-encodes cs = ap (λ n. n + 1) (count cs)
  where
    count : (cs : List ℕ) → count_by (λ b. b == 10) (encode_utf8_all cs) ≡ count_by (λ b. b == 10) cs
    count [] = refl
    count (c ∷ cs) =
        sum_by-append newline_count (encode c) (encode_utf8_all cs)
        ∙ ap (λ n. n + count_by (λ b. b == 10) (encode_utf8_all cs)) (count_encode c)
        ∙ ap (λ n. count_by (λ b. b == 10) (c ∷ []) + n) (count cs)
        ∙ sym (sum_by-append newline_count (c ∷ []) cs)

-- carriage returns
abbrev begins_newline : List ℕ → Bool
begins_newline text = pointwise nat_eq (10 ∷ []) (take 1 text)

begins_newline-encodes : (cs : List ℕ) → begins_newline (encode_utf8_all cs) ≡ begins_newline cs
begins_newline-encodes [] = refl
begins_newline-encodes (c ∷ cs) = elim (encode_cases c) as (λ _. begins_newline (encode_utf8_all (c ∷ cs)) ≡ begins_newline (c ∷ cs)) [
  | inl e ↦ ap (λ (v : List ℕ). begins_newline (v ++ encode_utf8_all cs)) e
  | inr w ↦
      let first : begins_newline (encode_utf8_all (c ∷ cs)) ≡ (nat_eq 10 w.first && true) = ap (λ (v : List ℕ). begins_newline (v ++ encode_utf8_all cs)) w.is in
      first ∙ ap (λ b. b && true) (other 10 w.first (omega arith) w.wide.0 ∙ sym (other 10 c (omega arith) w.above))
]

-- one step, by whether the return is left out
abbrev step : Bool → ℕ → List ℕ → List ℕ
step left_out c text = cond left_out text (c ∷ text)

without_returns-wide : (bytes rest : List ℕ) → IsWide bytes → without_returns (bytes ++ rest) ≡ bytes ++ without_returns rest
without_returns-wide [] rest w = refl
without_returns-wide (b ∷ bytes) rest w =
    ap (λ (t : Bool). step (t && begins_newline (bytes ++ rest)) b (without_returns (bytes ++ rest))) (other 13 b (omega arith) w.0)
    ∙ ap (λ (t : List ℕ). b ∷ t) (without_returns-wide bytes rest w.1)

pub without_returns-encodes : (cs : List ℕ) → without_returns (encode_utf8_all cs) ≡ encode_utf8_all (without_returns cs)
without_returns-encodes [] = refl
without_returns-encodes (c ∷ cs) = elim (encode_cases c) as (λ _. without_returns (encode_utf8_all (c ∷ cs)) ≡ encode_utf8_all (without_returns (c ∷ cs))) [
  | inl e ↦
      ap (λ (v : List ℕ). without_returns (v ++ encode_utf8_all cs)) e
      ∙ ap (λ (t : Bool). step (nat_eq 13 c && t) c (without_returns (encode_utf8_all cs))) (begins_newline-encodes cs)
      ∙ ap (λ (t : List ℕ). step (nat_eq 13 c && begins_newline cs) c t) (without_returns-encodes cs)
      ∙ spelled (nat_eq 13 c && begins_newline cs) e
  | inr w ↦
      let front : without_returns (encode c ++ encode_utf8_all cs) ≡ encode c ++ without_returns (encode_utf8_all cs) =
      ap (λ (v : List ℕ). without_returns (v ++ encode_utf8_all cs)) w.is ∙ without_returns-wide (w.first ∷ w.rest) (encode_utf8_all cs) w.wide
      ∙ ap (λ (v : List ℕ). v ++ without_returns (encode_utf8_all cs)) (sym w.is) in
      front ∙ ap (λ (v : List ℕ). encode c ++ v) (without_returns-encodes cs)
      ∙ ap (λ (t : Bool). encode_utf8_all (step (t && begins_newline cs) c (without_returns cs))) (sym (other 13 c (omega arith) w.above))
]
  where
    spelled : (left_out : Bool) → encode c ≡ c ∷ [] → step left_out c (encode_utf8_all (without_returns cs)) ≡ encode_utf8_all (step left_out c (without_returns cs))
    spelled true e = refl
    spelled false e = ap (λ (v : List ℕ). v ++ encode_utf8_all (without_returns cs)) (sym e)

pub length-without_returns : (bytes : List ℕ) → length (without_returns bytes) ≤ length bytes
length-without_returns [] = omega arith
length-without_returns (b ∷ bytes) = by (nat_eq 13 b && begins_newline bytes) (length-without_returns bytes)
  where
    by : (left_out : Bool) → length (without_returns bytes) ≤ length bytes → length (step left_out b (without_returns bytes)) ≤ length (b ∷ bytes)
    by true l = omega arith
    by false l = omega arith

-- where none of the first places has a return and a newline, they stay
kept_front : (n : ℕ) (text : List ℕ) → ((i : ℕ) → i < n → (rest : List ℕ) → drop i text ≢ (13 ∷ 10 ∷ []) ++ rest) → without_returns text ≡ take n text ++ without_returns (drop n text)
kept_front zero text lacks = refl
kept_front (suc n) [] lacks = refl
kept_front (suc n) (c ∷ text) lacks = by (starts_with nat_eq (c ∷ text) (13 ∷ 10 ∷ [])) refl (kept_front n text (λ i l rest. lacks (suc i) (omega arith) rest))
  where
    by : (starts : Bool) → starts_with nat_eq (c ∷ text) (13 ∷ 10 ∷ []) ≡ starts → without_returns text ≡ take n text ++ without_returns (drop n text)
        → step starts c (without_returns text) ≡ c ∷ (take n text ++ without_returns (drop n text))
    by true e rest = let begins = begins_from_test (c ∷ text) (13 ∷ 10 ∷ []) e in absurd (lacks 0 (omega arith) begins.0 begins.1)
    by false e rest = ap (λ (t : List ℕ). c ∷ t) rest

-- what `replace` makes of a text
pub replaced : (n : ℕ) (p : Bor (List ℕ)) (text out : List ℕ) → p.now ≡ 13 ∷ 10 ∷ [] → ReplacesMatches (λ p. FindsText p.now) (λ p q. q.now ≡ p.now) (10 ∷ []) n p text out → out ≡ without_returns text
replaced zero p text out is h =
    let front = kept_front (length text) text (λ i l rest e. h.0 i (omega arith) rest (e ∙ ap (λ (v : List ℕ). v ++ rest) (sym is))) in
    h.1 ∙ sym (front ∙ ap (λ (v : List ℕ). v ++ without_returns (drop (length text) text)) (take-length text)
    ∙ ap (λ (v : List ℕ). text ++ without_returns v) (drop_all (length text) text (omega arith)) ∙ append-nil text)
replaced (suc n) p text out is h =
    let at : drop h.0 text ≡ 13 ∷ 10 ∷ drop h.1 text = h.4.1.split ∙ ap (λ (v : List ℕ). v ++ drop h.1 text) is in
    let front : without_returns text ≡ take h.0 text ++ without_returns (drop h.0 text) =
    kept_front h.0 text (λ i l rest e. h.4.0 i l rest (e ∙ ap (λ (v : List ℕ). v ++ rest) (sym is))) in
    let behind : without_returns (drop h.0 text) ≡ 10 ∷ without_returns (drop h.1 text) = ap without_returns at in
    elim h.6 as (λ _. out ≡ without_returns text) [
      | inl on ↦
          let rest : h.3 ≡ without_returns (drop h.1 text) = replaced n h.2 (drop h.1 text) h.3 (h.5 ∙ is) on.1 in
          h.7 ∙ ap (λ (v : List ℕ). take h.0 text ++ (10 ∷ v)) rest ∙ sym (front ∙ ap (λ (v : List ℕ). take h.0 text ++ v) behind)
      | inr on ↦ absurd (omega (arith, on.0, h.4.1.ends, ap length is))
    ]

-- a mark of byte order
pub mark_kept : (text : List ℕ) → IsUtf8 text → ((rest : List ℕ) → text ≢ encode 0xFEFF ++ rest) → chars text ≡ without_mark (chars text)
mark_kept text utf8 none = by (chars text) (encodes-chars text utf8)
  where
    by : (cs : List ℕ) → encode_utf8_all cs ≡ text → cs ≡ without_mark cs
    by [] e = refl
    by (c ∷ cs) e = by_test (c == 0xFEFF) refl
      where
        by_test : (b : Bool) → (c == 0xFEFF) ≡ b → c ∷ cs ≡ cond b cs (c ∷ cs)
        by_test true is =
            let mark : c ≡ 0xFEFF = grind (arith, nat_tests, is) in
            absurd (none (encode_utf8_all cs) (sym e ∙ ap (λ v. encode v ++ encode_utf8_all cs) mark))
        by_test false is = refl

pub mark_left_out : (text rest : List ℕ) → IsUtf8 text → text ≡ encode 0xFEFF ++ rest → chars rest ≡ without_mark (chars text)
mark_left_out text rest utf8 e = ap without_mark (sym (chars_past_char text rest 0xFEFF utf8 e))

-- the first character that is refused
pub none_refused : (text : List ℕ) → IsUtf8 text → NoCharPasses is_refused text → list_any is_refused (chars text) ≡ false
none_refused text utf8 none = subst (λ cs. list_any is_refused cs ≡ false) (chars_from_encodes none.0 text utf8 none.1) (by none.0 none.2)
  where
    by : (cs : List ℕ) → NonePass is_refused cs → list_any is_refused cs ≡ false
    by [] n = refl
    by (c ∷ cs) n = ap (λ b. b || list_any is_refused cs) n.0 ∙ by cs n.1

module _ (c : ℕ) (behind : List ℕ) (refused : is_refused c ≡ true) where
  any_refused : (front : List ℕ) → NonePass is_refused front → list_any is_refused (front ++ c ∷ behind) ≡ true
  any_refused [] n = ap (λ b. b || list_any is_refused behind) refused
  any_refused (x ∷ front) n = ap (λ b. b || list_any is_refused (front ++ c ∷ behind)) n.0 ∙ any_refused front n.1

  before_refused : (front : List ℕ) → NonePass is_refused front → before_first is_refused (front ++ c ∷ behind) ≡ front
  before_refused [] n =
      take_while-cons (λ x. not (is_refused x)) c behind
      ∙ ap (λ (b : Bool). cond (not b) (c ∷ before_first is_refused behind) []) refused
  before_refused (x ∷ front) n =
      take_while-cons (λ x. not (is_refused x)) x (front ++ c ∷ behind)
      ∙ ap (λ (b : Bool). cond (not b) (x ∷ before_first is_refused (front ++ c ∷ behind)) []) n.0
      ∙ ap (λ (t : List ℕ). x ∷ t) (before_refused front n.1)

pub refused_found : (text : List ℕ) (at to c : ℕ) → IsUtf8 text → IsUtf8 (drop to text) → NoCharPasses is_refused (take at text) → is_refused c ≡ true → drop at text ≡ encode c ++ drop to text
    → (list_any is_refused (chars text) ≡ true) × (line_behind (take at text) ≡ line_behind (before_first is_refused (chars text)))
refused_found text at to c utf8 rest_utf8 none refused splits =
    let front = none.0 in
    let behind = chars (drop to text) in
    let spells : encode_utf8_all (front ++ c ∷ behind) ≡ text =
    encodes-append front (c ∷ behind) ∙ ap (λ (v : List ℕ). v ++ (encode c ++ encode_utf8_all behind)) none.1
    ∙ ap (λ (v : List ℕ). take at text ++ (encode c ++ v)) (encodes-chars (drop to text) rest_utf8)
    ∙ ap (λ (v : List ℕ). take at text ++ v) (sym splits) ∙ take-append-drop at text in
    let same : front ++ c ∷ behind ≡ chars text = chars_from_encodes (front ++ c ∷ behind) text utf8 spells in (
      subst (λ cs. list_any is_refused cs ≡ true) same (any_refused c behind refused front none.2),
      ap line_behind (sym none.1) ∙ line_behind-encodes front ∙ ap line_behind (sym (before_refused c behind refused front none.2))
          ∙ ap (λ (cs : List ℕ). line_behind (before_first is_refused cs)) same,
    )

-- the text of a source
pub source_text-no_utf8 : (bytes : List ℕ) → ¬ (IsUtf8 bytes) → source_text bytes ≡ Err (NotUtf8 (line_behind (take (utf8_valid_len bytes) bytes)))
source_text-no_utf8 bytes no_utf8 = by (is_utf8 bytes) refl
  where
    by : (b : Bool) → is_utf8 bytes ≡ b → cond b (text_of_characters (without_returns (without_mark (chars bytes)))) (Err (NotUtf8 (line_behind (take (utf8_valid_len bytes) bytes))))
        ≡ Err (NotUtf8 (line_behind (take (utf8_valid_len bytes) bytes)))
    by true e = absurd (no_utf8 (IsUtf8-from_is_utf8 bytes e))
    by false e = refl

pub source_text-utf8 : (bytes cs : List ℕ) → IsUtf8 bytes → cs ≡ without_returns (without_mark (chars bytes)) → source_text bytes ≡ text_of_characters cs
source_text-utf8 bytes cs utf8 e =
    ap (λ (b : Bool). cond b (text_of_characters (without_returns (without_mark (chars bytes)))) (Err (NotUtf8 (line_behind (take (utf8_valid_len bytes) bytes))))) (is_utf8-from_IsUtf8 bytes utf8)
    ∙ ap text_of_characters (sym e)

pub text_of_characters-refused : (cs : List ℕ) (line : ℕ) → list_any is_refused cs ≡ true → line ≡ line_behind (before_first is_refused cs) → text_of_characters cs ≡ Err (Control line)
text_of_characters-refused cs line refused e =
    ap (λ (b : Bool). cond b (Err (Control (line_behind (before_first is_refused cs)))) (Ok (encode_utf8_all (nfc cs)))) refused ∙ ap (λ (n : ℕ). Err (Control n)) (sym e)

pub text_of_characters-kept : (cs : List ℕ) → list_any is_refused cs ≡ false → text_of_characters cs ≡ Ok (encode_utf8_all (nfc cs))
text_of_characters-kept cs kept = ap (λ (b : Bool). cond b (Err (Control (line_behind (before_first is_refused cs)))) (Ok (encode_utf8_all (nfc cs)))) kept

length-encode_all : (cs : List ℕ) → length (encode_utf8_all cs) ≤ 4 * length cs
length-encode_all [] = omega arith
length-encode_all (c ∷ cs) =
    omega (arith, length-append (encode_utf8 c) (encode_utf8_all cs), length-encode c, (len_utf8_bounds c).1, length-encode_all cs)

pub length-nfc_of : (text : List ℕ) → IsUtf8 text → length (nfc_of text) ≤ most_growth * length text
length-nfc_of text is = omega (arith, length-normalize-chars Nfc text is, length-encode_all (nfc (chars text)))

-- a text of ASCII is in Normalization Form C
pub nfc_of-ascii : (text : List ℕ) → IsAscii text → nfc_of text ≡ text
nfc_of-ascii text ascii =
    ap (λ (cs : List ℕ). encode_utf8_all (nfc cs)) (chars-IsAscii text ascii)
    ∙ ap encode_utf8_all (normalize-ascii Nfc text (All-from_ascii text ascii))
    ∙ encodes-IsAscii text ascii
