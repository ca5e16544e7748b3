-- Lines, words and symbols of a manifest, byte by byte.
use Rattle.std.proofs.Common.{◌≡◌, ◌==◌, ◌+◌, ◌<◌, ℕ, Bool, true, false, not, cond, ◌&&◌, ◌||◌, List, [], ◌∷◌, ◌++◌, length, map, take, drop, get_or, Vec, vec_len, Global, refl, sym, ap, ◌∙◌, append_assoc, suc, arith}
use Rattle.std.proofs.lemmas.List.{map-append, take_more}
use Rattle.std.specs.List.{list_all}
use Rattle.std.proofs.lemmas.Bool.Decides.{Decides-eqb}
use Rattle.project_manifest.specs.Manifests.{some_of, lines_from, words_from, is_blank, taken_from, text_of, takes_nothing, is_symbol_word, may_be_symbol, sayings, is_epsilon, words_of, saying, Saying}
use Rattle.project_manifest.specs.Sayings.{as_written}
use lib.Seq.{drop-cons}
use Rattle.word_relations.proofs.Behind.{left_behind}

pub some_is : (line : List ℕ) → (line ≡ [] → ⊥) → some_of line ≡ line ∷ []
some_is [] some = absurd (some refl)
some_is (b ∷ bs) some = refl

pub empty_vec : (v : Vec ℕ Global) → (vec_len v == 0) ≡ true → v.items ≡ []
empty_vec v e = no_items v.items (let zero_long : vec_len v ≡ 0 = (Decides-eqb (vec_len v) 0).0 e in omega (arith, v.ok, zero_long))
  where
    no_items : (xs : List ℕ) → length xs ≡ 0 → xs ≡ []
    no_items [] h = refl
    no_items (x ∷ xs) h = absurd (omega (arith, h))

pub not_empty_vec : (v : Vec ℕ Global) → (vec_len v == 0) ≡ false → v.items ≡ [] → ⊥
not_empty_vec v some none =
    let zero_long : (vec_len v == 0) ≡ true = (Decides-eqb (vec_len v) 0).1 (omega (arith, v.ok, ap length none)) in
    let clash : false ≡ true = sym some ∙ zero_long in
    cc

pub written_more : (old new : List (Vec ℕ Global)) (one : Vec ℕ Global) → new ≡ old ++ one ∷ [] → as_written new ≡ as_written old ++ one.items ∷ []
written_more old new one new_is = ap as_written new_is ∙ map-append (λ (w : Vec ℕ Global). w.items) old (one ∷ [])

-- a newline ends a line, and another byte goes on with it
pub line_ends : (b : ℕ) (old new : List (List ℕ)) (line : List ℕ) (rest : List ℕ) → (b == 10) ≡ true → new ≡ old ++ line ∷ [] → new ++ lines_from [] rest ≡ old ++ lines_from line (b ∷ rest)
line_ends b old new line rest ends new_is =
    ap (λ (n : List (List ℕ)). n ++ lines_from [] rest) new_is ∙ append_assoc old (line ∷ []) (lines_from [] rest)
    ∙ ap (λ c. old ++ cond c (line ∷ lines_from [] rest) (lines_from (line ++ b ∷ []) rest)) (sym ends)

pub line_goes_on : (b : ℕ) (old : List (List ℕ)) (line now : List ℕ) (rest : List ℕ) → (b == 10) ≡ false → now ≡ line ++ b ∷ [] → old ++ lines_from now rest ≡ old ++ lines_from line (b ∷ rest)
line_goes_on b old line now rest goes now_is =
    ap (λ (n : List ℕ). old ++ lines_from n rest) now_is ∙ ap (λ c. old ++ cond c (line ∷ lines_from [] rest) (lines_from (line ++ b ∷ []) rest)) (sym goes)

-- a blank ends a word, unless it is taken, and another byte goes on with it
pub word_ends : (b : ℕ) (taking : Bool) (old new : List (List ℕ)) (word : List ℕ) (rest : List ℕ) → (not taking && is_blank b) ≡ true → new ≡ old ++ some_of word → new ++ words_from [] false rest ≡ old ++ words_from word taking (b ∷ rest)
word_ends b taking old new word rest ends new_is =
    ap (λ (n : List (List ℕ)). n ++ words_from [] false rest) new_is ∙ append_assoc old (some_of word) (words_from [] false rest)
    ∙ ap (λ c. old ++ cond c (some_of word ++ words_from [] false rest) (words_from (word ++ b ∷ []) (not taking && b == 37) rest)) (sym ends)

pub word_goes_on : (b : ℕ) (taking takes : Bool) (old : List (List ℕ)) (word now : List ℕ) (rest : List ℕ) → (not taking && is_blank b) ≡ false → takes ≡ (not taking && b == 37) → now ≡ word ++ b ∷ [] → old ++ words_from now takes rest ≡ old ++ words_from word taking (b ∷ rest)
word_goes_on b taking takes old word now rest goes takes_is now_is =
    ap (λ (n : List ℕ). old ++ words_from n takes rest) now_is ∙ ap (λ t. old ++ words_from (word ++ b ∷ []) t rest) takes_is
    ∙ ap (λ c. old ++ cond c (some_of word ++ words_from [] false rest) (words_from (word ++ b ∷ []) (not taking && b == 37) rest)) (sym goes)

-- a byte of a word that takes the next one, and one that stays
pub byte_takes : (b : ℕ) (taking : Bool) (text rest : List ℕ) → (not taking && b == 37) ≡ true → text ++ taken_from true rest ≡ text ++ taken_from taking (b ∷ rest)
byte_takes b taking text rest takes = ap (λ c. text ++ cond c (taken_from true rest) (b ∷ taken_from false rest)) (sym takes)

pub byte_stays : (b : ℕ) (taking : Bool) (text now rest : List ℕ) → (not taking && b == 37) ≡ false → now ≡ text ++ b ∷ [] → now ++ taken_from false rest ≡ text ++ taken_from taking (b ∷ rest)
byte_stays b taking text now rest stays now_is =
    ap (λ (n : List ℕ). n ++ taken_from false rest) now_is ∙ append_assoc text (b ∷ []) (taken_from false rest)
    ∙ ap (λ c. text ++ cond c (taken_from true rest) (b ∷ taken_from false rest)) (sym stays)

-- what is left of bytes is the byte at the place, and what is behind it
byte_left : (bytes : List ℕ) (i : ℕ) → i < length bytes → drop i bytes ≡ get_or bytes i 0 ∷ drop (i + 1) bytes
byte_left bytes i below = drop-cons bytes i 0 below ∙ ap (λ (n : ℕ). get_or bytes i 0 ∷ drop n bytes) (one_more i)
  where
    one_more : (i : ℕ) → suc i ≡ i + 1
    one_more i = omega arith

-- a loop over bytes, by what a step says of every rest
pub byte_more : {S : Type 0} (bytes : List ℕ) (i : ℕ) (said now : List ℕ → S) (whole : S) → i < length bytes → ((rest : List ℕ) → now rest ≡ said (get_or bytes i 0 ∷ rest)) → said (drop i bytes) ≡ whole → now (drop (i + 1) bytes) ≡ whole
byte_more bytes i said now whole below step so_far = step (drop (i + 1) bytes) ∙ ap said (sym (byte_left bytes i below)) ∙ so_far

-- a tab behind a `%`, and another byte
pub wasted_here : (taking : Bool) (bytes : List ℕ) (i : ℕ) (whole : Bool) → i < length bytes → (taking && get_or bytes i 0 == 9) ≡ true → takes_nothing taking (drop i bytes) ≡ whole → true ≡ whole
wasted_here taking bytes i whole below wasted so_far =
    sym (ap (λ (w : Bool). w || takes_nothing (not taking && get_or bytes i 0 == 37) (drop (i + 1) bytes)) wasted) ∙ ap (takes_nothing taking) (sym (byte_left bytes i below)) ∙ so_far

pub wasted_later : (taking now : Bool) (bytes : List ℕ) (i : ℕ) (whole : Bool) → i < length bytes → (taking && get_or bytes i 0 == 9) ≡ false → now ≡ (not taking && get_or bytes i 0 == 37) → takes_nothing taking (drop i bytes) ≡ whole → takes_nothing now (drop (i + 1) bytes) ≡ whole
wasted_later taking now bytes i whole below not_wasted now_is so_far =
    ap (λ t. takes_nothing t (drop (i + 1) bytes)) now_is
    ∙ sym (ap (λ (w : Bool). w || takes_nothing (not taking && get_or bytes i 0 == 37) (drop (i + 1) bytes)) not_wasted) ∙ ap (takes_nothing taking) (sym (byte_left bytes i below)) ∙ so_far

-- whether a word is a symbol
pub no_symbol : (word : List ℕ) → takes_nothing false word ≡ true → is_symbol_word word ≡ false
no_symbol word takes = ap (λ b. not b && may_be_symbol (text_of word)) takes

pub symbol_if : (word : List ℕ) (b : Bool) → takes_nothing false word ≡ false → may_be_symbol (text_of word) ≡ b → is_symbol_word word ≡ b
symbol_if word b takes may = ap (λ t. not t && may_be_symbol (text_of word)) takes ∙ may

-- a line that says nothing, and one that says something
pub says_nothing : (n : ℕ) (old : List Saying) (line : List ℕ) (rest : List (List ℕ)) → is_epsilon (words_of line) ≡ true → old ++ sayings (n + 1) rest ≡ old ++ sayings n (line ∷ rest)
says_nothing n old line rest epsilon = ap (λ c. old ++ cond c (sayings (n + 1) rest) (saying n (words_of line) ∷ sayings (n + 1) rest)) (sym epsilon)

pub says_something : (n : ℕ) (old new : List Saying) (line : List ℕ) (rest : List (List ℕ)) → is_epsilon (words_of line) ≡ false → new ≡ old ++ saying n (words_of line) ∷ [] → new ++ sayings (n + 1) rest ≡ old ++ sayings n (line ∷ rest)
says_something n old new line rest says new_is =
    ap (λ (f : List Saying). f ++ sayings (n + 1) rest) new_is ∙ append_assoc old (saying n (words_of line) ∷ []) (sayings (n + 1) rest)
    ∙ ap (λ c. old ++ cond c (sayings (n + 1) rest) (saying n (words_of line) ∷ sayings (n + 1) rest)) (sym says)

-- a line more of those that say something
pub said_more : (lines : List (Vec ℕ Global)) (i : ℕ) (x : Vec ℕ Global) (found new whole : List Saying) → i < length lines → x ≡ get_or lines i x → ((rest : List (List ℕ)) → new ++ sayings (i + 1 + 1) rest ≡ found ++ sayings (i + 1) (x.items ∷ rest))
    → found ++ sayings (i + 1) (as_written (drop i lines)) ≡ whole → new ++ sayings (i + 1 + 1) (as_written (drop (i + 1) lines)) ≡ whole
said_more lines i x found new whole below is step so_far =
    step (as_written (drop (i + 1) lines)) ∙ ap (λ (z : List (Vec ℕ Global)). found ++ sayings (i + 1) (as_written z)) (sym (left_behind lines i x below is)) ∙ so_far

-- a loop over words that stand for symbols
module _ (words : List (Vec ℕ Global)) (i : ℕ) (x : Vec ℕ Global) (below : i < length words) (is : x ≡ get_or words i x) where
  abbrev all_of : List (Vec ℕ Global) → Bool
  all_of z = list_all is_symbol_word (as_written z)

  pub symbol_never : is_symbol_word x.items ≡ false → all_of (drop i words) ≡ all_of words → all_of words ≡ false
  symbol_never never so_far = sym so_far ∙ ap all_of (left_behind words i x below is) ∙ ap (λ (b : Bool). b && all_of (drop (i + 1) words)) never

  pub symbols_left : is_symbol_word x.items ≡ true → all_of (drop i words) ≡ all_of words → all_of (drop (i + 1) words) ≡ all_of words
  symbols_left symbol so_far = sym (ap all_of (left_behind words i x below is) ∙ ap (λ (b : Bool). b && all_of (drop (i + 1) words)) symbol) ∙ so_far

  pub symbols_more : (old new : List (List ℕ)) (text : List ℕ) → new ≡ old ++ text ∷ [] → text ≡ text_of x.items → old ≡ map text_of (as_written (take i words)) → new ≡ map text_of (as_written (take (i + 1) words))
  symbols_more old new text new_is text_is so_far =
      new_is ∙ ap (λ (z : List (List ℕ)). z ++ text ∷ []) so_far ∙ ap (λ (t : List ℕ). map text_of (as_written (take i words)) ++ t ∷ []) text_is
      ∙ sym (ap (λ (z : List (Vec ℕ Global)). map text_of (as_written z)) (take_more words i x below ∙ ap (λ (v : Vec ℕ Global). take i words ++ v ∷ []) (sym is))
      ∙ ap (map text_of) (map-append (λ (w : Vec ℕ Global). w.items) (take i words) (x ∷ [])) ∙ map-append text_of (as_written (take i words)) (x.items ∷ []))
