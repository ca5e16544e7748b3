-- The token that begins a text.
use Rattle.std.proofs.Common.{◌≡◌, ◌≢◌, ◌+◌, ◌<◌, ◌≤◌, ◌==◌, ◌&&◌, min, ℕ, suc, Bool, true, false, List, [], ◌∷◌, Vec, Global, vec_len, length, take, drop, refl, sym, ap, subst, ◌∙◌, arith, length-drop}
use Rattle.std.proofs.lemmas.Bool.Decides.{Decides-eqb, nat_tests}
use Rattle.std.specs.Str.{encode_utf8_all}
use Rattle.regex_tokens.specs.Bytes.{begins}
use Rattle.lexc_forms.specs.declared.letters.Letter.{Letter}
use Rattle.lexc_tokens.specs.Tokens.{IsWord, NoneStands, begins_expression, inner_len}
use Rattle.lexc_tokens.specs.Steps.{IsTokenFront}
use Rattle.lexc_tokens.specs.declared.expressions.Inside.TheVariants.{Nothing}
use Rattle.lexc_tokens.specs.declared.token.Token.TheVariants.{Word as word, Semicolon as semicolon, Expression as expression}
use Rattle.lexc_tokens.proofs.Letters.{one_word, word_length}
use Rattle.lexc_tokens.proofs.Insides.{drop-min}

not_equal : (a b : ℕ) → a ≢ b → (a == b) ≡ false
not_equal a b other = by (a == b) refl
  where
    by : (t : Bool) → (a == b) ≡ t → (a == b) ≡ false
    by true is = absurd (other ((Decides-eqb a b).0 is))
    by false is = is

module _ (opens : Bool) (text : List ℕ) (no_end : begins (λ c. c == 59) text ≡ false) (no_expression : begins_expression opens text ≡ false) (letters : List Letter) (rest : List ℕ) (is : IsWord text letters rest) where
  -- there is no word
  pub none_stands : letters ≡ [] → NoneStands opens text
  none_stands none (word other) behind stands = stands.0 (one_word text other letters behind rest stands.2 is ∙ none)
  none_stands none semicolon behind stands = let clash : false ≡ true = sym no_end ∙ ap (begins (λ c. c == 59)) stands in cc
  none_stands none (expression e) behind stands = let clash : false ≡ true = sym no_expression ∙ ap (λ (b : Bool). begins_expression b text) stands.0 ∙ ap (λ (t : List ℕ). begins_expression true t) stands.2 in cc

  pub word_stands : (n : ℕ) → rest ≡ drop n text → n ≤ length text → (letters ≢ []) → IsTokenFront opens text (word letters) n
  word_stands n rest_is within some = record {
    some = some_by letters some (word_length text letters rest is);
    within = within;
    stands = (some, no_expression, subst (IsWord text letters) rest_is is);
  }
    where
      some_by : (ls : List Letter) → ls ≢ [] → length rest + length ls ≤ length text → 0 < n
      some_by [] some short = absurd (some refl)
      some_by (l ∷ ls) some short = omega (arith, short, ap length rest_is, length-drop n text)

pub semicolon_stands : (opens : Bool) (text : List ℕ) (c : ℕ) (behind : List ℕ) → text ≡ c ∷ behind → c ≡ 59 → IsTokenFront opens text semicolon 1
semicolon_stands opens text c behind split is = record {
  some = omega arith;
  within = omega (arith, ap length split);
  stands = split ∙ ap (λ (x : ℕ). x ∷ behind) is ∙ ap (λ (z : List ℕ). 59 ∷ z) (sym (ap (drop 1) split));
}

pub expression_stands : (opens : Bool) (text : List ℕ) (c : ℕ) (behind inner : List ℕ) (e : List ℕ) (len n : ℕ) → text ≡ c ∷ behind → opens ≡ true → c ≡ 60 → len ≡ inner_len Nothing behind → inner ≡ take len behind → e ≡ encode_utf8_all inner → n ≡ min (length text) (len + 2) → IsTokenFront opens text (expression e) n
expression_stands opens text c behind inner e len n split opened is len_is inner_is e_is n_is =
    let two : len + 2 ≡ suc (len + 1) = omega arith in
    record {
      some = omega (arith, n_is, ap length split);
      within = omega (arith, n_is);
      stands = (
        opened,
        behind,
        split ∙ ap (λ (x : ℕ). x ∷ behind) is,
        e_is ∙ ap encode_utf8_all inner_is ∙ ap (λ (k : ℕ). encode_utf8_all (take k behind)) len_is,
        ap (λ (k : ℕ). drop k text) n_is ∙ drop-min (len + 2) text ∙ ap (drop (len + 2)) split ∙ ap (λ (k : ℕ). drop k (c ∷ behind)) two ∙ ap (λ (k : ℕ). drop (k + 1) behind) len_is,
      );
    }

pub none_empty : (opens : Bool) (text : List ℕ) → length text ≡ 0 → NoneStands opens text
none_empty opens [] none (word letters) rest stands = by letters stands.0 stands.2
  where
    by : (ls : List Letter) → ls ≢ [] → IsWord [] ls rest → ⊥
    by [] some spelled = some refl
    by (l ∷ ls) some spelled = let e = spelled.1 in cc
none_empty opens [] none semicolon rest stands = cc
none_empty opens [] none (expression e) rest stands = let clash = stands.2 in cc
none_empty opens (c ∷ cs) none token rest stands = absurd (omega (arith, none))

pub no_semicolon : (text : List ℕ) (c : ℕ) (behind : List ℕ) → text ≡ c ∷ behind → c ≢ 59 → begins (λ x. x == 59) text ≡ false
no_semicolon text c behind split other = ap (begins (λ x. x == 59)) split ∙ not_equal c 59 other

pub no_opening : (opens : Bool) (text : List ℕ) (c : ℕ) (behind : List ℕ) → text ≡ c ∷ behind → (opens && c == 60) ≡ false → begins_expression opens text ≡ false
no_opening opens text c behind split none = ap (begins_expression opens) split ∙ none

pub no_letters : (letters : Vec Letter Global) → (vec_len letters == 0) ≡ true → letters.items ≡ []
no_letters letters is =
    let ok = letters.ok in
    let none : length letters.items ≡ 0 = grind (arith, nat_tests) in
    by letters.items none
  where
    by : (ls : List Letter) → length ls ≡ 0 → ls ≡ []
    by [] none = refl
    by (l ∷ ls) none = absurd (omega (arith, none))

pub some_letters : (letters : Vec Letter Global) → (vec_len letters == 0) ≡ false → letters.items ≢ []
some_letters letters is none =
    let ok = letters.ok in
    let long : length letters.items ≡ 0 = ap length none in
    let some : 0 < length letters.items = grind (arith, nat_tests) in
    omega (arith, long, some)
