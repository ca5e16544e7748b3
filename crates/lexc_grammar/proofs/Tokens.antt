-- What comes next in a text, and the tokens of an entry, are one thing each.
use Rattle.std.proofs.Common.{◌≡◌, ◌≢◌, ◌+◌, ℕ, Bool, true, false, List, [], ◌∷◌, take, drop, Option, None, Some, refl, sym, ap, subst, ◌∙◌, arith}
use Rattle.std.specs.Str.{encode_utf8_all}
use Rattle.lexc_forms.specs.declared.letters.Letter.{Letter}
use Rattle.lexc_tokens.specs.Tokens.{letter_front, IsWord, Stands, Follows, NoneFollows, begins_expression, behind_blanks, inner_len}
use Rattle.lexc_tokens.specs.declared.expressions.Inside.TheVariants.{Nothing}
use Rattle.lexc_tokens.specs.declared.token.Token.{Token}
use Rattle.lexc_tokens.specs.declared.token.Token.TheVariants.{Word as word, Semicolon as semicolon, Expression as expression}
use Rattle.lexc_tokens.proofs.Letters.{one_word}
use Rattle.lexc_grammar.specs.Files.{HasTokens}
use Rattle.lexc_grammar.specs.declared.statements.Ending.{Ending}
use Rattle.lexc_grammar.specs.declared.statements.Ending.TheVariants.{Ended, Unended, Broken}

same_some : {X : Type 0} (x y : X) → Some x ≡ Some y → x ≡ y
same_some x y e = cc

none_some : {X : Type 0} (o : Option X) (x : X) → o ≡ None → o ≡ Some x → ⊥
none_some o x none some = let clash : None ≡ Some x = sym none ∙ some in cc

first_same : (x y : ℕ) (xs ys : List ℕ) → x ∷ xs ≡ y ∷ ys → x ≡ y
first_same x y xs ys e = cc

-- Words.

word_rest : (text : List ℕ) (letters : List Letter) (r s : List ℕ) → IsWord text letters r → IsWord text letters s → r ≡ s
word_rest text [] r s p q = p.1 ∙ sym q.1
word_rest text (l ∷ letters) r s p q =
    let size : p.0 ≡ q.0 = ap (λ (x : Letter × ℕ). x.1) (same_some (l, p.0) (l, q.0) (sym p.1 ∙ q.1)) in
    word_rest (drop q.0 text) letters r s (subst (λ (n : ℕ). IsWord (drop n text) letters r) size p.2) q.2

no_word : (letters : List Letter) (text rest : List ℕ) → letters ≢ [] → letter_front text ≡ None → IsWord text letters rest → ⊥
no_word [] text rest some none is = some refl
no_word (l ∷ letters) text rest some none is = none_some (letter_front text) (l, is.0) none is.1

-- Tokens.

not_empty : (opens : Bool) (token : Token) (rest : List ℕ) → Stands opens [] token rest → ⊥
not_empty opens (word letters) rest stands = no_word letters [] rest stands.0 refl stands.2
not_empty opens semicolon rest stands = cc
not_empty opens (expression e) rest stands = let clash = stands.2 in cc

module _ (opens : Bool) (text : List ℕ) where
  word_semicolon : (letters : List Letter) (r s : List ℕ) → Stands opens text (word letters) r → Stands opens text semicolon s → ⊥
  word_semicolon letters r s p q = no_word letters text r p.0 (ap letter_front q) p.2

  word_expression : (letters : List Letter) (e r s : List ℕ) → Stands opens text (word letters) r → Stands opens text (expression e) s → ⊥
  word_expression letters e r s p q =
      let clash : false ≡ true = sym p.1 ∙ ap (λ (b : Bool). begins_expression b text) q.0 ∙ ap (begins_expression true) q.2 in
      cc

  semicolon_expression : (e r s : List ℕ) → Stands opens text semicolon r → Stands opens text (expression e) s → ⊥
  semicolon_expression e r s p q = let clash : 59 ≡ 60 = first_same 59 60 r q.1 (sym p ∙ q.2) in absurd (omega (arith, clash))

  -- one token begins a text, and one rest is behind it
  pub stands_once : (a b : Token) (r s : List ℕ) → Stands opens text a r → Stands opens text b s → (a ≡ b) × (r ≡ s)
  stands_once (word k) (word l) r s p q =
      let same : k ≡ l = one_word text k l r s p.2 q.2 in
      (ap word same, word_rest text l r s (subst (λ (z : List Letter). IsWord text z r) same p.2) q.2)
  stands_once (word k) semicolon r s p q = absurd (word_semicolon k r s p q)
  stands_once (word k) (expression e) r s p q = absurd (word_expression k e r s p q)
  stands_once semicolon (word l) r s p q = absurd (word_semicolon l s r q p)
  stands_once semicolon semicolon r s p q = let whole : 59 ∷ r ≡ 59 ∷ s = sym p ∙ q in (refl, cc)
  stands_once semicolon (expression e) r s p q = absurd (semicolon_expression e r s p q)
  stands_once (expression d) (word l) r s p q = absurd (word_expression l d s r q p)
  stands_once (expression d) semicolon r s p q = absurd (semicolon_expression d s r q p)
  stands_once (expression d) (expression e) r s p q =
      let whole : 60 ∷ p.1 ≡ 60 ∷ q.1 = sym p.2 ∙ q.2 in
      let inner : p.1 ≡ q.1 = cc in (
        ap expression (p.3 ∙ ap (λ (z : List ℕ). encode_utf8_all (take (inner_len Nothing z) z)) inner ∙ sym q.3),
        p.4 ∙ ap (λ (z : List ℕ). drop (inner_len Nothing z + 1) z) inner ∙ sym q.4,
      )

-- What comes next.

-- the end of the text, a place where no token begins, or a token and what is behind it
pub data Next : Type 0 where
  nothing : Next
  no_front : Next
  found : Token → List ℕ → Next

abbrev pub IsNext : Bool → List ℕ → Next → Type 0
IsNext opens text nothing = behind_blanks text ≡ []
IsNext opens text no_front = NoneFollows opens text
IsNext opens text (found token rest) = Follows opens text token rest

some_text : (opens : Bool) (text : List ℕ) (token : Token) (rest : List ℕ) → Follows opens text token rest → behind_blanks text ≢ []
some_text opens text token rest follows none = not_empty opens token rest (subst (λ (z : List ℕ). Stands opens z token rest) none follows)

found_same : (a b : Token) (r s : List ℕ) → (a ≡ b) × (r ≡ s) → found a r ≡ found b s
found_same a b r s e = λ i. found (e.0 i) (e.1 i)

pub next_once : (opens : Bool) (text : List ℕ) (a b : Next) → IsNext opens text a → IsNext opens text b → a ≡ b
next_once opens text nothing nothing p q = refl
next_once opens text nothing no_front p q = absurd (q.0 p)
next_once opens text nothing (found b s) p q = absurd (some_text opens text b s q p)
next_once opens text no_front nothing p q = absurd (p.0 q)
next_once opens text no_front no_front p q = refl
next_once opens text no_front (found b s) p q = absurd (p.1 b s q)
next_once opens text (found a r) nothing p q = absurd (some_text opens text a r p q)
next_once opens text (found a r) no_front p q = absurd (q.1 a r p)
next_once opens text (found a r) (found b s) p q = found_same a b r s (stands_once opens (behind_blanks text) a b r s p q)

-- The tokens of an entry.

-- what is behind the `;` of an entry, where it has one
abbrev pub behind_end : Ending → List ℕ → List ℕ
behind_end Ended rest = rest
behind_end Unended rest = []
behind_end (Broken at) rest = []

-- what comes next where the tokens end
abbrev next_of : Ending → List ℕ → Next
next_of Ended rest = found semicolon rest
next_of Unended rest = nothing
next_of (Broken at) rest = no_front

pub record AreSame (a b : List Token) (e d : Ending) (r s : List ℕ) : Type 0 where
  pub tokens : a ≡ b
  pub ending : e ≡ d
  pub behind : behind_end e r ≡ behind_end d s

pub first_found : (a b : Token) (r s : List ℕ) → found a r ≡ found b s → (a ≡ b) × (r ≡ s)
first_found a b r s e = let token : a ≡ b = cc in let rest : r ≡ s = cc in (token, rest)

module _ (lines : ℕ) where
  ends_so : (begins : Bool) (text : List ℕ) (ending : Ending) (rest : List ℕ) → HasTokens lines begins text [] ending rest → IsNext begins text (next_of ending rest)
  ends_so begins text Ended rest has = has
  ends_so begins text Unended rest has = has
  ends_so begins text (Broken at) rest has = has.0

  goes_on : (begins : Bool) (text : List ℕ) (ending : Ending) (rest : List ℕ) (token : Token) (behind : List ℕ) → HasTokens lines begins text [] ending rest → token ≢ semicolon → Follows begins text token behind → ⊥
  goes_on begins text ending rest token behind has no_end follows = by ending (next_once begins text (next_of ending rest) (found token behind) (ends_so begins text ending rest has) follows)
    where
      by : (e : Ending) → next_of e rest ≡ found token behind → ⊥
      by Ended same = no_end (sym (first_found semicolon token rest behind same).0)
      by Unended same = cc
      by (Broken at) same = cc

  ends_same : (begins : Bool) (text : List ℕ) (e d : Ending) (r s : List ℕ) → HasTokens lines begins text [] e r → HasTokens lines begins text [] d s → next_of e r ≡ next_of d s → AreSame [] [] e d r s
  ends_same begins text Ended Ended r s p q same = record { tokens = refl; ending = refl; behind = (first_found semicolon semicolon r s same).1 }
  ends_same begins text Unended Unended r s p q same = record { tokens = refl; ending = refl; behind = refl }
  ends_same begins text (Broken at) (Broken there) r s p q same = record { tokens = refl; ending = ap Broken (p.1 ∙ sym q.1); behind = refl }
  ends_same begins text Ended Unended r s p q same = absurd cc
  ends_same begins text Ended (Broken there) r s p q same = absurd cc
  ends_same begins text Unended Ended r s p q same = absurd cc
  ends_same begins text Unended (Broken there) r s p q same = absurd cc
  ends_same begins text (Broken at) Ended r s p q same = absurd cc
  ends_same begins text (Broken at) Unended r s p q same = absurd cc

  more_same : (a b : Token) (others them : List Token) (e d : Ending) (r s : List ℕ) → a ≡ b → AreSame others them e d r s → AreSame (a ∷ others) (b ∷ them) e d r s
  more_same a b others them e d r s first more = record { tokens = λ i. first i ∷ more.tokens i; ending = more.ending; behind = more.behind }

  pub tokens_once : (begins : Bool) (text : List ℕ) (a b : List Token) (e d : Ending) (r s : List ℕ) → HasTokens lines begins text a e r → HasTokens lines begins text b d s → AreSame a b e d r s
  tokens_once begins text [] [] e d r s p q =
      ends_same begins text e d r s p q (next_once begins text (next_of e r) (next_of d s) (ends_so begins text e r p) (ends_so begins text d s q))
  tokens_once begins text [] (y ∷ b) e d r s p q = absurd (goes_on begins text e r y q.1 p q.0 q.2)
  tokens_once begins text (x ∷ a) [] e d r s p q = absurd (goes_on begins text d s x p.1 q p.0 p.2)
  tokens_once begins text (x ∷ a) (y ∷ b) e d r s p q =
      let both = first_found x y p.1 q.1 (next_once begins text (found x p.1) (found y q.1) p.2 q.2) in
      more_same x y a b e d r s both.0 (tokens_once false q.1 a b e d r s (subst (λ (z : List ℕ). HasTokens lines false z a e r) both.1 p.3) q.3)
