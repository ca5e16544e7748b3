-- The letters of a word, one by one.
use Rattle.std.proofs.Common.{◌≡◌, ◌≢◌, ◌+◌, ◌-◌, ◌<◌, ◌≤◌, ◌==◌, ◌&&◌, ◌||◌, ℕ, zero, suc, Bool, true, false, cond, not, List, [], ◌∷◌, ◌++◌, length, drop, Option, None, Some, refl, sym, ap, subst, ◌∙◌, inl, inr, ◌⊎◌, arith, append_assoc, append-nil, length-drop}
use Rattle.std.proofs.lemmas.List.{drop-drop}
use Rattle.regex_tokens.specs.Bytes.{begins}
use Rattle.lexc_forms.specs.declared.letters.Letter.{Letter}
use Rattle.lexc_forms.specs.declared.letters.Letter.TheVariants.{Plain, Escaped}
use Rattle.lexc_tokens.specs.Tokens.{is_plain, is_escapable, escaped_front, letter_front, IsWord}

same_some : {X : Type 0} (x y : X) → Some x ≡ Some y → x ≡ y
same_some x y e = cc

none_some : {X : Type 0} (o : Option X) (x : X) → o ≡ None → o ≡ Some x → ⊥
none_some o x none some = let clash : None ≡ Some x = sym none ∙ some in cc

-- a letter has one character or two
escaped_size : (cs : List ℕ) (letter : Letter) (n : ℕ) → escaped_front cs ≡ Some (letter, n) → (0 < n) × (n ≤ 1 + length cs)
escaped_size [] letter n is = absurd cc
escaped_size (c ∷ cs) letter n is = by (is_escapable c) is
  where
    by : (b : Bool) → cond {A = Option (Letter × ℕ)} b (Some (Escaped c, 2)) None ≡ Some (letter, n) → (0 < n) × (n ≤ 1 + length (c ∷ cs))
    by true e = let size : 2 ≡ n = ap (λ (p : Letter × ℕ). p.1) (same_some _ _ e) in (omega (arith, size), omega (arith, size))
    by false e = absurd cc

pub front_size : (text : List ℕ) (letter : Letter) (n : ℕ) → letter_front text ≡ Some (letter, n) → (0 < n) × (n ≤ length text)
front_size [] letter n is = absurd cc
front_size (c ∷ cs) letter n is = by (is_plain c) (c == 37) is
  where
    by : (plain escape : Bool) → cond {A = Option (Letter × ℕ)} plain (Some (Plain c, 1)) (cond {A = Option (Letter × ℕ)} escape (escaped_front cs) None) ≡ Some (letter, n) → (0 < n) × (n ≤ length (c ∷ cs))
    by true escape e = let size : 1 ≡ n = ap (λ (p : Letter × ℕ). p.1) (same_some _ _ e) in (omega (arith, size), omega (arith, size))
    by false true e = let size = escaped_size cs letter n e in (size.0, omega (arith, size.1))
    by false false e = absurd cc

-- The loop.

module _ (text : List ℕ) where
  abbrev pub SoFar : ℕ → List Letter → Type 0
  SoFar len letters = (more : List Letter) (rest : List ℕ) → IsWord (drop len text) more rest → IsWord text (letters ++ more) rest

  pub letter_more : (len n : ℕ) (letters pushed : List Letter) (letter : Letter) (here : List ℕ) → here ≡ drop len text → letter_front here ≡ Some (letter, n) → pushed ≡ letters ++ letter ∷ [] → SoFar len letters → SoFar (len + n) pushed
  letter_more len n letters pushed letter here here_is front pushed_is so_far = λ more rest word.
      subst (λ (z : List Letter). IsWord text z rest) (sym (ap (λ (z : List Letter). z ++ more) pushed_is ∙ append_assoc letters (letter ∷ []) more))
      (so_far (letter ∷ more) rest (n, sym (ap letter_front here_is) ∙ front, subst (λ (z : List ℕ). IsWord z more rest) (sym (drop-drop n len text)) word))

  pub letters_done : (len : ℕ) (letters : List Letter) (here : List ℕ) → here ≡ drop len text → letter_front here ≡ None → SoFar len letters → IsWord text letters (drop len text)
  letters_done len letters here here_is none so_far = subst (λ (z : List Letter). IsWord text z (drop len text)) (append-nil letters) (so_far [] (drop len text) (sym (ap letter_front here_is) ∙ none, refl))

-- a text has one word in front
same_word : (text : List ℕ) (a b : List Letter) (r s : List ℕ) → IsWord text a r → IsWord text b s → a ≡ b
same_word text [] [] r s p q = refl
same_word text [] (l ∷ b) r s p q = absurd (none_some (letter_front text) _ p.0 q.1)
same_word text (k ∷ a) [] r s p q = absurd (none_some (letter_front text) _ q.0 p.1)
same_word text (k ∷ a) (l ∷ b) r s p q =
    let size : q.0 ≡ p.0 = sym (ap (λ (x : Letter × ℕ). x.1) (same_some _ _ (sym p.1 ∙ q.1))) in
    ap (λ (z : Letter). z ∷ a) (ap (λ (x : Letter × ℕ). x.0) (same_some _ _ (sym p.1 ∙ q.1))) ∙ ap (λ (z : List Letter). l ∷ z) (same_word (drop p.0 text) a b r s p.2 (subst (λ (n : ℕ). IsWord (drop n text) b s) size q.2))

pub one_word : (text : List ℕ) (a b : List Letter) (r s : List ℕ) → IsWord text a r → IsWord text b s → a ≡ b
one_word text a b r s p q = same_word text a b r s p q

-- a word is no longer than its characters
pub word_length : (text : List ℕ) (letters : List Letter) (rest : List ℕ) → IsWord text letters rest → length rest + length letters ≤ length text
word_length text [] rest word = omega (arith, ap length word.1)
word_length text (l ∷ letters) rest word =
    let size = front_size text l word.0 word.1 in
    let more = word_length (drop word.0 text) letters rest word.2 in
    omega (arith, size.0, size.1, more, length-drop word.0 text)
