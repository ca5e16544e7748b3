-- What is read, by its bytes and what is behind them. Atoms and quotes.
use Rattle.std.proofs.Common.{◌≡◌, ◌≤◌, ◌<◌, ℕ, ◌+◌, true, false, ◌==◌, List, [], ◌∷◌, ◌++◌, length, take, drop, Some, refl, sym, ap, subst, ◌∙◌, ◌⊎◌, inl, inr, arith, append_assoc, length-append, length-drop}
use Rattle.std.specs.List.{list_all, prefix_len}
use Rattle.std.specs.Str.{IsUtf8, IsCharBoundary}
use Rattle.std.proofs.lemmas.Str.{IsCharBoundary-at_seam, IsUtf8-drop}
use Rattle.std.proofs.lemmas.List.{take-append-drop}
use Rattle.regex_ast.specs.declared.twolc.RuleKind.TheVariants.{Only, Must, Both, Never}
use Rattle.regex_tokens.specs.Bytes.{begins, is_quoted_byte}
use Rattle.regex_tokens.specs.Spelling.{IsQuoted}
use Rattle.regex_tokens.specs.Reading.{taken, left}
use Rattle.regex_tokens.proofs.Lists.{list_all-taken, begins-left, split_once, take-prefix_len, drop-prefix_len}
use Rattle.regex_tokens.proofs.Spells.{Quotes, begins_is, closed}
use Rattle.regex_tokens.proofs.Utf8.{quoted_boundary}
use Rattle.twolc_tokens.specs.Spelling.{spelling, IsAtom, Spells}
use Rattle.twolc_tokens.specs.Cuts.{IsLongest}
use Rattle.twolc_tokens.specs.Reading.{HasNoAtom, HasNone, IsAtomLen, IsRead}
use Rattle.twolc_tokens.specs.declared.token.Operator.{Operator}
use Rattle.twolc_tokens.specs.declared.token.Operator.TheVariants.{OpenSquare, CloseSquare, OpenRound, CloseRound, Bar, Ampersand, Minus, Slash, Arrow, Tilde, Backslash, Dollar, Star, Plus, Caret, Question, Edge, Semicolon, Underscore, Equals}
use Rattle.twolc_tokens.specs.declared.token.Token.{Token}
use Rattle.twolc_tokens.specs.declared.token.Token.TheVariants.{Operator as operator, Quoted as quoted, Atom as atom}
use Rattle.twolc_tokens.proofs.Atoms.{Head, begins_atom, atom_head}

heads : (x y : ℕ) (xs ys : List ℕ) → x ∷ xs ≡ y ∷ ys → x ≡ y
heads x y xs ys e = cc

tails : (x y : ℕ) (xs ys : List ℕ) → x ∷ xs ≡ y ∷ ys → xs ≡ ys
tails x y xs ys e = cc

take-front : (front rest : List ℕ) → take (length front) (front ++ rest) ≡ front
take-front [] rest = refl
take-front (b ∷ front) rest = ap (λ bs. b ∷ bs) (take-front front rest)

drop-front : (front rest : List ℕ) → drop (length front) (front ++ rest) ≡ rest
drop-front [] rest = refl
drop-front (b ∷ front) rest = drop-front front rest

pub read_some : (text : List ℕ) (t : Token) (front rest : List ℕ) (n : ℕ) → IsLongest text t front rest → length front ≡ n → IsUtf8 rest → IsRead text (Some (t, n))
read_some text t front rest n h e utf8 =
    let same_front : take n text ≡ front = sym (ap (λ k. take k text) e) ∙ ap (take (length front)) h.stands ∙ take-front front rest in
    let same_rest : drop n text ≡ rest = sym (ap (λ k. drop k text) e) ∙ ap (drop (length front)) h.stands ∙ drop-front front rest in (
      subst (λ bs. IsLongest text t (take n text) bs) (sym same_rest) (subst (λ bs. IsLongest text t bs rest) (sym same_front) h),
      subst (IsCharBoundary text) e (IsCharBoundary-at_seam text front rest h.stands utf8),
    )

-- Atoms.

-- an operator begins with no byte of an atom, but `?`
pub apart : (o : Operator) (rest : List ℕ) → (begins begins_atom (spelling o ++ rest) ≡ false) ⊎ (spelling o ≡ 63 ∷ [])
apart OpenSquare rest = inl refl
apart CloseSquare rest = inl refl
apart OpenRound rest = inl refl
apart CloseRound rest = inl refl
apart Bar rest = inl refl
apart Ampersand rest = inl refl
apart Minus rest = inl refl
apart Slash rest = inl refl
apart (Arrow Only) rest = inl refl
apart (Arrow Must) rest = inl refl
apart (Arrow Both) rest = inl refl
apart (Arrow Never) rest = inl refl
apart Tilde rest = inl refl
apart Backslash rest = inl refl
apart Dollar rest = inl refl
apart Star rest = inl refl
apart Plus rest = inl refl
apart Caret rest = inl refl
apart Question rest = inr refl
apart Edge rest = inl refl
apart Semicolon rest = inl refl
apart Underscore rest = inl refl
apart Equals rest = inl refl

begun : (bytes rest : List ℕ) → IsAtom bytes → begins begins_atom (bytes ++ rest) ≡ true
begun bytes rest a = let h : Head begins_atom bytes = atom_head bytes a in ap (λ bs. begins begins_atom (bs ++ rest)) h.spelled ∙ h.passes

pub atom_read : (text bytes : List ℕ) (n : ℕ) → IsAtomLen text n → 0 < n → IsUtf8 text → bytes ≡ take n text → IsRead text (Some (atom bytes, n))
atom_read text bytes n h some utf8 e =
    subst (λ bs. IsRead text (Some (atom bs, n))) (sym e) (read_some text (atom (take n text)) (take n text) (drop n text) n (record {
      stands = sym (take-append-drop n text);
      spelled = (h.is some, refl);
      longest = by;
    }) size (h.utf8 some utf8))
  where
    size : length (take n text) ≡ n
    size = omega (arith, ap length (take-append-drop n text), length-append (take n text) (drop n text), h.within, length-drop n text)

    here : begins begins_atom text ≡ true
    here = sym (ap (begins begins_atom) (take-append-drop n text)) ∙ begun (take n text) (drop n text) (h.is some)

    by : (other : Token) (longer behind : List ℕ) → text ≡ longer ++ behind → Spells other longer → length longer ≤ length (take n text)
    by (operator o) longer behind stands spelled = elim (apart o behind) [
      | inl not ↦ (let clash : true ≡ false = sym here ∙ ap (begins begins_atom) (stands ∙ ap (λ bs. bs ++ behind) spelled) ∙ not in absurd cc)
      | inr question ↦ omega (arith, some, size, ap length (spelled ∙ question))
    ]
    by (quoted ds) longer behind stands spelled = let clash : true ≡ false = sym here ∙ ap (begins begins_atom) (stands ∙ ap (λ bs. bs ++ behind) spelled.1) in absurd cc
    by (atom bs) longer behind stands spelled = omega (arith, h.longest longer behind stands spelled.0, size)

-- Quotes.

between : (first last : ℕ) (cs rest : List ℕ) → (first ∷ cs ++ last ∷ []) ++ rest ≡ first ∷ cs ++ last ∷ rest
between first last cs rest = ap (λ bs. first ∷ bs) (append_assoc cs (last ∷ []) rest)

quotes : (text ds longer behind : List ℕ) → IsQuoted ds longer → text ≡ longer ++ behind → text ≡ 34 ∷ ds ++ 34 ∷ behind
quotes text ds longer behind h e = e ∙ ap (λ bs. bs ++ behind) h.1 ∙ between 34 34 ds behind

-- an operator doesn't begin with a quote
signs : (o : Operator) (rest : List ℕ) → begins (λ b. b == 34) (spelling o ++ rest) ≡ false
signs OpenSquare rest = refl
signs CloseSquare rest = refl
signs OpenRound rest = refl
signs CloseRound rest = refl
signs Bar rest = refl
signs Ampersand rest = refl
signs Minus rest = refl
signs Slash rest = refl
signs (Arrow Only) rest = refl
signs (Arrow Must) rest = refl
signs (Arrow Both) rest = refl
signs (Arrow Never) rest = refl
signs Tilde rest = refl
signs Backslash rest = refl
signs Dollar rest = refl
signs Star rest = refl
signs Plus rest = refl
signs Caret rest = refl
signs Question rest = refl
signs Edge rest = refl
signs Semicolon rest = refl
signs Underscore rest = refl
signs Equals rest = refl

pub no_operator : (o : Operator) (text more behind : List ℕ) → text ≡ 34 ∷ more → text ≡ spelling o ++ behind → ⊥
no_operator o text more behind e stands = let clash : true ≡ false = ap (begins (λ b. b == 34)) (sym e ∙ stands) ∙ signs o behind in cc

quoted_longest : (text cs rest : List ℕ) → HasNoAtom text → text ≡ 34 ∷ cs ++ 34 ∷ rest → list_all is_quoted_byte cs ≡ true → IsLongest text (quoted cs) (34 ∷ cs ++ 34 ∷ []) rest
quoted_longest text cs rest no_atom e all = record {
  stands = e ∙ sym (between 34 34 cs rest);
  spelled = (all, refl);
  longest = λ other longer behind spelled h. by other longer behind spelled h;
}
  where
    by : (other : Token) (longer behind : List ℕ) → text ≡ longer ++ behind → Spells other longer → length longer ≤ length (34 ∷ cs ++ 34 ∷ [])
    by (operator o) longer behind stands h = absurd (no_operator o text (cs ++ 34 ∷ rest) behind e (stands ∙ ap (λ bs. bs ++ behind) h))
    by (quoted ds) longer behind stands h =
        let same : cs ≡ ds = (split_once is_quoted_byte cs ds (34 ∷ rest) (34 ∷ behind) all h.0 refl refl (tails 34 34 _ _ (sym e ∙ quotes text ds longer behind h stands))).0 in
        let equal : length longer ≡ length (34 ∷ cs ++ 34 ∷ []) = ap length h.1 ∙ sym (ap (λ xs. length (34 ∷ xs ++ 34 ∷ [])) same) in
        omega arith
    by (atom bs) longer behind stands h = absurd (no_atom longer behind stands h.0)

quoted_none : (text inner end : List ℕ) → HasNoAtom text → text ≡ 34 ∷ inner ++ end → list_all is_quoted_byte inner ≡ true → begins is_quoted_byte end ≡ false → begins (λ b. b == 34) end ≡ false → HasNone text
quoted_none text inner end no_atom e all stop unclosed other longer behind stands h = by other longer behind stands h
  where
    by : (other : Token) (longer behind : List ℕ) → text ≡ longer ++ behind → Spells other longer → ⊥
    by (operator o) longer behind stands h = no_operator o text (inner ++ end) behind e (stands ∙ ap (λ bs. bs ++ behind) h)
    by (quoted ds) longer behind stands h =
        let same : end ≡ 34 ∷ behind = (split_once is_quoted_byte inner ds end (34 ∷ behind) all h.0 stop refl (tails 34 34 _ _ (sym e ∙ quotes text ds longer behind h stands))).1 in
        let clash : true ≡ false = sym (ap (begins (λ b. b == 34)) same) ∙ unclosed in
        cc
    by (atom bs) longer behind stands h = no_atom longer behind stands h.0

opened : (b : ℕ) (text inner end : List ℕ) → begins (λ c. c == b) text ≡ true → inner ++ end ≡ drop 1 text → text ≡ b ∷ inner ++ end
opened b text inner end first e = begins_is b text first ∙ ap (λ bs. b ∷ bs) (sym e)

quoted_inner : (text behind inner end : List ℕ) (n : ℕ) → Quotes text behind inner end n → inner ≡ taken is_quoted_byte behind
quoted_inner text behind inner end n h = h.is_inner ∙ ap (λ k. take k behind) h.size ∙ take-prefix_len is_quoted_byte behind

quoted_end : (text behind inner end : List ℕ) (n : ℕ) → Quotes text behind inner end n → end ≡ left is_quoted_byte behind
quoted_end text behind inner end n h = h.is_end ∙ ap (λ k. drop k behind) h.size ∙ drop-prefix_len is_quoted_byte behind

quoted_all : (text behind inner end : List ℕ) (n : ℕ) → Quotes text behind inner end n → list_all is_quoted_byte inner ≡ true
quoted_all text behind inner end n h = ap (list_all is_quoted_byte) (quoted_inner text behind inner end n h) ∙ list_all-taken is_quoted_byte behind

quoted_whole : (text behind inner end : List ℕ) (n : ℕ) → Quotes text behind inner end n → text ≡ 34 ∷ inner ++ end
quoted_whole text behind inner end n h = opened 34 text inner end h.first (ap (λ bs. bs ++ end) h.is_inner ∙ ap (λ bs. take n behind ++ bs) h.is_end ∙ take-append-drop n behind ∙ h.is_behind)

pub quoted_some : (text behind inner end : List ℕ) (n k : ℕ) → HasNoAtom text → Quotes text behind inner end n → begins (λ c. c == 34) end ≡ true → k ≡ length inner + 2 → IsRead text (Some (quoted inner, k))
quoted_some text behind inner end n k no_atom h last size =
    let utf8_behind : IsUtf8 behind = subst IsUtf8 (sym h.is_behind) (closed 34 text (omega arith) h.first h.utf8) in
    let utf8 : IsUtf8 end = subst IsUtf8 (sym h.is_end) (subst (λ m. IsUtf8 (drop m behind)) (sym h.size) (IsUtf8-drop behind (prefix_len is_quoted_byte behind) utf8_behind (quoted_boundary behind))) in
    let spelled : text ≡ 34 ∷ inner ++ 34 ∷ drop 1 end = quoted_whole text behind inner end n h ∙ ap (λ bs. 34 ∷ inner ++ bs) (begins_is 34 end last) in
    read_some text (quoted inner) (34 ∷ inner ++ 34 ∷ []) (drop 1 end) k (quoted_longest text inner (drop 1 end) no_atom spelled (quoted_all text behind inner end n h)) (omega (arith, length-append inner (34 ∷ []), size)) (closed 34 end (omega arith) last utf8)

pub quoted_nothing : (text behind inner end : List ℕ) (n : ℕ) → HasNoAtom text → Quotes text behind inner end n → begins (λ c. c == 34) end ≡ false → HasNone text
quoted_nothing text behind inner end n no_atom h last =
    quoted_none text inner end no_atom (quoted_whole text behind inner end n h) (quoted_all text behind inner end n h) (ap (begins is_quoted_byte) (quoted_end text behind inner end n h) ∙ begins-left is_quoted_byte behind) last
