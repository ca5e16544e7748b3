-- The longest operator at the front of a text.
use Rattle.std.proofs.Common.{◌≡◌, ◌≤◌, ℕ, ◌+◌, Bool, true, false, cond, not, ◌&&◌, ◌||◌, ◌==◌, nat_eq, nat_le, List, [], ◌∷◌, ◌++◌, length, drop, Option, Some, None, refl, sym, ap, subst, ◌∙◌, inl, inr, arith, append_assoc, length-append}
use Rattle.std.specs.List.{list_all, starts_with}
use Rattle.std.specs.Str.{IsUtf8, bytes_eq}
use Rattle.std.proofs.lemmas.Slice.Eq.{starts_is, bytes_eq-Decides}
use Rattle.std.proofs.lemmas.Bool.Decides.{Decides-eqb, nat_tests}
use Rattle.regex_tokens.specs.Bytes.{begins, is_blank, is_sign}
use Rattle.regex_tokens.specs.Spelling.{spelling, IsSpaced, Spells}
use Rattle.regex_tokens.specs.Reading.{longest_first, first_of, closes, spaced_by, spaced_at, HasNone, IsRead, taken, left}
use Rattle.regex_tokens.specs.declared.token.Operator.{Operator}
use Rattle.regex_tokens.specs.declared.token.Operator.TheVariants.{OpenSquare, CloseSquare, OpenRound, CloseRound, Optional, Arrow, LeftLongest, LeftShortest, RightLongest, RightShortest, Only, UpUp, Bar, LowUp, Slash, UpLow, LowLow, Backslash, Ampersand, Minus, Tilde, Dollar, Star, Plus, Caret, Colon, Semicolon, GroupComma, Comma, Question, Underscore, Dots, CrossWith, Then, Upper, Lower, Inverse, Reverse, Edge, Insertion}
use Rattle.regex_tokens.specs.declared.token.Token.{Token}
use Rattle.regex_tokens.specs.declared.token.Token.TheVariants.{Operator as operator, Quoted as quoted, Braced as braced, Run as run}
use Rattle.regex_tokens.proofs.Lists.{and_left, and_right, and_true, false_by, taken-left, list_all-taken, taken-front, left-front}
use Rattle.regex_tokens.proofs.Spells.{sign, quote, brace, piece, sign_head, kind_here, spaced_any, read_some}
use Rattle.regex_tokens.proofs.Utf8.{is_ascii, past_ascii}

starts : (text p : List ℕ) → starts_with nat_eq text p ≡ true → text ≡ p ++ drop (length p) text
starts text p e = (starts_is Decides-eqb text p true (sym e)).0 refl

again : (text p rest : List ℕ) → text ≡ p ++ rest → starts_with nat_eq text p ≡ true
again text p rest e = (starts_is Decides-eqb text p (starts_with nat_eq text p) refl).1 rest e

-- Every operator is in the table, which falls in length.

abbrev is_listed : List ℕ → List Operator → Bool
is_listed w [] = false
is_listed w (o ∷ os) = bytes_eq w (spelling o) || is_listed w os

listed : (o : Operator) → is_listed (spelling o) longest_first ≡ true
listed OpenSquare = refl
listed CloseSquare = refl
listed OpenRound = refl
listed CloseRound = refl
listed Optional = refl
listed Arrow = refl
listed LeftLongest = refl
listed LeftShortest = refl
listed RightLongest = refl
listed RightShortest = refl
listed Only = refl
listed UpUp = refl
listed Bar = refl
listed LowUp = refl
listed Slash = refl
listed UpLow = refl
listed LowLow = refl
listed Backslash = refl
listed Ampersand = refl
listed Minus = refl
listed Tilde = refl
listed Dollar = refl
listed Star = refl
listed Plus = refl
listed Caret = refl
listed Colon = refl
listed Semicolon = refl
listed GroupComma = refl
listed Comma = refl
listed Question = refl
listed Underscore = refl
listed Dots = refl
listed CrossWith = refl
listed Then = refl
listed Upper = refl
listed Lower = refl
listed Inverse = refl
listed Reverse = refl
listed Edge = refl
listed Insertion = refl

abbrev falls : List Operator → Bool
falls [] = true
falls (o ∷ os) = list_all (λ q. nat_le (length (spelling q)) (length (spelling o))) os && falls os

below : (m n : ℕ) → nat_le m n ≡ true → m ≤ n
below m n e = grind (arith, nat_tests)

same_bytes : (u w : List ℕ) → bytes_eq u w ≡ true → u ≡ w
same_bytes u w e = (bytes_eq-Decides u w).0 e

-- an operator that is listed among others is no longer than one that none of them is longer than
listed_within : (w : List ℕ) (n : ℕ) (os : List Operator) → is_listed w os ≡ true → list_all (λ q. nat_le (length (spelling q)) n) os ≡ true → length w ≤ n
listed_within w n [] has all = absurd cc
listed_within w n (o ∷ os) has all = by (bytes_eq w (spelling o)) refl has (λ more. listed_within w n os more (and_right (nat_le (length (spelling o)) n) _ all))
  where
    by : (here : Bool) → bytes_eq w (spelling o) ≡ here → (here || is_listed w os) ≡ true → (is_listed w os ≡ true → length w ≤ n) → length w ≤ n
    by true is has later = let size : length w ≡ length (spelling o) = ap length (same_bytes w (spelling o) is) in omega (arith, size, below (length (spelling o)) n (and_left _ _ all))
    by false is has later = later has

pub record Found (os : List Operator) (text w : List ℕ) : Type 0 where
  pub operator : Operator
  pub is : first_of os text ≡ Some operator
  pub longer : length w ≤ length (spelling operator)

-- where an operator of the table begins the text, the first that does is no shorter
found : (os : List Operator) (text w : List ℕ) → falls os ≡ true → is_listed w os ≡ true → starts_with nat_eq text w ≡ true → Found os text w
found [] text w fall has begin = absurd cc
found (o ∷ os) text w fall has begin = by (starts_with nat_eq text (spelling o)) refl (bytes_eq w (spelling o)) refl has (λ more. found os text w (and_right (list_all (λ q. nat_le (length (spelling q)) (length (spelling o))) os) _ fall) more begin)
  where
    by : (here : Bool) → starts_with nat_eq text (spelling o) ≡ here → (that : Bool) → bytes_eq w (spelling o) ≡ that → (that || is_listed w os) ≡ true → (is_listed w os ≡ true → Found os text w) → Found (o ∷ os) text w
    by true is true that has later = record { operator = o; is = rw is refl; longer = let size : length w ≡ length (spelling o) = ap length (same_bytes w (spelling o) that) in omega arith }
    by true is false that has later = record { operator = o; is = rw is refl; longer = listed_within w (length (spelling o)) os has (and_left _ _ fall) }
    by false is true that has later = let clash : true ≡ false = sym begin ∙ ap (starts_with nat_eq text) (same_bytes w (spelling o) that) ∙ is in absurd cc
    by false is false that has later = let more : Found os text w = later has in record { operator = more.operator; is = rw is more.is; longer = more.longer }

pub first_begins : (os : List Operator) (text : List ℕ) (o : Operator) → first_of os text ≡ Some o → starts_with nat_eq text (spelling o) ≡ true
first_begins [] text o e = absurd cc
first_begins (q ∷ os) text o e = by (starts_with nat_eq text (spelling q)) refl e (λ more. first_begins os text o more)
  where
    by : (here : Bool) → starts_with nat_eq text (spelling q) ≡ here → cond here (Some q) (first_of os text) ≡ Some o → (first_of os text ≡ Some o → starts_with nat_eq text (spelling o) ≡ true) → starts_with nat_eq text (spelling o) ≡ true
    by true is e later = let same : q ≡ o = some_same e in subst (λ x. starts_with nat_eq text (spelling x) ≡ true) same is
      where
        some_same : Some q ≡ Some o → q ≡ o
        some_same e = cc
    by false is e later = later e

pub operator_found : (text rest : List ℕ) (o : Operator) → text ≡ spelling o ++ rest → Found longest_first text (spelling o)
operator_found text rest o e = found longest_first text (spelling o) refl (listed o) (again text (spelling o) rest e)

pub short : (o : Operator) → length (spelling o) ≤ 4
short o = listed_within (spelling o) 4 longest_first (listed o) refl

-- Insertions with blanks.

inside : (a b c d : ℕ) (bs rest : List ℕ) → (a ∷ b ∷ bs ++ c ∷ d ∷ []) ++ rest ≡ a ∷ b ∷ bs ++ c ∷ d ∷ rest
inside a b c d bs rest = ap (λ xs. a ∷ b ∷ xs) (append_assoc bs (c ∷ d ∷ []) rest)

pub spaced_text : (text longer behind : List ℕ) (h : IsSpaced Insertion longer) → text ≡ longer ++ behind → text ≡ 91 ∷ 46 ∷ (h.0 ∷ h.1) ++ 46 ∷ 93 ∷ behind
spaced_text text longer behind h e = e ∙ ap (λ bs. bs ++ behind) h.3 ∙ inside 91 46 46 93 (h.0 ∷ h.1) behind

abbrev if_closed : List ℕ → List ℕ → Option ℕ
if_closed front end = cond (not (length front == 0) && closes end) (Some (length front + 4)) None

spaced_by_again : (b : ℕ) (bs rest : List ℕ) → list_all is_blank (b ∷ bs) ≡ true → spaced_by ((b ∷ bs) ++ 46 ∷ 93 ∷ rest) ≡ Some (length (b ∷ bs) + 4)
spaced_by_again b bs rest all =
    let front : taken is_blank ((b ∷ bs) ++ 46 ∷ 93 ∷ rest) ≡ b ∷ bs = taken-front is_blank (b ∷ bs) (46 ∷ 93 ∷ rest) all refl in
    let behind : left is_blank ((b ∷ bs) ++ 46 ∷ 93 ∷ rest) ≡ 46 ∷ 93 ∷ rest = left-front is_blank (b ∷ bs) (46 ∷ 93 ∷ rest) all refl in
    spaced_parts front behind
  where
    spaced_parts : taken is_blank ((b ∷ bs) ++ 46 ∷ 93 ∷ rest) ≡ b ∷ bs → left is_blank ((b ∷ bs) ++ 46 ∷ 93 ∷ rest) ≡ 46 ∷ 93 ∷ rest → spaced_by ((b ∷ bs) ++ 46 ∷ 93 ∷ rest) ≡ Some (length (b ∷ bs) + 4)
    spaced_parts front behind =
        let some : (length (b ∷ bs) == 0) ≡ false = false_by (length (b ∷ bs) == 0) (λ e. let none : length (b ∷ bs) ≡ 0 = (Decides-eqb (length (b ∷ bs)) 0).0 e in absurd (omega arith)) in
        ap (λ f. if_closed f (left is_blank ((b ∷ bs) ++ 46 ∷ 93 ∷ rest))) front ∙ ap (if_closed (b ∷ bs)) behind ∙ ap (λ x. cond (not x && true) (Some (length (b ∷ bs) + 4)) None) some

pub spaced_again : (text longer behind : List ℕ) (h : IsSpaced Insertion longer) → text ≡ longer ++ behind → spaced_at text ≡ Some (length longer)
spaced_again text longer behind h e =
    let size : length (h.0 ∷ h.1) + 4 ≡ length longer = omega (arith, ap length h.3, length-append (h.0 ∷ h.1) (46 ∷ 93 ∷ [])) in
    ap spaced_at (spaced_text text longer behind h e) ∙ spaced_by_again h.0 h.1 behind h.2 ∙ ap Some size

pub record SpacedAt (text : List ℕ) (n : ℕ) : Type 0 where
  pub front : List ℕ
  pub rest : List ℕ
  pub stands : text ≡ front ++ rest
  pub spaced : IsSpaced Insertion front
  pub size : length front ≡ n
  pub long : 5 ≤ n

closes_is : (end : List ℕ) → closes end ≡ true → end ≡ 46 ∷ 93 ∷ drop 2 end
closes_is [] e = absurd cc
closes_is (a ∷ []) e = absurd cc
closes_is (a ∷ b ∷ rest) e = let first : a ≡ 46 = (Decides-eqb a 46).0 (and_left _ _ e) in let second : b ≡ 93 = (Decides-eqb b 93).0 (and_right (a == 46) _ e) in rw (first, second) refl

spaced_of : (a b : ℕ) (inner front end : List ℕ) (n : ℕ) → a ≡ 91 → b ≡ 46 → front ++ end ≡ inner → list_all is_blank front ≡ true → (length front == 0) ≡ false → closes end ≡ true → length front + 4 ≡ n → SpacedAt (a ∷ b ∷ inner) n
spaced_of a b inner [] end n first second whole all some last size = absurd cc
spaced_of a b inner (c ∷ cs) end n first second whole all some last size = record {
  front = 91 ∷ 46 ∷ (c ∷ cs) ++ 46 ∷ 93 ∷ [];
  rest = drop 2 end;
  stands = rw (first, second) (ap (λ bs. 91 ∷ 46 ∷ bs) (sym whole ∙ ap (λ bs. (c ∷ cs) ++ bs) (closes_is end last)) ∙ sym (inside 91 46 46 93 (c ∷ cs) (drop 2 end)));
  spaced = (c, cs, all, refl);
  size = omega (arith, length-append (c ∷ cs) (46 ∷ 93 ∷ []), size);
  long = omega (arith, size);
}

pub spaced_found : (text : List ℕ) (n : ℕ) → spaced_at text ≡ Some n → SpacedAt text n
spaced_found [] n e = absurd cc
spaced_found (a ∷ []) n e = absurd cc
spaced_found (a ∷ b ∷ inner) n e = by (a == 91 && b == 46) refl e
  where
    inner_by : (here : Bool) → (not (length (taken is_blank inner) == 0) && closes (left is_blank inner)) ≡ here → (a == 91 && b == 46) ≡ true → cond here (Some (length (taken is_blank inner) + 4)) None ≡ Some n → SpacedAt (a ∷ b ∷ inner) n
    inner_by true is begin e = spaced_of a b inner (taken is_blank inner) (left is_blank inner) n ((Decides-eqb a 91).0 (and_left _ _ begin)) ((Decides-eqb b 46).0 (and_right (a == 91) _ begin)) (taken-left is_blank inner) (list_all-taken is_blank inner) (flip (length (taken is_blank inner) == 0) (and_left _ _ is)) (and_right (not (length (taken is_blank inner) == 0)) _ is) (some_same e)
      where
        flip : (x : Bool) → not x ≡ true → x ≡ false
        flip true e = cc
        flip false e = refl

        some_same : Some (length (taken is_blank inner) + 4) ≡ Some n → length (taken is_blank inner) + 4 ≡ n
        some_same e = cc
    inner_by false is begin e = absurd cc

    by : (here : Bool) → (a == 91 && b == 46) ≡ here → cond here (spaced_by inner) None ≡ Some n → SpacedAt (a ∷ b ∷ inner) n
    by true is e = inner_by (not (length (taken is_blank inner) == 0) && closes (left is_blank inner)) refl is e
    by false is e = absurd cc

-- The longest operator.

ascii_blanks : (bs : List ℕ) → list_all is_blank bs ≡ true → list_all is_ascii bs ≡ true
ascii_blanks [] all = refl
ascii_blanks (b ∷ bs) all = and_true _ _ (ascii_blank b (and_left _ _ all)) (ascii_blanks bs (and_right (is_blank b) _ all))
  where
    ascii_blank : (b : ℕ) → is_blank b ≡ true → is_ascii b ≡ true
    ascii_blank b e = grind (arith, nat_tests)

list_all-append : (p : ℕ → Bool) (xs ys : List ℕ) → list_all p xs ≡ true → list_all p ys ≡ true → list_all p (xs ++ ys) ≡ true
list_all-append p [] ys all_x all_y = all_y
list_all-append p (x ∷ xs) ys all_x all_y = and_true _ _ (and_left _ _ all_x) (list_all-append p xs ys (and_right (p x) _ all_x) all_y)

spaced_ascii : (bytes : List ℕ) → IsSpaced Insertion bytes → list_all is_ascii bytes ≡ true
spaced_ascii bytes h = ap (list_all is_ascii) h.3 ∙ list_all-append is_ascii (h.0 ∷ h.1) (46 ∷ 93 ∷ []) (ascii_blanks (h.0 ∷ h.1) h.2) refl

operator_ascii : (o : Operator) → list_all is_ascii (spelling o) ≡ true
operator_ascii OpenSquare = refl
operator_ascii CloseSquare = refl
operator_ascii OpenRound = refl
operator_ascii CloseRound = refl
operator_ascii Optional = refl
operator_ascii Arrow = refl
operator_ascii LeftLongest = refl
operator_ascii LeftShortest = refl
operator_ascii RightLongest = refl
operator_ascii RightShortest = refl
operator_ascii Only = refl
operator_ascii UpUp = refl
operator_ascii Bar = refl
operator_ascii LowUp = refl
operator_ascii Slash = refl
operator_ascii UpLow = refl
operator_ascii LowLow = refl
operator_ascii Backslash = refl
operator_ascii Ampersand = refl
operator_ascii Minus = refl
operator_ascii Tilde = refl
operator_ascii Dollar = refl
operator_ascii Star = refl
operator_ascii Plus = refl
operator_ascii Caret = refl
operator_ascii Colon = refl
operator_ascii Semicolon = refl
operator_ascii GroupComma = refl
operator_ascii Comma = refl
operator_ascii Question = refl
operator_ascii Underscore = refl
operator_ascii Dots = refl
operator_ascii CrossWith = refl
operator_ascii Then = refl
operator_ascii Upper = refl
operator_ascii Lower = refl
operator_ascii Inverse = refl
operator_ascii Reverse = refl
operator_ascii Edge = refl
operator_ascii Insertion = refl

-- no token of another kind is longer, where the text begins with the byte of an operator
among_signs : (text : List ℕ) (P : Token → List ℕ → Type 0) → begins is_sign text ≡ true → ((o : Operator) (longer behind : List ℕ) → text ≡ longer ++ behind → Spells (operator o) longer → P (operator o) longer) → (other : Token) (longer behind : List ℕ) → text ≡ longer ++ behind → Spells other longer → P other longer
among_signs text P first signs (operator o) longer behind spelled h = signs o longer behind spelled h
among_signs text P first signs (quoted ds) longer behind spelled h = let clash : sign ≡ quote = kind_here text sign (sign_head text first) (quoted ds) longer behind spelled h in absurd cc
among_signs text P first signs (braced ds) longer behind spelled h = let clash : sign ≡ brace = kind_here text sign (sign_head text first) (braced ds) longer behind spelled h in absurd cc
among_signs text P first signs (run r) longer behind spelled h = let clash : sign ≡ piece = kind_here text sign (sign_head text first) (run r) longer behind spelled h in absurd cc

pub spaced_read : (text : List ℕ) (n : ℕ) → IsUtf8 text → begins is_sign text ≡ true → Some n ≡ spaced_at text → IsRead text (Some (operator Insertion, n))
spaced_read text n utf8 first e =
    let here : SpacedAt text n = spaced_found text n (sym e) in
    read_some text (operator Insertion) here.front here.rest n (record {
      stands = here.stands;
      spelled = inr here.spaced;
      longest = among_signs text (λ _ longer. length longer ≤ length here.front) first (λ o longer behind spelled h. by here o longer behind spelled h);
    }) here.size (past_ascii here.front here.rest (spaced_ascii here.front here.spaced) (subst IsUtf8 here.stands utf8))
  where
    some_same : (m : ℕ) → Some m ≡ Some n → m ≡ n
    some_same m e = cc

    by : (here : SpacedAt text n) (o : Operator) (longer behind : List ℕ) → text ≡ longer ++ behind → Spells (operator o) longer → length longer ≤ length here.front
    by here o longer behind spelled (inl h) = omega (arith, ap length h, short o, here.size, here.long)
    by here o longer behind spelled (inr h) = let same : length longer ≡ n = some_same (length longer) (sym (spaced_again text longer behind (spaced_any o longer h) spelled) ∙ sym e) in omega (arith, here.size)

pub operator_read : (text : List ℕ) (o : Operator) (n : ℕ) → IsUtf8 text → begins is_sign text ≡ true → None ≡ spaced_at text → Some o ≡ first_of longest_first text → n ≡ length (spelling o) → IsRead text (Some (operator o, n))
operator_read text o n utf8 first none e size =
    let stands : text ≡ spelling o ++ drop (length (spelling o)) text = starts text (spelling o) (first_begins longest_first text o (sym e)) in
    read_some text (operator o) (spelling o) (drop (length (spelling o)) text) n (record {
      stands = stands;
      spelled = inl refl;
      longest = among_signs text (λ _ longer. length longer ≤ length (spelling o)) first by;
    }) (sym size) (past_ascii (spelling o) (drop (length (spelling o)) text) (operator_ascii o) (subst IsUtf8 stands utf8))
  where
    some_same : (q : Operator) → Some q ≡ Some o → q ≡ o
    some_same q e = cc

    by : (q : Operator) (longer behind : List ℕ) → text ≡ longer ++ behind → Spells (operator q) longer → length longer ≤ length (spelling o)
    by q longer behind spelled (inl h) =
        let there : Found longest_first text (spelling q) = operator_found text behind q (spelled ∙ ap (λ bs. bs ++ behind) h) in
        let same : there.operator ≡ o = some_same there.operator (sym there.is ∙ sym e) in
        omega (arith, ap length h, there.longer, ap (λ x. length (spelling x)) same)
    by q longer behind spelled (inr h) = let clash : None ≡ Some (length longer) = none ∙ spaced_again text longer behind (spaced_any q longer h) spelled in absurd cc

pub operator_none : (text : List ℕ) → begins is_sign text ≡ true → None ≡ spaced_at text → None ≡ first_of longest_first text → HasNone text
operator_none text first none e token front rest spelled h = among_signs text (λ _ _. ⊥) first by token front rest spelled h
  where
    by : (q : Operator) (longer behind : List ℕ) → text ≡ longer ++ behind → Spells (operator q) longer → ⊥
    by q longer behind spelled (inl h) =
        let there : Found longest_first text (spelling q) = operator_found text behind q (spelled ∙ ap (λ bs. bs ++ behind) h) in
        let clash : None ≡ Some there.operator = e ∙ there.is in
        cc
    by q longer behind spelled (inr h) = let clash : None ≡ Some (length longer) = none ∙ spaced_again text longer behind (spaced_any q longer h) spelled in cc
