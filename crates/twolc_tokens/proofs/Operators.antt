-- The longest operator at the front of a text that begins with neither an atom nor quotes.
use Rattle.std.proofs.Common.{◌≡◌, ◌≤◌, ℕ, Bool, true, false, cond, ◌&&◌, ◌||◌, ◌==◌, nat_eq, nat_le, List, [], ◌∷◌, ◌++◌, length, drop, Some, None, refl, sym, ap, subst, ◌∙◌, arith}
use Rattle.std.specs.List.{list_all, starts_with}
use Rattle.std.specs.Str.{IsUtf8, bytes_eq}
use Rattle.std.proofs.lemmas.Slice.Eq.{starts_is, bytes_eq-Decides}
use Rattle.std.proofs.lemmas.Bool.Decides.{Decides-eqb, nat_tests}
use Rattle.regex_ast.specs.declared.twolc.RuleKind.TheVariants.{Only, Must, Both, Never}
use Rattle.regex_tokens.specs.Bytes.{begins}
use Rattle.regex_tokens.proofs.Lists.{and_left, and_right}
use Rattle.regex_tokens.proofs.Utf8.{is_ascii, past_ascii}
use Rattle.twolc_tokens.specs.Spelling.{spelling, Spells}
use Rattle.twolc_tokens.specs.Reading.{longest_first, first_of, HasNoAtom, HasNone, IsRead}
use Rattle.twolc_tokens.specs.declared.token.Operator.{Operator}
use Rattle.twolc_tokens.specs.declared.token.Operator.TheVariants.{OpenSquare, CloseSquare, OpenRound, CloseRound, Bar, Ampersand, Minus, Slash, Arrow, Tilde, Backslash, Dollar, Star, Plus, Caret, Question, Edge, Semicolon, Underscore, Equals}
use Rattle.twolc_tokens.specs.declared.token.Token.{Token}
use Rattle.twolc_tokens.specs.declared.token.Token.TheVariants.{Operator as operator, Quoted as quoted, Atom as atom}
use Rattle.twolc_tokens.proofs.Fronts.{read_some}

starts : (text p : List ℕ) → starts_with nat_eq text p ≡ true → text ≡ p ++ drop (length p) text
starts text p e = (starts_is Decides-eqb text p true (sym e)).0 refl

again : (text p rest : List ℕ) → text ≡ p ++ rest → starts_with nat_eq text p ≡ true
again text p rest e = (starts_is Decides-eqb text p (starts_with nat_eq text p) refl).1 rest e

-- Every operator is in the table, which falls in length.

abbrev is_listed : List ℕ → List Operator → Bool
is_listed w [] = false
is_listed w (o ∷ os) = bytes_eq w (spelling o) || is_listed w os

listed : (o : Operator) → is_listed (spelling o) longest_first ≡ true
listed OpenSquare = refl
listed CloseSquare = refl
listed OpenRound = refl
listed CloseRound = refl
listed Bar = refl
listed Ampersand = refl
listed Minus = refl
listed Slash = refl
listed (Arrow Only) = refl
listed (Arrow Must) = refl
listed (Arrow Both) = refl
listed (Arrow Never) = refl
listed Tilde = refl
listed Backslash = refl
listed Dollar = refl
listed Star = refl
listed Plus = refl
listed Caret = refl
listed Question = refl
listed Edge = refl
listed Semicolon = refl
listed Underscore = refl
listed Equals = refl

abbrev falls : List Operator → Bool
falls [] = true
falls (o ∷ os) = list_all (λ q. nat_le (length (spelling q)) (length (spelling o))) os && falls os

below : (m n : ℕ) → nat_le m n ≡ true → m ≤ n
below m n e = grind (arith, nat_tests)

same_bytes : (u w : List ℕ) → bytes_eq u w ≡ true → u ≡ w
same_bytes u w e = (bytes_eq-Decides u w).0 e

-- an operator that is listed among others is no longer than one that none of them is longer than
listed_within : (w : List ℕ) (n : ℕ) (os : List Operator) → is_listed w os ≡ true → list_all (λ q. nat_le (length (spelling q)) n) os ≡ true → length w ≤ n
listed_within w n [] has all = absurd cc
listed_within w n (o ∷ os) has all = by (bytes_eq w (spelling o)) refl has (λ more. listed_within w n os more (and_right (nat_le (length (spelling o)) n) _ all))
  where
    by : (here : Bool) → bytes_eq w (spelling o) ≡ here → (here || is_listed w os) ≡ true → (is_listed w os ≡ true → length w ≤ n) → length w ≤ n
    by true is has later = let size : length w ≡ length (spelling o) = ap length (same_bytes w (spelling o) is) in omega (arith, size, below (length (spelling o)) n (and_left _ _ all))
    by false is has later = later has

pub record Found (os : List Operator) (text w : List ℕ) : Type 0 where
  pub operator : Operator
  pub is : first_of os text ≡ Some operator
  pub longer : length w ≤ length (spelling operator)

-- where an operator of the table begins the text, the first that does is no shorter
found : (os : List Operator) (text w : List ℕ) → falls os ≡ true → is_listed w os ≡ true → starts_with nat_eq text w ≡ true → Found os text w
found [] text w fall has begin = absurd cc
found (o ∷ os) text w fall has begin = by (starts_with nat_eq text (spelling o)) refl (bytes_eq w (spelling o)) refl has (λ more. found os text w (and_right (list_all (λ q. nat_le (length (spelling q)) (length (spelling o))) os) _ fall) more begin)
  where
    by : (here : Bool) → starts_with nat_eq text (spelling o) ≡ here → (that : Bool) → bytes_eq w (spelling o) ≡ that → (that || is_listed w os) ≡ true → (is_listed w os ≡ true → Found os text w) → Found (o ∷ os) text w
    by true is true that has later = record { operator = o; is = rw is refl; longer = let size : length w ≡ length (spelling o) = ap length (same_bytes w (spelling o) that) in omega arith }
    by true is false that has later = record { operator = o; is = rw is refl; longer = listed_within w (length (spelling o)) os has (and_left _ _ fall) }
    by false is true that has later = let clash : true ≡ false = sym begin ∙ ap (starts_with nat_eq text) (same_bytes w (spelling o) that) ∙ is in absurd cc
    by false is false that has later = let more : Found os text w = later has in record { operator = more.operator; is = rw is more.is; longer = more.longer }

pub first_begins : (os : List Operator) (text : List ℕ) (o : Operator) → first_of os text ≡ Some o → starts_with nat_eq text (spelling o) ≡ true
first_begins [] text o e = absurd cc
first_begins (q ∷ os) text o e = by (starts_with nat_eq text (spelling q)) refl e (λ more. first_begins os text o more)
  where
    by : (here : Bool) → starts_with nat_eq text (spelling q) ≡ here → cond here (Some q) (first_of os text) ≡ Some o → (first_of os text ≡ Some o → starts_with nat_eq text (spelling o) ≡ true) → starts_with nat_eq text (spelling o) ≡ true
    by true is e later = let same : q ≡ o = some_same e in subst (λ x. starts_with nat_eq text (spelling x) ≡ true) same is
      where
        some_same : Some q ≡ Some o → q ≡ o
        some_same e = cc
    by false is e later = later e

pub operator_found : (text rest : List ℕ) (o : Operator) → text ≡ spelling o ++ rest → Found longest_first text (spelling o)
operator_found text rest o e = found longest_first text (spelling o) refl (listed o) (again text (spelling o) rest e)

operator_ascii : (o : Operator) → list_all is_ascii (spelling o) ≡ true
operator_ascii OpenSquare = refl
operator_ascii CloseSquare = refl
operator_ascii OpenRound = refl
operator_ascii CloseRound = refl
operator_ascii Bar = refl
operator_ascii Ampersand = refl
operator_ascii Minus = refl
operator_ascii Slash = refl
operator_ascii (Arrow Only) = refl
operator_ascii (Arrow Must) = refl
operator_ascii (Arrow Both) = refl
operator_ascii (Arrow Never) = refl
operator_ascii Tilde = refl
operator_ascii Backslash = refl
operator_ascii Dollar = refl
operator_ascii Star = refl
operator_ascii Plus = refl
operator_ascii Caret = refl
operator_ascii Question = refl
operator_ascii Edge = refl
operator_ascii Semicolon = refl
operator_ascii Underscore = refl
operator_ascii Equals = refl

quotes : (text ds behind : List ℕ) (rest : List ℕ) → begins (λ b. b == 34) text ≡ false → text ≡ (34 ∷ ds ++ 34 ∷ []) ++ rest → ⊥
quotes text ds behind rest none e = let clash : true ≡ false = sym (ap (begins (λ b. b == 34)) e) ∙ none in cc

-- no token of another kind is longer, where the text begins with neither an atom nor quotes
among_operators : (text : List ℕ) (P : Token → List ℕ → Type 0) → HasNoAtom text → begins (λ b. b == 34) text ≡ false → ((o : Operator) (longer behind : List ℕ) → text ≡ longer ++ behind → Spells (operator o) longer → P (operator o) longer) → (other : Token) (longer behind : List ℕ) → text ≡ longer ++ behind → Spells other longer → P other longer
among_operators text P no_atom none operators (operator o) longer behind stands h = operators o longer behind stands h
among_operators text P no_atom none operators (quoted ds) longer behind stands h = absurd (quotes text ds longer behind none (stands ∙ ap (λ bs. bs ++ behind) h.1))
among_operators text P no_atom none operators (atom bs) longer behind stands h = absurd (no_atom longer behind stands h.0)

pub operator_read : (text : List ℕ) (o : Operator) (n : ℕ) → IsUtf8 text → HasNoAtom text → begins (λ b. b == 34) text ≡ false → Some o ≡ first_of longest_first text → n ≡ length (spelling o) → IsRead text (Some (operator o, n))
operator_read text o n utf8 no_atom none e size =
    let stands : text ≡ spelling o ++ drop (length (spelling o)) text = starts text (spelling o) (first_begins longest_first text o (sym e)) in
    read_some text (operator o) (spelling o) (drop (length (spelling o)) text) n (record {
      stands = stands;
      spelled = refl;
      longest = among_operators text (λ _ longer. length longer ≤ length (spelling o)) no_atom none by;
    }) (sym size) (past_ascii (spelling o) (drop (length (spelling o)) text) (operator_ascii o) (subst IsUtf8 stands utf8))
  where
    some_same : (q : Operator) → Some q ≡ Some o → q ≡ o
    some_same q e = cc

    by : (q : Operator) (longer behind : List ℕ) → text ≡ longer ++ behind → Spells (operator q) longer → length longer ≤ length (spelling o)
    by q longer behind stands h =
        let there : Found longest_first text (spelling q) = operator_found text behind q (stands ∙ ap (λ bs. bs ++ behind) h) in
        let same : there.operator ≡ o = some_same there.operator (sym there.is ∙ sym e) in
        omega (arith, ap length h, there.longer, ap (λ x. length (spelling x)) same)

pub operator_none : (text : List ℕ) → HasNoAtom text → begins (λ b. b == 34) text ≡ false → None ≡ first_of longest_first text → HasNone text
operator_none text no_atom none e token front rest stands h = among_operators text (λ _ _. ⊥) no_atom none by token front rest stands h
  where
    by : (q : Operator) (longer behind : List ℕ) → text ≡ longer ++ behind → Spells (operator q) longer → ⊥
    by q longer behind stands h =
        let there : Found longest_first text (spelling q) = operator_found text behind q (stands ∙ ap (λ bs. bs ++ behind) h) in
        let clash : None ≡ Some there.operator = e ∙ there.is in
        cc
