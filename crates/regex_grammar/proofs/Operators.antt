-- What tokens begin with, and items behind operators.
use Rattle.std.proofs.Common.{◌≡◌, ℕ, ◌<◌, ◌==◌, nat_le, Bool, true, false, Option, Some, None, List, [], ◌∷◌, length, sym, ap, ◌∙◌, arith}
use Rattle.std.specs.Option.{option_map, option_and_then}
use Rattle.std.proofs.lemmas.Bool.Decides.{nat_tests}
use Rattle.regex_tokens.specs.Fronts.{after}
use Rattle.regex_tokens.specs.declared.token.Operator.{Operator}
use Rattle.regex_tokens.specs.declared.token.Token.{Token}
use Rattle.regex_tokens.specs.declared.token.Token.TheVariants.{Operator as operator, Quoted as quoted_token, Braced as braced_token, Run as run_token}
use Rattle.regex_tokens.proofs.Fronts.{after_takes, after_again}
use Rattle.regex_grammar.specs.Rows.{Reader, begins}
use Rattle.regex_grammar.specs.Grammar.{put_behind}
use Rattle.regex_grammar.specs.Reading.{level, is_level, behind_at, one_of}
use Rattle.regex_grammar.proofs.Cases.{map_some, then_some, either_way}
use Rattle.regex_grammar.proofs.Exact.{Exact, Follow}

-- a token at which a row of this number or of a smaller one goes on
abbrev pub goes_on : ℕ → Token → Bool
goes_on n t = nat_le (level t) n

above : (l m n : ℕ) → m < n → nat_le l n ≡ false → nat_le l m ≡ false
above l m n h e = grind (arith, nat_tests)

other : (l n : ℕ) → nat_le l n ≡ false → (l == n) ≡ false
other l n e = grind (arith, nat_tests)

pub tighter : (l m n : ℕ) → m < n → (l == n) ≡ true → nat_le l m ≡ false
tighter l m n h e = grind (arith, nat_tests)

below : (l m n : ℕ) → m < n → nat_le l n ≡ false → (l == m) ≡ false
below l m n h e = grind (arith, nat_tests)

-- what a row of this number doesn't go on at, one of a smaller number doesn't either
pub ends_smaller : (m n : ℕ) → m < n → (t : Token) → goes_on n t ≡ false → goes_on m t ≡ false
ends_smaller m n h t e = above (level t) m n h e

pub starts_none : (m n : ℕ) → m < n → (t : Token) → goes_on n t ≡ false → is_level m t ≡ false
starts_none m n h t e = below (level t) m n h e

-- the tests fit together by the order of the numbers
pub follow : (m k n : ℕ) → m < n → k < n → Follow (is_level n) (goes_on m) (goes_on k) (goes_on n)
follow m k n h g = record {
  end_row = λ t e. other (level t) n e;
  end_first = λ t e. above (level t) m n h e;
  end_next = λ t e. above (level t) k n g e;
  next_first = λ t e. tighter (level t) m n h e;
  next_next = λ t e. tighter (level t) k n g e;
}

-- tokens whose first passes a test don't begin with an operator that doesn't
pub no_after : (o : Operator) (p : Token → Bool) → p (operator o) ≡ false → (tokens : List Token) → begins p tokens ≡ true → after o tokens ≡ None
no_after o p fails tokens e = either_way (after o tokens) (λ none. none)
    (λ rest some. let clash : true ≡ false = sym e ∙ ap (begins p) (after_takes o tokens rest some) ∙ fails in absurd cc)

-- and the other way round
pub stopped_after : (o : Operator) (p : Token → Bool) → p (operator o) ≡ true → (tokens : List Token) → begins p tokens ≡ false → after o tokens ≡ None
stopped_after o p passes tokens e = either_way (after o tokens) (λ none. none)
    (λ rest some. let clash : false ≡ true = sym e ∙ ap (begins p) (after_takes o tokens rest some) ∙ passes in absurd cc)

-- what was found at the front: a tree, its tokens, and what it says
abbrev pub Found : {A T : Type 0} → (A → List Token → List Token) → (A → T) → List Token → T × List Token → Type 0
Found {A} put says tokens x = (a : A) × (tokens ≡ put a x.1) × (says a ≡ x.0)

-- An operator.

pub one_of_takes : {T : Type 0} (choose : Operator → Option T) (tokens : List Token) (x : T × List Token) → one_of choose tokens ≡ Some x → (o : Operator) × (tokens ≡ operator o ∷ x.1) × (choose o ≡ Some x.0)
one_of_takes choose [] x e = absurd cc
one_of_takes choose (quoted_token cs ∷ rest) x e = absurd cc
one_of_takes choose (braced_token cs ∷ rest) x e = absurd cc
one_of_takes choose (run_token r ∷ rest) x e = absurd cc
one_of_takes {T} choose (operator o ∷ rest) x e = map_some _ (choose o) x e (λ t known same. (
  o,
  ap (λ (v : T × List Token). operator o ∷ v.1) same,
  known ∙ ap (λ (v : T × List Token). Some v.0) same,
))

-- marks that are one operator each, which the choice knows
pub record Marks {A T : Type 0} (choose : Operator → Option T) (put : A → List Token → List Token) (says : A → T) (starts : Token → Bool) : Type 0 where
  pub known : (o : Operator) (t : T) → choose o ≡ Some t → (a : A) × ((rest : List Token) → put a rest ≡ operator o ∷ rest) × (says a ≡ t)
  pub spelled : (a : A) → (o : Operator) × ((rest : List Token) → put a rest ≡ operator o ∷ rest) × (choose o ≡ Some (says a)) × (starts (operator o) ≡ true)

pub marks_exact : {A T : Type 0} {choose : Operator → Option T} {put : A → List Token → List Token} {says : A → T} {starts : Token → Bool} (goes : Token → Bool) → Marks choose put says starts → Exact (one_of choose) put says starts goes
marks_exact {A} {T} {choose = choose} {put = put} {says = says} {starts = starts} goes h = record {
  takes = λ tokens x e. found tokens x (one_of_takes choose tokens x e);
  again = λ a rest stop. again a rest (h.spelled a);
  begun = λ a rest. begun a rest (h.spelled a);
  grows = λ a rest. grows a rest (h.spelled a);
}
  where
    Spelled : A → Type 0
    Spelled a = (o : Operator) × ((rest : List Token) → put a rest ≡ operator o ∷ rest) × (choose o ≡ Some (says a)) × (starts (operator o) ≡ true)

    known_found : (tokens : List Token) (x : T × List Token) (o : Operator) → tokens ≡ operator o ∷ x.1 → (a : A) × ((rest : List Token) → put a rest ≡ operator o ∷ rest) × (says a ≡ x.0) → Found put says tokens x
    known_found tokens x o first (a, spelled, value) = (a, first ∙ sym (spelled x.1), value)

    found : (tokens : List Token) (x : T × List Token) → (o : Operator) × (tokens ≡ operator o ∷ x.1) × (choose o ≡ Some x.0) → Found put says tokens x
    found tokens x (o, first, known) = known_found tokens x o first (h.known o x.0 known)

    again : (a : A) (rest : List Token) → (o : Operator) × ((rest : List Token) → put a rest ≡ operator o ∷ rest) × (choose o ≡ Some (says a)) × (starts (operator o) ≡ true) → one_of choose (put a rest) ≡ Some (says a, rest)
    again a rest (o, spelled, known, _) = ap (one_of choose) (spelled rest) ∙ ap (option_map (λ (t : T). (t, rest))) known

    begun : (a : A) (rest : List Token) → (o : Operator) × ((rest : List Token) → put a rest ≡ operator o ∷ rest) × (choose o ≡ Some (says a)) × (starts (operator o) ≡ true) → begins starts (put a rest) ≡ true
    begun a rest (o, spelled, known, passes) = ap (begins starts) (spelled rest) ∙ passes

    grows : (a : A) (rest : List Token) → (o : Operator) × ((rest : List Token) → put a rest ≡ operator o ∷ rest) × (choose o ≡ Some (says a)) × (starts (operator o) ≡ true) → length rest < length (put a rest)
    grows a rest (o, spelled, known, passes) = omega (arith, ap length (spelled rest))

-- An item behind one of several operators, which tells how to read it.

-- how the forms are such items
pub record Forms {A T V F : Type 0} (choose : Operator → Option T) (put : A → List Token → List Token) (says : T → A → V) (put_form : F → List Token → List Token) (says_form : F → V) (starts : Token → Bool) : Type 0 where
  pub known : (o : Operator) (t : T) → choose o ≡ Some t → (a : A) → (f : F) × ((rest : List Token) → put_form f rest ≡ operator o ∷ put a rest) × (says_form f ≡ says t a)
  pub spelled : (f : F) → (o : Operator) × (t : T) × (a : A) × (choose o ≡ Some t) × ((rest : List Token) → put_form f rest ≡ operator o ∷ put a rest) × (says_form f ≡ says t a) × (starts (operator o) ≡ true)

pub forms_exact : {A T V F : Type 0} {choose : Operator → Option T} {put : A → List Token → List Token} {says : T → A → V} {put_form : F → List Token → List Token} {says_form : F → V} {starts starts_item goes : Token → Bool} {read : T → Reader Token V}
    → Forms choose put says put_form says_form starts → ((t : T) → Exact (read t) put (says t) starts_item goes) → Exact (λ tokens. option_and_then (λ y. read y.0 y.1) (one_of choose tokens)) put_form says_form starts goes
forms_exact {A} {T} {V} {F} {choose = choose} {put = put} {says = says} {put_form = put_form} {says_form = says_form} {starts = starts} {goes = goes} {read = read} forms h = record {
  takes = λ tokens z e. then_some _ (one_of choose tokens) z e (λ y first rest. found tokens y z (one_of_takes choose tokens y first) ((h y.0).takes y.1 z rest));
  again = λ f rest stop. again f rest stop (forms.spelled f);
  begun = λ f rest. begun f rest (forms.spelled f);
  grows = λ f rest. grows f rest (forms.spelled f);
}
  where
    known_found : (tokens : List Token) (y : T × List Token) (z : V × List Token) (o : Operator) (a : A) → tokens ≡ operator o ∷ y.1 → y.1 ≡ put a z.1 → says y.0 a ≡ z.0
        → (f : F) × ((rest : List Token) → put_form f rest ≡ operator o ∷ put a rest) × (says_form f ≡ says y.0 a) → Found put_form says_form tokens z
    known_found tokens y z o a first behind value (f, spelled, form_value) = (f, first ∙ ap (λ us. operator o ∷ us) behind ∙ sym (spelled z.1), form_value ∙ value)

    found : (tokens : List Token) (y : T × List Token) (z : V × List Token) → (o : Operator) × (tokens ≡ operator o ∷ y.1) × (choose o ≡ Some y.0) → Found put (says y.0) y.1 z → Found put_form says_form tokens z
    found tokens y z (o, first, known) (a, behind, value) = known_found tokens y z o a first behind value (forms.known o y.0 known a)

    again : (f : F) (rest : List Token) → begins goes rest ≡ false → (o : Operator) × (t : T) × (a : A) × (choose o ≡ Some t) × ((rest : List Token) → put_form f rest ≡ operator o ∷ put a rest) × (says_form f ≡ says t a) × (starts (operator o) ≡ true)
        → option_and_then (λ (y : T × List Token). read y.0 y.1) (one_of choose (put_form f rest)) ≡ Some (says_form f, rest)
    again f rest stop (o, t, a, known, spelled, value, passes) =
        ap (λ us. option_and_then (λ (y : T × List Token). read y.0 y.1) (one_of choose us)) (spelled rest)
        ∙ ap (λ c. option_and_then (λ (y : T × List Token). read y.0 y.1) (option_map (λ (t : T). (t, put a rest)) c)) known
        ∙ (h t).again a rest stop
        ∙ ap (λ v. Some (v, rest)) (sym value)

    begun : (f : F) (rest : List Token) → (o : Operator) × (t : T) × (a : A) × (choose o ≡ Some t) × ((rest : List Token) → put_form f rest ≡ operator o ∷ put a rest) × (says_form f ≡ says t a) × (starts (operator o) ≡ true) → begins starts (put_form f rest) ≡ true
    begun f rest (o, t, a, known, spelled, value, passes) = ap (begins starts) (spelled rest) ∙ passes

    grows : (f : F) (rest : List Token) → (o : Operator) × (t : T) × (a : A) × (choose o ≡ Some t) × ((rest : List Token) → put_form f rest ≡ operator o ∷ put a rest) × (says_form f ≡ says t a) × (starts (operator o) ≡ true) → length rest < length (put_form f rest)
    grows f rest (o, t, a, known, spelled, value, passes) = let item = (h t).grows a rest in omega (arith, ap length (spelled rest), item)

-- An item behind one operator.

behind_found : {A T U : Type 0} (o : Operator) (put : A → List Token → List Token) (says : A → T) (make : T → U) (tokens rest : List Token) (y : T × List Token) (z : U × List Token) → tokens ≡ operator o ∷ rest → Found put says rest y → (make y.0, y.1) ≡ z → Found (put_behind o put) (λ a. make (says a)) tokens z
behind_found {U = U} o put says make tokens rest y z first (a, behind, value) same = (
  a,
  first ∙ ap (λ us. operator o ∷ us) (behind ∙ ap (λ (v : U × List Token). put a v.1) same),
  ap make value ∙ ap (λ (v : U × List Token). v.0) same,
)

pub behind_exact : {A T U : Type 0} {read : Reader Token T} {put : A → List Token → List Token} {says : A → T} {starts goes : Token → Bool} (o : Operator) (p : Token → Bool) (make : T → U) → p (operator o) ≡ true → Exact read put says starts goes → Exact (behind_at o make read) (put_behind o put) (λ a. make (says a)) p goes
behind_exact {A} {T} {U} {read = read} {put = put} {says = says} o p make passes h = record {
  takes = λ tokens z e. then_some _ (after o tokens) z e (λ rest first more. map_some _ (read rest) z more (λ y item same. behind_found o put says make tokens rest y z (after_takes o tokens rest first) (h.takes rest y item) same));
  again = λ a rest stop.
      ap (option_and_then (λ us. option_map (λ (x : T × List Token). (make x.0, x.1)) (read us))) (after_again o (put a rest))
      ∙ ap (option_map (λ (x : T × List Token). (make x.0, x.1))) (h.again a rest stop);
  begun = λ a rest. passes;
  grows = λ a rest. omega (arith, h.grows a rest);
}

-- An item, an operator and an item.

-- how the forms are two such items
pub record Joins {A B T U V F : Type 0} (o : Operator) (put_first : A → List Token → List Token) (put_second : B → List Token → List Token) (says_first : A → T) (says_second : B → U) (make : T → U → V) (put_form : F → List Token → List Token) (says_form : F → V) : Type 0 where
  pub joined : (a : A) (b : B) → (f : F) × ((rest : List Token) → put_form f rest ≡ put_first a (operator o ∷ put_second b rest)) × (says_form f ≡ make (says_first a) (says_second b))
  pub parts : (f : F) → (a : A) × (b : B) × ((rest : List Token) → put_form f rest ≡ put_first a (operator o ∷ put_second b rest)) × (says_form f ≡ make (says_first a) (says_second b))

pub joins_exact : {A B T U V F : Type 0} {read_first : Reader Token T} {read_second : Reader Token U} {put_first : A → List Token → List Token} {put_second : B → List Token → List Token} {says_first : A → T} {says_second : B → U} {put_form : F → List Token → List Token} {says_form : F → V} {starts goes_first starts_second goes : Token → Bool} {o : Operator} {make : T → U → V}
    → goes_first (operator o) ≡ false → Exact read_first put_first says_first starts goes_first → Exact read_second put_second says_second starts_second goes → Joins o put_first put_second says_first says_second make put_form says_form
    → Exact (λ tokens. option_and_then (λ c. behind_at o (λ r. make c.0 r) read_second c.1) (read_first tokens)) put_form says_form starts goes
joins_exact {A} {B} {T} {U} {V} {F} {read_first = read_first} {read_second = read_second} {put_first = put_first} {put_second = put_second} {says_first = says_first} {says_second = says_second} {put_form = put_form} {says_form = says_form} {starts = starts} {goes = goes} {o = o} {make = make} stops f g joins = record {
  takes = λ tokens z e. then_some _ (read_first tokens) z e (λ x first more. then_some _ (after o x.1) z more (λ rest op last. map_some _ (read_second rest) z last (λ y second same.
      found tokens x rest y z (f.takes tokens x first) (after_takes o x.1 rest op) (g.takes rest y second) same)));
  again = λ m rest stop. again m rest stop (joins.parts m);
  begun = λ m rest. begun m rest (joins.parts m);
  grows = λ m rest. grows m rest (joins.parts m);
}
  where
    joined_found : (tokens : List Token) (z : V × List Token) (a : A) (b : B) → tokens ≡ put_first a (operator o ∷ put_second b z.1) → make (says_first a) (says_second b) ≡ z.0
        → (m : F) × ((rest : List Token) → put_form m rest ≡ put_first a (operator o ∷ put_second b rest)) × (says_form m ≡ make (says_first a) (says_second b)) → Found put_form says_form tokens z
    joined_found tokens z a b spelled value (m, form_spelled, form_value) = (m, spelled ∙ sym (form_spelled z.1), form_value ∙ value)

    found : (tokens : List Token) (x : T × List Token) (rest : List Token) (y : U × List Token) (z : V × List Token) → Found put_first says_first tokens x → x.1 ≡ operator o ∷ rest → Found put_second says_second rest y → (make x.0 y.0, y.1) ≡ z → Found put_form says_form tokens z
    found tokens x rest y z (a, first, first_value) op (b, second, second_value) same = joined_found tokens z a b
        (first ∙ ap (put_first a) (op ∙ ap (λ us. operator o ∷ us) (second ∙ ap (λ (v : V × List Token). put_second b v.1) same)))
        (ap (λ t. make t (says_second b)) first_value ∙ ap (make x.0) second_value ∙ ap (λ (v : V × List Token). v.0) same)
        (joins.joined a b)

    again : (m : F) (rest : List Token) → begins goes rest ≡ false → (a : A) × (b : B) × ((rest : List Token) → put_form m rest ≡ put_first a (operator o ∷ put_second b rest)) × (says_form m ≡ make (says_first a) (says_second b))
        → option_and_then (λ (c : T × List Token). behind_at o (λ r. make c.0 r) read_second c.1) (read_first (put_form m rest)) ≡ Some (says_form m, rest)
    again m rest stop (a, b, spelled, value) =
        ap (λ us. option_and_then (λ (c : T × List Token). behind_at o (λ r. make c.0 r) read_second c.1) (read_first us)) (spelled rest)
        ∙ ap (option_and_then (λ (c : T × List Token). behind_at o (λ r. make c.0 r) read_second c.1)) (f.again a (operator o ∷ put_second b rest) stops)
        ∙ ap (option_and_then (λ us. option_map (λ (x : U × List Token). (make (says_first a) x.0, x.1)) (read_second us))) (after_again o (put_second b rest))
        ∙ ap (option_map (λ (x : U × List Token). (make (says_first a) x.0, x.1))) (g.again b rest stop)
        ∙ ap (λ v. Some (v, rest)) (sym value)

    begun : (m : F) (rest : List Token) → (a : A) × (b : B) × ((rest : List Token) → put_form m rest ≡ put_first a (operator o ∷ put_second b rest)) × (says_form m ≡ make (says_first a) (says_second b)) → begins starts (put_form m rest) ≡ true
    begun m rest (a, b, spelled, value) = ap (begins starts) (spelled rest) ∙ f.begun a (operator o ∷ put_second b rest)

    grows : (m : F) (rest : List Token) → (a : A) × (b : B) × ((rest : List Token) → put_form m rest ≡ put_first a (operator o ∷ put_second b rest)) × (says_form m ≡ make (says_first a) (says_second b)) → length rest < length (put_form m rest)
    grows m rest (a, b, spelled, value) = let first = f.grows a (operator o ∷ put_second b rest) in let second = g.grows b rest in omega (arith, ap length (spelled rest), first, second)
