-- The symbols of an alphabet by their numbers in a table that has them.
use Rattle.std.proofs.Common.{◌≡◌, ℕ, ◌<◌, ◌==◌, Bool, true, false, cond, ◌||◌, IsTrue, List, [], ◌∷◌, ◌⊎◌, length, Some, None, refl, sym, ap, subst, ◌∙◌, inl, inr, slice_get, arith, All, Contains}
use Rattle.std.proofs.lemmas.List.Elements.{All-nil, All-cons, All-head, All-tail, All-map, All-weaker, All-contains, Contains-append_left}
use Rattle.std.proofs.lemmas.Bool.Decides.{nat_tests}
use Rattle.std.proofs.lemmas.Option.{slice_get-map, slice_get_cases, get_or_from_slice_get, same_Some}
use Rattle.std.proofs.lemmas.Slice.Eq.{bytes_eq-Decides}
use Rattle.std.specs.List.{list_any, slice_index_or}
use Rattle.std.specs.Option.{option_map}
use Rattle.std.specs.Str.{bytes_eq}
use Rattle.word_relations.specs.Words.{IsDistinct}
use Rattle.word_relations.proofs.Members.{Contains-nil_cases, Contains-cons_cases}
use Rattle.word_relations.proofs.Places.{Contains-from_slice_get}
use Rattle.fsm_base.specs.declared.letters.Sym.{Sym}
use Rattle.fsm_base.specs.Alphabet.{listed, symbols_of, texts_of, text_of}
use Rattle.fsm_base.specs.Symbols.{number_of, with_text}
use Rattle.project_meaning.specs.Projects.{with_texts}
use Rattle.project_model.specs.Numbered.{numbers_in}
use Rattle.project_model.proofs.Gathering.{with_texts_behind}
use Rattle.name_resolution.proofs.Texts.{text_with}
use Rattle.project_definitions.proofs.Numbers.{at_number, number_within, same_text}

pub cases_bool : (b : Bool) → (b ≡ true) ⊎ (b ≡ false)
cases_bool true = inl refl
cases_bool false = inr refl

-- what a table has stays in it, and it has what is put into it
kept : (texts table : List (List ℕ)) (text : List ℕ) → Contains table text → Contains (with_texts table texts) text
kept texts table text among =
    let more = with_texts_behind texts table in
    subst (λ (t : List (List ℕ)). Contains t text) (sym more.1) (Contains-append_left table more.0 text among)

pub put : (texts table : List (List ℕ)) → All (Contains (with_texts table texts)) texts
put [] table = All-nil (Contains table)
put (text ∷ texts) table = All-cons (Contains (with_texts (with_text text table) texts)) text texts (kept texts (with_text text table) text (text_with text table)) (put texts (with_text text table))

abbrev symbol_in : List (List ℕ) → List ℕ → Sym
symbol_in table text = record { 0 = number_of text table }

-- the numbers of texts of a table are below its length
pub numbers_held : (table texts : List (List ℕ)) → All (Contains table) texts → All (λ (s : Sym). s.0 < length table) (numbers_in table texts)
numbers_held table texts held =
    All-map (λ (s : Sym). s.0 < length table) (symbol_in table) texts (All-weaker (Contains table) (λ text. number_of text table < length table) (number_within table) texts held)

-- different texts have different numbers
pub numbers_distinct : (table texts : List (List ℕ)) → All (Contains table) texts → IsDistinct texts → IsDistinct (numbers_in table texts)
numbers_distinct table texts held distinct i j s at_i at_j =
    elim ((slice_get_cases texts i).1) as (λ _. i ≡ j) [
      | inl p ↦ elim ((slice_get_cases texts j).1) as (λ _. i ≡ j) [
        | inl q ↦ both p.0 q.0 p.2 q.2
        | inr q ↦ let never : None ≡ Some s = sym (shown j ∙ ap (option_map (symbol_in table)) q.1) ∙ at_j in cc
      ]
      | inr p ↦ let never : None ≡ Some s = sym (shown i ∙ ap (option_map (symbol_in table)) p.1) ∙ at_i in cc
    ]
  where
    shown : (k : ℕ) → slice_get (numbers_in table texts) k ≡ option_map (symbol_in table) (slice_get texts k)
    shown k = slice_get-map (symbol_in table) texts k

    number_is : (k : ℕ) (text : List ℕ) → slice_get texts k ≡ Some text → slice_get (numbers_in table texts) k ≡ Some s → number_of text table ≡ s.0
    number_is k text at at_k = ap (λ (t : Sym). t.0) (same_Some (symbol_in table text) s (sym (ap (option_map (symbol_in table)) at) ∙ sym (shown k) ∙ at_k))

    both : (text other : List ℕ) → slice_get texts i ≡ Some text → slice_get texts j ≡ Some other → i ≡ j
    both text other text_at other_at =
        let first = All-contains (Contains table) texts text held (Contains-from_slice_get texts i text text_at) in
        let second = All-contains (Contains table) texts other held (Contains-from_slice_get texts j other other_at) in
        let same : text ≡ other = same_text table text other first second (number_is i text text_at at_i ∙ sym (number_is j other other_at at_j)) in
        distinct i j text text_at (other_at ∙ ap (λ (t : List ℕ). Some t) (sym same))

-- the number of a text of an alphabet is one of the alphabet's
pub number_any : (table texts : List (List ℕ)) (text : List ℕ) → IsTrue (list_any (bytes_eq text) texts)
    → IsTrue (list_any (λ (t : Sym). t.0 == number_of text table) (numbers_in table texts))
number_any table [] text any = any
number_any table (t ∷ texts) text any = by (bytes_eq text t) refl (number_any table texts text)
  where
    or_first : (a b : Bool) → IsTrue a → IsTrue (a || b)
    or_first true b h = refl
    or_first false b h = let never : false ≡ true = h in cc

    or_second : (a b : Bool) → IsTrue b → IsTrue (a || b)
    or_second true b h = refl
    or_second false b h = h

    itself : (n m : ℕ) → n ≡ m → IsTrue (n == m)
    itself n m e = grind (arith, nat_tests)

    by : (b : Bool) → bytes_eq text t ≡ b
        → (IsTrue (list_any (bytes_eq text) texts) → IsTrue (list_any (λ (t : Sym). t.0 == number_of text table) (numbers_in table texts)))
        → IsTrue (list_any (λ (t : Sym). t.0 == number_of text table) (numbers_in table (t ∷ texts)))
    by true e rest =
        or_first (number_of t table == number_of text table) _ (itself (number_of t table) (number_of text table) (ap (λ (u : List ℕ). number_of u table) (sym ((bytes_eq-Decides text t).0 e))))
    by false e rest = or_second (number_of t table == number_of text table) _ (rest (subst (λ (b : Bool). IsTrue (b || list_any (bytes_eq text) texts)) e any))

pub symbols_of-listed : (table : List (List ℕ)) (symbols : List Sym) → symbols_of (listed table symbols) ≡ symbols
symbols_of-listed table [] = refl
symbols_of-listed table (s ∷ symbols) = ap (λ (z : List Sym). s ∷ z) (symbols_of-listed table symbols)

-- the texts of an alphabet are listed under their numbers
pub texts_of-numbers : (table texts : List (List ℕ)) → All (Contains table) texts → texts_of (listed table (numbers_in table texts)) ≡ texts
texts_of-numbers table [] held = refl
texts_of-numbers table (text ∷ texts) held =
    let here = All-head (Contains table) text texts held in
    ap (λ (t : List ℕ). t ∷ texts_of (listed table (numbers_in table texts))) (get_or_from_slice_get table (number_of text table) text [] (at_number table text here))
    ∙ ap (λ (z : List (List ℕ)). text ∷ z) (texts_of-numbers table texts (All-tail (Contains table) text texts held))

-- the text of a listed symbol is the table's
pub text_of-listed : (table : List (List ℕ)) (symbols : List Sym) (s : Sym) → Contains symbols s
    → text_of (listed table symbols) s ≡ slice_index_or table s.0 []
text_of-listed table [] s among = absurd (Contains-nil_cases s among)
text_of-listed table (t ∷ symbols) s among =
    elim (cases_bool (s.0 == t.0)) as (λ _. text_of (listed table (t ∷ symbols)) s ≡ slice_index_or table s.0 []) [
      | inl same ↦
          let is : s.0 ≡ t.0 = grind (arith, nat_tests) in
          ap (λ (b : Bool). cond b (slice_index_or table t.0 []) (text_of (listed table symbols) s)) same ∙ ap (λ (k : ℕ). slice_index_or table k []) (sym is)
      | inr other ↦
          ap (λ (b : Bool). cond b (slice_index_or table t.0 []) (text_of (listed table symbols) s)) other ∙ text_of-listed table symbols s (behind other)
    ]
  where
    behind : (s.0 == t.0) ≡ false → Contains symbols s
    behind other =
        elim (Contains-cons_cases t symbols s among) as (λ _. Contains symbols s) [
          | inl is ↦ let no_way : ⊥ = absurd_same (ap (λ (z : Sym). z.0) is) other in absurd no_way
          | inr rest ↦ rest
        ]
      where
        absurd_same : t.0 ≡ s.0 → (s.0 == t.0) ≡ false → ⊥
        absurd_same e o = grind (arith, nat_tests)
