-- Texts, their numbers in a table, and the alphabet that has just these.
use Rattle.std.proofs.Common.{◌≡◌, ◌+◌, ℕ, Bool, true, false, cond, ◌||◌, List, [], ◌∷◌, ◌++◌, length, sym, ap, subst, ◌∙◌, inl, inr, arith, append_assoc, append-nil}
use Rattle.std.proofs.lemmas.List.Elements.{All-contains_itself}
use Rattle.std.proofs.lemmas.Option.{get_or_from_slice_get, slice_get_within}
use Rattle.std.proofs.lemmas.Slice.Eq.{bytes_eq-Decides}
use Rattle.std.specs.List.{Contains, list_any, slice_index_or}
use Rattle.std.specs.Str.{bytes_eq}
use Rattle.fsm_base.specs.Alphabet.{listed, texts_of}
use Rattle.fsm_base.specs.Symbols.{number_of, with_text}
use Rattle.fsm_base.specs.declared.letters.Sym.{Sym}
use Rattle.word_relations.specs.Words.{IsDistinct}
use Rattle.word_relations.proofs.Members.{Contains-head, Contains-tail, Contains-map}
use Rattle.word_relations.proofs.Places.{slice_get_from_Contains, slice_get-append_left, slice_get-append_right}
use Rattle.project_meaning.specs.Projects.{with_texts}
use Rattle.project_model.specs.Numbered.{numbers_in}
use Rattle.project_definitions.proofs.Numbers.{at_number}
use Rattle.project_model.proofs.Alphabets.{cases_bool, texts_of-numbers}

-- in a list whose items are distinct none stands twice
twice : {X : Type 0} (xs ys : List X) (x : X) → IsDistinct (xs ++ x ∷ ys) → Contains xs x → ⊥
twice xs ys x distinct among =
    let at = slice_get_from_Contains xs x among in
    let within = slice_get_within xs at.0 x at.1 in
    let same : at.0 ≡ 0 + length xs = distinct at.0 (0 + length xs) x (slice_get-append_left xs (x ∷ ys) at.0 within ∙ at.1) (slice_get-append_right xs (x ∷ ys) 0) in
    omega (arith, same, within)

-- a text that is found in a list is had by it
any_behind : (text t : List ℕ) (table : List (List ℕ)) (r : Bool) → bytes_eq text t ≡ false → list_any (bytes_eq text) (t ∷ table) ≡ r → list_any (bytes_eq text) table ≡ r
any_behind text t table r e any = subst (λ b. (b || list_any (bytes_eq text) table) ≡ r) e any

pub held_any : (text : List ℕ) (table : List (List ℕ)) → list_any (bytes_eq text) table ≡ true → Contains table text
held_any text [] any = cc
held_any text (t ∷ table) any =
    elim (cases_bool (bytes_eq text t)) as (λ _. Contains (t ∷ table) text) [
      | inl e ↦ subst (λ (z : List ℕ). Contains (t ∷ table) z) (sym ((bytes_eq-Decides text t).0 e)) (Contains-head t table)
      | inr e ↦ Contains-tail t table text (held_any text table (any_behind text t table true e any))
    ]

-- texts that differ, put into a table, stand behind it
pub with_different : (table texts : List (List ℕ)) → IsDistinct (table ++ texts) → with_texts table texts ≡ table ++ texts
with_different table [] distinct = sym (append-nil table)
with_different table (text ∷ texts) distinct =
    let more : with_text text table ≡ table ++ text ∷ [] = elim (cases_bool (list_any (bytes_eq text) table)) as (λ _. with_text text table ≡ table ++ text ∷ []) [
      | inl had ↦ absurd (twice table texts text distinct (held_any text table had))
      | inr new ↦ ap (λ (b : Bool). cond b table (table ++ text ∷ [])) new
    ] in
    ap (λ (z : List (List ℕ)). with_texts z texts) more
    ∙ with_different (table ++ text ∷ []) texts (subst IsDistinct (sym (append_assoc table (text ∷ []) texts)) distinct)
    ∙ append_assoc table (text ∷ []) texts

abbrev pub numbered_as : List (List ℕ) → List ℕ → Sym
numbered_as table text = record { 0 = number_of text table }

text_back : (table : List (List ℕ)) (text : List ℕ) → Contains table text → slice_index_or table (number_of text table) [] ≡ text
text_back table text among = get_or_from_slice_get table (number_of text table) text [] (at_number table text among)

-- the alphabet of a table's texts, each by its number
module _ (table : List (List ℕ)) where
  abbrev pub whole : List (Sym × List ℕ)
  whole = listed table (numbers_in table table)

  pub entry_held : (text : List ℕ) → Contains table text → Contains whole (numbered_as table text, text)
  entry_held text among =
      subst (λ (z : List ℕ). Contains whole (numbered_as table text, z)) (text_back table text among)
      (Contains-map (λ (s : Sym). (s, slice_index_or table s.0 [])) (numbers_in table table) (numbered_as table text) (Contains-map (numbered_as table) table text among))

  pub whole_texts : texts_of whole ≡ table
  whole_texts = texts_of-numbers table table (All-contains_itself table)
