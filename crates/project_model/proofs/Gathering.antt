-- Symbols that are gathered in a table as far as there may be: in two steps, and at the limit.
use Rattle.std.proofs.Common.{◌≡◌, ℕ, ◌+◌, ◌<◌, ◌≤◌, Bool, true, false, cond, List, [], ◌∷◌, ◌++◌, take, length, refl, sym, ap, ◌∙◌, inl, inr, arith, append_assoc, append-nil, length-append}
use Rattle.std.proofs.lemmas.Bool.{cases_lt}
use Rattle.std.proofs.lemmas.List.{take_all, take-append-le, length-take}
use Rattle.std.specs.List.{list_any}
use Rattle.std.specs.Str.{bytes_eq}
use Rattle.fsm_base.specs.Symbols.{with_text}
use Rattle.project_meaning.specs.Projects.{with_texts}
use Rattle.project_sources.specs.Limits.{most_symbols}
use Rattle.project_model.specs.Gathered.{gathered}

pub with_texts-append : (table first second : List (List ℕ)) → with_texts table (first ++ second) ≡ with_texts (with_texts table first) second
with_texts-append table [] second = refl
with_texts-append table (text ∷ first) second = with_texts-append (with_text text table) first second

-- a table with more texts begins with what it was
with_text_behind : (text : List ℕ) (table : List (List ℕ)) → (more : List (List ℕ)) × (with_text text table ≡ table ++ more)
with_text_behind text table = by (list_any (bytes_eq text) table)
  where
    by : (b : Bool) → (more : List (List ℕ)) × (cond b table (table ++ text ∷ []) ≡ table ++ more)
    by true = ([], sym (append-nil table))
    by false = (text ∷ [], refl)

pub with_texts_behind : (texts table : List (List ℕ)) → (more : List (List ℕ)) × (with_texts table texts ≡ table ++ more)
with_texts_behind [] table = ([], sym (append-nil table))
with_texts_behind (text ∷ texts) table =
    let one = with_text_behind text table in
    let rest = with_texts_behind texts (with_text text table) in
    (one.0 ++ rest.0, rest.1 ∙ ap (λ (t : List (List ℕ)). t ++ rest.0) one.1 ∙ append_assoc table one.0 rest.0)

-- where a table is cut, more texts don't change what is kept
module _ (n : ℕ) (texts : List (List ℕ)) where
  full : (table : List (List ℕ)) → n ≤ length table → take n (with_texts table texts) ≡ take n table
  full table many =
      let more = with_texts_behind texts table in
      ap (take n) more.1 ∙ take-append-le n table more.0 many

  cut_first : (table : List (List ℕ)) → take n (with_texts table texts) ≡ take n (with_texts (take n table) texts)
  cut_first table =
      elim (cases_lt (length table) n) as (λ _. take n (with_texts table texts) ≡ take n (with_texts (take n table) texts)) [
        | inl few ↦ ap (λ (t : List (List ℕ)). take n (with_texts t texts)) (sym (take_all n table (omega arith)))
        | inr many ↦ full table many ∙ sym (full (take n table) (omega (arith, length-take n table)) ∙ take_all n (take n table) (omega (arith, length-take n table)))
      ]

pub gathered-append : (table first second : List (List ℕ)) → gathered table (first ++ second) ≡ gathered (gathered table first) second
gathered-append table first second = ap (take (most_symbols + 1)) (with_texts-append table first second) ∙ cut_first (most_symbols + 1) second (with_texts table first)

pub gathered_short : (table texts : List (List ℕ)) → length (gathered table texts) ≤ most_symbols + 1
gathered_short table texts = omega (arith, length-take (most_symbols + 1) (with_texts table texts))

pub gathered_none : (table : List (List ℕ)) → length table ≤ most_symbols + 1 → gathered table [] ≡ table
gathered_none table short = take_all (most_symbols + 1) table short

-- a step of a loop that gathers the symbols of items, and its end
pub gather_more : (table now first rest left whole : List (List ℕ)) → now ≡ gathered table first → left ≡ first ++ rest → gathered table left ≡ whole
    → gathered now rest ≡ whole
gather_more table now first rest left whole now_is left_is same =
    ap (λ (t : List (List ℕ)). gathered t rest) now_is ∙ sym (gathered-append table first rest) ∙ ap (gathered table) (sym left_is) ∙ same

pub gathered_all : (table left whole : List (List ℕ)) → left ≡ [] → length table ≤ most_symbols + 1 → gathered table left ≡ whole → table ≡ whole
gathered_all table left whole none short same = sym (gathered_none table short) ∙ ap (gathered table) (sym none) ∙ same

pub still_short : (now table texts : List (List ℕ)) → now ≡ gathered table texts → length now ≤ most_symbols + 1
still_short now table texts is = omega (arith, ap length is, gathered_short table texts)

-- one text more, where a table has no room, and where it has
module _ (text : List ℕ) (table : List (List ℕ)) where
  pub text_full : length table ≤ most_symbols + 1 → most_symbols < length table → table ≡ gathered table (text ∷ [])
  text_full short many = sym (full (most_symbols + 1) (text ∷ []) table (omega arith) ∙ take_all (most_symbols + 1) table short)

  pub text_added : (now : List (List ℕ)) → length table ≤ most_symbols → now ≡ with_text text table → now ≡ gathered table (text ∷ [])
  text_added now room now_is = now_is ∙ sym (take_all (most_symbols + 1) (with_text text table) (few (list_any (bytes_eq text) table)))
    where
      few : (b : Bool) → length (cond b table (table ++ text ∷ [])) ≤ most_symbols + 1
      few true = omega arith
      few false = omega (arith, length-append table (text ∷ []))
