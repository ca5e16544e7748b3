-- The number of a text in a table that gets it.
use Rattle.std.proofs.Common.{◌≡◌, ◌+◌, ◌<◌, ◌≤◌, ℕ, suc, Bool, true, false, cond, not, ◌||◌, List, [], ◌∷◌, ◌++◌, length, Some, Result, Ok, Err, IfOk, OnOk, refl, sym, subst, ap, ◌∙◌, arith, length-append, true≢false}
use Rattle.std.specs.List.{list_any, slice_get}
use Rattle.std.specs.Str.{bytes_eq}
use Rattle.std.proofs.lemmas.Option.{slice_get_within}
use Rattle.std.proofs.lemmas.Slice.Eq.{bytes_eq-Decides}
use Rattle.std.specs.declared.alloc.AllocError.{AllocError}
use Rattle.word_relations.proofs.Places.{slice_get-push}
use Rattle.fsm_base.specs.declared.letters.Sym.{Sym}
use Rattle.fsm_base.specs.Symbols.{number_of, with_text}

at_number : (text : List ℕ) (texts : List (List ℕ)) → list_any (bytes_eq text) texts ≡ true → slice_get texts (number_of text texts) ≡ Some text
at_number text [] e = absurd (true≢false (sym e))
at_number text (t ∷ ts) e = by (at_number text ts) (bytes_eq text t) refl e
  where
    by : (list_any (bytes_eq text) ts ≡ true → slice_get ts (number_of text ts) ≡ Some text) → (b : Bool) → bytes_eq text t ≡ b → (b || list_any (bytes_eq text) ts) ≡ true → slice_get (t ∷ ts) (cond (not b) (1 + number_of text ts) 0) ≡ Some text
    by behind true f e = ap Some (sym ((bytes_eq-Decides text t).0 f))
    by behind false f e = let next : 1 + number_of text ts ≡ suc (number_of text ts) = omega arith in ap (slice_get (t ∷ ts)) next ∙ behind e

no_number : (text : List ℕ) (texts : List (List ℕ)) → list_any (bytes_eq text) texts ≡ false → number_of text texts ≡ length texts
no_number text [] e = refl
no_number text (t ∷ ts) e = by (no_number text ts) (bytes_eq text t) e
  where
    by : (list_any (bytes_eq text) ts ≡ false → number_of text ts ≡ length ts) → (b : Bool) → (b || list_any (bytes_eq text) ts) ≡ false → cond (not b) (1 + number_of text ts) 0 ≡ suc (length ts)
    by behind true e = absurd (true≢false e)
    by behind false e = let here = behind e in omega arith

module _ (text : List ℕ) (table : List (List ℕ)) where
  -- the text has its number when the table has got it
  pub symbol_stored : slice_get (with_text text table) (number_of text table) ≡ Some text
  symbol_stored = by (list_any (bytes_eq text) table) refl
    where
      by : (b : Bool) → list_any (bytes_eq text) table ≡ b → slice_get (cond b table (table ++ text ∷ [])) (number_of text table) ≡ Some text
      by true e = at_number text table e
      by false e = ap (slice_get (table ++ text ∷ [])) (no_number text table e) ∙ slice_get-push table text

  -- a number within says that the table has the text
  pub symbol_known : number_of text table < length table → with_text text table ≡ table
  symbol_known within = by (list_any (bytes_eq text) table) refl
    where
      by : (b : Bool) → list_any (bytes_eq text) table ≡ b → cond b table (table ++ text ∷ []) ≡ table
      by true e = refl
      by false e = let last = no_number text table e in absurd (omega arith)

  -- where it is new the table has room for it
  pub text_room : (most : ℕ) → length (with_text text table) ≤ most → number_of text table ≡ length table → length table < most
  text_room most = by (list_any (bytes_eq text) table) refl
    where
      by : (b : Bool) → list_any (bytes_eq text) table ≡ b → length (cond b table (table ++ text ∷ [])) ≤ most → number_of text table ≡ length table → length table < most
      by true e few last = let within = slice_get_within table (number_of text table) text (at_number text table e) in absurd (omega arith)
      by false e few last = omega (arith, length-append table (text ∷ []))

  pub symbol_held : number_of text table < length table → slice_get table (number_of text table) ≡ Some text
  symbol_held within = subst (λ ts. slice_get ts (number_of text table) ≡ Some text) (symbol_known within) symbol_stored

  pub interned : (new : List (List ℕ)) (r : Result Sym AllocError) → IfOk r (λ s. s.0 ≡ number_of text table) → OnOk r (new ≡ with_text text table) → IfOk r (λ s. slice_get new s.0 ≡ Some text)
  interned new (Ok s) number is = ap (slice_get new) number ∙ ap (λ ts. slice_get ts (number_of text table)) is ∙ symbol_stored
  interned new (Err e) number is = tt
