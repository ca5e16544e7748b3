-- Texts of single bytes that a table is known to have, where one more text is put there.
use Rattle.std.proofs.Common.{◌≡◌, ℕ, zero, suc, ◌⊎◌, inl, inr, Bool, true, false, cond, List, [], ◌∷◌, ◌++◌, Some, Contains, length, replicate, slice_get, refl, subst}
use Rattle.std.proofs.lemmas.List.{length-replicate}
use Rattle.std.proofs.lemmas.List.Elements.{Contains-append_left, Contains-push}
use Rattle.std.specs.List.{list_any}
use Rattle.std.specs.Str.{bytes_eq}
use Rattle.fsm_base.specs.Symbols.{with_text}
use Rattle.name_resolution.proofs.Texts.{has_from_any}
use Rattle.project_model.specs.Known.{AreKnown}

unmarked : (n byte : ℕ) → slice_get (replicate n false) byte ≡ Some true → ⊥
unmarked zero byte at = cc
unmarked (suc n) zero at = cc
unmarked (suc n) (suc byte) at = unmarked n byte at

-- nothing is known of a table of no texts
pub none_known : (length (replicate 256 false) ≡ 256) × AreKnown [] (replicate 256 false)
none_known = (length-replicate 256 false, λ byte at. absurd (unmarked 256 byte at))

-- the text may be marked when it was put into a table
module _ (text : List ℕ) (table : List (List ℕ)) where
  stays : (other : List ℕ) → Contains table other → Contains (with_text text table) other
  stays other among = by (list_any (bytes_eq text) table)
    where
      by : (b : Bool) → Contains (cond b table (table ++ text ∷ [])) other
      by true = among
      by false = Contains-append_left table (text ∷ []) other among

  there : Contains (with_text text table) text
  there = by (list_any (bytes_eq text) table) refl
    where
      by : (b : Bool) → list_any (bytes_eq text) table ≡ b → Contains (cond b table (table ++ text ∷ [])) text
      by true e = has_from_any text table e
      by false e = Contains-push table text

  pub known_more : (old new : List Bool) → AreKnown table old → ((byte : ℕ) → slice_get new byte ≡ Some true → (slice_get old byte ≡ Some true) ⊎ (text ≡ byte ∷ [])) → AreKnown (with_text text table) new
  known_more old new are marked byte at = elim (marked byte at) as (λ _. Contains (with_text text table) (byte ∷ [])) [
    | inl was ↦ stays (byte ∷ []) (are byte was)
    | inr is ↦ subst (λ (t : List ℕ). Contains (with_text text table) t) is there
  ]
