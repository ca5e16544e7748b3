-- What is found again by a hash: pairs, symbols, and values under names.
use Rattle.std.proofs.Common.{◌≡◌, ◌↔◌, ℕ, Bool, true, false, cond, List, [], ◌∷◌, Option, None, Some, String, get_or, refl, sym, ap, subst, ◌∙◌, true≢false, eq-eqb}
use Rattle.std.specs.Prelude.{nat_eq, ◌&&◌, ◌==◌}
use Rattle.std.specs.List.{Contains, IsDistinct as IsApart, list_any, position, slice_get}
use Rattle.std.specs.Map.{lookup}
use Rattle.std.specs.Option.{option_eq}
use Rattle.std.specs.Str.{bytes_eq}
use Rattle.std.specs.String.{string_bytes}
use Rattle.std.proofs.lemmas.Bool.{and_parts, eqb-true}
use Rattle.std.proofs.lemmas.List.Quantifiers.{position-Some}
use Rattle.std.proofs.lemmas.Map.Keys.{any_passes_from_place}
use Rattle.std.proofs.lemmas.List.{map-id}
use Rattle.std.proofs.lemmas.Option.{slice_get-get_or}
use Rattle.indexmap.proofs.CallerLemmas.{Contains-list_any}
use Rattle.fsm_base.specs.declared.letters.Pair.{Pair}
use Rattle.fsm_base.specs.declared.letters.Sym.{Sym}
use Rattle.fsm_base.proofs.TableLemmas.{IsDistinct-map}
use Rattle.word_relations.specs.Words.{IsDistinct}
use Rattle.word_relations.proofs.Places.{slice_get_from_Contains}
use Rattle.grammar_pairs.specs.Tables.{named_entries, under}

-- symbols of one number are one
pub same_symbol : (a b : Sym) → (a.0 == b.0) ≡ true → a ≡ b
same_symbol a b e = ap (λ (n : ℕ). record { 0 = n }) (eqb-true a.0 b.0 e)

pub own_symbol : (a b : Sym) → a ≡ b → (a.0 == b.0) ≡ true
own_symbol a b e = eq-eqb a.0 b.0 (ap (λ (s : Sym). s.0) e)

-- sides and pairs that compare equal are the same
abbrev pub symbol_eq : Sym → Sym → Bool
symbol_eq a b = nat_eq a.0 b.0

abbrev pub pair_eq : Pair → Pair → Bool
pair_eq x y = option_eq symbol_eq x.up y.up && option_eq symbol_eq x.low y.low

same_side : (a b : Option Sym) → option_eq symbol_eq a b ≡ true → a ≡ b
same_side None None e = refl
same_side None (Some t) e = cc
same_side (Some s) None e = cc
same_side (Some s) (Some t) e = ap (λ (x : Sym). Some x) (same_symbol s t e)

own_side : (a : Option Sym) → option_eq symbol_eq a a ≡ true
own_side None = refl
own_side (Some s) = own_symbol s s refl

both_true : (a b : Bool) → a ≡ true → b ≡ true → a && b ≡ true
both_true true true e d = refl
both_true true false e d = cc
both_true false b e d = cc

pub same_pair : (x y : Pair) → pair_eq x y ≡ true → x ≡ y
same_pair x y e =
    let parts = and_parts (option_eq symbol_eq x.up y.up) (option_eq symbol_eq x.low y.low) e in
    let up = same_side x.up y.up parts.0 in
    let low = same_side x.low y.low parts.1 in
    λ i. record { up = up i; low = low i }

pub own_pair : (x y : Pair) → x ≡ y → pair_eq x y ≡ true
own_pair x y is = subst (λ (z : Pair). pair_eq x z ≡ true) is (both_true (option_eq symbol_eq x.up x.up) (option_eq symbol_eq x.low x.low) (own_side x.up) (own_side x.low))

-- pairs that a set tells apart are distinct
pub pairs_distinct : (ks : List Pair) → IsApart pair_eq ks → IsDistinct ks
pairs_distinct ks apart = subst (λ (l : List Pair). IsDistinct l) (map-id ks) (IsDistinct-map pair_eq (λ (x : Pair). x) own_pair ks apart)

module _ {K : Type 0} (eq : K → K → Bool) (same : (a b : K) → eq a b ≡ true → a ≡ b) (own : (a b : K) → a ≡ b → eq a b ≡ true) where
  -- whether a set has it
  pub any_has : (k : K) (ks : List K) → list_any (eq k) ks ≡ true ↔ Contains ks k
  any_has k ks = (
    λ e. Contains-list_any eq same ks k e,
    λ among. let at = slice_get_from_Contains ks k among in any_passes_from_place (eq k) ks at.0 k at.1 (own k k refl),
  )

  pub found_at : (k : K) (ks : List K) (i : ℕ) → position (eq k) ks ≡ Some i → slice_get ks i ≡ Some k
  found_at k [] i e = cc
  found_at k (x ∷ xs) i e =
      let r = position-Some (eq k) (x ∷ xs) i x e in
      slice_get-get_or (x ∷ xs) i x r.0 ∙ ap (λ (z : K). Some z) (sym (same k (get_or (x ∷ xs) i x) r.1))

  pub missing : (k : K) (ks : List K) → false ≡ list_any (eq k) ks → Contains ks k → ⊥
  missing k ks none among = true≢false (sym ((any_has k ks).1 among) ∙ sym none)

-- what stands under a name
pub under_found : {Y V : Type 0} (name : List ℕ) (es : List (String Y × V)) → lookup (λ (k : String Y). bytes_eq name (string_bytes k)) es ≡ under name (named_entries es)
under_found name [] = refl
under_found {V = V} name (e ∷ es) = ap (λ (o : Option V). cond (bytes_eq name (string_bytes e.0)) (Some e.1) o) (under_found name es)
