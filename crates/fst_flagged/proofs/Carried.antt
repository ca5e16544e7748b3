-- What the words of a set carry: two sides, and the flags of two runs, letter by letter.
use Rattle.std.proofs.Common.{◌≡◌, ◌↔◌, ◌⊎◌, List, [], ◌∷◌, ◌++◌, Option, Some, None, refl, sym, ap, subst, inl, inr, ◌∙◌, append-nil}
use Rattle.std.specs.Prelude.{ℕ, IsTrue}
use Rattle.std.specs.List.{Contains, flat_map}
use Rattle.std.specs.Option.{option_to_list}
use Rattle.std.proofs.lemmas.List.Concat.{flat_map-append}
use Rattle.fsm_base.specs.declared.letters.Sym.{Sym}
use Rattle.word_relations.specs.Relations.{AreSame}
use Rattle.word_relations.proofs.Members.{Contains-head, Contains-tail}
use Rattle.fst_algebra.proofs.Relabelled.{relabelled, IsRelabelled}
use Rattle.project_meaning.specs.Trees.{Piece}
use Rattle.project_meaning.specs.Lexicons.{flags_pass}

pub flat_map-flat_map : {A B C : Type 0} (f : B → List C) (g : A → List B) (xs : List A) → flat_map f (flat_map g xs) ≡ flat_map (λ x. flat_map f (g x)) xs
flat_map-flat_map f g [] = refl
flat_map-flat_map {C = C} f g (x ∷ xs) = flat_map-append f (g x) (flat_map g xs) ∙ ap (λ (t : List C). flat_map f (g x) ++ t) (flat_map-flat_map f g xs)

pub flat_map-same : {A B : Type 0} (f g : A → List B) (xs : List A) → ((x : A) → Contains xs x → f x ≡ g x) → flat_map f xs ≡ flat_map g xs
flat_map-same f g [] same = refl
flat_map-same {B = B} f g (x ∷ xs) same =
    ap (λ (t : List B). t ++ flat_map f xs) (same x (Contains-head x xs))
    ∙ ap (λ (t : List B). g x ++ t) (flat_map-same f g xs (λ y h. same y (Contains-tail x xs y h)))

-- what a letter carries
pub record Load (L : Type 0) : Type 0 where
  pub upper : L → List Sym
  pub lower : L → List Sym
  pub top : L → List (Piece (List ℕ))
  pub bottom : L → List (Piece (List ℕ))

-- some word of the set whose flags pass carries these sides
abbrev pub Carried : {L : Type 0} → (List L → Type 0) → Load L → List Sym → List Sym → Type 0
Carried {L} P load u w =
    (v : List L) × P v × IsTrue (flags_pass (flat_map load.top v)) × IsTrue (flags_pass (flat_map load.bottom v)) × (flat_map load.upper v ≡ u) × (flat_map load.lower v ≡ w)

-- the letters carry the same
pub record CarrySame {L M : Type 0} (a : Load L) (x : L) (b : Load M) (y : M) : Type 0 where
  pub upper : a.upper x ≡ b.upper y
  pub lower : a.lower x ≡ b.lower y
  pub top : a.top x ≡ b.top y
  pub bottom : a.bottom x ≡ b.bottom y

module _ {L : Type 0} (P : List L → Type 0) where
  -- what is carried where each letter carries the same
  carried_one_way : (a b : Load L) → ((v : List L) → P v → (x : L) → Contains v x → CarrySame a x b x) → (u w : List Sym) → Carried P a u w → Carried P b u w
  carried_one_way a b same u w (v, p, top, bottom, up, low) = (
    v,
    p,
    subst (λ (ps : List (Piece (List ℕ))). IsTrue (flags_pass ps)) (flat_map-same a.top b.top v (λ x h. (same v p x h).top)) top,
    subst (λ (ps : List (Piece (List ℕ))). IsTrue (flags_pass ps)) (flat_map-same a.bottom b.bottom v (λ x h. (same v p x h).bottom)) bottom,
    sym (flat_map-same a.upper b.upper v (λ x h. (same v p x h).upper)) ∙ up,
    sym (flat_map-same a.lower b.lower v (λ x h. (same v p x h).lower)) ∙ low,
  )

  same_back : (a b : Load L) (x : L) → CarrySame a x b x → CarrySame b x a x
  same_back a b x same = record { upper = sym same.upper; lower = sym same.lower; top = sym same.top; bottom = sym same.bottom }

  pub carried_same : (a b : Load L) → ((v : List L) → P v → (x : L) → Contains v x → CarrySame a x b x) → AreSame (Carried P a) (Carried P b)
  carried_same a b same u w = (carried_one_way a b same u w, carried_one_way b a (λ v p x h. same_back a b x (same v p x h)) u w)

-- what a letter carries that another stands for
abbrev pub through : {L M : Type 0} → (L → Option M) → Load M → Load L
through change load = record {
  upper = λ x. flat_map load.upper (option_to_list (change x));
  lower = λ x. flat_map load.lower (option_to_list (change x));
  top = λ x. flat_map load.top (option_to_list (change x));
  bottom = λ x. flat_map load.bottom (option_to_list (change x));
}

module _ {L M : Type 0} (change : L → Option M) where
  moved : {B : Type 0} (f : M → List B) (v : List L) (w : List M) → relabelled change v ≡ w → flat_map f w ≡ flat_map (λ x. flat_map f (option_to_list (change x))) v
  moved f v w is = ap (flat_map f) (sym is) ∙ flat_map-flat_map f (λ x. option_to_list (change x)) v

  -- the words with each letter replaced carry what the letters carry that stand for them
  pub carried_relabelled : (P : List L → Type 0) (Q : List M → Type 0) → ((w : List M) → Q w ↔ IsRelabelled change P w) → (load : Load M) → AreSame (Carried Q load) (Carried P (through change load))
  carried_relabelled P Q same load u w = (there, back)
    where
      there : Carried Q load u w → Carried P (through change load) u w
      there (z, q, top, bottom, up, low) =
          let r = (same z).0 q in (
            r.0,
            r.1,
            subst (λ (ps : List (Piece (List ℕ))). IsTrue (flags_pass ps)) (moved load.top r.0 z r.2) top,
            subst (λ (ps : List (Piece (List ℕ))). IsTrue (flags_pass ps)) (moved load.bottom r.0 z r.2) bottom,
            sym (moved load.upper r.0 z r.2) ∙ up,
            sym (moved load.lower r.0 z r.2) ∙ low,
          )

      back : Carried P (through change load) u w → Carried Q load u w
      back (v, p, top, bottom, up, low) = (
        relabelled change v,
        (same (relabelled change v)).1 (v, p, refl),
        subst (λ (ps : List (Piece (List ℕ))). IsTrue (flags_pass ps)) (sym (moved load.top v (relabelled change v) refl)) top,
        subst (λ (ps : List (Piece (List ℕ))). IsTrue (flags_pass ps)) (sym (moved load.bottom v (relabelled change v) refl)) bottom,
        moved load.upper v (relabelled change v) refl ∙ up,
        moved load.lower v (relabelled change v) refl ∙ low,
      )

  at_some : {B : Type 0} (f : M → List B) (x : L) (y : M) → change x ≡ Some y → flat_map f (option_to_list (change x)) ≡ f y
  at_some f x y is = ap (λ (o : Option M). flat_map f (option_to_list o)) is ∙ append-nil (f y)

  at_none : {B : Type 0} (f : M → List B) (x : L) → change x ≡ None → flat_map f (option_to_list (change x)) ≡ []
  at_none f x is = ap (λ (o : Option M). flat_map f (option_to_list o)) is

  pub through_some : (a : Load M) (b : Load L) (x : L) (y : M) → change x ≡ Some y → CarrySame a y b x → CarrySame (through change a) x b x
  through_some a b x y is same = record {
    upper = at_some a.upper x y is ∙ same.upper;
    lower = at_some a.lower x y is ∙ same.lower;
    top = at_some a.top x y is ∙ same.top;
    bottom = at_some a.bottom x y is ∙ same.bottom;
  }

  pub through_none : (a : Load M) (b : Load L) (x : L) → change x ≡ None → b.upper x ≡ [] → b.lower x ≡ [] → b.top x ≡ [] → b.bottom x ≡ [] → CarrySame (through change a) x b x
  through_none a b x is up low top bottom = record {
    upper = at_none a.upper x is ∙ sym up;
    lower = at_none a.lower x is ∙ sym low;
    top = at_none a.top x is ∙ sym top;
    bottom = at_none a.bottom x is ∙ sym bottom;
  }

-- the same words carry the same
pub carried_words : {L : Type 0} (P Q : List L → Type 0) (load : Load L) → ((v : List L) → P v ↔ Q v) → AreSame (Carried P load) (Carried Q load)
carried_words P Q load same u w =
    (λ (v, p, top, bottom, up, low). (v, (same v).0 p, top, bottom, up, low), λ (v, q, top, bottom, up, low). (v, (same v).1 q, top, bottom, up, low))

-- the sides exchanged
abbrev pub exchanged_load : {L : Type 0} → Load L → Load L
exchanged_load load = record { upper = load.lower; lower = load.upper; top = load.top; bottom = load.bottom }

pub carried_exchanged : {L : Type 0} (P : List L → Type 0) (load : Load L) (u w : List Sym) → Carried P (exchanged_load load) u w ↔ Carried P load w u
carried_exchanged P load u w = (λ (v, p, top, bottom, up, low). (v, p, top, bottom, low, up), λ (v, p, top, bottom, up, low). (v, p, top, bottom, low, up))

module _ {L : Type 0} (P Q R : List L → Type 0) (load : Load L) (either : (v : List L) → R v ↔ (P v ⊎ Q v)) (u w : List Sym) where
  abbrev Either : Type 0
  Either = Carried P load u w ⊎ Carried Q load u w

  union_there : Carried R load u w → Either
  union_there (v, r, top, bottom, up, low) =
      elim ((either v).0 r) as (λ _. Either) [
        | inl p ↦ inl (v, p, top, bottom, up, low)
        | inr q ↦ inr (v, q, top, bottom, up, low)
      ]

  union_back : Either → Carried R load u w
  union_back (inl (v, p, top, bottom, up, low)) = (v, (either v).1 (inl p), top, bottom, up, low)
  union_back (inr (v, q, top, bottom, up, low)) = (v, (either v).1 (inr q), top, bottom, up, low)

  pub carried_union : Carried R load u w ↔ (Carried P load u w ⊎ Carried Q load u w)
  carried_union = (union_there, union_back)
