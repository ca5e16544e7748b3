-- What each call makes stands apart, uses the letters that it says, and relates what it says.
use Rattle.std.proofs.Common.{◌≡◌, ◌<◌, ◌≤◌, ◌+◌, ◌⊎◌, ◌↔◌, ℕ, Bool, true, false, not, cond, List, [], ◌∷◌, ◌++◌, Option, Some, None, length, refl, sym, ap, subst, inl, inr, ◌∙◌, arith}
use Rattle.std.specs.Prelude.{slice_get, Result, Ok, Err, IfOk}
use Rattle.std.specs.List.{Contains, flat_map, list_all}
use Rattle.std.proofs.lemmas.Bool.{cases_Bool, cond-true, cond-false, cond_both, and_parts, not-true, lt-ltb}
use Rattle.std.proofs.lemmas.Option.{same_Some}
use Rattle.fsm_base.specs.declared.letters.Sym.{Sym}
use Rattle.fsm_base.specs.declared.letters.Pair.{Pair}
use Rattle.word_relations.specs.Relations.{AreSame, IsInverse, IsComposition}
use Rattle.word_relations.proofs.Pairs.{same_trans, same_back}
use Rattle.word_relations.proofs.Members.{Contains-nil_cases, Contains-cons_cases, Contains-head, Contains-tail}
use Rattle.fsa.specs.Automaton.{Automaton, UsesLetter}
use Rattle.fsa.specs.Language.{Accepts}
use Rattle.fsa.specs.declared.automaton.Edge.{Edge}
use Rattle.fst_algebra.specs.Relation.{IsRelated}
use Rattle.fst_algebra.specs.Relations.{UsesUpper, UsesLower}
use Rattle.fst_algebra.proofs.Relabelled.{IsRelabelled}
use Rattle.fst_algebra.proofs.Used.{upper_used}
use Rattle.fst_compose.specs.Letters.{IsComposedLetter}
use Rattle.fst_flagged.specs.declared.condition.Condition.{Condition}
use Rattle.project_meaning.specs.Trees.{Piece}
use Rattle.project_meaning.specs.Lexicons.{flags_pass}
use Rattle.fst_flagged.specs.declared.condition.Run.TheVariants.{Upper, Lower}
use Rattle.fst_flagged.specs.Conditions.{first, is_letter, letters_of, condition_at, flag_in, Hold}
use Rattle.fst_flagged.specs.Flagged.{FlaggedView, FlaggedRelates, StandApart, HasNoConditions, UsesLetters}
use Rattle.fst_flagged.specs.Images.{is_condition, is_plain, moved_below, turned}
use Rattle.fst_flagged.proofs.Carried.{Load, Carried, CarrySame, through, carried_same, carried_relabelled, carried_words, exchanged_load, carried_exchanged}
use Rattle.fst_flagged.proofs.Loads.{above, below, above_carries, below_carries, RelatesAbove}
use Rattle.fst_flagged.proofs.Letters.{accepted_letter, plain_below, plain_from, condition_above, Apart, HasCondition, apart_of, stand_from, condition_in, plain_low}
use Rattle.fst_flagged.proofs.Moved.{below_same, turned_same}

-- each element of a list passes
pub passes_all : {X : Type 0} (p : X → Bool) (xs : List X) → list_all p xs ≡ true → (x : X) → Contains xs x → p x ≡ true
passes_all p [] h x among = absurd (Contains-nil_cases x among)
passes_all p (y ∷ xs) h x among =
    let parts = and_parts (p y) (list_all p xs) h in
    elim (Contains-cons_cases y xs x among) [
      | inl is ↦ ap p (sym is) ∙ parts.0
      | inr behind ↦ passes_all p xs parts.1 x behind
    ]

-- a transducer whose pairs are plain has no conditions
pub none_has_conditions : (m : Automaton Pair) → ((e : Edge Pair) → Contains m.edges e → is_plain e.letter ≡ true) → HasNoConditions m
none_has_conditions m plain = record {
  upper = λ x (pair, (e, held, letter), is).
      let parts = and_parts (not (is_condition pair.up)) (not (is_condition pair.low)) (ap is_plain (sym letter) ∙ plain e held) in
      plain_below pair.up (not-true (is_condition pair.up) parts.0) x is;
  lower = λ x (pair, (e, held, letter), is).
      let parts = and_parts (not (is_condition pair.up)) (not (is_condition pair.low)) (ap is_plain (sym letter) ∙ plain e held) in
      plain_below pair.low (not-true (is_condition pair.low) parts.1) x is;
}

-- without conditions
module _ (m : Automaton Pair) (none : HasNoConditions m) where
  pub plain_apart : (count : ℕ) (pair : Pair) → UsesLetter m pair → Apart count pair
  plain_apart count pair uses = record {
    lower = λ x is. none.lower x (pair, uses, is);
    alone = λ x is from. absurd (omega (arith, from, none.upper x (pair, uses, is)));
    listed = λ x is. omega (arith, none.upper x (pair, uses, is));
  }

  pub plain_stands : (conditions : List Condition) → StandApart (record { net = m; conditions = conditions })
  plain_stands conditions = stand_from m conditions (λ pair uses. plain_apart (length conditions) pair uses)

-- the same letters stand apart too, and the same language relates the same
pub same_stands : (f : FlaggedView) (m : Automaton Pair) → StandApart f → ((pair : Pair) → UsesLetter m pair → UsesLetter f.net pair) → StandApart (record { net = m; conditions = f.conditions })
same_stands f m stand letters = stand_from m f.conditions (λ pair uses. apart_of f stand pair (letters pair uses))

pub same_letters : (f : FlaggedView) (m : Automaton Pair) → ((pair : Pair) → UsesLetter m pair → UsesLetter f.net pair) → (symbols : List Sym) → UsesLetters symbols f → UsesLetters symbols (record { net = m; conditions = f.conditions })
same_letters f m letters symbols uses = record {
  upper = λ x (pair, held, is) below. uses.upper x (pair, letters pair held, is) below;
  lower = λ x (pair, held, is). uses.lower x (pair, letters pair held, is);
}

pub same_relation : (f : FlaggedView) (m : Automaton Pair) → ((v : List Pair) → Accepts m v ↔ Accepts f.net v) → AreSame (FlaggedRelates (record { net = m; conditions = f.conditions })) (FlaggedRelates f)
same_relation f m language u w = (
  λ (x, (pairs, path, up, low), held, letters). (x, (pairs, (language pairs).0 path, up, low), held, letters),
  λ (x, (pairs, path, up, low), held, letters). (x, (pairs, (language pairs).1 path, up, low), held, letters),
)

-- conditions moved, letter by letter
module _ (f : FlaggedView) (stand : StandApart f) where
  in_word : (v : List Pair) → Accepts f.net v → (pair : Pair) → Contains v pair → Apart (length f.conditions) pair
  in_word v path pair among = apart_of f stand pair (accepted_letter path pair among)

  -- below
  pub below_relation : (m : Automaton Pair) → ((w : List Pair) → Accepts m w ↔ IsRelabelled (λ (p : Pair). Some (moved_below p)) (Accepts f.net) w) → (u w : List Sym) → FlaggedRelates f u w ↔ RelatesAbove m f.conditions u w
  below_relation m same u w =
      let all = same_trans (FlaggedRelates f) (Carried (Accepts f.net) (above f.conditions)) (RelatesAbove m f.conditions) (above_carries f.net f.conditions)
      (same_back (RelatesAbove m f.conditions) (Carried (Accepts f.net) (above f.conditions))
      (same_trans (RelatesAbove m f.conditions) (Carried (Accepts m) (below f.conditions)) (Carried (Accepts f.net) (above f.conditions)) (below_carries m f.conditions)
      (same_trans (Carried (Accepts m) (below f.conditions)) (Carried (Accepts f.net) (through (λ (p : Pair). Some (moved_below p)) (below f.conditions))) (Carried (Accepts f.net) (above f.conditions))
      (carried_relabelled (λ (p : Pair). Some (moved_below p)) (Accepts f.net) (Accepts m) same (below f.conditions))
      (carried_same (Accepts f.net) (through (λ (p : Pair). Some (moved_below p)) (below f.conditions)) (above f.conditions) (λ v path pair among. below_same (length f.conditions) pair (in_word v path pair among) f.conditions)))))
      in all u w

  below_low : (old : Pair) → Apart (length f.conditions) old → (x : Sym) → (moved_below old).low ≡ Some x → x.0 < first → old.low ≡ Some x
  below_low old apart x is small =
      elim (cases_Bool (is_condition old.up)) [
        | inl cond ↦
            let made : moved_below old ≡ record { up = None; low = old.up } = cond-true (is_condition old.up) (record { up = None; low = old.up }) old cond in
            let up : old.up ≡ Some x = sym (ap (λ (p : Pair). p.low) made) ∙ is in
            absurd (omega (arith, small, condition_above old.up cond x up))
        | inr plain ↦ sym (ap (λ (p : Pair). p.low) (cond-false (is_condition old.up) (record { up = None; low = old.up }) old plain)) ∙ is
      ]

  pub below_letters : (m : Automaton Pair) → ((y : Pair) → UsesLetter m y → (x : Pair) × UsesLetter f.net x × (Some (moved_below x) ≡ Some y)) → (x : Sym) → UsesLower m x → x.0 < first → UsesLower f.net x
  below_letters m letters x (pair, uses, is) small =
      let r = letters pair uses in
      let old = r.0 in
      let image : moved_below old ≡ pair = same_Some (moved_below old) pair r.2 in
      (old, r.1, below_low old (apart_of f stand old r.1) x (ap (λ (p : Pair). p.low) image ∙ is) small)

  -- exchanged
  pub turned_relation : (m : Automaton Pair) → ((w : List Pair) → Accepts m w ↔ IsRelabelled (λ (p : Pair). Some (turned p)) (Accepts f.net) w) → AreSame (FlaggedRelates (record { net = m; conditions = f.conditions })) (IsInverse (FlaggedRelates f))
  turned_relation m same u w =
      let one = (above_carries m f.conditions u w) in
      let two = (carried_relabelled (λ (p : Pair). Some (turned p)) (Accepts f.net) (Accepts m) same (above f.conditions) u w) in
      let three = (carried_same (Accepts f.net) (through (λ (p : Pair). Some (turned p)) (above f.conditions)) (exchanged_load (above f.conditions)) (λ v path pair among. turned_same (length f.conditions) pair (in_word v path pair among) f.conditions) u w) in
      let four = (carried_exchanged (Accepts f.net) (above f.conditions) u w) in
      let five = (above_carries f.net f.conditions w u) in
      (λ h. five.1 (four.0 (three.0 (two.0 (one.0 h)))), λ h. one.1 (two.1 (three.1 (four.1 (five.0 h)))))

  -- the pair as it was exchanged: a condition stays, else the sides change
  abbrev IsTurned : Pair → Pair → Type 0
  IsTurned old pair = ((old ≡ pair) × (is_condition old.up ≡ true)) ⊎ ((pair.up ≡ old.low) × (pair.low ≡ old.up) × (is_condition old.up ≡ false))

  turned_is : (old pair : Pair) → turned old ≡ pair → IsTurned old pair
  turned_is old pair is =
      elim (cases_Bool (is_condition old.up)) [
        | inl cond ↦ inl (sym (cond-true (is_condition old.up) old (record { up = old.low; low = old.up }) cond) ∙ is, cond)
        | inr plain ↦
            let made : record { up = old.low; low = old.up } ≡ pair = sym (cond-false (is_condition old.up) old (record { up = old.low; low = old.up }) plain) ∙ is in
            inr (sym (ap (λ (p : Pair). p.up) made), sym (ap (λ (p : Pair). p.low) made), plain)
      ]

  module _ (m : Automaton Pair) (letters : (y : Pair) → UsesLetter m y → (x : Pair) × UsesLetter f.net x × (Some (turned x) ≡ Some y)) where
    old_of : (pair : Pair) → UsesLetter m pair → (old : Pair) × UsesLetter f.net old × IsTurned old pair
    old_of pair uses = let r = letters pair uses in (r.0, r.1, turned_is r.0 pair (same_Some (turned r.0) pair r.2))

    turned_apart : (old pair : Pair) → Apart (length f.conditions) old → IsTurned old pair → Apart (length f.conditions) pair
    turned_apart old pair apart (inl (same, cond)) = subst (Apart (length f.conditions)) same apart
    turned_apart old pair apart (inr (up, low, plain)) = record {
      lower = λ x is. plain_below old.up plain x (sym low ∙ is);
      alone = λ x is from. absurd (omega (arith, from, apart.lower x (sym up ∙ is)));
      listed = λ x is. omega (arith, apart.lower x (sym up ∙ is));
    }

    pub turned_stands : StandApart (record { net = m; conditions = f.conditions })
    turned_stands = stand_from m f.conditions (λ pair uses. let r = old_of pair uses in turned_apart r.0 pair (apart_of f stand r.0 r.1) r.2)

    upper_from : (old pair : Pair) → UsesLetter f.net old → IsTurned old pair → (x : Sym) → pair.up ≡ Some x → x.0 < first → UsesLower f.net x
    upper_from old pair uses (inl (same, cond)) x is small = absurd (omega (arith, small, condition_above old.up cond x (ap (λ (p : Pair). p.up) same ∙ is)))
    upper_from old pair uses (inr (up, low, plain)) x is small = (old, uses, sym up ∙ is)

    lower_from : (old pair : Pair) → UsesLetter f.net old → IsTurned old pair → (x : Sym) → pair.low ≡ Some x → UsesUpper f.net x × (x.0 < first)
    lower_from old pair uses (inl (same, cond)) x is =
        let h = condition_in (length f.conditions) old (apart_of f stand old uses) cond in
        let clash : None ≡ Some x = sym h.low ∙ ap (λ (p : Pair). p.low) same ∙ is in
        cc
    lower_from old pair uses (inr (up, low, plain)) x is = ((old, uses, sym low ∙ is), plain_below old.up plain x (sym low ∙ is))

    pub turned_upper : (x : Sym) → UsesUpper m x → x.0 < first → UsesLower f.net x
    turned_upper x (pair, uses, is) small = let r = old_of pair uses in upper_from r.0 pair r.1 r.2 x is small

    pub turned_lower : (x : Sym) → UsesLower m x → UsesUpper f.net x × (x.0 < first)
    turned_lower x (pair, uses, is) = let r = old_of pair uses in lower_from r.0 pair r.1 r.2 x is

-- compositions
module _ (f : FlaggedView) (stand : StandApart f) (s m : Automaton Pair) (none : HasNoConditions s) (letters : (x : Pair) → UsesLetter m x → IsComposedLetter f.net s x) (upper : (x : Sym) → UsesUpper m x → UsesUpper f.net x) (lower : (x : Sym) → UsesLower m x → UsesLower s x) where
  composed_alone : (pair : Pair) → IsComposedLetter f.net s pair → (x : Sym) → pair.up ≡ Some x → first ≤ x.0 → pair.low ≡ None
  composed_alone pair (inl (uses, low)) x is from = low
  composed_alone pair (inr (inl (none, rest))) x is from = let clash : None ≡ Some x = sym none ∙ is in cc
  composed_alone pair (inr (inr (old, between, uses, up, low, shared))) x is from =
      let clash : None ≡ Some between = sym (stand.alone old x uses (up ∙ is) from) ∙ low in
      cc

  pub composed_stands : StandApart (record { net = m; conditions = f.conditions })
  composed_stands = record {
    lower = λ x uses. none.lower x (lower x uses);
    alone = λ pair x uses is from. composed_alone pair (letters pair uses) x is from;
    listed = λ x uses. stand.listed x (upper x uses);
  }

pub composed_relation : (f : FlaggedView) (s m : Automaton Pair) → AreSame (IsRelated m) (IsComposition (IsRelated f.net) (IsRelated s)) → AreSame (FlaggedRelates (record { net = m; conditions = f.conditions })) (IsComposition (FlaggedRelates f) (IsRelated s))
composed_relation f s m same u w = (
  λ (x, related, held, letters). let r = (same x w).0 related in (r.0, (x, r.1, held, letters), r.2),
  λ (y, (x, related, held, letters), rest). (x, (same x w).1 (y, related, rest), held, letters),
)

-- a composition with the plain transducer above: by the sides exchanged
pub composed_above : (F G H K : List Sym → List Sym → Type 0) (R S : List Sym → List Sym → Type 0) → AreSame G (IsInverse F) → AreSame S (IsInverse R) → AreSame H (IsComposition G S) → AreSame K (IsInverse H) → AreSame K (IsComposition R F)
composed_above F G H K R S turned below composed back u w = (
  λ k. let h = (composed w u).0 ((back u w).0 k) in (h.0, (below h.0 u).0 h.2, (turned w h.0).0 h.1),
  λ (y, r, f). (back u w).1 ((composed w u).1 (y, (turned w y).1 f, (below y u).1 r)),
)

-- two clauses on one result
pub if_both : {T E : Type 0} (r : Result T E) (P Q S : T → Type 0) → ((x : T) → P x → Q x → S x) → IfOk r P → IfOk r Q → IfOk r S
if_both (Ok x) P Q S f p q = f x p q
if_both (Err e) P Q S f p q = tt

pub turned_letters : (f g : FlaggedView) → ((x : Sym) → UsesUpper g.net x → x.0 < first → UsesLower f.net x) → ((x : Sym) → UsesLower g.net x → UsesUpper f.net x × (x.0 < first)) → (symbols : List Sym) → UsesLetters symbols f → UsesLetters symbols g
turned_letters f g upper lower symbols uses = record {
  upper = λ x held small. uses.lower x (upper x held small);
  lower = λ x held. let h = lower x held in uses.upper x h.0 h.1;
}

-- a word without conditions is its letters, and these hold
module _ (m : Automaton Pair) (none : HasNoConditions m) where
  letters_alone : (x : List Sym) → ((y : Sym) → Contains x y → y.0 < first) → letters_of x ≡ x
  letters_alone [] small = refl
  letters_alone (y ∷ x) small =
      ap (λ (b : Bool). cond b (y ∷ []) [] ++ letters_of x) (lt-ltb y.0 first (small y (Contains-head y x)))
      ∙ ap (λ (z : List Sym). y ∷ z) (letters_alone x (λ z among. small z (Contains-tail y x z among)))

  upper_small : (x w : List Sym) → IsRelated m x w → (y : Sym) → Contains x y → y.0 < first
  upper_small x w related y among = let h = upper_used m x w related y among in none.upper y h

  no_conditions : (pieces : Condition → List (Piece (List ℕ))) (x : List Sym) → flat_map pieces (flat_map (condition_at []) x) ≡ []
  no_conditions pieces [] = refl
  no_conditions pieces (y ∷ x) =
      ap (λ (cs : List Condition). flat_map pieces (cs ++ flat_map (condition_at []) x)) (cond_both (is_letter y) [] [] (λ (cs : List Condition). cs ≡ []) (λ is. refl) (λ is. refl))
      ∙ no_conditions pieces x

  pub plain_relation : AreSame (FlaggedRelates (record { net = m; conditions = [] })) (IsRelated m)
  plain_relation u w = (
    λ (x, related, held, letters). subst (λ (z : List Sym). IsRelated m z w) (sym (letters_alone x (upper_small x w related)) ∙ letters) related,
    λ related. (
      u,
      related,
      (ap (λ (ps : List (Piece (List ℕ))). flags_pass ps) (no_conditions (flag_in Upper) u), ap (λ (ps : List (Piece (List ℕ))). flags_pass ps) (no_conditions (flag_in Lower) u)),
      letters_alone u (upper_small u w related),
    ),
  )
