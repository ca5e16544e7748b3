-- Letters that no language tells from one another, by the columns of complete automata.
use Rattle.std.proofs.Common.{◌≡◌, ◌↔◌, ◌⊎◌, ℕ, zero, suc, ◌+◌, ◌*◌, ◌<◌, List, [], ◌∷◌, ◌++◌, Option, Some, None, length, map, take, get_or, refl, sym, ap, subst, ◌∙◌, inl, inr, arith, append_assoc}
use Rattle.std.specs.List.{Contains, slice_get}
use Rattle.std.specs.Prelude.{option_map, IfOk, Result, Ok, Err}
use Rattle.std.proofs.lemmas.Option.{slice_get_within, slice_get-get_or, slice_get-map, same_Some}
use Rattle.std.proofs.lemmas.List.{length-map, length_push}
use Rattle.std.proofs.lemmas.List.Elements.{All-head, Contains-append_left, Contains-append_cases, Contains-push, Contains-push_cases}
use Rattle.fsm_base.specs.declared.letters.Bound.{Bound}
use Rattle.fsm_base.specs.declared.letters.Bound.TheVariants.{Inner}
use Rattle.fsm_base.specs.declared.letters.Sym.{Sym}
use Rattle.word_relations.specs.Words.{IsOver}
use Rattle.word_relations.proofs.Members.{Contains-nil_cases, Contains-cons_cases}
use Rattle.word_relations.proofs.Places.{Contains-from_slice_get, slice_get-append_cases, same_at}
use Rattle.fsa.specs.Complete.{Complete, IsComplete, AcceptsFrom, Accepts, stop, read, next_state}
use Rattle.fsa_explore.specs.Alike.{AreAlike, AreBothAlike, LeadAlike}
use Rattle.fsa_product.proofs.Turned.{next_there, accepted_over}
use Rattle.replace_rules.specs.declared.rules.LangMap.{LangMap}
use Rattle.replace_rules.specs.declared.rules.LangContext.{LangContext}
use Rattle.replace_rules.specs.declared.rules.LangGroup.{LangGroup}
use Rattle.replace_rules.specs.Alike.{IsLike, MapIsLike, ContextIsLike, GroupIsLike, IsFiner, IsDivided, IsColumn, AreColumns, AreFirstsIn, AreFirsts}
use Rattle.replace_rules.proofs.Sets.{over_back}

-- two facts of what a last call gives
pub IfOk-both : {T E : Type 0} (r : Result T E) (P Q R : T → Type 0) → ((m : T) → P m → Q m → R m) → IfOk r P → IfOk r Q → IfOk r R
IfOk-both (Ok m) P Q R both p q = both m p q
IfOk-both (Err e) P Q R both p q = tt

-- the element at a place that another list of the same length has
at_place : {X Y : Type 0} (xs : List X) (zs : List Y) → length zs ≡ length xs → (k : ℕ) (y : Y) → slice_get zs k ≡ Some y → (x : X) × (slice_get xs k ≡ Some x)
at_place [] zs e k y at =
    let l = slice_get_within zs k y at in
    let none : length zs ≡ 0 = e in
    absurd (omega (arith, l, none))
at_place (x ∷ xs) zs e k y at =
    let l = slice_get_within zs k y at in
    let same : length zs ≡ length (x ∷ xs) = e in
    let within : k < length (x ∷ xs) = omega (arith, l, same) in
    (get_or (x ∷ xs) k x, slice_get-get_or (x ∷ xs) k x within)

module _ {L : Type 0} (d : Complete L) (ok : IsComplete d) where
  -- two letters with equal columns
  module _ (i j : ℕ) (x y : L) (at_i : slice_get d.letters i ≡ Some x) (at_j : slice_get d.letters j ≡ Some y) (alike : LeadAlike d i j) where
    exchanged : (u v : List L) (q : ℕ) → q < length d.finals → AcceptsFrom d q (u ++ x ∷ v) → AcceptsFrom d q (u ++ y ∷ v)
    exchanged [] v q there (read {t = t} k at goes rest) =
        let e : k ≡ i = ok.distinct k i x at at_i in
        let from_i : next_state d q i ≡ Some t = subst (λ n. next_state d q n ≡ Some t) e goes in
        read j at_j (sym (alike q there) ∙ from_i) rest
    exchanged (z ∷ u) v q there (read {t = t} k at goes rest) =
        let r = next_there d ok q k there (slice_get_within d.letters k z at) in
        let e : r.0 ≡ t = same_at d.next (q * length d.letters + k) r.0 t r.1 goes in
        read k at goes (exchanged u v t (subst (λ n. n < length d.finals) e r.2) rest)

  alike_turned : (i j : ℕ) → LeadAlike d i j → LeadAlike d j i
  alike_turned i j alike q there = sym (alike q there)

  columns_like : (i j : ℕ) (x y : L) → slice_get d.letters i ≡ Some x → slice_get d.letters j ≡ Some y → LeadAlike d i j → IsLike (Accepts d) x y
  columns_like i j x y at_i at_j alike u v = (
    exchanged i j x y at_i at_j alike u v 0 ok.start,
    exchanged j i y x at_j at_i (alike_turned i j alike) u v 0 ok.start,
  )

  -- letters that aren't there stand in no word
  others_like : (x y : L) → (Contains d.letters x → ⊥) → (Contains d.letters y → ⊥) → IsLike (Accepts d) x y
  others_like x y no_x no_y u v = (
    λ h. absurd (no_x (All-head (Contains d.letters) x v (over_back d.letters u (x ∷ v) (accepted_over d ok h)))),
    λ h. absurd (no_y (All-head (Contains d.letters) y v (over_back d.letters u (y ∷ v) (accepted_over d ok h)))),
  )

  module _ (of_places firsts : List ℕ) (are : AreAlike (LeadAlike d) (length d.letters) of_places firsts) where
    same_class : (i j n : ℕ) → slice_get of_places i ≡ Some n → slice_get of_places j ≡ Some n → LeadAlike d i j
    same_class i j n at_i at_j q there =
        let a = are.first i n at_i in
        let b = are.first j n at_j in
        let e : b.0 ≡ a.0 = same_at firsts n b.0 a.0 b.1 a.1 in
        a.2 q there ∙ ap (next_state d q) (sym e) ∙ sym (b.2 q there)

    class_within : (i n : ℕ) → slice_get of_places i ≡ Some n → n < length firsts
    class_within i n at = let a = are.first i n at in slice_get_within firsts n a.0 a.1

    columns_alike : (x y : L) (n : ℕ) → IsColumn d.letters of_places (length firsts) x n → IsColumn d.letters of_places (length firsts) y n → IsLike (Accepts d) x y
    columns_alike x y n (inl (no_x, e)) (inl (no_y, e')) = others_like x y no_x no_y
    columns_alike x y n (inl (no_x, e)) (inr (k, at, class)) = let l = class_within k n class in absurd (omega (arith, e, l))
    columns_alike x y n (inr (k, at, class)) (inl (no_y, e)) = let l = class_within k n class in absurd (omega (arith, e, l))
    columns_alike x y n (inr (i, at_i, class_i)) (inr (j, at_j, class_j)) = columns_like i j x y at_i at_j (same_class i j n class_i class_j)

-- the same of sets that have the same words
like_same : {L : Type 0} (P Q : List L → Type 0) → ((w : List L) → P w ↔ Q w) → (x y : L) → IsLike P x y → IsLike Q x y
like_same P Q same x y like u v = (
  λ h. (same (u ++ y ∷ v)).0 ((like u v).0 ((same (u ++ x ∷ v)).1 h)),
  λ h. (same (u ++ x ∷ v)).0 ((like u v).1 ((same (u ++ y ∷ v)).1 h)),
)

-- columns of the same letters
pub columns_as : {L : Type 0} (letters : List L) {own own' : List L} {places places' : List ℕ} {none none' : ℕ} {columns columns' : List ℕ} → own ≡ own' → places ≡ places' → none ≡ none' → columns ≡ columns' → AreColumns own places none letters columns → AreColumns own' places' none' letters columns'
columns_as {L} letters {own = own} {own' = own'} {places = places} {places' = places'} {none = none} {none' = none'} {columns = columns} {columns' = columns'} a b c d h =
    let h1 : AreColumns own' places none letters columns = subst (λ (x : List L). AreColumns x places none letters columns) a h in
    let h2 : AreColumns own' places' none letters columns = subst (λ (x : List ℕ). AreColumns own' x none letters columns) b h1 in
    let h3 : AreColumns own' places' none' letters columns = subst (λ (x : ℕ). AreColumns own' places' x letters columns) c h2 in
    subst (λ (x : List ℕ). AreColumns own' places' none' letters x) d h3

-- numbers that are equal in both lists
module _ (a b : List ℕ) (of_places firsts : List ℕ) (same : length a ≡ length b) (are : AreAlike (AreBothAlike a b) (length a) of_places firsts) where
  both_at : (j k n : ℕ) → slice_get of_places j ≡ Some n → slice_get of_places k ≡ Some n → (slice_get a j ≡ slice_get a k) × (slice_get b j ≡ slice_get b k)
  both_at j k n at_j at_k =
      let r = are.first j n at_j in
      let t = are.first k n at_k in
      let e : t.0 ≡ r.0 = same_at firsts n t.0 r.0 t.1 r.1 in
      (r.2.0 ∙ ap (slice_get a) (sym e) ∙ sym t.2.0, r.2.1 ∙ ap (slice_get b) (sym e) ∙ sym t.2.1)

  pub both_finer : IsFiner a of_places
  both_finer j k n at_j at_k =
      let m = at_place a of_places are.count j n at_j in
      let e = both_at j k n at_j at_k in
      (m.0, m.1, sym e.0 ∙ m.1)

  both_second : IsFiner b of_places
  both_second j k n at_j at_k =
      let m = at_place b of_places (are.count ∙ same) j n at_j in
      let e = both_at j k n at_j at_k in
      (m.0, m.1, sym e.1 ∙ m.1)

  pub both_divided : {L : Type 0} (d : Complete L) → IsComplete d → (lang : Complete L) → ((w : List L) → Accepts d w ↔ Accepts lang w)
      → (letters : List L) → length a ≡ length letters → (classes class_firsts : List ℕ) → AreAlike (LeadAlike d) (length d.letters) classes class_firsts → AreColumns d.letters classes (length class_firsts) letters b
      → IsDivided letters of_places (IsLike (Accepts lang))
  both_divided d ok lang is letters count classes class_firsts alike columns = record {
    count = are.count ∙ count;
    alike = λ j k n x y at_j at_k x_is y_is.
        let m = both_second j k n at_j at_k in
        like_same (Accepts d) (Accepts lang) is x y (columns_alike d ok classes class_firsts alike x y m.0 (columns.each j x m.0 x_is m.1) (columns.each k y m.0 y_is m.2));
  }

pub finer_itself : (a : List ℕ) → IsFiner a a
finer_itself a j k n at_j at_k = (n, at_j, at_k)

pub finer_more : (a b c : List ℕ) → IsFiner a b → IsFiner b c → IsFiner a c
finer_more a b c first second j k n at_j at_k = let m = second j k n at_j at_k in first j k m.0 m.1 m.2

pub divided_finer : {L : Type 0} (letters : List L) (a b : List ℕ) (Q : L → L → Type 0) → IsFiner a b → length b ≡ length letters → IsDivided letters a Q → IsDivided letters b Q
divided_finer letters a b Q finer count divided = record {
  count = count;
  alike = λ j k n x y at_j at_k x_is y_is. let m = finer j k n at_j at_k in divided.alike j k m.0 x y m.1 m.2 x_is y_is;
}

-- part after part
abbrev pub EachOf : {A L : Type 0} → (A → L → L → Type 0) → List A → L → L → Type 0
EachOf {A} Q parts x y = (a : A) → Contains parts a → Q a x y

module _ {A L : Type 0} (Q : A → L → L → Type 0) (letters : List L) where
  pub each_none : (parts : List A) (numbers : List ℕ) → parts ≡ [] → length numbers ≡ length letters → IsDivided letters numbers (EachOf Q parts)
  each_none parts numbers none count = record {
    count = count;
    alike = λ j k n x y at_j at_k x_is y_is a among. absurd (Contains-nil_cases a (subst (λ ps. Contains ps a) none among));
  }

  pub each_more : (parts front : List A) (a : A) (old new : List ℕ) → parts ≡ front ++ a ∷ [] → IsFiner old new → IsDivided letters old (EachOf Q front) → IsDivided letters new (Q a) → IsDivided letters new (EachOf Q parts)
  each_more parts front a old new is finer before here = record {
    count = here.count;
    alike = λ j k n x y at_j at_k x_is y_is b among.
        let m = finer j k n at_j at_k in
        elim (Contains-append_cases front (a ∷ []) b (subst (λ ps. Contains ps b) is among)) as (λ _. Q b x y) [
          | inl was ↦ before.alike j k m.0 x y m.1 m.2 x_is y_is b was
          | inr now ↦ elim (Contains-cons_cases a [] b now) as (λ _. Q b x y) [
            | inl same ↦ subst (λ c. Q c x y) same (here.alike j k n x y at_j at_k x_is y_is)
            | inr none ↦ absurd (Contains-nil_cases b none)
          ]
        ];
  }

one_at : {X : Type 0} (x : X) (j : ℕ) (y : X) → slice_get (x ∷ []) j ≡ Some y → x ≡ y
one_at x zero y e = same_Some x y e
one_at x (suc j) y e = let c : None ≡ Some y = e in absurd (cc)

module _ {X Y : Type 0} (R : X → Y → Type 0) where
  -- what is at the same place in two lists is related
  abbrev pub Placewise : List X → List Y → Type 0
  Placewise xs ys = (j : ℕ) (x : X) (y : Y) → slice_get xs j ≡ Some x → slice_get ys j ≡ Some y → R x y

  pub placewise_more : (xs : List X) (ys : List Y) (x : X) (y : Y) → length xs ≡ length ys → Placewise xs ys → R x y → Placewise (xs ++ x ∷ []) (ys ++ y ∷ [])
  placewise_more xs ys x y count before here j a b at_a at_b =
      elim (slice_get-append_cases xs (x ∷ []) j a at_a) as (λ _. R a b) [
        | inl was ↦ elim (slice_get-append_cases ys (y ∷ []) j b at_b) as (λ _. R a b) [
          | inl was' ↦ before j a b was was'
          | inr (i, e, now) ↦ let l = slice_get_within xs j a was in absurd (omega (arith, l, e, count))
        ]
        | inr (i, e, now) ↦ elim (slice_get-append_cases ys (y ∷ []) j b at_b) as (λ _. R a b) [
          | inl was' ↦ let l = slice_get_within ys j b was' in absurd (omega (arith, l, e, count))
          | inr (i', e', now') ↦ let one : x ≡ a = one_at x i a now in let two : y ≡ b = one_at y i' b now' in subst (λ c. R c b) one (subst (λ c. R x c) two here)
        ]
      ]

  -- the second list has been built along the first
  abbrev pub IsBuilt : List X → List Y → Type 0
  IsBuilt xs ys = (length ys ≡ length xs) × Placewise xs ys

  pub built_none : (ys : List Y) → ys ≡ [] → IsBuilt [] ys
  built_none ys none = (ap length none, λ j x y at_x at_y. let c : None ≡ Some y = subst (λ zs. slice_get zs j ≡ Some y) none at_y in absurd (cc))

  pub built_more : (xs front : List X) (x : X) (ys back : List Y) (y : Y) → xs ≡ front ++ x ∷ [] → ys ≡ back ++ y ∷ [] → IsBuilt front back → R x y → IsBuilt xs ys
  built_more xs front x ys back y xs_are ys_are before here = (
    ap length ys_are ∙ length_push back y ∙ ap (λ n. n + 1) before.0 ∙ sym (length_push front x) ∙ sym (ap length xs_are),
    subst (λ zs. Placewise xs zs) (sym ys_are) (subst (λ zs. Placewise zs (back ++ y ∷ [])) (sym xs_are) (placewise_more front back x y (sym before.0) before.1 here)),
  )

-- symbols of which what they are inside of words is told apart
pub inside_divided : (syms : List Sym) (bounds : List (Bound Sym)) (numbers : List ℕ) (Q : Bound Sym → Bound Sym → Type 0) → bounds ≡ map Inner syms → IsDivided bounds numbers Q → IsDivided syms numbers (λ s t. Q (Inner s) (Inner t))
inside_divided syms bounds numbers Q are divided = record {
  count = divided.count ∙ ap length are ∙ length-map syms Inner;
  alike = λ j k n s t at_j at_k s_is t_is. divided.alike j k n (Inner s) (Inner t) at_j at_k (as_bound j s s_is) (as_bound k t t_is);
}
  where
    as_bound : (j : ℕ) (s : Sym) → slice_get syms j ≡ Some s → slice_get bounds j ≡ Some (Inner s)
    as_bound j s is = ap (λ bs. slice_get bs j) are ∙ slice_get-map Inner syms j ∙ ap (option_map Inner) is

-- the mappings and the contexts of a group
pub group_divided : (syms : List Sym) (bounds : List (Bound Sym)) (numbers : List ℕ) (g : LangGroup) → bounds ≡ map Inner syms → IsDivided syms numbers (EachOf MapIsLike g.maps.items) → IsDivided bounds numbers (EachOf ContextIsLike g.contexts.items) → IsDivided syms numbers (GroupIsLike g)
group_divided syms bounds numbers g are by_maps by_contexts =
    let inside = inside_divided syms bounds numbers (EachOf ContextIsLike g.contexts.items) are by_contexts in
    record {
      count = by_maps.count;
      alike = λ j k n s t at_j at_k s_is t_is. record { maps = by_maps.alike j k n s t at_j at_k s_is t_is; contexts = inside.alike j k n s t at_j at_k s_is t_is };
    }

pub map_divided : (syms : List Sym) (m : LangMap) (first second last : List ℕ) → IsFiner first second → IsFiner second last → IsDivided syms first (IsLike (Accepts m.centre)) → IsDivided syms second (IsLike (Accepts m.result))
    → length last ≡ length syms → ((d : Complete Sym) → m.after ≡ Some d → IsDivided syms last (IsLike (Accepts d))) → IsDivided syms last (MapIsLike m)
map_divided syms m first second last finer finer' centre result count after = record {
  count = count;
  alike = λ j k n s t at_j at_k s_is t_is.
      let b = finer' j k n at_j at_k in
      let a = finer j k b.0 b.1 b.2 in
      record {
        centre = centre.alike j k a.0 s t a.1 a.2 s_is t_is;
        result = result.alike j k b.0 s t b.1 b.2 s_is t_is;
        after = λ d is. (after d is).alike j k n s t at_j at_k s_is t_is;
      };
}

pub context_divided : (bounds : List (Bound Sym)) (c : LangContext) (first last : List ℕ) → IsFiner first last → IsDivided bounds first (IsLike (Accepts c.left)) → IsDivided bounds last (IsLike (Accepts c.right)) → IsDivided bounds last (ContextIsLike c)
context_divided bounds c first last finer left right = record {
  count = right.count;
  alike = λ j k n x y at_j at_k x_is y_is.
      let a = finer j k n at_j at_k in
      record { left = left.alike j k a.0 x y a.1 a.2 x_is y_is; right = right.alike j k n x y at_j at_k x_is y_is };
}

-- each symbol's class has a first symbol, which isn't told apart from it
pub firsts_divided : (syms : List Sym) (Q : Sym → Sym → Type 0) (numbers of_places class_firsts : List ℕ) (firsts : List Sym) → IsDivided syms numbers Q → AreAlike (AreBothAlike numbers numbers) (length numbers) of_places class_firsts → AreFirstsIn syms class_firsts of_places firsts
    → (length firsts ≡ length syms) × ((j : ℕ) (s f : Sym) → slice_get syms j ≡ Some s → slice_get firsts j ≡ Some f → Contains syms f × Q s f)
firsts_divided syms Q numbers of_places class_firsts firsts divided are found = (
  found.count ∙ are.count ∙ divided.count,
  λ j s f s_is f_is.
      let c = at_place of_places firsts found.count j f f_is in
      let (k, first_is, at_k) = found.each j c.0 f c.1 f_is in
      let r = are.first j c.0 c.1 in
      let e : r.0 ≡ k = same_at class_firsts c.0 r.0 k r.1 first_is in
      let n = at_place numbers syms (sym divided.count) j s s_is in
      let same : slice_get numbers k ≡ Some n.0 = sym (r.2.0 ∙ ap (slice_get numbers) e) ∙ n.1 in
      (Contains-from_slice_get syms k f at_k, divided.alike j k n.0 s f n.1 same s_is at_k),
)

pub are_firsts : (syms : List Sym) (groups : List LangGroup) (numbers of_places class_firsts : List ℕ) (firsts : List Sym) → IsDivided syms numbers (EachOf GroupIsLike groups) → AreAlike (AreBothAlike numbers numbers) (length numbers) of_places class_firsts
    → AreFirstsIn syms class_firsts of_places firsts → AreFirsts syms groups firsts
are_firsts syms groups numbers of_places class_firsts firsts divided are found =
    let r = firsts_divided syms (EachOf GroupIsLike groups) numbers of_places class_firsts firsts divided are found in
    record { count = r.0; each = r.1 }

-- a list to which each symbol of another is added once
pub once_there : (xs : List Sym) (x s : Sym) (k : ℕ) → slice_get xs k ≡ Some x → Contains xs s ↔ (Contains xs s ⊎ (x ≡ s))
once_there xs x s k at = (inl, λ h. elim h as (λ _. Contains xs s) [ inl was ↦ was | inr same ↦ subst (Contains xs) same (Contains-from_slice_get xs k x at) ])

pub once_new : (xs new : List Sym) (x s : Sym) → new ≡ xs ++ x ∷ [] → Contains new s ↔ (Contains xs s ⊎ (x ≡ s))
once_new xs new x s is = (
  λ h. Contains-push_cases xs x s (subst (λ ys. Contains ys s) is h),
  λ h. subst (λ ys. Contains ys s) (sym is) (elim h as (λ _. Contains (xs ++ x ∷ []) s) [ inl was ↦ Contains-append_left xs (x ∷ []) s was | inr same ↦ subst (Contains (xs ++ x ∷ [])) same (Contains-push xs x) ]),
)

pub once_more : (syms front : List Sym) (x : Sym) (old new : List Sym) → syms ≡ front ++ x ∷ [] → ((s : Sym) → Contains old s ↔ Contains front s) → ((s : Sym) → Contains new s ↔ (Contains old s ⊎ (x ≡ s))) → (s : Sym) → Contains new s ↔ Contains syms s
once_more syms front x old new is before here s =
    let both = once_new front syms x s is in (
      λ h. both.1 (elim ((here s).0 h) as (λ _. Contains front s ⊎ (x ≡ s)) [ inl was ↦ inl ((before s).0 was) | inr same ↦ inr same ]),
      λ h. (here s).1 (elim (both.0 h) as (λ _. Contains old s ⊎ (x ≡ s)) [ inl was ↦ inl ((before s).1 was) | inr same ↦ inr same ]),
    )

-- numbers that tell apart what a second kind of part does, too
pub group_maps : (syms : List Sym) (bounds : List (Bound Sym)) (maps : List LangMap) (contexts : List LangContext) (first last : List ℕ) → bounds ≡ map Inner syms → IsFiner first last → IsDivided syms first (EachOf MapIsLike maps) → IsDivided bounds last (EachOf ContextIsLike contexts) → IsDivided syms last (EachOf MapIsLike maps)
group_maps syms bounds maps contexts first last are finer divided behind =
    divided_finer syms first last (EachOf MapIsLike maps) finer (behind.count ∙ ap length are ∙ length-map syms Inner) divided
