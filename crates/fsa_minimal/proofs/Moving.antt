-- States that are moved into a new class: what becomes of the classes.
use Rattle.std.proofs.Common.{◌≡◌, ◌≢◌, ℕ, ◌+◌, ◌<◌, ◌≤◌, ◌⊎◌, ◌↔◌, List, [], ◌∷◌, ◌++◌, All, Option, Some, None, IsTrue, true, false, length, get_or, set, take, refl, sym, subst, ap, inl, inr, arith, ◌∙◌}
use Rattle.std.specs.List.{slice_get, Contains}
use Rattle.std.specs.Prelude.{Vec}
use Rattle.std.specs.Global.{Global}
use Rattle.std.proofs.lemmas.Bool.{false≢true}
use Rattle.std.proofs.lemmas.List.{length-set, take_all, length_push}
use Rattle.std.proofs.lemmas.List.Elements.{Contains-push, Contains-append_left, Contains-get_or}
use Rattle.std.proofs.lemmas.Option.{slice_get_within, slice_get-get_or, slice_get_read, same_Some, get_or_from_slice_get}
use Rattle.word_relations.proofs.Places.{slice_get-append_left, slice_get-push, slice_get-set_same, slice_get-set_other, same_at}
use Rattle.fsa_minimal.proofs.Kept.{same_or_not, stands_or_not, take_cases, take_old, take_new}
use Rattle.fsa_minimal.specs.Folding.{AreByClass}
use Rattle.fsa_minimal.specs.Splitting.{Holds, AreClasses, HoldThese, SplitsBy, IsMoved, IsSplit}

pub IsMoved-none : (part : List ℕ) (class : ℕ) (old : List ℕ) → IsMoved (take 0 part) class old old
IsMoved-none [] class old = record { count = refl; moved = λ s h. let l = h.1 in absurd (omega arith); kept = λ s n. refl }
IsMoved-none (x ∷ part) class old = record { count = refl; moved = λ s h. let l = h.1 in absurd (omega arith); kept = λ s n. refl }

pub IsMoved-more : (part : List ℕ) (class : ℕ) (old now : List ℕ) (i x : ℕ) → slice_get part i ≡ Some x → x < length old → IsMoved (take i part) class old now → IsMoved (take (i + 1) part) class old (set now x class)
IsMoved-more part class old now i x at there m = record {
  count = length-set now x class ∙ m.count;
  moved = λ s h. elim (same_or_not s x) [
    | inl e ↦ subst (λ k. slice_get (set now x class) k ≡ Some class) (sym e) (slice_get-set_same now x class (let c = m.count in omega arith))
    | inr ne ↦ slice_get-set_other now x s class ne ∙ m.moved s (elim (take_cases part i x at s h) [ inl old ↦ old | inr e ↦ absurd (ne (sym e)) ])
  ];
  kept = λ s never.
      slice_get-set_other now x s class (λ e. never (subst (Contains (take (i + 1) part)) (sym e) (take_new part i x at)))
      ∙ m.kept s (λ h. never (take_old part i x at s h));
}

pub IsMoved-all : (part : List ℕ) (class : ℕ) (old now : List ℕ) (i : ℕ) → length part ≤ i → IsMoved (take i part) class old now → IsMoved part class old now
IsMoved-all part class old now i past m = subst (λ p. IsMoved p class old now) (take_all i part past) m

-- a list more takes no state away
pub Holds-push : (lists : List (Vec ℕ Global)) (v : Vec ℕ Global) (class state : ℕ) → Holds lists class state → Holds (lists ++ v ∷ []) class state
Holds-push lists v class state h =
    (h.0, slice_get-append_left lists (v ∷ []) class (slice_get_within lists class h.0 h.1) ∙ h.1, h.2)

pub Holds-pushed : (lists new : List (Vec ℕ Global)) (v : Vec ℕ Global) → new ≡ lists ++ v ∷ [] → (class state : ℕ) → Holds lists class state → Holds new class state
Holds-pushed lists new v pushed class state h = subst (λ vs. Holds vs class state) (sym pushed) (Holds-push lists v class state h)

-- the new class has the states of the part, and each other state stays where it stood
pub classes_added : (part : Vec ℕ Global) (members groups : List (Vec ℕ Global)) (group : Vec ℕ Global) (sizes : List ℕ) (number size new_size : ℕ) (old new : List ℕ)
    → length groups ≡ length members → length sizes ≡ length members
    → ((state class : ℕ) → (Contains part.items state → ⊥) → slice_get old state ≡ Some class → Holds members class state) → IsMoved part.items (length members) old new
    → (ms gs : List (Vec ℕ Global)) (ss : List ℕ) → ms ≡ members ++ part ∷ [] → gs ≡ groups ++ group ∷ [] → ss ≡ set sizes number size ++ new_size ∷ []
    → AreClasses ms gs ss new
classes_added part members groups group sizes number size new_size old new groups_count sizes_count held m ms gs ss is_ms is_gs is_ss =
    let cm = ap length is_ms ∙ length_push members part in
    let cg = ap length is_gs ∙ length_push groups group in
    let cs = ap length is_ss ∙ length_push (set sizes number size) new_size in
    let set_count = length-set sizes number size in
    record {
      groups_count = omega arith;
      sizes_count = omega arith;
      held = λ state class at. subst (λ vs. Holds vs class state) (sym is_ms) (elim (stands_or_not part.items state) [
        | inl inside ↦
            let this : length members ≡ class = same_Some (length members) class (sym (m.moved state inside) ∙ at) in
            subst (λ k. Holds (members ++ part ∷ []) k state) this (part, slice_get-push members part, inside)
        | inr never ↦ Holds-push members part class state (held state class never (sym (m.kept state never) ∙ at))
      ]);
    }

-- the same where the groups change, but not how many they are
pub classes_same : (members groups new_groups : List (Vec ℕ Global)) (sizes class_of : List ℕ) (m : List (Vec ℕ Global)) (s c : List ℕ) → m ≡ members → length new_groups ≡ length groups → s ≡ sizes → c ≡ class_of
    → AreClasses members groups sizes class_of → AreClasses m new_groups s c
classes_same members groups new_groups sizes class_of m s c is_m count is_s is_c are = record {
  groups_count = let a = are.groups_count in let b = ap length is_m in omega arith;
  sizes_count = let a = are.sizes_count in let b = ap length is_m in let d = ap length is_s in omega arith;
  held = λ state class at. subst (λ vs. Holds vs class state) (sym is_m) (are.held state class (ap (λ xs. slice_get xs state) (sym is_c) ∙ at));
}

-- one more marked state stands in the group of its class
pub group_more : (groups : List (Vec ℕ Global)) (class_of found : List ℕ) (n i x c : ℕ) (old new : Vec ℕ Global) → slice_get found i ≡ Some x → slice_get class_of x ≡ Some c → slice_get groups c ≡ Some old → new.items ≡ old.items ++ x ∷ []
    → HoldThese groups class_of (take i found) n → HoldThese (set groups c new) class_of (take (i + 1) found) n
group_more groups class_of found n i x c old new at of_x is_old pushed held s k inside at_s l = elim (take_cases found i x at s inside) [
  | inl before ↦
      let h = held s k before at_s l in
      elim (same_or_not k c) [
        | inl e ↦
            let same : h.0 ≡ old = same_at groups c h.0 old (subst (λ j. slice_get groups j ≡ Some h.0) e h.1) is_old in
            subst (λ j. Holds (set groups c new) j s) (sym e) (
              new,
              slice_get-set_same groups c new (slice_get_within groups c old is_old),
              subst (λ ys. Contains ys s) (sym pushed) (Contains-append_left old.items (x ∷ []) s (subst (λ v. Contains v.items s) same h.2)),
            )
        | inr ne ↦ (h.0, slice_get-set_other groups c k new ne ∙ h.1, h.2)
      ]
  | inr e ↦
      let same : c ≡ k = same_at class_of x c k of_x (subst (λ j. slice_get class_of j ≡ Some k) (sym e) at_s) in
      subst (λ j. Holds (set groups c new) j s) same (
        new,
        slice_get-set_same groups c new (slice_get_within groups c old is_old),
        subst (λ ys. Contains ys s) (sym pushed) (subst (Contains (old.items ++ x ∷ [])) e (Contains-push old.items x)),
      )
]

pub group_none : (groups : List (Vec ℕ Global)) (class_of found : List ℕ) (n : ℕ) → HoldThese groups class_of (take 0 found) n
group_none groups class_of [] n s k inside at l = let p = inside.1 in absurd (omega arith)
group_none groups class_of (x ∷ found) n s k inside at l = let p = inside.1 in absurd (omega arith)

-- what stands in the list at a place
pub holds_in : (lists : List (Vec ℕ Global)) (class : ℕ) (v : Vec ℕ Global) (list found : List ℕ) (Q : ℕ → Type 0) → class < length lists → v ≡ get_or lists class v → list ≡ v.items
    → ((s : ℕ) → Contains found s ↔ (Contains list s × Q s)) → (s : ℕ) → Contains found s ↔ (Holds lists class s × Q s)
holds_in lists class v list found Q there is same keeps s =
    let at : slice_get lists class ≡ Some v = slice_get_read lists (length lists) class v refl there is in (
      λ h. let k = (keeps s).0 h in ((v, at, subst (λ ys. Contains ys s) same k.0), k.1),
      λ h. let e : h.0.0 ≡ v = same_at lists class h.0.0 v h.0.1 at in (keeps s).1 (subst (λ ys. Contains ys s) (sym same) (subst (λ u. Contains u.items s) e h.0.2), h.1),
    )

pub SplitsBy-same : (found old : List ℕ) → SplitsBy found old old
SplitsBy-same found old s t ne = inl ne

pub IsSplit-same : (found old : List ℕ) (groups : List (Vec ℕ Global)) (count : ℕ) → IsSplit found old old groups groups count count
IsSplit-same found old groups count = record { count = refl; split = SplitsBy-same found old; kept = λ s c at l. at; groups = λ c s h. h; more = omega arith }

pub IsSplit-then : (found a b c : List ℕ) (ga gb gc : List (Vec ℕ Global)) (na nb nc : ℕ) → IsSplit found a b ga gb na nb → IsSplit found b c gb gc nb nc → IsSplit found a c ga gc na nc
IsSplit-then found a b c ga gb gc na nb nc first second = record {
  count = second.count ∙ first.count;
  split = λ s t ne. elim (second.split s t ne) [ inl differ ↦ first.split s t differ | inr one ↦ inr one ];
  kept = λ s class at l. first.kept s class (second.kept s class at (let m = first.more in omega arith)) l;
  groups = λ class s h. second.groups class s (first.groups class s h);
  more = let m = first.more in let n = second.more in omega arith;
}

-- what the part has to be: the marked states of a class, or the others
abbrev pub IsPartOf : List ℕ → List ℕ → ℕ → List ℕ → Type 0
IsPartOf found old number part =
    ((s : ℕ) → Contains part s ↔ (Contains found s × (slice_get old s ≡ Some number)))
    ⊎ ((s : ℕ) → Contains part s ↔ ((Contains found s → ⊥) × (slice_get old s ≡ Some number)))

option_or_not : (o : Option ℕ) (k : ℕ) → (o ≡ Some k) ⊎ (o ≢ Some k)
option_or_not None k = inr (λ e. absurd (cc))
option_or_not (Some j) k = elim (same_or_not j k) [ inl e ↦ inl (ap Some e) | inr ne ↦ inr (λ e. ne (same_Some j k e)) ]

-- a state of the part and one that isn't in it were in different classes, or exactly one of them is marked
part_apart : (found old : List ℕ) (number : ℕ) (part : List ℕ) → IsPartOf found old number part → (s t : ℕ) → Contains part s → (Contains part t → ⊥)
    → (slice_get old s ≢ slice_get old t) ⊎ ((Contains found s × (Contains found t → ⊥)) ⊎ ((Contains found s → ⊥) × Contains found t))
part_apart found old number part way s t inside never = elim (option_or_not (slice_get old t) number) [
  | inl at ↦ elim way [
    | inl is ↦ inr (inl (((is s).0 inside).0, λ h. never ((is t).1 (h, at))))
    | inr is ↦ inr (inr (((is s).0 inside).0, elim (stands_or_not found t) [ inl h ↦ h | inr out ↦ absurd (never ((is t).1 (out, at))) ]))
  ]
  | inr other ↦ inl (λ e. other (sym e ∙ elim way [ inl is ↦ ((is s).0 inside).1 | inr is ↦ ((is s).0 inside).1 ]))
]

pub moved_splits : (found old new : List ℕ) (number class : ℕ) (part : List ℕ) → IsPartOf found old number part → IsMoved part class old new → SplitsBy found old new
moved_splits found old new number class part way m s t ne = elim (stands_or_not part s) [
  | inl in_s ↦ elim (stands_or_not part t) [
    | inl in_t ↦ absurd (ne (m.moved s in_s ∙ sym (m.moved t in_t)))
    | inr out_t ↦ part_apart found old number part way s t in_s out_t
  ]
  | inr out_s ↦ elim (stands_or_not part t) [
    | inl in_t ↦ elim (part_apart found old number part way t s in_t out_s) [
      | inl differ ↦ inl (λ e. differ (sym e))
      | inr one ↦ elim one [ inl p ↦ inr (inr (p.1, p.0)) | inr p ↦ inr (inl (p.1, p.0)) ]
    ]
    | inr out_t ↦ inl (λ e. ne (m.kept s out_s ∙ e ∙ sym (m.kept t out_t)))
  ]
]

pub moved_kept : (old new : List ℕ) (class : ℕ) (part : List ℕ) → IsMoved part class old new → (s c : ℕ) → slice_get new s ≡ Some c → c < class → slice_get old s ≡ Some c
moved_kept old new class part m s c at l = elim (stands_or_not part s) [
  | inl inside ↦ let e : class ≡ c = same_Some class c (sym (m.moved s inside) ∙ at) in absurd (omega arith)
  | inr never ↦ sym (m.kept s never) ∙ at
]

pub moved_split : (found old new : List ℕ) (number : ℕ) (part : List ℕ) (ga gb : List (Vec ℕ Global)) (na nb : ℕ) → IsPartOf found old number part → IsMoved part na old new
    → ((c s : ℕ) → Holds ga c s → Holds gb c s) → nb ≡ na + 1 → IsSplit found old new ga gb na nb
moved_split found old new number part ga gb na nb way m groups one = record {
  count = m.count;
  split = moved_splits found old new number na part way m;
  kept = moved_kept old new na part m;
  groups = groups;
  more = omega arith;
}

-- the states of a class that are marked, of those that stand in its group
pub part_marked : (found old : List ℕ) (number : ℕ) (groups : List (Vec ℕ Global)) (part : List ℕ) → ((s : ℕ) → Contains found s → slice_get old s ≡ Some number → Holds groups number s)
    → ((s : ℕ) → Contains part s ↔ (Holds groups number s × ((slice_get old s ≡ Some number) × (IsTrue true ↔ Contains found s)))) → (s : ℕ) → Contains part s ↔ (Contains found s × (slice_get old s ≡ Some number))
part_marked found old number groups part held is s = (
  λ h. let k = (is s).0 h in (k.1.1.0 refl, k.1.0),
  λ h. (is s).1 (held s h.0 h.1, (h.1, (λ _. h.0, λ _. refl))),
)

pub part_unmarked : (found old : List ℕ) (number : ℕ) (members : List (Vec ℕ Global)) (part : List ℕ) → ((s c : ℕ) → slice_get old s ≡ Some c → Holds members c s)
    → ((s : ℕ) → Contains part s ↔ (Holds members number s × ((slice_get old s ≡ Some number) × (IsTrue false ↔ Contains found s)))) → (s : ℕ) → Contains part s ↔ ((Contains found s → ⊥) × (slice_get old s ≡ Some number))
part_unmarked found old number members part held is s = (
  λ h. let k = (is s).0 h in (λ m. false≢true (k.1.1.1 m), k.1.0),
  λ h. (is s).1 (held s number h.1, (h.1, (λ t. absurd (false≢true t), λ m. absurd (h.0 m)))),
)

-- the states of a part are there
pub part_there : (old : List ℕ) (number : ℕ) (part : List ℕ) (A B : ℕ → Type 0) → ((s : ℕ) → Contains part s ↔ (A s × ((slice_get old s ≡ Some number) × B s))) → All (λ s. s < length old) part
part_there old number part A B is k d l = slice_get_within old (get_or part k d) number ((is (get_or part k d)).0 (Contains-get_or part k d l)).1.0

pub kept_there : (old : List ℕ) (number : ℕ) (part : List ℕ) (A : ℕ → Type 0) → ((s : ℕ) → Contains part s ↔ (A s × (slice_get old s ≡ Some number))) → All (λ s. s < length old) part
kept_there old number part A is k d l = slice_get_within old (get_or part k d) number ((is (get_or part k d)).0 (Contains-get_or part k d l)).1

-- the list of a class is its marked states, and the others leave it
pub rest_held : (found old : List ℕ) (number : ℕ) (members : List (Vec ℕ Global)) (part : Vec ℕ Global) (rest : List ℕ) → number < length members → ((s c : ℕ) → slice_get old s ≡ Some c → Holds members c s)
    → ((s : ℕ) → Contains part.items s ↔ (Contains found s × (slice_get old s ≡ Some number))) → ((s : ℕ) → Contains rest s ↔ ((Contains found s → ⊥) × (slice_get old s ≡ Some number)))
    → (s c : ℕ) → (Contains rest s → ⊥) → slice_get old s ≡ Some c → Holds (set members number part) c s
rest_held found old number members part rest there held is_part is_rest s c never at = elim (same_or_not c number) [
  | inl e ↦
      let here : slice_get old s ≡ Some number = at ∙ ap Some e in
      let inside : Contains found s = elim (stands_or_not found s) [ inl h ↦ h | inr out ↦ absurd (never ((is_rest s).1 (out, here))) ] in
      subst (λ k. Holds (set members number part) k s) (sym e) (part, slice_get-set_same members number part there, (is_part s).1 (inside, here))
  | inr ne ↦ let h = held s c at in (h.0, slice_get-set_other members number c part ne ∙ h.1, h.2)
]

-- all states in one class
pub classes_new : (v g : Vec ℕ Global) (m0 g0 : List (Vec ℕ Global)) (s0 : List ℕ) (ms gs : List (Vec ℕ Global)) (ss cs : List ℕ) (bound size : ℕ) → m0 ≡ [] → g0 ≡ [] → s0 ≡ []
    → ms ≡ m0 ++ v ∷ [] → gs ≡ g0 ++ g ∷ [] → ss ≡ s0 ++ size ∷ [] → ((k : ℕ) → k < bound → Contains v.items k) → length cs ≡ bound → All (λ c. c ≡ 0) cs → AreClasses ms gs ss cs
classes_new v g m0 g0 s0 ms gs ss cs bound size no_m no_g no_s is_m is_g is_s below count zeros =
    let em : ms ≡ v ∷ [] = is_m ∙ ap (λ xs. xs ++ v ∷ []) no_m in
    let eg : gs ≡ g ∷ [] = is_g ∙ ap (λ xs. xs ++ g ∷ []) no_g in
    let es : ss ≡ size ∷ [] = is_s ∙ ap (λ xs. xs ++ size ∷ []) no_s in
    record {
      groups_count = ap length eg ∙ sym (ap length em);
      sizes_count = ap length es ∙ sym (ap length em);
      held = λ s c at.
          let l = slice_get_within cs s c at in
          let zero_is : get_or cs s 0 ≡ 0 = zeros s 0 l in
          let e : c ≡ 0 = sym (get_or_from_slice_get cs s c 0 at) ∙ zero_is in
          subst (λ vs. Holds vs c s) (sym em) (subst (λ k. Holds (v ∷ []) k s) (sym e) (v, refl, below s (omega arith)));
    }

-- each class is one of those that are counted
pub classes_within : (members groups : List (Vec ℕ Global)) (sizes class_of : List ℕ) → AreClasses members groups sizes class_of → All (λ k. k < length members) class_of
classes_within members groups sizes class_of are i d l =
    let h = are.held i (get_or class_of i d) (slice_get-get_or class_of i d l) in slice_get_within members (get_or class_of i d) h.0 h.1

pub by_class : (classes : List ℕ) (numbers images : List (Option ℕ)) (i : ℕ) → length classes ≤ i → ((s class : ℕ) → s < i → slice_get classes s ≡ Some class → slice_get images s ≡ slice_get numbers class) → AreByClass classes images
by_class classes numbers images i past same = record {
  same = λ s t l e.
      let c = get_or classes s 0 in
      let at_s = slice_get-get_or classes s 0 l in
      let at_t : slice_get classes t ≡ Some c = sym e ∙ at_s in
      let k = slice_get_within classes t c at_t in
      same s c (omega arith) at_s ∙ sym (same t c (omega arith) at_t);
}
