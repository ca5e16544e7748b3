-- Insertions, as words of marks.
use Rattle.std.proofs.Common.{◌≡◌, ◌↔◌, ◌⊎◌, ℕ, Bool, false, List, [], ◌∷◌, ◌++◌, Option, Some, None, map, refl, sym, ap, subst, ◌∙◌, inl, inr, append_assoc, append-nil}
use Rattle.std.specs.Prelude.{slice_get, All}
use Rattle.std.specs.List.{Contains, flat_map, filter_map}
use Rattle.std.proofs.Math.Path.{subst₂}
use Rattle.std.proofs.lemmas.Grind.{flat_map-append}
use Rattle.std.proofs.lemmas.List.Elements.{All-nil, All-cons, All-head, All-tail, All-contains, Contains-append_right}
use Rattle.std.proofs.lemmas.List.{map-append}
use Rattle.fsm_base.specs.declared.letters.Bound.{Bound}
use Rattle.fsm_base.specs.declared.letters.Bound.TheVariants.{Edge, Inner}
use Rattle.fsm_base.specs.declared.letters.Sym.{Sym}
use Rattle.word_relations.proofs.Members.{Contains-head}
use Rattle.word_relations.proofs.Places.{Contains-from_slice_get, slice_get_from_Contains}
use Rattle.expr_meaning.specs.Replacement as piece
use Rattle.expr_meaning.specs.Replacement.{Piece, IsFilled, IsPiece, IsDerivation, IsObligatory, IsRewritten, uppers, lowers}
use Rattle.replace_words.specs.declared.marks.Mark.{Mark}
use Rattle.replace_words.specs.declared.marks.Mark.TheVariants.{Copy, Up, Low, Same, Open, Close}
use Rattle.replace_words.specs.Claims.{Claim, copied, replaced, marked, IsBy, IsClaim, HoldsAt, IsClaimed}
use Rattle.replace_words.specs.Places.{Rules, HoldsBetween, ReplacesAt, AppliesAt}
use Rattle.replace_words.specs.Marked.{encode, written, reading, on_left, on_right, upper_of, lower_of, symbol_of, IsWellMarked, LeftHolds, RightHolds}
use Rattle.replace_words.specs.Filled.{InsertsOnly, IsFree, NoTwo, LeavesNoGap, IsFilledAt, IsFilledWord}
use Rattle.replace_words.specs.Laws.{InsertionsAreMarkedWords}
use Rattle.replace_words.proofs.Splits.{in_first, in_second, split_at, locate, nil_split, single_split}
use Rattle.replace_words.proofs.Encode.{open_place, close_place, copy_here, edge_here, edge_not_inner, opens, closes, written_opens, written_closes}
use Rattle.replace_words.proofs.Reading.{reads_upper, reads_lower, side_of_written}
use Rattle.replace_words.proofs.Bridge.{left_is, right_is, blocks_of, claims_of}
use Rattle.replace_words.proofs.Claimed.{forget, holds_there, holds_back, split_claims, first_claim, uppers_forget, lowers_forget, derived_claims, claimed_each}

-- lists that end in one element
last_same : {A : Type 0} (a b : List A) (x y : A) → a ++ x ∷ [] ≡ b ++ y ∷ [] → x ≡ y
last_same [] [] x y e = cc
last_same [] (g ∷ b) x y e = let rest : [] ≡ b ++ y ∷ [] = cc in absurd (nil_split b y [] rest)
last_same (h ∷ a) [] x y e = let rest : [] ≡ a ++ x ∷ [] = cc in absurd (nil_split a x [] rest)
last_same (h ∷ a) (g ∷ b) x y e = let rest : a ++ x ∷ [] ≡ b ++ y ∷ [] = cc in last_same a b x y rest

last_cases : {A : Type 0} (a : List A) → (a ≡ []) ⊎ ((front : List A) × (x : A) × (a ≡ front ++ x ∷ []))
last_cases [] = inl refl
last_cases {A} (x ∷ a) = elim (last_cases a) as (λ _. (x ∷ a ≡ []) ⊎ ((front : List A) × (y : A) × (x ∷ a ≡ front ++ y ∷ []))) [
  | inl none ↦ inr ([], x, ap (λ z. x ∷ z) none)
  | inr (front, y, e) ↦ inr (x ∷ front, y, ap (λ z. x ∷ z) e)
]

-- the claims before end in no insertion, and those behind begin with none
abbrev FreeEnd : List Claim → Type 0
FreeEnd before = (before ≡ []) ⊎ ((front : List Claim) × (s : Sym) × (before ≡ front ++ copied s ∷ []))

abbrev FreeStart : List Claim → Type 0
FreeStart behind = (behind ≡ []) ⊎ ((s : Sym) × (back : List Claim) × (behind ≡ copied s ∷ back))

-- between two free marks claims are cut
pub record Cut (cs : List Claim) (x : List (Bound Mark)) (m n : Bound Mark) (z : List (Bound Mark)) : Type 0 where
  pub before : List Claim
  pub behind : List Claim
  pub whole : cs ≡ before ++ behind
  pub at_left : x ++ m ∷ [] ≡ Edge ∷ flat_map encode before
  pub at_right : n ∷ z ≡ flat_map encode behind ++ Edge ∷ []
  pub free : FreeEnd before

cut_edge : (cs : List Claim) (x : List (Bound Mark)) (n : Bound Mark) (z : List (Bound Mark)) → flat_map encode cs ++ Edge ∷ [] ≡ x ++ Edge ∷ (n ∷ z) → ⊥
cut_edge cs x n z e = elim (split_at (flat_map encode cs) (Edge ∷ []) x Edge (n ∷ z) e) [
  | in_first y' first rest ↦
      let r = locate encode cs [] x Edge y' (λ x' y'' h. nil_split x' Edge y'' h) (append-nil (flat_map encode cs) ∙ first) in
      edge_here r.piece r.left r.right r.inside
  | in_second x' first rest ↦ let s = single_split Edge x' Edge (n ∷ z) rest in let none : n ∷ z ≡ [] = s.2 in cc
]

cut : (cs : List Claim) (x : List (Bound Mark)) (m n : Bound Mark) (z : List (Bound Mark)) → written cs ≡ (x ++ m ∷ []) ++ n ∷ z → IsFree m → Cut cs x m n z
cut cs [] m n z e free =
    let e' : Edge ∷ (flat_map encode cs ++ Edge ∷ []) ≡ m ∷ (n ∷ z) = e in
    let head : m ≡ Edge = cc in
    let tail : n ∷ z ≡ flat_map encode cs ++ Edge ∷ [] = cc in
    record { before = []; behind = cs; whole = refl; at_left = ap (λ g. g ∷ []) head; at_right = tail; free = inl refl }
cut cs (g ∷ x) m n z e free = by m free (append_assoc x (m ∷ []) (n ∷ z)) e
  where
    by : (m : Bound Mark) → IsFree m → (x ++ m ∷ []) ++ n ∷ z ≡ x ++ (m ∷ (n ∷ z)) → written cs ≡ ((g ∷ x) ++ m ∷ []) ++ n ∷ z → Cut cs (g ∷ x) m n z
    by Edge free same e =
        let e' : Edge ∷ (flat_map encode cs ++ Edge ∷ []) ≡ g ∷ ((x ++ Edge ∷ []) ++ n ∷ z) = e in
        let tail : flat_map encode cs ++ Edge ∷ [] ≡ (x ++ Edge ∷ []) ++ n ∷ z = cc in
        absurd (cut_edge cs x n z (tail ∙ same))
    by (Inner (Copy s)) free same e =
        let e' : Edge ∷ (flat_map encode cs ++ Edge ∷ []) ≡ g ∷ ((x ++ Inner (Copy s) ∷ []) ++ n ∷ z) = e in
        let head : g ≡ Edge = cc in
        let tail : flat_map encode cs ++ Edge ∷ [] ≡ (x ++ Inner (Copy s) ∷ []) ++ n ∷ z = cc in
        let r = locate encode cs (Edge ∷ []) x (Inner (Copy s)) (n ∷ z) (edge_not_inner (Copy s)) (tail ∙ same) in
        let here = copy_here r.piece s r.left r.right r.inside in
        let is : r.piece ≡ copied s = here.0 in
        let left : r.left ≡ [] = here.1 in
        let right : r.right ≡ [] = here.2 in
        record {
          before = r.before ++ copied s ∷ [];
          behind = r.behind;
          whole = r.whole ∙ ap (λ q. r.before ++ q ∷ r.behind) is ∙ sym (append_assoc r.before (copied s ∷ []) r.behind);
          at_left = ap (λ h. h ∷ (x ++ Inner (Copy s) ∷ [])) head ∙ ap (λ v. Edge ∷ (v ++ Inner (Copy s) ∷ [])) (r.at_left ∙ ap (λ v. flat_map encode r.before ++ v) left ∙ append-nil (flat_map encode r.before))
              ∙ ap (λ v. Edge ∷ v) (sym (flat_map-append encode r.before (copied s ∷ [])));
          at_right = r.at_right ∙ ap (λ v. v ++ (flat_map encode r.behind ++ Edge ∷ [])) right;
          free = inr (r.before, s, refl);
        }
    by (Inner (Up s)) free same e = absurd free
    by (Inner (Low s)) free same e = absurd free
    by (Inner (Same s)) free same e = absurd free
    by (Inner (Open k)) free same e = absurd free
    by (Inner (Close k)) free same e = absurd free

-- claims that begin with a free mark begin with no insertion
start_free : (behind : List Claim) (n : Bound Mark) (z : List (Bound Mark)) → n ∷ z ≡ flat_map encode behind ++ Edge ∷ [] → IsFree n → FreeStart behind
start_free [] n z e free = inl refl
start_free (copied s ∷ ds) n z e free = inr (s, ds, refl)
start_free (replaced k c r ∷ ds) n z e free = let is : n ≡ Inner (Open k) = cc in absurd (subst IsFree is free)
start_free (marked k b c a ∷ ds) n z e free = let is : n ≡ Inner (Open k) = cc in absurd (subst IsFree is free)

-- so no insertion fills the place
not_filled : (before behind : List Claim) → FreeEnd before → FreeStart behind → IsFilled (map forget before) (map forget behind) → ⊥
not_filled before behind ends starts (inl (front, word, e)) = elim ends [
  | inl none ↦ nil_split front (piece.replaced [] word) [] (sym (ap (map forget) none) ∙ e)
  | inr (fr, s, is) ↦
      let both : map forget fr ++ piece.copied s ∷ [] ≡ front ++ piece.replaced [] word ∷ [] = sym (map-append forget fr (copied s ∷ [])) ∙ sym (ap (map forget) is) ∙ e in
      let clash : piece.copied s ≡ piece.replaced [] word = last_same (map forget fr) front (piece.copied s) (piece.replaced [] word) both in
      cc
]
not_filled before behind ends starts (inr (back, word, e)) = elim starts [
  | inl none ↦ let clash : [] ≡ piece.replaced [] word ∷ back = sym (ap (map forget) none) ∙ e in cc
  | inr (s, ds, is) ↦ let clash : piece.copied s ∷ map forget ds ≡ piece.replaced [] word ∷ back = sym (ap (map forget) is) ∙ e in cc
]

-- the marks beside a free place
end_mark : (before : List Claim) → FreeEnd before → (x : List (Bound Mark)) × (m : Bound Mark) × (x ++ m ∷ [] ≡ Edge ∷ flat_map encode before) × IsFree m
end_mark before (inl none) = ([], Edge, ap (λ a. Edge ∷ flat_map encode a) (sym none), tt)
end_mark before (inr (front, s, is)) =
    (Edge ∷ flat_map encode front, Inner (Copy s), ap (λ v. Edge ∷ v) (sym (flat_map-append encode front (copied s ∷ []))) ∙ ap (λ a. Edge ∷ flat_map encode a) (sym is), tt)

start_mark : (behind : List Claim) → FreeStart behind → (n : Bound Mark) × (z : List (Bound Mark)) × (n ∷ z ≡ flat_map encode behind ++ Edge ∷ []) × IsFree n
start_mark behind (inl none) = (Edge, [], ap (λ a. flat_map encode a ++ Edge ∷ []) (sym none), tt)
start_mark behind (inr (s, ds, is)) = (Inner (Copy s), flat_map encode ds ++ Edge ∷ [], ap (λ a. flat_map encode a ++ Edge ∷ []) (sym is), tt)

-- a claim of a replacement has a number
by_of : (c : Claim) (a b : List Sym) → forget c ≡ piece.replaced a b → (k : ℕ) × IsBy k c
by_of (copied s) a b e = let clash : piece.copied s ≡ piece.replaced a b = e in absurd (cc)
by_of (replaced k c r) a b e = (k, refl)
by_of (marked k b c a) d e f = (k, refl)

module _ {P : Type 0} (of : Rules P) (syms : List Sym) (places : List P) (inserts : (p : P) → Contains places p → InsertsOnly of p) where
  abbrev Is : Claim → Type 0
  Is c = IsClaim of syms places c

  claim_at : (cs before : List Claim) (c : Claim) (behind : List Claim) → All Is cs → cs ≡ before ++ c ∷ behind → Is c
  claim_at cs before c behind all whole = All-contains Is cs c all (subst (λ z. Contains z c) (sym whole) (Contains-append_right before (c ∷ behind) c (Contains-head c behind)))

  -- a claim that isn't copied is an insertion
  inserted : (c : Claim) (k : ℕ) → Is c → IsBy k c → (r : List Sym) × (forget c ≡ piece.replaced [] r)
  inserted (copied s) k is by = absurd by
  inserted (replaced j c r) k (p, at, does) by = (r, ap (λ u. piece.replaced u r) ((inserts p (Contains-from_slice_get places j p at)).replaces c r does))
  inserted (marked j b c a) k (p, at, does) by = absurd ((inserts p (Contains-from_slice_get places j p at)).surrounds b c a does)

  two_up : (cs : List Claim) → All Is cs → ((before : List (Piece Sym)) (one two : List Sym) (behind : List (Piece Sym)) → map forget cs ≡ before ++ piece.replaced [] one ∷ piece.replaced [] two ∷ behind → ⊥) → NoTwo (written cs)
  two_up cs all once x j k y e =
      let q = close_place cs j x (Inner (Open k) ∷ y) e in
      second q.before q.piece q.behind q.whole q.by q.at
    where
      pair : (before : List Claim) (c d : Claim) (ds : List Claim) (i : ℕ) → cs ≡ before ++ c ∷ (d ∷ ds) → IsBy j c → IsBy i d → ⊥
      pair before c d ds i whole by also =
          let first = inserted c j (claim_at cs before c (d ∷ ds) all whole) by in
          let later = inserted d i (claim_at cs (before ++ c ∷ []) d ds all (whole ∙ sym (append_assoc before (c ∷ []) (d ∷ ds)))) also in
          once (map forget before) first.0 later.0 (map forget ds)
          (ap (map forget) whole ∙ map-append forget before (c ∷ (d ∷ ds)) ∙ ap (λ q. map forget before ++ q ∷ (forget d ∷ map forget ds)) first.1 ∙ ap (λ q. map forget before ++ piece.replaced [] first.0 ∷ (q ∷ map forget ds)) later.1)

      second : (before : List Claim) (c : Claim) (behind : List Claim) → cs ≡ before ++ c ∷ behind → IsBy j c → Inner (Open k) ∷ y ≡ flat_map encode behind ++ Edge ∷ [] → ⊥
      second before c [] whole by at = let clash : Inner (Open k) ∷ y ≡ Edge ∷ [] = at in cc
      second before c (copied s ∷ ds) whole by at = let clash : Inner (Open k) ∷ y ≡ Inner (Copy s) ∷ (flat_map encode ds ++ Edge ∷ []) = at in cc
      second before c (replaced i a r ∷ ds) whole by at = pair before c (replaced i a r) ds i whole by refl
      second before c (marked i b a d ∷ ds) whole by at = pair before c (marked i b a d) ds i whole by refl

  gap_up : (cs : List Claim) → IsObligatory syms (ReplacesAt of places) (AppliesAt of places) (map forget cs) → (p : P) → Contains places p → LeavesNoGap (LeftHolds of p) (RightHolds of p) (written cs)
  gap_up cs must p among x m n z e free_m free_n l h =
      let q = cut cs x m n z e free_m in
      let starts = start_free q.behind n z q.at_right free_n in
      let held : HoldsAt of syms places p q.before q.behind = (
        subst (of.left p) (ap (reading (on_left (of.side p))) q.at_left ∙ left_is of syms places p q.before) l,
        subst (of.right p) (ap (reading (on_right (of.side p))) q.at_right ∙ right_is of syms places p q.behind) h,
      ) in
      not_filled q.before q.behind q.free starts
      (must (map forget q.before) [] (map forget q.behind) (ap (map forget) q.whole ∙ map-append forget q.before q.behind) (p, among, (inserts p among).any, holds_there of places syms p q.before q.behind held)).1

  two_down : (cs : List Claim) → NoTwo (written cs) → (before : List (Piece Sym)) (one two : List Sym) (behind : List (Piece Sym)) → map forget cs ≡ before ++ piece.replaced [] one ∷ piece.replaced [] two ∷ behind → ⊥
  two_down cs none before one two behind is =
      let r = split_claims cs before (piece.replaced [] one ∷ piece.replaced [] two ∷ behind) is in
      let f = first_claim r.1 (piece.replaced [] one) (piece.replaced [] two ∷ behind) r.4 in
      let g = first_claim f.1 (piece.replaced [] two) behind f.4 in
      let whole : cs ≡ r.0 ++ f.0 ∷ f.1 = r.2 ∙ ap (λ z. r.0 ++ z) f.2 in
      let j = by_of f.0 [] one (sym f.3) in
      let k = by_of g.0 [] two (sym g.3) in
      let c = written_closes cs r.0 f.1 f.0 j.0 whole j.1 in
      let o = opens g.0 k.0 k.1 in
      none c.0 j.0 k.0 ((o.0 ++ flat_map encode g.1) ++ Edge ∷ [])
      (c.1 ∙ ap (λ ds. c.0 ++ Inner (Close j.0) ∷ (flat_map encode ds ++ Edge ∷ [])) g.2 ∙ ap (λ v. c.0 ++ Inner (Close j.0) ∷ ((v ++ flat_map encode g.1) ++ Edge ∷ [])) o.1)

  -- whether an insertion stands at the end, or at the beginning
  end_of : (before : List Claim) → All Is before → FreeEnd before ⊎ ((front : List (Piece Sym)) × (word : List Sym) × (map forget before ≡ front ++ piece.replaced [] word ∷ []))
  end_of before all = elim (last_cases before) as (λ _. FreeEnd before ⊎ ((front : List (Piece Sym)) × (word : List Sym) × (map forget before ≡ front ++ piece.replaced [] word ∷ []))) [
    | inl none ↦ inl (inl none)
    | inr (front, c, is) ↦ last front c is (claim_at before front c [] all is)
  ]
    where
      ended : (front : List Claim) (c : Claim) (k : ℕ) → before ≡ front ++ c ∷ [] → Is c → IsBy k c → (fr : List (Piece Sym)) × (word : List Sym) × (map forget before ≡ fr ++ piece.replaced [] word ∷ [])
      ended front c k is held by = let r = inserted c k held by in (map forget front, r.0, ap (map forget) is ∙ map-append forget front (c ∷ []) ∙ ap (λ q. map forget front ++ q ∷ []) r.1)

      last : (front : List Claim) (c : Claim) → before ≡ front ++ c ∷ [] → Is c → FreeEnd before ⊎ ((fr : List (Piece Sym)) × (word : List Sym) × (map forget before ≡ fr ++ piece.replaced [] word ∷ []))
      last front (copied s) is held = inl (inr (front, s, is))
      last front (replaced k a r) is held = inr (ended front (replaced k a r) k is held refl)
      last front (marked k b a d) is held = inr (ended front (marked k b a d) k is held refl)

  start_of : (behind : List Claim) → All Is behind → FreeStart behind ⊎ ((back : List (Piece Sym)) × (word : List Sym) × (map forget behind ≡ piece.replaced [] word ∷ back))
  start_of [] all = inl (inl refl)
  start_of (copied s ∷ ds) all = inl (inr (s, ds, refl))
  start_of (replaced k a r ∷ ds) all = let t = inserted (replaced k a r) k (claim_at (replaced k a r ∷ ds) [] (replaced k a r) ds all refl) refl in inr (map forget ds, t.0, ap (λ q. q ∷ map forget ds) t.1)
  start_of (marked k b a d ∷ ds) all = let t = inserted (marked k b a d) k (claim_at (marked k b a d ∷ ds) [] (marked k b a d) ds all refl) refl in inr (map forget ds, t.0, ap (λ q. q ∷ map forget ds) t.1)

  filled_down : (cs a b : List Claim) (p : P) → All Is a → All Is b → cs ≡ a ++ b → LeavesNoGap (LeftHolds of p) (RightHolds of p) (written cs) → HoldsAt of syms places p a b → IsFilled (map forget a) (map forget b)
  filled_down cs a b p all_a all_b whole none held = elim (end_of a all_a) as (λ _. IsFilled (map forget a) (map forget b)) [
    | inr ended ↦ inl ended
    | inl ends ↦ elim (start_of b all_b) as (λ _. IsFilled (map forget a) (map forget b)) [
      | inr begun ↦ inr begun
      | inl starts ↦
          let x = end_mark a ends in
          let z = start_mark b starts in
          let is : written cs ≡ (x.0 ++ x.1 ∷ []) ++ z.0 ∷ z.1 = ap written whole ∙ joined a b ∙ ap (λ v. v ++ (flat_map encode b ++ Edge ∷ [])) (sym x.2) ∙ ap (λ v. (x.0 ++ x.1 ∷ []) ++ v) (sym z.2) in
          absurd (none x.0 x.1 z.0 z.1 is x.3 z.3
          (subst (of.left p) (sym (ap (reading (on_left (of.side p))) x.2 ∙ left_is of syms places p a)) held.0)
          (subst (of.right p) (sym (ap (reading (on_right (of.side p))) z.2 ∙ right_is of syms places p b)) held.1))
    ]
  ]
    where
      joined : (a b : List Claim) → written (a ++ b) ≡ (Edge ∷ flat_map encode a) ++ (flat_map encode b ++ Edge ∷ [])
      joined a b = ap (λ v. Edge ∷ (v ++ Edge ∷ [])) (flat_map-append encode a b) ∙ ap (λ v. Edge ∷ v) (append_assoc (flat_map encode a) (flat_map encode b) (Edge ∷ []))

  all_part : (a b cs : List Claim) → cs ≡ a ++ b → All Is cs → All Is a × All Is b
  all_part a b cs whole all = parts a (subst (All Is) whole all)
    where
      parts : (a : List Claim) → All Is (a ++ b) → All Is a × All Is b
      parts [] h = (All-nil Is, h)
      parts (c ∷ a) h = let r = parts a (All-tail Is c (a ++ b) h) in (All-cons Is c a (All-head Is c (a ++ b) h) r.0, r.1)

  obliged_down : (cs : List Claim) → IsClaimed of syms places cs → ((k : ℕ) (p : P) → slice_get places k ≡ Some p → LeavesNoGap (LeftHolds of p) (RightHolds of p) (written cs)) → IsObligatory syms (ReplacesAt of places) (AppliesAt of places) (map forget cs)
  obliged_down cs derives none before c behind is (p, among, centre, holds) =
      let empty : c ≡ [] = (inserts p among).centre c centre in
      let whole : map forget cs ≡ before ++ behind = is ∙ ap (λ u. before ++ (map piece.copied u ++ behind)) empty in
      let r = split_claims cs before behind whole in
      let parts = all_part r.0 r.1 cs r.2 derives.lawful in
      let n = slice_get_from_Contains places p among in
      let held : HoldsAt of syms places p r.0 r.1 = holds_back of places syms p r.0 r.1 (subst₂ (λ y z. HoldsBetween of p y z) r.3 r.4 holds) in
      (empty, subst₂ (λ y z. IsFilled y z) (sym r.3) (sym r.4) (filled_down cs r.0 r.1 p parts.0 parts.1 r.2 (none n.0 p n.1) held))

  up : (optional : Bool) (u w : List Sym) → IsRewritten syms (ReplacesAt of places) (AppliesAt of places) optional u w
      → (z : List (Bound Mark)) × IsFilledWord of syms places optional z × (filter_map (symbol_of upper_of) z ≡ u) × (filter_map (symbol_of lower_of) z ≡ w)
  up optional u w (ps, derives, must, above, below) =
      let r = derived_claims of places syms ps derives in
      let cs = r.0 in
      let b = blocks_of of syms places cs r.2.lawful in (
        written cs,
        (
          (b.0, ap (λ v. Edge ∷ (v ++ Edge ∷ [])) b.1, b.2),
          two_up cs r.2.lawful (λ before one two behind e. derives.1 before one two behind (sym r.1 ∙ e)),
          λ k p at. record {
            left = λ x y e. let q = open_place cs k x y e in subst (of.left p) (sym (ap (reading (on_left (of.side p))) q.at ∙ left_is of syms places p q.before)) (r.2.in_context q.before q.piece q.behind k p q.whole q.by at).0;
            right = λ x y e. let q = close_place cs k x y e in subst (of.right p) (sym (ap (reading (on_right (of.side p))) q.at ∙ right_is of syms places p q.behind)) (r.2.in_context q.before q.piece q.behind k p q.whole q.by at).1;
            gap = λ is. gap_up cs (subst (IsObligatory syms (ReplacesAt of places) (AppliesAt of places)) (sym r.1) (must is)) p (Contains-from_slice_get places k p at);
          },
        ),
        side_of_written reads_upper cs ∙ sym (uppers_forget cs) ∙ ap uppers r.1 ∙ sym above,
        side_of_written reads_lower cs ∙ sym (lowers_forget cs) ∙ ap lowers r.1 ∙ sym below,
      )

  down : (optional : Bool) (u w : List Sym) → ((z : List (Bound Mark)) × IsFilledWord of syms places optional z × (filter_map (symbol_of upper_of) z ≡ u) × (filter_map (symbol_of lower_of) z ≡ w))
      → IsRewritten syms (ReplacesAt of places) (AppliesAt of places) optional u w
  down optional u w (z, (well, none, kept), above, below) =
      let c = claims_of of syms places well.0 well.2 in
      let cs = c.0 in
      let is : z ≡ written cs = well.1 ∙ ap (λ v. Edge ∷ (v ++ Edge ∷ [])) c.1 in
      let two : NoTwo (written cs) = subst NoTwo is none in
      let filled : (k : ℕ) (p : P) → slice_get places k ≡ Some p → IsFilledAt of optional k p (written cs) = λ k p at. subst (IsFilledAt of optional k p) is (kept k p at) in
      let derives : IsClaimed of syms places cs = record {
        lawful = c.2;
        in_context = λ before d behind k p whole by at.
            let o = written_opens cs before behind d k whole by in
            let e = written_closes cs before behind d k whole by in (
              subst (of.left p) (left_is of syms places p before) ((filled k p at).left (Edge ∷ flat_map encode before) o.0 o.1),
              subst (of.right p) (right_is of syms places p behind) ((filled k p at).right e.0 (flat_map encode behind ++ Edge ∷ []) e.1),
            );
      } in (
        map forget cs,
        (claimed_each of places syms cs derives, two_down cs two),
        λ must. obliged_down cs derives (λ k p at. (filled k p at).gap must),
        sym above ∙ ap (filter_map (symbol_of upper_of)) is ∙ side_of_written reads_upper cs ∙ sym (uppers_forget cs),
        sym below ∙ ap (filter_map (symbol_of lower_of)) is ∙ side_of_written reads_lower cs ∙ sym (lowers_forget cs),
      )

pub insertions_are_marked : InsertionsAreMarkedWords
insertions_are_marked P of places symbols optional u w inserts = (up of symbols places inserts optional u w, down of symbols places inserts optional u w)
