-- Claims of places are their words of marks.
use Rattle.std.proofs.Common.{◌≡◌, true, false, List, [], ◌∷◌, ◌++◌, refl, ap, sym, ◌∙◌, map, subst, inl, inr}
use Rattle.std.specs.Prelude.{All}
use Rattle.std.specs.List.{flat_map}
use Rattle.std.proofs.lemmas.List.Elements.{All-nil, All-cons, All-head, All-tail}
use Rattle.fsm_base.specs.declared.letters.Sym.{Sym}
use Rattle.fsm_base.specs.declared.letters.Bound.{Bound}
use Rattle.fsm_base.specs.declared.letters.Bound.TheVariants.{Edge, Inner}
use Rattle.replace_words.specs.declared.marks.Mark.{Mark}
use Rattle.replace_words.specs.Claims.{Claim, copied, replaced, marked, left_side, right_side, IsClaim, IsClaimed}
use Rattle.replace_words.specs.Places.{Rules}
use Rattle.replace_words.specs.Marked.{encode, written, reading, on_left, on_right, IsBlock, IsMarked}
use Rattle.directed_words.proofs.Encode.{open_place, close_place, written_opens, written_closes}
use Rattle.directed_words.proofs.Reading.{reads_left, reads_right, reading_before, reading_behind}

module _ {P : Type 0} (of : Rules P) (syms : List Sym) (places : List P) where
  abbrev Is : Claim → Type 0
  Is c = IsClaim of syms places c

  abbrev Block : List (Bound Mark) → Type 0
  Block v = IsBlock of syms places v

  block_of : (c : Claim) → Is c → Block (encode c)
  block_of (copied s) h = inl (s, refl, h)
  block_of (replaced k c r) h = inr (k, (h.0, h.1, inl (c, r, refl, h.2)))
  block_of (marked k b c a) h = inr (k, (h.0, h.1, inr (b, c, a, refl, h.2)))

  claim_of : (v : List (Bound Mark)) → Block v → (c : Claim) × (v ≡ encode c) × Is c
  claim_of v (inl h) = (copied h.0, h.1, h.2)
  claim_of v (inr (k, (p, at, inl (c, r, is, does)))) = (replaced k c r, is, (p, at, does))
  claim_of v (inr (k, (p, at, inr (b, c, a, is, does)))) = (marked k b c a, is, (p, at, does))

  pub blocks_of : (cs : List Claim) → All Is cs → (vs : List (List (Bound Mark))) × (flat_map encode cs ≡ flat_map (λ v. v) vs) × All Block vs
  blocks_of [] h = ([], refl, All-nil Block)
  blocks_of (c ∷ cs) h =
      let r = blocks_of cs (All-tail Is c cs h) in
      (encode c ∷ r.0, ap (λ w. encode c ++ w) r.1, All-cons Block (encode c) r.0 (block_of c (All-head Is c cs h)) r.2)

  pub claims_of : (vs : List (List (Bound Mark))) → All Block vs → (cs : List Claim) × (flat_map (λ v. v) vs ≡ flat_map encode cs) × All Is cs
  claims_of [] h = ([], refl, All-nil Is)
  claims_of (v ∷ vs) h =
      let r = claims_of vs (All-tail Block v vs h) in
      let c = claim_of v (All-head Block v vs h) in
      let first : v ≡ encode c.0 = c.1 in
      let rest : flat_map (λ v. v) vs ≡ flat_map encode r.0 = r.1 in
      (c.0 ∷ r.0, cc, All-cons Is c.0 r.0 c.2 r.2)

  pub left_is : (p : P) (before : List Claim) → reading (on_left (of.side p)) (Edge ∷ flat_map encode before) ≡ Edge ∷ map Inner (flat_map (left_side (of.side p)) before)
  left_is p before = reading_before (reads_left (of.side p)) before

  pub right_is : (p : P) (behind : List Claim) → reading (on_right (of.side p)) (flat_map encode behind ++ Edge ∷ []) ≡ map Inner (flat_map (right_side (of.side p)) behind) ++ Edge ∷ []
  right_is p behind = reading_behind (reads_right (of.side p)) behind

  pub marked_up : (cs : List Claim) → IsClaimed of syms places cs → IsMarked of syms places true (written cs)
  marked_up cs d = (
    (let b = blocks_of cs d.lawful in (b.0, ap (λ v. Edge ∷ (v ++ Edge ∷ [])) b.1, b.2)),
    λ k p at. record {
      left = λ x y e.
          let q = open_place cs k x y e in
          subst (of.left p) (sym (ap (reading (on_left (of.side p))) q.at ∙ left_is p q.before)) (d.in_context q.before q.piece q.behind k p q.whole q.by at).0;
      right = λ x y e.
          let q = close_place cs k x y e in
          subst (of.right p) (sym (ap (reading (on_right (of.side p))) q.at ∙ right_is p q.behind)) (d.in_context q.before q.piece q.behind k p q.whole q.by at).1;
      centre = λ is. absurd (let e : true ≡ false = is in cc);
    },
  )

  pub marked_down : (cs : List Claim) → All Is cs → IsMarked of syms places true (written cs) → IsClaimed of syms places cs
  marked_down cs lawful m = record {
    lawful = lawful;
    in_context = λ before c behind k p whole by at.
        let o = written_opens cs before behind c k whole by in
        let z = written_closes cs before behind c k whole by in (
          subst (of.left p) (left_is p before) ((m.1 k p at).left (Edge ∷ flat_map encode before) o.0 o.1),
          subst (of.right p) (right_is p behind) ((m.1 k p at).right z.0 (flat_map encode behind ++ Edge ∷ []) z.1),
        );
  }
