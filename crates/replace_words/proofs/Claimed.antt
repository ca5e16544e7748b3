-- What places rewrite, claims of them do.
use Rattle.std.proofs.Common.{◌≡◌, ◌↔◌, ℕ, Bool, false, List, [], ◌∷◌, ◌++◌, Some, map, refl, sym, ap, subst, ◌∙◌, inl, inr, append_assoc, append-nil}
use Rattle.std.specs.Prelude.{slice_get, All}
use Rattle.std.specs.List.{Contains, flat_map}
use Rattle.std.proofs.Math.Path.{subst₂}
use Rattle.std.proofs.lemmas.List.Elements.{All-nil, All-cons, All-head, All-tail}
use Rattle.std.proofs.lemmas.List.{map-append}
use Rattle.fsm_base.specs.declared.letters.Bound.TheVariants.{Edge, Inner}
use Rattle.fsm_base.specs.declared.letters.Sym.{Sym}
use Rattle.regex_ast.specs.declared.expr.Side.{Side}
use Rattle.regex_ast.specs.declared.expr.Side.TheVariants.{UpUp, LowUp, UpLow, LowLow}
use Rattle.word_relations.proofs.Places.{Contains-from_slice_get, slice_get_from_Contains}
use Rattle.expr_meaning.specs.Replacement as piece
use Rattle.expr_meaning.specs.Replacement.{Piece, uppers, lowers, read_before, read_behind, IsPiece, IsDerivation, IsObligatory, IsRewritten}
use Rattle.replace_words.specs.Claims.{Claim, copied, replaced, marked, IsBy, upper, lower, left_side, right_side, IsClaim, HoldsAt, IsClaimed, Claims}
use Rattle.replace_words.specs.Places.{Rules, HasNoEmptyCentre, HoldsBetween, Makes, ReplacesAt, AppliesAt}
use Rattle.replace_words.specs.Laws.{RewritingsAreMarkedWords}
use Rattle.replace_words.proofs.Bridge.{bridge}

-- the piece that a claim is of
abbrev pub forget : Claim → Piece Sym
forget (copied s) = piece.copied s
forget (replaced k c r) = piece.replaced c r
forget (marked k b c a) = piece.replaced c (b ++ (c ++ a))

pub uppers_forget : (cs : List Claim) → uppers (map forget cs) ≡ flat_map upper cs
uppers_forget [] = refl
uppers_forget (copied s ∷ cs) = ap (λ (u : List Sym). s ∷ u) (uppers_forget cs)
uppers_forget (replaced k c r ∷ cs) = ap (λ (u : List Sym). c ++ u) (uppers_forget cs)
uppers_forget (marked k b c a ∷ cs) = ap (λ (u : List Sym). c ++ u) (uppers_forget cs)

pub lowers_forget : (cs : List Claim) → lowers (map forget cs) ≡ flat_map lower cs
lowers_forget [] = refl
lowers_forget (copied s ∷ cs) = ap (λ (u : List Sym). s ∷ u) (lowers_forget cs)
lowers_forget (replaced k c r ∷ cs) = ap (λ (u : List Sym). r ++ u) (lowers_forget cs)
lowers_forget (marked k b c a ∷ cs) = ap (λ (u : List Sym). u ++ lowers (map forget cs)) (sym (append_assoc b c a)) ∙ ap (λ (u : List Sym). b ++ c ++ a ++ u) (lowers_forget cs)

before_forget : (side : Side) (cs : List Claim) → read_before side (map forget cs) ≡ flat_map (left_side side) cs
before_forget UpUp cs = uppers_forget cs
before_forget LowUp cs = lowers_forget cs
before_forget UpLow cs = uppers_forget cs
before_forget LowLow cs = lowers_forget cs

behind_forget : (side : Side) (cs : List Claim) → read_behind side (map forget cs) ≡ flat_map (right_side side) cs
behind_forget UpUp cs = uppers_forget cs
behind_forget LowUp cs = uppers_forget cs
behind_forget UpLow cs = lowers_forget cs
behind_forget LowLow cs = lowers_forget cs

-- claims of pieces in parts
pub split_claims : (cs : List Claim) (x y : List (Piece Sym)) → map forget cs ≡ x ++ y → (a : List Claim) × (b : List Claim) × (cs ≡ a ++ b) × (x ≡ map forget a) × (y ≡ map forget b)
split_claims cs [] y is = ([], cs, refl, refl, sym is)
split_claims [] (p ∷ x) y is = let e : [] ≡ p ∷ (x ++ y) = is in absurd (cc)
split_claims (c ∷ cs) (p ∷ x) y is =
    let e : forget c ∷ map forget cs ≡ p ∷ (x ++ y) = is in
    let head : p ≡ forget c = cc in
    let tail : map forget cs ≡ x ++ y = cc in
    let r = split_claims cs x y tail in
    (c ∷ r.0, r.1, ap (λ (z : List Claim). c ∷ z) r.2, ap (λ (q : Piece Sym). q ∷ x) head ∙ ap (λ (z : List (Piece Sym)). forget c ∷ z) r.3, r.4)

pub first_claim : (cs : List Claim) (p : Piece Sym) (rest : List (Piece Sym)) → p ∷ rest ≡ map forget cs → (c : Claim) × (ds : List Claim) × (cs ≡ c ∷ ds) × (p ≡ forget c) × (rest ≡ map forget ds)
first_claim [] p rest is = let e : p ∷ rest ≡ [] = is in absurd (cc)
first_claim (c ∷ ds) p rest is =
    let e : p ∷ rest ≡ forget c ∷ map forget ds = is in
    let head : p ≡ forget c = cc in
    let tail : rest ≡ map forget ds = cc in
    (c, ds, refl, head, tail)

pub copied_claims : (w : List Sym) (cs : List Claim) → map piece.copied w ≡ map forget cs → cs ≡ map copied w
copied_claims [] [] is = refl
copied_claims [] (c ∷ cs) is = let e : [] ≡ forget c ∷ map forget cs = is in absurd (cc)
copied_claims (s ∷ w) [] is = let e : piece.copied s ∷ map piece.copied w ≡ [] = is in absurd (cc)
copied_claims (s ∷ w) (copied t ∷ cs) is =
    let e : piece.copied s ∷ map piece.copied w ≡ piece.copied t ∷ map forget cs = is in
    let head : t ≡ s = cc in
    let tail : map piece.copied w ≡ map forget cs = cc in
    ap (λ (x : Sym). copied x ∷ cs) head ∙ ap (λ (z : List Claim). copied s ∷ z) (copied_claims w cs tail)
copied_claims (s ∷ w) (replaced k c r ∷ cs) is = let e : piece.copied s ∷ map piece.copied w ≡ piece.replaced c r ∷ map forget cs = is in absurd (cc)
copied_claims (s ∷ w) (marked k b c a ∷ cs) is = let e : piece.copied s ∷ map piece.copied w ≡ piece.replaced c (b ++ (c ++ a)) ∷ map forget cs = is in absurd (cc)

pub forget_copies : (w : List Sym) → map forget (map copied w) ≡ map piece.copied w
forget_copies [] = refl
forget_copies (s ∷ w) = ap (λ (z : List (Piece Sym)). piece.copied s ∷ z) (forget_copies w)

all_at : (Q : Claim → Type 0) (cs before : List Claim) (c : Claim) (behind : List Claim) → All Q cs → cs ≡ before ++ c ∷ behind → Q c
all_at Q cs before c behind all is = among before (subst (All Q) is all)
  where
    among : (front : List Claim) → All Q (front ++ c ∷ behind) → Q c
    among [] h = All-head Q c behind h
    among (d ∷ front) h = among front (All-tail Q d (front ++ c ∷ behind) h)

nothing_there : (x : List Claim) (c : Claim) (y : List Claim) → [] ≡ x ++ c ∷ y → ⊥
nothing_there [] c y is = let e : [] ≡ c ∷ y = is in cc
nothing_there (d ∷ x) c y is = let e : [] ≡ d ∷ (x ++ c ∷ y) = is in cc

module _ {P : Type 0} (of : Rules P) (places : List P) where
  abbrev Holds_by : P → List (Piece Sym) → List (Piece Sym) → Type 0
  Holds_by p before behind = HoldsBetween of p before behind

  pub holds_there : (syms : List Sym) (p : P) (before behind : List Claim) → HoldsAt of syms places p before behind → Holds_by p (map forget before) (map forget behind)
  holds_there syms p before behind h = (
    subst (λ (u : List Sym). of.left p (Edge ∷ map Inner u)) (sym (before_forget (of.side p) before)) h.0,
    subst (λ (u : List Sym). of.right p (map Inner u ++ Edge ∷ [])) (sym (behind_forget (of.side p) behind)) h.1,
  )

  pub holds_back : (syms : List Sym) (p : P) (before behind : List Claim) → Holds_by p (map forget before) (map forget behind) → HoldsAt of syms places p before behind
  holds_back syms p before behind h = (
    subst (λ (u : List Sym). of.left p (Edge ∷ map Inner u)) (before_forget (of.side p) before) h.0,
    subst (λ (u : List Sym). of.right p (map Inner u ++ Edge ∷ [])) (behind_forget (of.side p) behind) h.1,
  )

  module _ (alphabet : List Sym) where
    abbrev R : List (Piece Sym) → List Sym → List Sym → List (Piece Sym) → Type 0
    R = ReplacesAt of places

    abbrev A : List (Piece Sym) → List Sym → List (Piece Sym) → Type 0
    A = AppliesAt of places

    abbrev Is : Claim → Type 0
    Is c = IsClaim of alphabet places c

    -- the place that a claim names holds between these pieces
    abbrev Holds : List (Piece Sym) → Claim → List (Piece Sym) → Type 0
    Holds before c behind = (k : ℕ) (p : P) → IsBy k c → slice_get places k ≡ Some p → Holds_by p before behind

    piece_of : (before : List (Piece Sym)) (c : Claim) (behind : List (Piece Sym)) → Is c → Holds before c behind → IsPiece alphabet R A before (forget c) behind
    piece_of before (copied s) behind is holds = is
    piece_of before (replaced k c r) behind (p, at, does) holds = (p, Contains-from_slice_get places k p at, inl does, holds k p refl at)
    piece_of before (marked k b c a) behind (p, at, does) holds = (p, Contains-from_slice_get places k p at, inr (b, a, refl, does), holds k p refl at)

    one_place : (k j : ℕ) (p q : P) → slice_get places k ≡ Some p → j ≡ k → slice_get places j ≡ Some q → p ≡ q
    one_place k j p q here same there =
        let e : Some p ≡ Some q = sym here ∙ ap (slice_get places) (sym same) ∙ there in
        cc

    claim_of : (before : List (Piece Sym)) (q : Piece Sym) (behind : List (Piece Sym)) → IsPiece alphabet R A before q behind → (c : Claim) × (forget c ≡ q) × Is c × Holds before c behind
    claim_of before (piece.copied s) behind h = (copied s, refl, h, λ k p by at. absurd by)
    claim_of before (piece.replaced c r) behind (p, among, does, holds) =
        let n = slice_get_from_Contains places p among in
        let here : (j : ℕ) (q : P) → j ≡ n.0 → slice_get places j ≡ Some q → Holds_by q before behind =
        λ j q same at. subst (λ (x : P). Holds_by x before behind) (one_place n.0 j p q n.1 same at) holds in
        elim does as (λ _. (d : Claim) × (forget d ≡ piece.replaced c r) × Is d × Holds before d behind) [
          | inl plain ↦ (replaced n.0 c r, refl, (p, n.1, plain), here)
          | inr (b, a, whole, markup) ↦ (marked n.0 b c a, ap (λ (u : List Sym). piece.replaced c u) (sym whole), (p, n.1, markup), here)
        ]

    -- the claims of a derivation's pieces
    abbrev Claimed : List (Piece Sym) → List Claim → Type 0
    Claimed before cs = (x : List Claim) (c : Claim) (y : List Claim) → cs ≡ x ++ c ∷ y → Holds (before ++ map forget x) c (map forget y)

    claims_of : (all : List (Piece Sym)) → ((before : List (Piece Sym)) (q : Piece Sym) (behind : List (Piece Sym)) → all ≡ before ++ q ∷ behind → IsPiece alphabet R A before q behind)
        → (before rest : List (Piece Sym)) → all ≡ before ++ rest → (cs : List Claim) × (map forget cs ≡ rest) × All Is cs × Claimed before cs
    claims_of all each before [] is = ([], refl, All-nil Is, λ x c y e. absurd (nothing_there x c y e))
    claims_of all each before (q ∷ rest) is =
        let here = claim_of before q rest (each before q rest is) in
        let later = claims_of all each (before ++ q ∷ []) rest (is ∙ sym (append_assoc before (q ∷ []) rest)) in (
          here.0 ∷ later.0,
          ap (λ (p : Piece Sym). p ∷ map forget later.0) here.1 ∙ ap (λ (z : List (Piece Sym)). q ∷ z) later.1,
          All-cons Is here.0 later.0 here.2 later.2,
          claimed here.0 later.0 here.1 later.1 here.3 later.3,
        )
      where
        claimed : (c : Claim) (cs : List Claim) → forget c ≡ q → map forget cs ≡ rest → Holds before c rest → Claimed (before ++ q ∷ []) cs → Claimed before (c ∷ cs)
        claimed c cs first same holds more [] d y e =
            let is' : c ∷ cs ≡ d ∷ y = e in
            let head : c ≡ d = cc in
            let tail : cs ≡ y = cc in
            subst₂ (λ (u v : List (Piece Sym)). Holds u d v) (sym (append-nil before)) (sym same ∙ ap (map forget) tail) (subst (λ (x : Claim). Holds before x rest) head holds)
        claimed c cs first same holds more (b ∷ x) d y e =
            let is' : c ∷ cs ≡ b ∷ (x ++ d ∷ y) = e in
            let head : c ≡ b = cc in
            let tail : cs ≡ x ++ d ∷ y = cc in
            subst (λ (u : List (Piece Sym)). Holds u d (map forget y))
            (append_assoc before (q ∷ []) (map forget x) ∙ ap (λ (p : Piece Sym). before ++ (p ∷ map forget x)) (sym first ∙ ap forget head))
            (more x d y tail)

    -- the claims of a derivation
    pub derived_claims : (ps : List (Piece Sym)) → IsDerivation alphabet R A ps → (cs : List Claim) × (map forget cs ≡ ps) × IsClaimed of alphabet places cs
    derived_claims ps derives =
        let r = claims_of ps derives.0 [] ps refl in (
          r.0,
          r.1,
          record {
            lawful = r.2;
            in_context = λ before c behind k p whole by at. holds_back alphabet p before behind (r.3 before c behind whole k p by at);
          },
        )

    -- copied symbols between claims are copied pieces
    pub copied_pieces : (ps : List (Piece Sym)) (cs before : List Claim) (c : List Sym) (behind : List Claim) → map forget cs ≡ ps → cs ≡ before ++ (map copied c ++ behind) → ps ≡ map forget before ++ (map piece.copied c ++ map forget behind)
    copied_pieces ps cs before c behind same whole =
        sym same ∙ ap (map forget) whole ∙ map-append forget before (map copied c ++ behind)
        ∙ ap (λ (z : List (Piece Sym)). map forget before ++ z) (map-append forget (map copied c) behind ∙ ap (λ (z : List (Piece Sym)). z ++ map forget behind) (forget_copies c))

    -- claims are a derivation of pieces
    pub claimed_each : (cs : List Claim) → IsClaimed of alphabet places cs → (before : List (Piece Sym)) (q : Piece Sym) (behind : List (Piece Sym)) → map forget cs ≡ before ++ q ∷ behind → IsPiece alphabet R A before q behind
    claimed_each cs derives before q behind is =
        let r = split_claims cs before (q ∷ behind) is in
        let f = first_claim r.1 q behind r.4 in
        let whole : cs ≡ r.0 ++ f.0 ∷ f.1 = r.2 ∙ ap (λ (z : List Claim). r.0 ++ z) f.2 in
        let here = piece_of (map forget r.0) f.0 (map forget f.1) (all_at Is cs r.0 f.0 f.1 derives.lawful whole)
        (λ k p by at. holds_there alphabet p r.0 f.1 (derives.in_context r.0 f.0 f.1 k p whole by at)) in
        subst (λ (z : List (Piece Sym)). IsPiece alphabet R A z q behind) (sym r.3)
        (subst (λ (x : Piece Sym). IsPiece alphabet R A (map forget r.0) x behind) (sym f.3) (subst (λ (z : List (Piece Sym)). IsPiece alphabet R A (map forget r.0) (forget f.0) z) (sym f.4) here))

    module _ (no_empty : (p : P) → Contains places p → HasNoEmptyCentre of p) where
      none_made : (p : P) (r : List Sym) → Contains places p → Makes of p [] r → ⊥
      none_made p r among (inl plain) = (no_empty p among).replaces r plain
      none_made p r among (inr (b, a, whole, markup)) = (no_empty p among).surrounds b a markup

      there : (optional : Bool) (u w : List Sym) → IsRewritten alphabet R A optional u w → Claims of alphabet places optional u w
      there optional u w (ps, derives, obligatory, up, low) =
          let r = derived_claims ps derives in
          record {
            pieces = r.0;
            derives = r.2;
            obligatory = λ is before c behind p whole among centre holds.
                let none = (obligatory is (map forget before) c (map forget behind) (copied_pieces ps r.0 before c behind r.1 whole) (p, among, centre, holds_there alphabet p before behind holds)).0 in
                (no_empty p among).centre (subst (of.centre p) none centre);
            uppers = sym (uppers_forget r.0) ∙ ap uppers r.1 ∙ sym up;
            lowers = sym (lowers_forget r.0) ∙ ap lowers r.1 ∙ sym low;
          }

      back : (optional : Bool) (u w : List Sym) → Claims of alphabet places optional u w → IsRewritten alphabet R A optional u w
      back optional u w t = (map forget t.pieces, (claimed_each t.pieces t.derives, once), obliges, sym t.uppers ∙ sym (uppers_forget t.pieces), sym t.lowers ∙ sym (lowers_forget t.pieces))
        where
          once : (before : List (Piece Sym)) (one two : List Sym) (behind : List (Piece Sym)) → map forget t.pieces ≡ before ++ piece.replaced [] one ∷ piece.replaced [] two ∷ behind → ⊥
          once before one two behind is =
              let h = claimed_each t.pieces t.derives before (piece.replaced [] one) (piece.replaced [] two ∷ behind) is in
              none_made h.0 one h.1 h.2

          obliges : optional ≡ false → IsObligatory alphabet R A (map forget t.pieces)
          obliges must before c behind is asks =
              let r = split_claims t.pieces before (map piece.copied c ++ behind) is in
              let s = split_claims r.1 (map piece.copied c) behind (sym r.4) in
              let whole : t.pieces ≡ r.0 ++ (map copied c ++ s.1) = r.2 ∙ ap (λ (z : List Claim). r.0 ++ z) (s.2 ∙ ap (λ (z : List Claim). z ++ s.1) (copied_claims c s.0 s.3)) in
              let held = subst₂ (λ (y z : List (Piece Sym)). Holds_by asks.0 y z) r.3 s.4 asks.3 in
              absurd (t.obligatory must r.0 c s.1 asks.0 whole asks.1 asks.2 (holds_back alphabet asks.0 r.0 s.1 held))

      -- places rewrite what claims of them do
      pub rewritten_is_claimed : (optional : Bool) (u w : List Sym) → IsRewritten alphabet R A optional u w ↔ Claims of alphabet places optional u w
      rewritten_is_claimed optional u w = (there optional u w, back optional u w)

pub rewritings_are_marked : RewritingsAreMarkedWords
rewritings_are_marked P of places symbols optional u w no_empty = (
  λ h. (bridge of symbols places (λ p among. (no_empty p among).centre) optional u w).0 ((rewritten_is_claimed of places symbols no_empty optional u w).0 h),
  λ h. (rewritten_is_claimed of places symbols no_empty optional u w).1 ((bridge of symbols places (λ p among. (no_empty p among).centre) optional u w).1 h),
)
