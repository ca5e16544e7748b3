-- Laws of replacement.
use Rattle.std.proofs.Common.{◌≡◌, true, false, List, [], ◌∷◌, ◌++◌, All, map, refl, sym, ap, subst, ◌∙◌, inl, inr, append-nil}
use Rattle.std.specs.List.{Contains}
use Rattle.std.proofs.lemmas.List.{append_assoc, map-append}
use Rattle.std.proofs.lemmas.List.Elements.{All-nil, All-cons, All-head, All-tail}
use Rattle.std.proofs.lemmas.Grind.{flat_map-append}
use Rattle.fsm_base.specs.declared.letters.Bound.{Bound}
use Rattle.fsm_base.specs.declared.letters.Bound.TheVariants.{Inner}
use Rattle.fsm_base.specs.declared.letters.Sym.{Sym}
use Rattle.word_relations.specs.Words.{IsOver, joined}
use Rattle.word_relations.proofs.Members.{Contains-map, Contains-map_cases}
use Rattle.word_relations.specs.Operations.{HasPart}
use Rattle.regex_ast.specs.declared.expr.Atom.{Atom}
use Rattle.regex_ast.specs.declared.expr.Side.{Side}
use Rattle.regex_ast.specs.Terms.{Term, Groups, group, rules, concat, steps, no_term, then_term, no_step, cross_with, no_context, no_mapping, plain, markup, insert, no_group, then_group, Mappings}
use Rattle.expr_meaning.specs.Operators.{inner}
use Rattle.expr_meaning.specs.Replacement.{Piece, copied, replaced, upper, lower, uppers, lowers, IsPiece, IsDerivation, IsObligatory}
use Rattle.expr_meaning.specs.Meaning.{IsCentre, IsMapped, Replaces, Applies}
use Rattle.expr_meaning.specs.Leaves.{stands_for}
use Rattle.expr_meaning.specs.Laws.{Has, Pairs, HasCentre, without, all_replaced, RulesReplaceAll, OptionalRulesLeaveAll, RulesLeaveOthers}
use Rattle.expr_meaning.proofs.Inner.{inner_append, inner_split}

-- pieces that are copied
abbrev copies : List Sym → List (Piece Sym)
copies w = map copied w

uppers_copies : (w : List Sym) → uppers (copies w) ≡ w
uppers_copies [] = refl
uppers_copies (s ∷ w) = ap (λ (u : List Sym). s ∷ u) (uppers_copies w)

lowers_copies : (w : List Sym) → lowers (copies w) ≡ w
lowers_copies [] = refl
lowers_copies (s ∷ w) = ap (λ (u : List Sym). s ∷ u) (lowers_copies w)

-- no replacement stands among copied symbols
only_copies : (w : List Sym) (before : List (Piece Sym)) (c r : List Sym) (behind : List (Piece Sym)) → copies w ≡ before ++ replaced c r ∷ behind → ⊥
only_copies [] [] c r behind is = let e : [] ≡ replaced c r ∷ behind = is in cc
only_copies [] (p ∷ before) c r behind is = let e : [] ≡ p ∷ (before ++ replaced c r ∷ behind) = is in cc
only_copies (s ∷ w) [] c r behind is = let e : copied s ∷ copies w ≡ replaced c r ∷ behind = is in cc
only_copies (s ∷ w) (p ∷ before) c r behind is =
    let e : copied s ∷ copies w ≡ p ∷ (before ++ replaced c r ∷ behind) = is in
    let tail : copies w ≡ before ++ replaced c r ∷ behind = cc in
    only_copies w before c r behind tail

-- a copied symbol of a word over the alphabet is of it
copy_over : (alphabet w : List Sym) → IsOver alphabet w → (before : List (Piece Sym)) (s : Sym) (behind : List (Piece Sym)) → copies w ≡ before ++ copied s ∷ behind → Contains alphabet s
copy_over alphabet [] over [] s behind is = let e : [] ≡ copied s ∷ behind = is in absurd (cc)
copy_over alphabet [] over (p ∷ before) s behind is = let e : [] ≡ p ∷ (before ++ copied s ∷ behind) = is in absurd (cc)
copy_over alphabet (x ∷ w) over [] s behind is =
    let e : copied x ∷ copies w ≡ copied s ∷ behind = is in
    let head : x ≡ s = cc in
    subst (Contains alphabet) head (All-head (Contains alphabet) x w over)
copy_over alphabet (x ∷ w) over (p ∷ before) s behind is =
    let e : copied x ∷ copies w ≡ p ∷ (before ++ copied s ∷ behind) = is in
    let tail : copies w ≡ before ++ copied s ∷ behind = cc in
    copy_over alphabet w (All-tail (Contains alphabet) x w over) before s behind tail

module _ (alphabet : List Sym) (R : List (Piece Sym) → List Sym → List Sym → List (Piece Sym) → Type 0) (A : List (Piece Sym) → List Sym → List (Piece Sym) → Type 0) where
  -- copied symbols are a derivation
  copied_derives : (w : List Sym) → IsOver alphabet w → IsDerivation alphabet R A (copies w)
  copied_derives w over = (each, λ before one two behind is. only_copies w before [] one (replaced [] two ∷ behind) is)
    where
      each : (before : List (Piece Sym)) (p : Piece Sym) (behind : List (Piece Sym)) → copies w ≡ before ++ p ∷ behind → IsPiece alphabet R A before p behind
      each before (copied s) behind is = copy_over alphabet w over before s behind is
      each before (replaced c r) behind is = absurd (only_copies w before c r behind is)

  -- where nothing is replaced, both words are the same
  none_replaced : (all before rest : List (Piece Sym)) → all ≡ before ++ rest → ((before : List (Piece Sym)) (c r : List Sym) (behind : List (Piece Sym)) → all ≡ before ++ replaced c r ∷ behind → ⊥)
      → uppers rest ≡ lowers rest
  none_replaced all before [] is none = refl
  none_replaced all before (copied s ∷ rest) is none =
      ap (λ (u : List Sym). s ∷ u) (none_replaced all (before ++ copied s ∷ []) rest (is ∙ sym (append_assoc before (copied s ∷ []) rest)) none)
  none_replaced all before (replaced c r ∷ rest) is none = absurd (none before c r rest is)

pub optional_leaves : OptionalRulesLeaveAll
optional_leaves alphabet groups w over =
    (copies w, copied_derives alphabet (Replaces stands_for alphabet groups) (Applies stands_for alphabet groups) w over, λ is. let e : true ≡ false = is in absurd (cc), sym (uppers_copies w), sym (lowers_copies w))

module _ (alphabet : List Sym) where
  mapped_centre : (maps : Mappings Atom) (c r : List Sym) → IsMapped stands_for alphabet maps c r → IsCentre stands_for alphabet maps c
  mapped_centre no_mapping c r h = h
  mapped_centre (plain e f maps) c r h = elim h as (λ _. IsCentre stands_for alphabet (plain e f maps) c) [ inl here ↦ inl here.0 | inr later ↦ inr (mapped_centre maps c r later) ]
  mapped_centre (markup e b a maps) c r h = elim h as (λ _. IsCentre stands_for alphabet (markup e b a maps) c) [ inl here ↦ inl here.0 | inr later ↦ inr (mapped_centre maps c r later) ]
  mapped_centre (insert f maps) c r h = elim h as (λ _. IsCentre stands_for alphabet (insert f maps) c) [ inl here ↦ inl here.0 | inr later ↦ inr (mapped_centre maps c r later) ]

  replaced_centre : (groups : Groups Atom) (before behind : List (Piece Sym)) (c r : List Sym) → Replaces stands_for alphabet groups before c r behind → HasCentre alphabet groups c
  replaced_centre no_group before behind c r h = h
  replaced_centre (then_group maps side contexts groups) before behind c r h = elim h as (λ _. HasCentre alphabet (then_group maps side contexts groups) c) [ inl here ↦ inl (mapped_centre maps c r here.0) | inr later ↦ inr (replaced_centre groups before behind c r later) ]

  applied_centre : (groups : Groups Atom) (before behind : List (Piece Sym)) (c : List Sym) → Applies stands_for alphabet groups before c behind → HasCentre alphabet groups c
  applied_centre no_group before behind c h = h
  applied_centre (then_group maps side contexts groups) before behind c h = elim h as (λ _. HasCentre alphabet (then_group maps side contexts groups) c) [ inl here ↦ inl here.0 | inr later ↦ inr (applied_centre groups before behind c later) ]

-- the upper word of pieces in three parts
uppers_at : (ps before middle behind : List (Piece Sym)) → ps ≡ before ++ (middle ++ behind) → uppers ps ≡ uppers before ++ (uppers middle ++ uppers behind)
uppers_at ps before middle behind is = ap uppers is ∙ flat_map-append upper before (middle ++ behind) ∙ ap (λ (u : List Sym). uppers before ++ u) (flat_map-append upper middle behind)

pub leave_others : RulesLeaveOthers
leave_others alphabet optional groups u over nowhere w = (there, back)
  where
    R : List (Piece Sym) → List Sym → List Sym → List (Piece Sym) → Type 0
    R = Replaces stands_for alphabet groups

    A : List (Piece Sym) → List Sym → List (Piece Sym) → Type 0
    A = Applies stands_for alphabet groups

    there : Pairs alphabet (rules optional groups) u w → u ≡ w
    there (ps, derives, obligatory, up, low) = up ∙ none_replaced alphabet R A ps [] ps refl none ∙ sym low
      where
        none : (before : List (Piece Sym)) (c r : List Sym) (behind : List (Piece Sym)) → ps ≡ before ++ replaced c r ∷ behind → ⊥
        none before c r behind is =
            nowhere (uppers before) c (uppers behind)
            (up ∙ uppers_at ps before (replaced c r ∷ []) behind is ∙ ap (λ (x : List Sym). uppers before ++ (x ++ uppers behind)) (append-nil c))
            (replaced_centre alphabet groups before behind c r (derives.0 before (replaced c r) behind is))

    back : u ≡ w → Pairs alphabet (rules optional groups) u w
    back same =
        (copies u, copied_derives alphabet R A u over, λ _. obligatory, sym (uppers_copies u), sym same ∙ sym (lowers_copies u))
      where
        obligatory : IsObligatory alphabet R A (copies u)
        obligatory before c behind is applies =
            absurd (nowhere (uppers before) c (uppers behind)
            (sym (uppers_copies u) ∙ uppers_at (copies u) before (copies c) behind is ∙ ap (λ (x : List Sym). uppers before ++ (x ++ uppers behind)) (uppers_copies c))
            (applied_centre alphabet groups before behind c applies))

-- the rule `A -> B`, without contexts
module _ (alphabet : List Sym) (a b : Term Atom) (side : Side) (no_empty : Has alphabet a [] → ⊥) where
  abbrev A : List Sym → Type 0
  A w = Has alphabet a (inner w)

  abbrev B : List Sym → Type 0
  B w = Has alphabet b (inner w)

  abbrev rule : Groups Atom
  rule = then_group (plain a b no_mapping) side no_context no_group

  abbrev Does : List (Piece Sym) → List Sym → List Sym → List (Piece Sym) → Type 0
  Does = Replaces stands_for alphabet rule

  abbrev Asks : List (Piece Sym) → List Sym → List (Piece Sym) → Type 0
  Asks = Applies stands_for alphabet rule

  what_it_does : (before behind : List (Piece Sym)) (c r : List Sym) → Does before c r behind → A c × B r
  what_it_does before behind c r h = elim h as (λ _. A c × B r) [
    | inl here ↦ elim here.0 as (λ _. A c × B r) [ inl both ↦ both | inr none ↦ absurd none ]
    | inr none ↦ absurd none
  ]

  where_it_asks : (before behind : List (Piece Sym)) (c : List Sym) → Asks before c behind → A c
  where_it_asks before behind c h = elim h as (λ _. A c) [
    | inl here ↦ elim here.0 as (λ _. A c) [ inl is ↦ is | inr none ↦ absurd none ]
    | inr none ↦ absurd none
  ]

  -- a word over the alphabet without a part in A
  abbrev Free : List Sym → Type 0
  Free w = Has alphabet (without a) (inner w)

  -- a word of `~$A`, and then a centre and its result
  abbrev Block : List Sym × List Sym → Type 0
  Block p = (x : List Sym) × (c : List Sym) × (r : List Sym) × Free x × A c × B r × (p.0 ≡ x ++ c) × (p.1 ≡ x ++ r)

  abbrev uppers_of : List (List Sym × List Sym) → List Sym
  uppers_of pairs = joined (map (λ (p : List Sym × List Sym). p.0) pairs)

  abbrev lowers_of : List (List Sym × List Sym) → List Sym
  lowers_of pairs = joined (map (λ (p : List Sym × List Sym). p.1) pairs)

  -- blocks, and then a word of `~$A`
  abbrev Cut : List Sym → List Sym → Type 0
  Cut u w = (pairs : List (List Sym × List Sym)) × (t : List Sym) × All Block pairs × Free t × (u ≡ uppers_of pairs ++ t) × (w ≡ lowers_of pairs ++ t)

  no_centre : (x c y : List Sym) → A c → c ≡ [] → ⊥
  no_centre x c y is none = no_empty (subst A none is)

  inner_over : (w : List Sym) → IsOver alphabet w → IsOver (inner alphabet) (inner w)
  inner_over [] over = All-nil (Contains (inner alphabet))
  inner_over (s ∷ w) over =
      All-cons (Contains (inner alphabet)) (Inner s) (inner w) (Contains-map Inner alphabet s (All-head (Contains alphabet) s w over)) (inner_over w (All-tail (Contains alphabet) s w over))

  inner_parts : (w x c y : List Sym) → w ≡ x ++ (c ++ y) → inner w ≡ inner x ++ (inner c ++ inner y)
  inner_parts w x c y is = ap inner is ∙ inner_append x (c ++ y) ∙ ap (λ (z : List (Bound Sym)). inner x ++ z) (inner_append c y)

  -- what is free of parts in A
  free_of : (w : List Sym) → IsOver alphabet w → ((x c y : List Sym) → w ≡ x ++ (c ++ y) → A c → ⊥) → Free w
  free_of w over none = (inner_over w over, λ h. part h.1)
    where
      part : HasPart (Has alphabet a) (inner w) → ⊥
      part (x, c, y, is, p) =
          let first = inner_split w x (c ++ y) is in
          let second = inner_split first.1 c y (sym first.3) in
          none first.0 second.0 second.1 (first.4 ∙ ap (λ (z : List Sym). first.0 ++ z) second.4) (subst (Has alphabet a) second.2 p)

  part_of_free : (w x c y : List Sym) → Free w → w ≡ x ++ (c ++ y) → A c → ⊥
  part_of_free w x c y free is p = free.1 (free.0, (inner x, inner c, inner y, inner_parts w x c y is, p))

  copies_parts : (w x c y : List Sym) → w ≡ x ++ (c ++ y) → copies w ≡ copies x ++ (copies c ++ copies y)
  copies_parts w x c y is = ap copies is ∙ map-append copied x (c ++ y) ∙ ap (λ (z : List (Piece Sym)). copies x ++ z) (map-append copied c y)

  -- the stretches of copied symbols of a derivation
  module _ (all : List (Piece Sym)) (derives : IsDerivation alphabet Does Asks all) (obligatory : IsObligatory alphabet Does Asks all) where
    stretch_over : (before : List (Piece Sym)) (w : List Sym) (rest : List (Piece Sym)) → all ≡ before ++ (copies w ++ rest) → IsOver alphabet w
    stretch_over before [] rest is = All-nil (Contains alphabet)
    stretch_over before (s ∷ w) rest is =
        All-cons (Contains alphabet) s w (derives.0 before (copied s) (copies w ++ rest) is)
        (stretch_over (before ++ copied s ∷ []) w rest (is ∙ sym (append_assoc before (copied s ∷ []) (copies w ++ rest))))

    stretch_free : (before : List (Piece Sym)) (w : List Sym) (rest : List (Piece Sym)) → all ≡ before ++ (copies w ++ rest) → Free w
    stretch_free before w rest is = free_of w (stretch_over before w rest is) none
      where
        none : (x c y : List Sym) → w ≡ x ++ (c ++ y) → A c → ⊥
        none x c y parts p =
            let whole : all ≡ (before ++ copies x) ++ (copies c ++ (copies y ++ rest)) =
            is ∙ ap (λ (z : List (Piece Sym)). before ++ (z ++ rest)) (copies_parts w x c y parts)
            ∙ ap (λ (z : List (Piece Sym)). before ++ z) (append_assoc (copies x) (copies c ++ copies y) rest ∙ ap (λ (z : List (Piece Sym)). copies x ++ z) (append_assoc (copies c) (copies y) rest))
            ∙ sym (append_assoc before (copies x) (copies c ++ (copies y ++ rest))) in
            no_centre x c y p (obligatory (before ++ copies x) c (copies y ++ rest) whole (inl (inl p, inl refl))).0

    cut : (before : List (Piece Sym)) (w : List Sym) (rest : List (Piece Sym)) → all ≡ before ++ (copies w ++ rest) → Cut (w ++ uppers rest) (w ++ lowers rest)
    cut before w [] is = ([], w, All-nil Block, stretch_free before w [] is, append-nil w, append-nil w)
    cut before w (copied s ∷ rest) is =
        let later = cut before (w ++ s ∷ []) rest
        (is ∙ ap (λ (z : List (Piece Sym)). before ++ z) (sym (append_assoc (copies w) (copied s ∷ []) rest) ∙ ap (λ (z : List (Piece Sym)). z ++ rest) (sym (map-append copied w (s ∷ []))))) in
        (later.0, later.1, later.2, later.3, sym (append_assoc w (s ∷ []) (uppers rest)) ∙ later.4, sym (append_assoc w (s ∷ []) (lowers rest)) ∙ later.5)
    cut before w (replaced c r ∷ rest) is =
        let whole : all ≡ (before ++ copies w) ++ replaced c r ∷ rest = is ∙ sym (append_assoc before (copies w) (replaced c r ∷ rest)) in
        let here = what_it_does (before ++ copies w) rest c r (derives.0 (before ++ copies w) (replaced c r) rest whole) in
        let later = cut ((before ++ copies w) ++ replaced c r ∷ []) [] rest (whole ∙ sym (append_assoc (before ++ copies w) (replaced c r ∷ []) rest)) in (
          (w ++ c, w ++ r) ∷ later.0,
          later.1,
          All-cons Block (w ++ c, w ++ r) later.0 (w, c, r, stretch_free before w (replaced c r ∷ rest) is, here.0, here.1, refl, refl) later.2,
          later.3,
          ap (λ (z : List Sym). w ++ (c ++ z)) later.4 ∙ sym (append_assoc w c (uppers_of later.0 ++ later.1)) ∙ sym (append_assoc (w ++ c) (uppers_of later.0) later.1),
          ap (λ (z : List Sym). w ++ (r ++ z)) later.5 ∙ sym (append_assoc w r (lowers_of later.0 ++ later.1)) ∙ sym (append_assoc (w ++ r) (lowers_of later.0) later.1),
        )

  -- pieces of which each is one of the rule, and in whose copied symbols no centre stands
  abbrev Fine : Piece Sym → Type 0
  Fine (copied s) = Contains alphabet s
  Fine (replaced c r) = A c × B r

  abbrev Settled : List (Piece Sym) → Type 0
  Settled ps = (before : List (Piece Sym)) (c : List Sym) (behind : List (Piece Sym)) → ps ≡ before ++ (copies c ++ behind) → A c → ⊥

  none_settled : Settled []
  none_settled [] [] behind is p = no_empty p
  none_settled [] (s ∷ c) behind is p = let e : [] ≡ copied s ∷ (copies c ++ behind) = is in cc
  none_settled (q ∷ before) c behind is p = let e : [] ≡ q ∷ (before ++ (copies c ++ behind)) = is in cc

  after_replacement : (c r : List Sym) (rest : List (Piece Sym)) → Settled rest → Settled (replaced c r ∷ rest)
  after_replacement c r rest settled [] [] behind is p = no_empty p
  after_replacement c r rest settled [] (s ∷ d) behind is p = let e : replaced c r ∷ rest ≡ copied s ∷ (copies d ++ behind) = is in cc
  after_replacement c r rest settled (q ∷ before) d behind is p =
      let e : replaced c r ∷ rest ≡ q ∷ (before ++ (copies d ++ behind)) = is in
      let tail : rest ≡ before ++ (copies d ++ behind) = cc in
      settled before d behind tail p

  -- a list of pieces that doesn't begin with a copied symbol
  abbrev Stops : List (Piece Sym) → Type 0
  Stops rest = (s : Sym) (more : List (Piece Sym)) → rest ≡ copied s ∷ more → ⊥

  front : (x : List Sym) (rest : List (Piece Sym)) → Stops rest → (c : List Sym) (behind : List (Piece Sym)) → copies x ++ rest ≡ copies c ++ behind → (y : List Sym) × (x ≡ c ++ y)
  front x rest stops [] behind is = (x, refl)
  front [] rest stops (s ∷ c) behind is = absurd (stops s (copies c ++ behind) is)
  front (t ∷ x) rest stops (s ∷ c) behind is =
      let e : copied t ∷ (copies x ++ rest) ≡ copied s ∷ (copies c ++ behind) = is in
      let head : t ≡ s = cc in
      let tail : copies x ++ rest ≡ copies c ++ behind = cc in
      let later = front x rest stops c behind tail in
      (later.0, ap (λ (k : Sym). k ∷ x) head ∙ ap (λ (z : List Sym). s ∷ z) later.1)

  after_copies : (x : List Sym) (rest : List (Piece Sym)) → ((y c z : List Sym) → x ≡ y ++ (c ++ z) → A c → ⊥) → Stops rest → Settled rest → Settled (copies x ++ rest)
  after_copies x rest none stops settled [] c behind is p = let f = front x rest stops c behind is in none [] c f.0 f.1 p
  after_copies [] rest none stops settled (q ∷ before) c behind is p = settled (q ∷ before) c behind is p
  after_copies (s ∷ x) rest none stops settled (q ∷ before) c behind is p =
      let e : copied s ∷ (copies x ++ rest) ≡ q ∷ (before ++ (copies c ++ behind)) = is in
      let tail : copies x ++ rest ≡ before ++ (copies c ++ behind) = cc in
      after_copies x rest (λ y d z parts. none (s ∷ y) d z (ap (λ (w : List Sym). s ∷ w) parts)) stops settled before c behind tail p

  over_inner : (w : List Sym) → IsOver (inner alphabet) (inner w) → IsOver alphabet w
  over_inner [] over = All-nil (Contains alphabet)
  over_inner (s ∷ w) over =
      All-cons (Contains alphabet) s w (plain_letter s (All-head (Contains (inner alphabet)) (Inner s) (inner w) over)) (over_inner w (All-tail (Contains (inner alphabet)) (Inner s) (inner w) over))
    where
      plain_letter : (t : Sym) → Contains (inner alphabet) (Inner t) → Contains alphabet t
      plain_letter t among =
          let r = Contains-map_cases Inner alphabet (Inner t) among in
          let e : Inner r.0 ≡ Inner t = r.2 in
          let same : r.0 ≡ t = cc in
          subst (Contains alphabet) same r.1

  fine_copies : (w : List Sym) (rest : List (Piece Sym)) → IsOver alphabet w → All Fine rest → All Fine (copies w ++ rest)
  fine_copies [] rest over fine = fine
  fine_copies (s ∷ w) rest over fine = All-cons Fine (copied s) (copies w ++ rest) (All-head (Contains alphabet) s w over) (fine_copies w rest (All-tail (Contains alphabet) s w over) fine)

  uppers_behind : (w : List Sym) (rest : List (Piece Sym)) → uppers (copies w ++ rest) ≡ w ++ uppers rest
  uppers_behind w rest = flat_map-append upper (copies w) rest ∙ ap (λ (z : List Sym). z ++ uppers rest) (uppers_copies w)

  lowers_behind : (w : List Sym) (rest : List (Piece Sym)) → lowers (copies w ++ rest) ≡ w ++ lowers rest
  lowers_behind w rest = flat_map-append lower (copies w) rest ∙ ap (λ (z : List Sym). z ++ lowers rest) (lowers_copies w)

  -- the pieces of blocks and a last word
  pieces_of : (pairs : List (List Sym × List Sym)) (t : List Sym) → All Block pairs → Free t
      → (ps : List (Piece Sym)) × All Fine ps × Settled ps × (uppers_of pairs ++ t ≡ uppers ps) × (lowers_of pairs ++ t ≡ lowers ps)
  pieces_of [] t blocks free =
      let whole : copies t ++ [] ≡ copies t = append-nil (copies t) in (
        copies t ++ [],
        fine_copies t [] (over_inner t free.0) (All-nil Fine),
        after_copies t [] (λ y c z parts p. part_of_free t y c z free parts p) (λ s more is. let e : [] ≡ copied s ∷ more = is in cc) none_settled,
        sym (uppers_behind t [] ∙ append-nil t),
        sym (lowers_behind t [] ∙ append-nil t),
      )
  pieces_of (p ∷ pairs) t blocks free =
      let (x, c, r, before, is, by, up, low) = All-head Block p pairs blocks in
      let later = pieces_of pairs t (All-tail Block p pairs blocks) free in
      let rest = replaced c r ∷ later.0 in (
        copies x ++ rest,
        fine_copies x rest (over_inner x before.0) (All-cons Fine (replaced c r) later.0 (is, by) later.1),
        after_copies x rest (λ y d z parts q. part_of_free x y d z before parts q) (λ s more e. let clash : replaced c r ∷ later.0 ≡ copied s ∷ more = e in cc) (after_replacement c r later.0 later.2),
        append_assoc p.0 (uppers_of pairs) t ∙ ap (λ (z : List Sym). z ++ (uppers_of pairs ++ t)) up ∙ append_assoc x c (uppers_of pairs ++ t) ∙ ap (λ (z : List Sym). x ++ (c ++ z)) later.3 ∙ sym (uppers_behind x rest),
        append_assoc p.1 (lowers_of pairs) t ∙ ap (λ (z : List Sym). z ++ (lowers_of pairs ++ t)) low ∙ append_assoc x r (lowers_of pairs ++ t) ∙ ap (λ (z : List Sym). x ++ (r ++ z)) later.4 ∙ sym (lowers_behind x rest),
      )

  fine_at : (ps before : List (Piece Sym)) (p : Piece Sym) (behind : List (Piece Sym)) → All Fine ps → ps ≡ before ++ p ∷ behind → Fine p
  fine_at ps before p behind fine is = among before (subst (All Fine) is fine)
    where
      among : (front : List (Piece Sym)) → All Fine (front ++ p ∷ behind) → Fine p
      among [] h = All-head Fine p behind h
      among (q ∷ front) h = among front (All-tail Fine q (front ++ p ∷ behind) h)

  fine_piece : (before behind : List (Piece Sym)) (p : Piece Sym) → Fine p → IsPiece alphabet Does Asks before p behind
  fine_piece before behind (copied s) h = h
  fine_piece before behind (replaced c r) h = inl (inl h, inl refl)

  derived : (ps : List (Piece Sym)) → All Fine ps → IsDerivation alphabet Does Asks ps
  derived ps fine = (
    λ before p behind is. fine_piece before behind p (fine_at ps before p behind fine is),
    λ before one two behind is. no_empty (fine_at ps before (replaced [] one) (replaced [] two ∷ behind) fine is).0,
  )

  -- a block is what `~$A [A .x. B]` relates
  abbrev Row : List Sym → List Sym → Type 0
  Row u w = Pairs alphabet (concat (then_term (without a) (then_term (group (steps a (cross_with b no_step))) no_term))) u w

  row_of : (p : List Sym × List Sym) → Block p → Row p.0 p.1
  row_of p (x, c, r, free, is, by, up, low) = (x, c, x, r, up, low, (free, refl), (c, [], r, [], sym (append-nil c), sym (append-nil r), (is, by), (refl, refl)))

  block_of : (p : List Sym × List Sym) → Row p.0 p.1 → Block p
  block_of p (x, c, y, r, up, low, (free, same), (c1, c2, r1, r2, cs, rs, (is, by), (none, also))) =
      (x, c1, r1, free, is, by, up ∙ ap (λ (z : List Sym). x ++ z) (cs ∙ ap (λ (z : List Sym). c1 ++ z) none ∙ append-nil c1), low ∙ ap (λ (z : List Sym). z ++ r) (sym same) ∙ ap (λ (z : List Sym). x ++ z) (rs ∙ ap (λ (z : List Sym). r1 ++ z) also ∙ append-nil r1))

  rows_of : (pairs : List (List Sym × List Sym)) → All Block pairs → All (λ (p : List Sym × List Sym). Row p.0 p.1) pairs
  rows_of [] h = All-nil (λ (p : List Sym × List Sym). Row p.0 p.1)
  rows_of (p ∷ pairs) h = All-cons (λ (q : List Sym × List Sym). Row q.0 q.1) p pairs (row_of p (All-head Block p pairs h)) (rows_of pairs (All-tail Block p pairs h))

  blocks_of : (pairs : List (List Sym × List Sym)) → All (λ (p : List Sym × List Sym). Row p.0 p.1) pairs → All Block pairs
  blocks_of [] h = All-nil Block
  blocks_of (p ∷ pairs) h = All-cons Block p pairs (block_of p (All-head (λ (q : List Sym × List Sym). Row q.0 q.1) p pairs h)) (blocks_of pairs (All-tail (λ (q : List Sym × List Sym). Row q.0 q.1) p pairs h))

  to_formula : (u w : List Sym) → Cut u w → Pairs alphabet (all_replaced a b) u w
  to_formula u w (pairs, t, blocks, free, up, low) =
      (uppers_of pairs, t, lowers_of pairs, t, up, low, (pairs, tt, rows_of pairs blocks, refl, refl), (t, [], t, [], sym (append-nil t), sym (append-nil t), (free, refl), (refl, refl)))

  from_formula : (u w : List Sym) → Pairs alphabet (all_replaced a b) u w → Cut u w
  from_formula u w (u1, u2, w1, w2, up, low, (pairs, _, rows, ups, lows), (t, n, v, m, ts, vs, (free, same), (none, also))) = (
    pairs,
    t,
    blocks_of pairs rows,
    free,
    up ∙ ap (λ (z : List Sym). z ++ u2) ups ∙ ap (λ (z : List Sym). uppers_of pairs ++ z) (ts ∙ ap (λ (z : List Sym). t ++ z) none ∙ append-nil t),
    low ∙ ap (λ (z : List Sym). z ++ w2) lows ∙ ap (λ (z : List Sym). lowers_of pairs ++ z) (vs ∙ ap (λ (z : List Sym). v ++ z) also ∙ append-nil v ∙ sym same),
  )

  to_cut : (u w : List Sym) → Pairs alphabet (rules false rule) u w → Cut u w
  to_cut u w (ps, derives, obligatory, up, low) =
      let c = cut ps derives (obligatory refl) [] [] ps refl in
      (c.0, c.1, c.2, c.3, up ∙ c.4, low ∙ c.5)

  from_cut : (u w : List Sym) → Cut u w → Pairs alphabet (rules false rule) u w
  from_cut u w (pairs, t, blocks, free, up, low) =
      let made = pieces_of pairs t blocks free in (
        made.0,
        derived made.0 made.1,
        λ _ before c behind is asks. absurd (made.2 before c behind is (where_it_asks before behind c asks)),
        up ∙ made.3,
        low ∙ made.4,
      )

pub replace_all : RulesReplaceAll
replace_all alphabet a b side no_empty u w = (
  λ h. to_formula alphabet a b side no_empty u w (to_cut alphabet a b side no_empty u w h),
  λ h. from_cut alphabet a b side no_empty u w (from_formula alphabet a b side no_empty u w h),
)
