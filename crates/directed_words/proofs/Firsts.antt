-- Words of marks of directed rules, and the words of the firsts of their symbols.
use Rattle.std.proofs.Common.{◌≡◌, ◌↔◌, ℕ, true, List, [], ◌∷◌, ◌++◌, Option, Some, None, map, refl, sym, ap, subst, ◌∙◌}
use Rattle.std.specs.Prelude.{All, Contains, slice_get, option_map}
use Rattle.std.specs.List.{cons_option}
use Rattle.std.proofs.lemmas.List.{map-append}
use Rattle.std.proofs.lemmas.List.Elements.{All-nil, All-cons, All-head, All-tail, All-map, All-weaker}
use Rattle.fsm_base.specs.declared.letters.Sym.{Sym}
use Rattle.fsm_base.specs.declared.letters.Bound.{Bound}
use Rattle.fsm_base.specs.declared.letters.Bound.TheVariants.{Edge, Inner}
use Rattle.word_relations.specs.Words.{IsOver}
use Rattle.word_relations.proofs.Places.{Contains-from_slice_get}
use Rattle.expr_meaning.specs.Operators.{inner}
use Rattle.replace_words.specs.declared.marks.Mark.{Mark}
use Rattle.replace_words.specs.declared.marks.Mark.TheVariants.{Copy, Up, Low, Same, Open, Close}
use Rattle.replace_words.specs.Places.{Rules}
use Rattle.replace_words.specs.Firsts.{first_mark, first_bound, HasSymbolIn, IsBoundIn, ActsByFirsts}
use Rattle.replace_words.proofs.Alike.{map_split, marked_by_firsts}
use Rattle.directed_words.specs.declared.kinds.MarkKind.{MarkKind}
use Rattle.directed_words.specs.declared.kinds.MarkKind.TheVariants.{Copied, Opening, Closing, NotClosing, Inside, Upper}
use Rattle.directed_words.specs.declared.ways.Length.{Length}
use Rattle.directed_words.specs.declared.ways.Length.TheVariants.{Longest, Shortest}
use Rattle.directed_words.specs.Kinds.{is_of, BeginsWith}
use Rattle.directed_words.specs.Marked.{NoneBetween, GoesBeyond, StaysInside, LeftReads, CentreReads, RightReads, BarsCopies, BarsOthers}
use Rattle.directed_words.specs.Laws.{DirectedMarkedWordsGoByFirsts}
use Rattle.directed_words.proofs.Matches.{Read, symbol}

-- parts of a list of which all are so
all_front : {X : Type 0} (Q : X → Type 0) (x y : List X) → All Q (x ++ y) → All Q x
all_front Q [] y h = All-nil Q
all_front Q (a ∷ x) y h = All-cons Q a x (All-head Q a (x ++ y) h) (all_front Q x y (All-tail Q a (x ++ y) h))

all_back : {X : Type 0} (Q : X → Type 0) (x y : List X) → All Q (x ++ y) → All Q y
all_back Q [] y h = h
all_back Q (a ∷ x) y h = all_back Q x y (All-tail Q a (x ++ y) h)

all_unmapped : {X Y : Type 0} (Q : Y → Type 0) (f : X → Y) (x : List X) → All Q (map f x) → All (λ a. Q (f a)) x
all_unmapped Q f [] h = All-nil (λ a. Q (f a))
all_unmapped Q f (a ∷ x) h = All-cons (λ a. Q (f a)) a x (All-head Q (f a) (map f x) h) (all_unmapped Q f x (All-tail Q (f a) (map f x) h))

map_cons : {X Y : Type 0} (f : X → Y) (w : List X) (b : Y) (y : List Y) → map f w ≡ b ∷ y → (a : X) × (v : List X) × (w ≡ a ∷ v) × (f a ≡ b) × (map f v ≡ y)
map_cons f [] b y is = let e : [] ≡ b ∷ y = is in absurd (cc)
map_cons f (a ∷ w) b y is =
    let e : f a ∷ map f w ≡ b ∷ y = is in
    let head : f a ≡ b = cc in
    let tail : map f w ≡ y = cc in
    (a, w, refl, head, tail)

module _ (first : Sym → Sym) where
  abbrev Mapped : List (Bound Mark) → List (Bound Mark)
  Mapped w = map (first_mark first) w

  -- a mark of the first is of the same kinds
  kind_same : (kind : MarkKind) (m : Bound Mark) → is_of kind (first_mark first m) ≡ is_of kind m
  kind_same Copied (Inner (Copy s)) = refl
  kind_same Opening (Inner (Copy s)) = refl
  kind_same Closing (Inner (Copy s)) = refl
  kind_same NotClosing (Inner (Copy s)) = refl
  kind_same Inside (Inner (Copy s)) = refl
  kind_same Upper (Inner (Copy s)) = refl
  kind_same kind m = refl

  -- what is read of the word of the firsts
  symbol_same : (m : Bound Mark) → symbol (first_mark first m) ≡ option_map (first_bound first) (symbol m)
  symbol_same Edge = refl
  symbol_same (Inner (Copy s)) = refl
  symbol_same (Inner (Up s)) = refl
  symbol_same (Inner (Low s)) = refl
  symbol_same (Inner (Same s)) = refl
  symbol_same (Inner (Open k)) = refl
  symbol_same (Inner (Close k)) = refl

  read_same : (w : List (Bound Mark)) → Read (Mapped w) ≡ map (first_bound first) (Read w)
  read_same [] = refl
  read_same (m ∷ w) = ap (λ o. cons_option o (Read (Mapped w))) (symbol_same m) ∙ go (symbol m) (read_same w)
    where
      go : (o : Option (Bound Sym)) → Read (Mapped w) ≡ map (first_bound first) (Read w) → cons_option (option_map (first_bound first) o) (Read (Mapped w)) ≡ map (first_bound first) (cons_option o (Read w))
      go None e = e
      go (Some b) e = ap (λ z. first_bound first b ∷ z) e

  inner_there : (d : List Sym) → map (first_bound first) (inner d) ≡ inner (map first d)
  inner_there [] = refl
  inner_there (s ∷ d) = ap (λ z. Inner (first s) ∷ z) (inner_there d)

  inner_back : (w : List (Bound Sym)) (c : List Sym) → map (first_bound first) w ≡ inner c → (d : List Sym) × (w ≡ inner d) × (map first d ≡ c)
  inner_back [] [] is = ([], refl, refl)
  inner_back [] (s ∷ c) is = let e : [] ≡ Inner s ∷ inner c = is in absurd (cc)
  inner_back (b ∷ w) [] is = let e : first_bound first b ∷ map (first_bound first) w ≡ [] = is in absurd (cc)
  inner_back (Edge ∷ w) (s ∷ c) is = let e : Edge ∷ map (first_bound first) w ≡ Inner s ∷ inner c = is in absurd (cc)
  inner_back (Inner t ∷ w) (s ∷ c) is =
      let e : Inner (first t) ∷ map (first_bound first) w ≡ Inner s ∷ inner c = is in
      let head : first t ≡ s = cc in
      let tail : map (first_bound first) w ≡ inner c = cc in
      let r = inner_back w c tail in
      (t ∷ r.0, ap (λ z. Inner t ∷ z) r.1, ap (λ h. h ∷ map first r.0) head ∙ ap (λ z. s ∷ z) r.2)

  module _ (symbols : List Sym) where
    abbrev In : List (Bound Mark) → Type 0
    In w = All (HasSymbolIn symbols) w

    bound_within : (m : Bound Mark) → HasSymbolIn symbols m → (x : List (Bound Sym)) → All (IsBoundIn symbols) x → All (IsBoundIn symbols) (cons_option (symbol m) x)
    bound_within Edge h x all = All-cons (IsBoundIn symbols) Edge x tt all
    bound_within (Inner (Copy s)) h x all = All-cons (IsBoundIn symbols) (Inner s) x h all
    bound_within (Inner (Up s)) h x all = All-cons (IsBoundIn symbols) (Inner s) x h all
    bound_within (Inner (Low s)) h x all = all
    bound_within (Inner (Same s)) h x all = All-cons (IsBoundIn symbols) (Inner s) x h all
    bound_within (Inner (Open k)) h x all = all
    bound_within (Inner (Close k)) h x all = all

    read_within : (w : List (Bound Mark)) → In w → All (IsBoundIn symbols) (Read w)
    read_within [] h = All-nil (IsBoundIn symbols)
    read_within (m ∷ w) h = bound_within m (All-head (HasSymbolIn symbols) m w h) (Read w) (read_within w (All-tail (HasSymbolIn symbols) m w h))

    inner_over : (d : List Sym) → All (IsBoundIn symbols) (inner d) → IsOver symbols d
    inner_over [] h = All-nil (Contains symbols)
    inner_over (s ∷ d) h = All-cons (Contains symbols) s d (All-head (IsBoundIn symbols) (Inner s) (inner d) h) (inner_over d (All-tail (IsBoundIn symbols) (Inner s) (inner d) h))

    -- a set has a word just where it has the word of the firsts
    abbrev Goes : (List (Bound Mark) → Type 0) → Type 0
    Goes Q = (w : List (Bound Mark)) → In w → Q w ↔ Q (Mapped w)

    both_go : (Q R : List (Bound Mark) → Type 0) → Goes Q → Goes R → Goes (λ w. Q w × R w)
    both_go Q R q r w h = (λ t. ((q w h).0 t.0, (r w h).0 t.1), λ t. ((q w h).1 t.0, (r w h).1 t.1))

    begins_goes : (kind : MarkKind) → Goes (BeginsWith kind)
    begins_goes kind w h = (
      λ (m, z, is, of). (first_mark first m, Mapped z, ap (λ v. Mapped v) is, kind_same kind m ∙ of),
      λ (m, z, is, of).
          let (a, v, e, am, vz) = map_cons (first_mark first) w m z is in
          (a, v, e, sym (kind_same kind a) ∙ ap (is_of kind) am ∙ of),
    )

    beyond_goes : Goes GoesBeyond
    beyond_goes w h = (
      λ (o, y, e, v, t, r, is, is_o, is_e, is_t). (
        first_mark first o,
        Mapped y,
        first_mark first e,
        Mapped v,
        first_mark first t,
        Mapped r,
        ap (λ z. Mapped z) is ∙ ap (λ z. first_mark first o ∷ z) (map-append (first_mark first) y (e ∷ (v ++ t ∷ r)) ∙ ap (λ z. Mapped y ++ first_mark first e ∷ z) (map-append (first_mark first) v (t ∷ r))),
        kind_same Opening o ∙ is_o,
        kind_same Closing e ∙ is_e,
        kind_same Upper t ∙ is_t,
      ),
      λ (o, y, e, v, t, r, is, is_o, is_e, is_t).
          let (o', w1, e1, oo, r1) = map_cons (first_mark first) w o (y ++ e ∷ (v ++ t ∷ r)) is in
          let (y', w2, e2, yy, r2) = map_split (first_mark first) w1 y (e ∷ (v ++ t ∷ r)) r1 in
          let (e', w3, e3, ee, r3) = map_cons (first_mark first) w2 e (v ++ t ∷ r) r2 in
          let (v', w4, e4, vv, r4) = map_split (first_mark first) w3 v (t ∷ r) r3 in
          let (t', w5, e5, tt', r5) = map_cons (first_mark first) w4 t r r4 in (
            o',
            y',
            e',
            v',
            t',
            w5,
            e1 ∙ ap (λ z. o' ∷ z) (e2 ∙ ap (λ z. y' ++ z) (e3 ∙ ap (λ z. e' ∷ z) (e4 ∙ ap (λ z. v' ++ z) e5))),
            sym (kind_same Opening o') ∙ ap (is_of Opening) oo ∙ is_o,
            sym (kind_same Closing e') ∙ ap (is_of Closing) ee ∙ is_e,
            sym (kind_same Upper t') ∙ ap (is_of Upper) tt' ∙ is_t,
          ),
    )

    inside_goes : Goes StaysInside
    inside_goes w h = (
      λ (o, y, is, is_o, all). (
        first_mark first o,
        Mapped y,
        ap (λ z. Mapped z) is,
        kind_same Opening o ∙ is_o,
        All-map (λ m. is_of NotClosing m ≡ true) (first_mark first) y (All-weaker (λ m. is_of NotClosing m ≡ true) (λ m. is_of NotClosing (first_mark first m) ≡ true) (λ m of. kind_same NotClosing m ∙ of) y all),
      ),
      λ (o, y, is, is_o, all).
          let (o', v, e, oo, vy) = map_cons (first_mark first) w o y is in
          let all' : All (λ m. is_of NotClosing m ≡ true) (Mapped v) = subst (All (λ m. is_of NotClosing m ≡ true)) (sym vy) all in (
            o',
            v,
            e,
            sym (kind_same Opening o') ∙ ap (is_of Opening) oo ∙ is_o,
            All-weaker (λ m. is_of NotClosing (first_mark first m) ≡ true) (λ m. is_of NotClosing m ≡ true) (λ m of. sym (kind_same NotClosing m) ∙ of) v (all_unmapped (λ m. is_of NotClosing m ≡ true) (first_mark first) v all'),
          ),
    )

    none_goes : (L S R : List (Bound Mark) → Type 0) → Goes L → Goes S → Goes R → Goes (NoneBetween L S R)
    none_goes L S R l s r w h = (
      λ none x m z is left middle right.
          let (u, v, e, ux, vy) = map_split (first_mark first) w x (m ++ z) is in
          let (a, b, e', am, bz) = map_split (first_mark first) v m z vy in
          let whole : w ≡ u ++ (a ++ b) = e ∙ ap (λ t. u ++ t) e' in
          let all : In (u ++ (a ++ b)) = subst In whole h in
          let rest : In (a ++ b) = all_back (HasSymbolIn symbols) u (a ++ b) all in
          none u a b whole ((l u (all_front (HasSymbolIn symbols) u (a ++ b) all)).1 (subst L (sym ux) left)) ((s a (all_front (HasSymbolIn symbols) a b rest)).1 (subst S (sym am) middle))
          ((r b (all_back (HasSymbolIn symbols) a b rest)).1 (subst R (sym bz) right)),
      λ none x m z is left middle right.
          let all : In (x ++ (m ++ z)) = subst In is h in
          let rest : In (m ++ z) = all_back (HasSymbolIn symbols) x (m ++ z) all in
          none (Mapped x) (Mapped m) (Mapped z) (ap (λ t. Mapped t) is ∙ map-append (first_mark first) x (m ++ z) ∙ ap (λ t. Mapped x ++ t) (map-append (first_mark first) m z))
          ((l x (all_front (HasSymbolIn symbols) x (m ++ z) all)).0 left) ((s m (all_front (HasSymbolIn symbols) m z rest)).0 middle) ((r z (all_back (HasSymbolIn symbols) m z rest)).0 right),
    )

    module _ {P : Type 0} (of : Rules P) (p : P) (acts : ActsByFirsts of symbols first p) where
      left_goes : Goes (LeftReads of p)
      left_goes w h = let t = acts.left (Read w) (read_within w h) in (λ held. subst (of.left p) (sym (read_same w)) (t.0 held), λ held. t.1 (subst (of.left p) (read_same w) held))

      right_goes : Goes (RightReads of p)
      right_goes w h = let t = acts.right (Read w) (read_within w h) in (λ held. subst (of.right p) (sym (read_same w)) (t.0 held), λ held. t.1 (subst (of.right p) (read_same w) held))

      centre_goes : Goes (CentreReads of p)
      centre_goes w h = (
        λ (c, is, has).
            let over = inner_over c (subst (All (IsBoundIn symbols)) is (read_within w h)) in
            (map first c, read_same w ∙ ap (map (first_bound first)) is ∙ inner_there c, (acts.centre c over).0 has),
        λ (c, is, has).
            let d = inner_back (Read w) c (sym (read_same w) ∙ is) in
            let over = inner_over d.0 (subst (All (IsBoundIn symbols)) d.1 (read_within w h)) in
            (d.0, d.1, (acts.centre d.0 over).1 (subst (of.centre p) (sym d.2) has)),
      )

      copies_go : Goes (BarsCopies of p)
      copies_go = none_goes (LeftReads of p) (λ m. CentreReads of p m × BeginsWith Copied m) (RightReads of p) left_goes (both_go (CentreReads of p) (BeginsWith Copied) centre_goes (begins_goes Copied)) right_goes

      others_go : (size : Length) → Goes (BarsOthers of size p)
      others_go Longest = none_goes (LeftReads of p) (λ m. CentreReads of p m × GoesBeyond m) (RightReads of p) left_goes (both_go (CentreReads of p) GoesBeyond centre_goes beyond_goes) right_goes
      others_go Shortest =
          none_goes (LeftReads of p) (λ m. CentreReads of p m × StaysInside m) (λ z. RightReads of p z × BeginsWith Inside z) left_goes (both_go (CentreReads of p) StaysInside centre_goes inside_goes) (both_go (RightReads of p) (BeginsWith Inside) right_goes (begins_goes Inside))

pub directed_by_firsts : DirectedMarkedWordsGoByFirsts
directed_by_firsts P of places symbols firsts first size z act are h =
    let m = marked_by_firsts P of places symbols firsts first true z act are h in
    let acts = λ (k : ℕ) (p : P) (at : slice_get places k ≡ Some p). act p (Contains-from_slice_get places k p at) in (
      λ (marked, bars). (m.0 marked, λ k p at. ((copies_go first symbols of p (acts k p at) z h).0 (bars k p at).0, (others_go first symbols of p (acts k p at) size z h).0 (bars k p at).1)),
      λ (marked, bars). (m.1 marked, λ k p at. ((copies_go first symbols of p (acts k p at) z h).1 (bars k p at).0, (others_go first symbols of p (acts k p at) size z h).1 (bars k p at).1)),
    )
