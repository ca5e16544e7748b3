-- Where the matches of a derivation stand in its marks.
use Rattle.std.proofs.Common.{◌≡◌, ℕ, ◌<◌, true, false, List, [], ◌∷◌, ◌++◌, Option, Some, None, length, refl, sym, ap, subst, ◌∙◌, append_assoc}
use Rattle.std.specs.Prelude.{All}
use Rattle.std.specs.List.{flat_map, cons_option}
use Rattle.std.proofs.lemmas.List.{map-append, length-map}
use Rattle.std.proofs.lemmas.List.Elements.{All-nil, All-cons, filter_map-append}
use Rattle.fsm_base.specs.declared.letters.Sym.{Sym}
use Rattle.fsm_base.specs.declared.letters.Bound.{Bound}
use Rattle.fsm_base.specs.declared.letters.Bound.TheVariants.{Edge, Inner}
use Rattle.expr_meaning.specs.Operators.{inner}
use Rattle.replace_words.specs.declared.marks.Mark.{Mark}
use Rattle.replace_words.specs.declared.marks.Mark.TheVariants.{Copy, Up, Low, Same, Open, Close}
use Rattle.replace_words.specs.Claims.{Claim, copied, replaced, marked, IsBy, upper}
use Rattle.replace_words.specs.Marked.{upper_of, ups, lows, sames, bracket, encode, written, reading, side_of}
use Rattle.directed_words.specs.declared.kinds.MarkKind.TheVariants.{Copied, Opening, Closing, NotClosing, Inside, Upper}
use Rattle.directed_words.specs.declared.ways.Length.{Length}
use Rattle.directed_words.specs.declared.ways.Length.TheVariants.{Longest, Shortest}
use Rattle.directed_words.specs.Kinds.{is_of}
use Rattle.directed_words.proofs.Splits.{in_first, in_second, split_at, locate, nil_split, front_shorter, all_here}
use Rattle.directed_words.proofs.Encode.{edge_not_inner, close_here, front_at}
use Rattle.directed_words.proofs.Reading.{reads_upper, reading_behind}

abbrev pub Read : List (Bound Mark) → List (Bound Sym)
Read w = reading upper_of w

abbrev pub symbol : Bound Mark → Option (Bound Sym)
symbol m = side_of upper_of m

-- what kinds of marks are
pub copied_mark : (m : Bound Mark) → is_of Copied m ≡ true → (s : Sym) × (m ≡ Inner (Copy s))
copied_mark Edge e = let clash : false ≡ true = e in absurd (cc)
copied_mark (Inner (Copy s)) e = (s, refl)
copied_mark (Inner (Up s)) e = let clash : false ≡ true = e in absurd (cc)
copied_mark (Inner (Low s)) e = let clash : false ≡ true = e in absurd (cc)
copied_mark (Inner (Same s)) e = let clash : false ≡ true = e in absurd (cc)
copied_mark (Inner (Open k)) e = let clash : false ≡ true = e in absurd (cc)
copied_mark (Inner (Close k)) e = let clash : false ≡ true = e in absurd (cc)

pub opening_mark : (m : Bound Mark) → is_of Opening m ≡ true → (k : ℕ) × (m ≡ Inner (Open k))
opening_mark Edge e = let clash : false ≡ true = e in absurd (cc)
opening_mark (Inner (Copy s)) e = let clash : false ≡ true = e in absurd (cc)
opening_mark (Inner (Up s)) e = let clash : false ≡ true = e in absurd (cc)
opening_mark (Inner (Low s)) e = let clash : false ≡ true = e in absurd (cc)
opening_mark (Inner (Same s)) e = let clash : false ≡ true = e in absurd (cc)
opening_mark (Inner (Open k)) e = (k, refl)
opening_mark (Inner (Close k)) e = let clash : false ≡ true = e in absurd (cc)

pub closing_mark : (m : Bound Mark) → is_of Closing m ≡ true → (k : ℕ) × (m ≡ Inner (Close k))
closing_mark Edge e = let clash : false ≡ true = e in absurd (cc)
closing_mark (Inner (Copy s)) e = let clash : false ≡ true = e in absurd (cc)
closing_mark (Inner (Up s)) e = let clash : false ≡ true = e in absurd (cc)
closing_mark (Inner (Low s)) e = let clash : false ≡ true = e in absurd (cc)
closing_mark (Inner (Same s)) e = let clash : false ≡ true = e in absurd (cc)
closing_mark (Inner (Open k)) e = let clash : false ≡ true = e in absurd (cc)
closing_mark (Inner (Close k)) e = (k, refl)

pub upper_mark : (m : Bound Mark) → is_of Upper m ≡ true → (s : Sym) × (symbol m ≡ Some (Inner s))
upper_mark Edge e = let clash : false ≡ true = e in absurd (cc)
upper_mark (Inner (Copy s)) e = (s, refl)
upper_mark (Inner (Up s)) e = (s, refl)
upper_mark (Inner (Low s)) e = let clash : false ≡ true = e in absurd (cc)
upper_mark (Inner (Same s)) e = (s, refl)
upper_mark (Inner (Open k)) e = let clash : false ≡ true = e in absurd (cc)
upper_mark (Inner (Close k)) e = let clash : false ≡ true = e in absurd (cc)

pub mark_upper : (m : Bound Mark) (s : Sym) → symbol m ≡ Some (Inner s) → is_of Upper m ≡ true
mark_upper Edge s e = let clash : Some Edge ≡ Some (Inner s) = e in absurd (cc)
mark_upper (Inner (Copy t)) s e = refl
mark_upper (Inner (Up t)) s e = refl
mark_upper (Inner (Low t)) s e = let clash : None ≡ Some (Inner s) = e in absurd (cc)
mark_upper (Inner (Same t)) s e = refl
mark_upper (Inner (Open k)) s e = let clash : None ≡ Some (Inner s) = e in absurd (cc)
mark_upper (Inner (Close k)) s e = let clash : None ≡ Some (Inner s) = e in absurd (cc)

pub inside_upper : (m : Bound Mark) → is_of Inside m ≡ true → (s : Sym) × (symbol m ≡ Some (Inner s))
inside_upper Edge e = let clash : false ≡ true = e in absurd (cc)
inside_upper (Inner (Copy s)) e = let clash : false ≡ true = e in absurd (cc)
inside_upper (Inner (Up s)) e = (s, refl)
inside_upper (Inner (Low s)) e = let clash : false ≡ true = e in absurd (cc)
inside_upper (Inner (Same s)) e = (s, refl)
inside_upper (Inner (Open k)) e = let clash : false ≡ true = e in absurd (cc)
inside_upper (Inner (Close k)) e = let clash : false ≡ true = e in absurd (cc)

pub upper_inside : (m : Bound Mark) (s : Sym) → symbol m ≡ Some (Inner s) → ((t : Sym) → m ≡ Inner (Copy t) → ⊥) → is_of Inside m ≡ true
upper_inside Edge s e not = let clash : Some Edge ≡ Some (Inner s) = e in absurd (cc)
upper_inside (Inner (Copy t)) s e not = absurd (not t refl)
upper_inside (Inner (Up t)) s e not = refl
upper_inside (Inner (Low t)) s e not = let clash : None ≡ Some (Inner s) = e in absurd (cc)
upper_inside (Inner (Same t)) s e not = refl
upper_inside (Inner (Open k)) s e not = let clash : None ≡ Some (Inner s) = e in absurd (cc)
upper_inside (Inner (Close k)) s e not = let clash : None ≡ Some (Inner s) = e in absurd (cc)

-- marks among which no bracket closes
pub no_close : (u : List (Bound Mark)) → ((a b : List (Bound Mark)) (j : ℕ) → u ≡ a ++ Inner (Close j) ∷ b → ⊥) → All (λ m. is_of NotClosing m ≡ true) u
no_close [] none = All-nil (λ m. is_of NotClosing m ≡ true)
no_close (m ∷ u) none = All-cons (λ m. is_of NotClosing m ≡ true) m u (here m (λ j e. none [] u j (ap (λ g. g ∷ u) e))) (no_close u (λ a b j e. none (m ∷ a) b j (ap (λ z. m ∷ z) e)))
  where
    here : (m : Bound Mark) → ((j : ℕ) → m ≡ Inner (Close j) → ⊥) → is_of NotClosing m ≡ true
    here Edge not = refl
    here (Inner (Copy s)) not = refl
    here (Inner (Up s)) not = refl
    here (Inner (Low s)) not = refl
    here (Inner (Same s)) not = refl
    here (Inner (Open k)) not = refl
    here (Inner (Close k)) not = absurd (not k refl)

-- where a letter of what is read stands
pub record ReadAt (w : List (Bound Mark)) (a : List (Bound Sym)) (t : Bound Sym) (b : List (Bound Sym)) : Type 0 where
  pub before : List (Bound Mark)
  pub mark : Bound Mark
  pub behind : List (Bound Mark)
  pub whole : w ≡ before ++ mark ∷ behind
  pub read_before : Read before ≡ a
  pub read_mark : symbol mark ≡ Some t
  pub read_behind : Read behind ≡ b

pub split_read : (w : List (Bound Mark)) (a : List (Bound Sym)) (t : Bound Sym) (b : List (Bound Sym)) → Read w ≡ a ++ t ∷ b → ReadAt w a t b
split_read [] a t b is = absurd (nil_split a t b is)
split_read (g ∷ w) a t b is = go (symbol g) refl a is (λ rest h. split_read w rest t b h)
  where
    go : (o : Option (Bound Sym)) → symbol g ≡ o → (a : List (Bound Sym)) → cons_option o (Read w) ≡ a ++ t ∷ b → ((rest : List (Bound Sym)) → Read w ≡ rest ++ t ∷ b → ReadAt w rest t b) → ReadAt (g ∷ w) a t b
    go None none a e later =
        let r = later a e in
        record { before = g ∷ r.before; mark = r.mark; behind = r.behind; whole = ap (λ z. g ∷ z) r.whole; read_before = ap (λ o. cons_option o (Read r.before)) none ∙ r.read_before; read_mark = r.read_mark; read_behind = r.read_behind }
    go (Some y) some [] e later =
        let e' : y ∷ Read w ≡ t ∷ b = e in
        let head : y ≡ t = cc in
        let tail : Read w ≡ b = cc in
        record { before = []; mark = g; behind = w; whole = refl; read_before = refl; read_mark = some ∙ ap (λ x. Some x) head; read_behind = tail }
    go (Some y) some (f ∷ a) e later =
        let e' : y ∷ Read w ≡ f ∷ (a ++ t ∷ b) = e in
        let head : y ≡ f = cc in
        let tail : Read w ≡ a ++ t ∷ b = cc in
        let r = later a tail in
        record {
          before = g ∷ r.before;
          mark = r.mark;
          behind = r.behind;
          whole = ap (λ z. g ∷ z) r.whole;
          read_before = ap (λ o. cons_option o (Read r.before)) some ∙ ap (λ x. x ∷ Read r.before) head ∙ ap (λ z. f ∷ z) r.read_before;
          read_mark = r.read_mark;
          read_behind = r.read_behind;
        }

-- a word cut where what is read of it is
pub cut_read : (w : List (Bound Mark)) (a : List (Bound Sym)) (z : List Sym) → Read w ≡ a ++ (inner z ++ Edge ∷ []) → (u : List (Bound Mark)) × (v : List (Bound Mark)) × (w ≡ u ++ v) × (Read u ≡ a) × (Read v ≡ inner z ++ Edge ∷ [])
cut_read w a [] is =
    let r = split_read w a Edge [] is in
    (r.before, r.mark ∷ r.behind, r.whole, r.read_before, ap (λ o. cons_option o (Read r.behind)) r.read_mark ∙ ap (λ z. Edge ∷ z) r.read_behind)
cut_read w a (s ∷ z) is =
    let r = split_read w a (Inner s) (inner z ++ Edge ∷ []) is in
    (r.before, r.mark ∷ r.behind, r.whole, r.read_before, ap (λ o. cons_option o (Read r.behind)) r.read_mark ∙ ap (λ z. Inner s ∷ z) r.read_behind)

-- a word of symbols in front of what is read up to the edge
pub inner_split : (c u : List Sym) (r : List (Bound Sym)) → inner c ++ r ≡ inner u ++ Edge ∷ [] → (z : List Sym) × (u ≡ c ++ z) × (r ≡ inner z ++ Edge ∷ [])
inner_split [] u r is = (u, refl, is)
inner_split (s ∷ c) [] r is = let e : Inner s ∷ (inner c ++ r) ≡ Edge ∷ [] = is in absurd (cc)
inner_split (s ∷ c) (t ∷ u) r is =
    let e : Inner s ∷ (inner c ++ r) ≡ Inner t ∷ (inner u ++ Edge ∷ []) = is in
    let head : t ≡ s = cc in
    let tail : inner c ++ r ≡ inner u ++ Edge ∷ [] = cc in
    let q = inner_split c u r tail in
    (q.0, ap (λ x. x ∷ u) head ∙ ap (λ z. s ∷ z) q.1, q.2)

abbrev pub U : List Claim → List Sym
U cs = flat_map upper cs

abbrev pub tail_of : List Claim → List (Bound Mark)
tail_of behind = flat_map encode behind ++ Edge ∷ []

-- a piece and what stands behind it, as they are read
pub rest_read : (p : Claim) (behind : List Claim) → Read (encode p ++ tail_of behind) ≡ inner (upper p ++ U behind) ++ Edge ∷ []
rest_read p behind =
    filter_map-append symbol (encode p) (tail_of behind) ∙ ap (λ v. v ++ Read (tail_of behind)) (reads_upper.piece p) ∙ ap (λ v. inner (upper p) ++ v) (reading_behind reads_upper behind)
    ∙ sym (append_assoc (inner (upper p)) (inner (U behind)) (Edge ∷ [])) ∙ ap (λ v. v ++ Edge ∷ []) (sym (map-append Inner (upper p) (U behind)))

-- the mark begins a piece
pub record Start (cs : List Claim) (x rest : List (Bound Mark)) : Type 0 where
  pub before : List Claim
  pub piece : Claim
  pub behind : List Claim
  pub whole : cs ≡ before ++ piece ∷ behind
  pub at : x ≡ Edge ∷ flat_map encode before
  pub rest_is : rest ≡ encode piece ++ tail_of behind

pub start_at : (cs : List Claim) (m : Mark) (x y : List (Bound Mark)) → ((p : Claim) (l r : List (Bound Mark)) → encode p ≡ l ++ Inner m ∷ r → l ≡ []) → written cs ≡ x ++ Inner m ∷ y → (s : Start cs x (Inner m ∷ y)) × (r : List (Bound Mark)) × (encode s.piece ≡ Inner m ∷ r)
start_at cs m [] y first e = let clash : Edge ∷ tail_of cs ≡ Inner m ∷ y = e in absurd (cc)
start_at cs m (g ∷ x) y first e =
    let e' : Edge ∷ tail_of cs ≡ g ∷ (x ++ Inner m ∷ y) = e in
    let head : g ≡ Edge = cc in
    let rest : flat_map encode cs ++ Edge ∷ [] ≡ x ++ Inner m ∷ y = cc in
    let r = locate encode cs (Edge ∷ []) x (Inner m) y (edge_not_inner m) rest in
    let none : r.left ≡ [] = first r.piece r.left r.right r.inside in
    let here : encode r.piece ≡ Inner m ∷ r.right = r.inside ∙ ap (λ l. l ++ Inner m ∷ r.right) none in (
      record {
        before = r.before;
        piece = r.piece;
        behind = r.behind;
        whole = r.whole;
        at = front_at g x (flat_map encode r.before) r.left head r.at_left none;
        rest_is = ap (λ v. Inner m ∷ v) r.at_right ∙ ap (λ v. v ++ tail_of r.behind) (sym here);
      },
      r.right,
      here,
    )

-- the marks of a replacement are brackets round something
pub block_is : (p : Claim) (k : ℕ) → IsBy k p → (body : List (Bound Mark)) × (encode p ≡ Inner (Open k) ∷ (body ++ Inner (Close k) ∷ []))
block_is (copied s) k h = absurd h
block_is (replaced j c b) k h = (ups c ++ lows b, ap (λ i. bracket i (ups c ++ lows b)) (sym h))
block_is (marked j b c a) k h = (lows b ++ sames c ++ lows a, ap (λ i. bracket i (lows b ++ sames c ++ lows a)) (sym h))

-- a word of marks that begins with a replacement and has a closing bracket has the whole of it
pub past_close : (p : Claim) (tail a v z : List (Bound Mark)) (i : ℕ) → (a ++ Inner (Close i) ∷ v) ++ z ≡ encode p ++ tail → (n : List (Bound Mark)) × (a ++ Inner (Close i) ∷ v ≡ encode p ++ (n ++ v))
past_close p tail a v z i is =
    let e : encode p ++ tail ≡ a ++ Inner (Close i) ∷ (v ++ z) = sym is ∙ append_assoc a (Inner (Close i) ∷ v) z in
    elim (split_at (encode p) tail a (Inner (Close i)) (v ++ z) e) as (λ _. (n : List (Bound Mark)) × (a ++ Inner (Close i) ∷ v ≡ encode p ++ (n ++ v))) [
      | in_first y inside rest ↦
          let none = (close_here p i a y inside).1 in
          let whole : encode p ≡ a ++ Inner (Close i) ∷ [] = inside ∙ ap (λ u. a ++ Inner (Close i) ∷ u) none in
          ([], sym (append_assoc a (Inner (Close i) ∷ []) v) ∙ ap (λ u. u ++ v) (sym whole))
      | in_second x first rest ↦ (
        x ++ Inner (Close i) ∷ [],
        ap (λ u. u ++ Inner (Close i) ∷ v) first ∙ append_assoc (encode p) x (Inner (Close i) ∷ v) ∙ ap (λ u. encode p ++ u) (sym (append_assoc x (Inner (Close i) ∷ []) v)),
      )
    ]

-- and one that has none ends within it
pub before_close : (p : Claim) (j : ℕ) (tail y : List (Bound Mark)) (n : Bound Mark) (z : List (Bound Mark)) → IsBy j p → (Inner (Open j) ∷ y) ++ n ∷ z ≡ encode p ++ tail → All (λ m. is_of NotClosing m ≡ true) y
    → (r : List (Bound Mark)) × (encode p ≡ (Inner (Open j) ∷ y) ++ n ∷ r)
before_close p j tail y n z by is all =
    elim (split_at (encode p) tail (Inner (Open j) ∷ y) n z (sym is)) as (λ _. (r : List (Bound Mark)) × (encode p ≡ (Inner (Open j) ∷ y) ++ n ∷ r)) [
      | in_first r inside rest ↦ (r, inside)
      | in_second x first rest ↦
          let b = block_is p j by in
          let e : Inner (Open j) ∷ y ≡ Inner (Open j) ∷ ((b.0 ++ Inner (Close j) ∷ []) ++ x) = first ∙ ap (λ u. u ++ x) b.1 in
          let e' : y ≡ (b.0 ++ Inner (Close j) ∷ []) ++ x = cc in
          let bad : false ≡ true = all_here (λ m. is_of NotClosing m ≡ true) b.0 (Inner (Close j)) x (subst (All (λ m. is_of NotClosing m ≡ true)) (e' ∙ append_assoc b.0 (Inner (Close j) ∷ []) x) all) in
          absurd (cc)
    ]

-- a symbol read behind a piece makes the match longer than the centre, and one read within it shorter
pub longer_read : (p : Claim) (a r : List (Bound Mark)) (t : Bound Mark) (s : Sym) (c : List Sym) → Read (encode p ++ (a ++ t ∷ r)) ≡ inner c → symbol t ≡ Some (Inner s) → length (upper p) < length c
longer_read p a r t s c is read =
    let e : inner c ≡ inner (upper p) ++ (Read a ++ Inner s ∷ Read r) =
    sym is ∙ filter_map-append symbol (encode p) (a ++ t ∷ r) ∙ ap (λ v. v ++ Read (a ++ t ∷ r)) (reads_upper.piece p)
    ∙ ap (λ v. inner (upper p) ++ v) (filter_map-append symbol a (t ∷ r) ∙ ap (λ o. Read a ++ cons_option o (Read r)) read) in
    lengths c (front_shorter (inner (upper p)) (Read a) (Read r) (Inner s) (inner c) e)
  where
    lengths : (c : List Sym) → length (inner (upper p)) < length (inner c) → length (upper p) < length c
    lengths c h = subst (λ n. n < length c) (length-map (upper p) Inner) (subst (λ n. length (inner (upper p)) < n) (length-map c Inner) h)

pub shorter_read : (p : Claim) (m r : List (Bound Mark)) (t : Bound Mark) (s : Sym) (c : List Sym) → encode p ≡ m ++ t ∷ r → Read m ≡ inner c → symbol t ≡ Some (Inner s) → length c < length (upper p)
shorter_read p m r t s c whole is read =
    let e : inner (upper p) ≡ inner c ++ ([] ++ Inner s ∷ Read r) =
    sym (reads_upper.piece p) ∙ ap Read whole ∙ filter_map-append symbol m (t ∷ r) ∙ ap (λ v. v ++ Read (t ∷ r)) is ∙ ap (λ o. inner c ++ cons_option o (Read r)) read in
    lengths (front_shorter (inner c) [] (Read r) (Inner s) (inner (upper p)) e)
  where
    lengths : length (inner c) < length (inner (upper p)) → length c < length (upper p)
    lengths h = subst (λ n. n < length (upper p)) (length-map c Inner) (subst (λ n. length (inner c) < n) (length-map (upper p) Inner) h)

-- what bars a claim
abbrev pub BarsClaim : Length → List Sym → Claim → Type 0
BarsClaim length c (copied s) = Unit {0}
BarsClaim Longest c (replaced k centre r) = length centre < length c
BarsClaim Shortest c (replaced k centre r) = length c < length centre
BarsClaim Longest c (marked k b centre a) = length centre < length c
BarsClaim Shortest c (marked k b centre a) = length c < length centre
