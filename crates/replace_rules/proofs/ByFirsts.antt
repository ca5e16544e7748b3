-- What rules rewrite, by the words of marks of firsts.
use Rattle.std.proofs.Common.{◌≡◌, ◌↔◌, ◌⊎◌, ℕ, Bool, true, false, List, [], ◌∷◌, ◌++◌, Option, Some, None, All, length, map, refl, sym, ap, subst, ◌∙◌, inl, inr, append_assoc, nat_eq, cond, suc, arith}
use Rattle.std.specs.Prelude.{option_map}
use Rattle.std.specs.List.{Contains, slice_get, flat_map, filter_map}
use Rattle.std.proofs.lemmas.Bool.Decides.{Decides-eqb}
use Rattle.std.proofs.lemmas.Option.{slice_get-map}
use Rattle.std.proofs.lemmas.List.{map-append}
use Rattle.std.proofs.lemmas.List.Elements.{All-nil, All-cons, All-head, All-tail, All-map, All-weaker}
use Rattle.fsm_base.specs.declared.letters.Sym.{Sym}
use Rattle.fsm_base.specs.declared.letters.Bound.{Bound}
use Rattle.fsm_base.specs.declared.letters.Bound.TheVariants.{Edge, Inner}
use Rattle.fsm_base.specs.declared.letters.Pair.{Pair}
use Rattle.fsm_base.proofs.AlphabetLemmas.{same_symbol, IsDistinct-tail, no_repeat}
use Rattle.regex_ast.specs.declared.expr.Side.{Side}
use Rattle.word_relations.specs.Words.{IsOver, IsDistinct, Translates}
use Rattle.word_relations.proofs.Members.{Contains-nil_cases, Contains-cons_cases, Contains-head, Contains-tail, Contains-map_cases}
use Rattle.word_relations.proofs.Places.{Contains-from_slice_get, slice_get_from_Contains}
use Rattle.fsa.specs.Automaton.{Automaton}
use Rattle.fsa.specs.Language as language
use Rattle.fsa.specs.Complete.{Complete, Accepts}
use Rattle.fst_algebra.specs.Relation.{IsRelated}
use Rattle.lang_algebra.specs.Languages.{IsLang}
use Rattle.expr_meaning.specs.Operators.{HasPrefix, HasSuffix}
use Rattle.expr_meaning.specs.Replacement.{IsRewritten}
use Rattle.replace_words.specs.declared.marks.Mark.{Mark}
use Rattle.replace_words.specs.declared.marks.Mark.TheVariants.{Copy, Up, Low, Same, Open, Close}
use Rattle.replace_words.specs.Firsts.{first_mark, first_bound, HasSymbolIn, IsBoundIn, ActsByFirsts}
use Rattle.replace_words.specs.Marked.{upper_of, lower_of, symbol_of, IsWellMarked, IsKept, IsMarked}
use Rattle.replace_words.proofs.Claimed.{rewritings_are_marked}
use Rattle.replace_words.proofs.Alike.{map_split, marked_by_firsts}
use Rattle.replace_rules.specs.Letters.{IsMarkOf, marks_with, brackets, first_table}
use Rattle.replace_rules.specs.declared.rules.LangMap.{LangMap}
use Rattle.replace_rules.specs.declared.rules.LangContext.{LangContext}
use Rattle.replace_rules.specs.declared.rules.LangGroup.{LangGroup}
use Rattle.replace_rules.specs.Rules.{ReplacesBy, AppliesBy, AreMapsOver}
use Rattle.replace_rules.specs.Places.{Place, choices, place_with, places_of, HasCentreIn, HasPlain, HasMarkup, LeftPart, RightPart, rules_by}
use Rattle.replace_rules.specs.Alike.{IsLike, MapIsLike, ContextIsLike, GroupIsLike, AreFirsts}
use Rattle.replace_rules.proofs.Listing.{listed, listed_marks}
use Rattle.replace_rules.proofs.Relations.{place_group, rewritten_places, no_empty_centres, well_over}
use Rattle.replace_rules.proofs.Sets.{over_back}
use Rattle.replace_rules.proofs.Tables.{translated}

-- a function that gives each symbol of a list without repetition what stands at its place in another list
pub chosen : (symbols firsts : List Sym) → length firsts ≡ length symbols → IsDistinct symbols → (first : Sym → Sym) × (firsts ≡ map first symbols)
chosen [] [] count distinct = (λ s. s, refl)
chosen [] (f ∷ firsts) count distinct = let e : suc (length firsts) ≡ 0 = count in absurd (omega (arith, e))
chosen (s ∷ symbols) [] count distinct = let e : 0 ≡ suc (length symbols) = count in absurd (omega (arith, e))
chosen (s ∷ symbols) (f ∷ firsts) count distinct =
    let e : suc (length firsts) ≡ suc (length symbols) = count in
    let tail : length firsts ≡ length symbols = omega (arith, e) in
    let r = chosen symbols firsts tail (IsDistinct-tail s symbols distinct) in
    let g : Sym → Sym = λ t. cond (nat_eq t.0 s.0) f (r.0 t) in
    (g, ap (λ h. h ∷ firsts) (here s f r.0) ∙ ap (λ z. g s ∷ z) (r.1 ∙ others s f r.0 symbols (no_repeat s symbols distinct)))
  where
    itself : (n : ℕ) → nat_eq n n ≡ true
    itself n = (Decides-eqb n n).1 refl

    here : (s f : Sym) (first : Sym → Sym) → f ≡ cond (nat_eq s.0 s.0) f (first s)
    here s f first = ap (λ b. cond b f (first s)) (sym (itself s.0))

    other : (s f t : Sym) (first : Sym → Sym) → (t ≡ s → ⊥) → first t ≡ cond (nat_eq t.0 s.0) f (first t)
    other s f t first apart = by (nat_eq t.0 s.0) refl
      where
        by : (b : Bool) → nat_eq t.0 s.0 ≡ b → first t ≡ cond b f (first t)
        by true test = absurd (apart (same_symbol t s test))
        by false test = refl

    others : (s f : Sym) (first : Sym → Sym) (symbols : List Sym) → (Contains symbols s → ⊥) → map first symbols ≡ map (λ t. cond (nat_eq t.0 s.0) f (first t)) symbols
    others s f first [] new = refl
    others s f first (t ∷ symbols) new =
        ap (λ h. h ∷ map first symbols) (other s f t first (λ e. new (subst (Contains (t ∷ symbols)) e (Contains-head t symbols))))
        ∙ ap (λ z. cond (nat_eq t.0 s.0) f (first t) ∷ z) (others s f first symbols (λ among. new (Contains-tail t symbols s among)))

-- words whose letters are changed one by one
like_from : {L : Type 0} (P : List L → Type 0) (R : L → Type 0) (g : L → L) → ((x : L) → R x → IsLike P x (g x)) → (w u : List L) → All R w → P (u ++ w) ↔ P (u ++ map g w)
like_from P R g like [] u h = (λ p. p, λ p. p)
like_from P R g like (x ∷ w) u h =
    let one = like x (All-head R x w h) u w in
    let rest = like_from P R g like w (u ++ g x ∷ []) (All-tail R x w h) in
    let e : (u ++ g x ∷ []) ++ w ≡ u ++ g x ∷ w = append_assoc u (g x ∷ []) w in
    let e' : (u ++ g x ∷ []) ++ map g w ≡ u ++ g x ∷ map g w = append_assoc u (g x ∷ []) (map g w) in
    (λ p. subst P e' (rest.0 (subst P (sym e) (one.0 p))), λ p. one.1 (subst P e (rest.1 (subst P (sym e') p))))

pub like_words : {L : Type 0} (P : List L → Type 0) (R : L → Type 0) (g : L → L) → ((x : L) → R x → IsLike P x (g x)) → (w : List L) → All R w → P w ↔ P (map g w)
like_words P R g like w h = like_from P R g like w [] h

all_front : {X : Type 0} (Q : X → Type 0) (x y : List X) → All Q (x ++ y) → All Q x
all_front Q [] y h = All-nil Q
all_front Q (a ∷ x) y h = All-cons Q a x (All-head Q a (x ++ y) h) (all_front Q x y (All-tail Q a (x ++ y) h))

all_back : {X : Type 0} (Q : X → Type 0) (x y : List X) → All Q (x ++ y) → All Q y
all_back Q [] y h = h
all_back Q (a ∷ x) y h = all_back Q x y (All-tail Q a (x ++ y) h)

-- ends and beginnings
pub like_suffix : {L : Type 0} (P : List L → Type 0) (R : L → Type 0) (g : L → L) → ((x : L) → R x → IsLike P x (g x)) → (w : List L) → All R w → HasSuffix P w ↔ HasSuffix P (map g w)
like_suffix P R g like w h = (
  λ (front, back, is, p). (map g front, map g back, ap (map g) is ∙ map-append g front back, (like_words P R g like back (all_back R front back (subst (All R) is h))).0 p),
  λ (front, back, is, p).
      let (u, v, e, uf, vb) = map_split g w front back is in
      (u, v, e, (like_words P R g like v (all_back R u v (subst (All R) e h))).1 (subst P (sym vb) p)),
)

pub like_prefix : {L : Type 0} (P : List L → Type 0) (R : L → Type 0) (g : L → L) → ((x : L) → R x → IsLike P x (g x)) → (w : List L) → All R w → HasPrefix P w ↔ HasPrefix P (map g w)
like_prefix P R g like w h = (
  λ (front, back, is, p). (map g front, map g back, ap (map g) is ∙ map-append g front back, (like_words P R g like front (all_front R front back (subst (All R) is h))).0 p),
  λ (front, back, is, p).
      let (u, v, e, uf, vb) = map_split g w front back is in
      (u, v, e, (like_words P R g like u (all_front R u v (subst (All R) e h))).1 (subst P (sym uf) p)),
)

-- a context that is there is one of the group's
choice_among : (contexts : List LangContext) (c : LangContext) → Contains (choices contexts) (Some c) → Contains contexts c
choice_among [] c h = elim (Contains-cons_cases None [] (Some c) h) as (λ _. Contains [] c) [
  | inl e ↦ absurd (cc)
  | inr none ↦ absurd (Contains-nil_cases (Some c) none)
]
choice_among (d ∷ contexts) c h =
    let t = Contains-map_cases Some (d ∷ contexts) (Some c) h in
    let same : t.0 ≡ c = let e : Some t.0 ≡ Some c = t.2 in cc in
    subst (Contains (d ∷ contexts)) same t.1

module _ (symbols : List Sym) (first : Sym → Sym) (groups : List LangGroup) (like : (s : Sym) → Contains symbols s → (g : LangGroup) → Contains groups g → GroupIsLike g s (first s)) where
  module _ (g : LangGroup) (among : Contains groups g) where
    map_like : (m : LangMap) → Contains g.maps.items m → (s : Sym) → Contains symbols s → MapIsLike m s (first s)
    map_like m there s held = (like s held g among).maps m there

    centre_same : (m : LangMap) → Contains g.maps.items m → (w : List Sym) → IsOver symbols w → Accepts m.centre w ↔ Accepts m.centre (map first w)
    centre_same m there w over = like_words (Accepts m.centre) (Contains symbols) first (λ s held. (map_like m there s held).centre) w over

    result_same : (m : LangMap) → Contains g.maps.items m → (w : List Sym) → IsOver symbols w → Accepts m.result w ↔ Accepts m.result (map first w)
    result_same m there w over = like_words (Accepts m.result) (Contains symbols) first (λ s held. (map_like m there s held).result) w over

    after_same : (m : LangMap) → Contains g.maps.items m → (d : Complete Sym) → m.after ≡ Some d → (w : List Sym) → IsOver symbols w → Accepts d w ↔ Accepts d (map first w)
    after_same m there d is w over = like_words (Accepts d) (Contains symbols) first (λ s held. (map_like m there s held).after d is) w over

    bound_like : (c : LangContext) → Contains g.contexts.items c → (x : Bound Sym) → IsBoundIn symbols x → ContextIsLike c x (first_bound first x)
    bound_like c there Edge held = record { left = λ u v. (λ h. h, λ h. h); right = λ u v. (λ h. h, λ h. h) }
    bound_like c there (Inner s) held = (like s held g among).contexts c there

    left_same : (o : Option LangContext) → Contains (choices g.contexts.items) o → (x : List (Bound Sym)) → All (IsBoundIn symbols) x → LeftPart o x ↔ LeftPart o (map (first_bound first) x)
    left_same None there x h = (λ t. t, λ t. t)
    left_same (Some c) there x h = like_suffix (Accepts c.left) (IsBoundIn symbols) (first_bound first) (λ b held. (bound_like c (choice_among g.contexts.items c there) b held).left) x h

    right_same : (o : Option LangContext) → Contains (choices g.contexts.items) o → (x : List (Bound Sym)) → All (IsBoundIn symbols) x → RightPart o x ↔ RightPart o (map (first_bound first) x)
    right_same None there x h = (λ t. t, λ t. t)
    right_same (Some c) there x h = like_prefix (Accepts c.right) (IsBoundIn symbols) (first_bound first) (λ b held. (bound_like c (choice_among g.contexts.items c there) b held).right) x h

    place_acts : (o : Option LangContext) → Contains (choices g.contexts.items) o → ActsByFirsts rules_by symbols first (place_with g.maps.items g.side o)
    place_acts o there = record {
      centre = λ c over. (
        λ (m, held, is). (m, held, (centre_same m held c over).0 is),
        λ (m, held, is). (m, held, (centre_same m held c over).1 is),
      );
      replaces = λ c r over over'. (
        λ (m, held, none, is, put). (m, held, none, (centre_same m held c over).0 is, (result_same m held r over').0 put),
        λ (m, held, none, is, put). (m, held, none, (centre_same m held c over).1 is, (result_same m held r over').1 put),
      );
      surrounds = λ b c a over_b over_c over_a. (
        λ (m, held, d, some, is, before, behind). (m, held, d, some, (centre_same m held c over_c).0 is, (result_same m held b over_b).0 before, (after_same m held d some a over_a).0 behind),
        λ (m, held, d, some, is, before, behind). (m, held, d, some, (centre_same m held c over_c).1 is, (result_same m held b over_b).1 before, (after_same m held d some a over_a).1 behind),
      );
      left = λ x h. left_same o there x h;
      right = λ x h. right_same o there x h;
    }

  acts : (p : Place) → Contains (places_of groups) p → ActsByFirsts rules_by symbols first p
  acts p there =
      let r = place_group groups p there in
      let t = Contains-map_cases (place_with r.0.maps.items r.0.side) (choices r.0.contexts.items) p r.2 in
      subst (ActsByFirsts rules_by symbols first) t.2 (place_acts r.0 r.1 t.0 t.1)

-- marks of symbols have symbols among these, and the marks of their firsts are marks of the firsts
pub has_symbol : (symbols : List Sym) (n : ℕ) (m : Bound Mark) → IsMarkOf symbols n m → HasSymbolIn symbols m
has_symbol symbols n Edge h = tt
has_symbol symbols n (Inner (Copy s)) h = h
has_symbol symbols n (Inner (Up s)) h = h
has_symbol symbols n (Inner (Low s)) h = h
has_symbol symbols n (Inner (Same s)) h = h
has_symbol symbols n (Inner (Open k)) h = tt
has_symbol symbols n (Inner (Close k)) h = tt

pub first_of : (symbols once : List Sym) (first : Sym → Sym) → ((s : Sym) → Contains symbols s → Contains once (first s)) → (n : ℕ) (m : Bound Mark) → IsMarkOf symbols n m → IsMarkOf once n (first_mark first m)
first_of symbols once first are n Edge h = tt
first_of symbols once first are n (Inner (Copy s)) h = are s h
first_of symbols once first are n (Inner (Up s)) h = are s h
first_of symbols once first are n (Inner (Low s)) h = are s h
first_of symbols once first are n (Inner (Same s)) h = are s h
first_of symbols once first are n (Inner (Open k)) h = h
first_of symbols once first are n (Inner (Close k)) h = h

filter_given : {L M : Type 0} (f : L → M) (w : List L) → filter_map (λ x. Some (f x)) w ≡ map f w
filter_given f [] = refl
filter_given f (x ∷ w) = ap (λ z. f x ∷ z) (filter_given f w)

-- the network of the words of which the word of the firsts is in the language
pub firsts_related : (symbols : List Sym) (n : ℕ) (first : Sym → Sym) (marks : List (Bound Mark)) (words : Complete (Bound Mark)) (accepted all : Automaton (Bound Mark)) (m : Automaton Pair) (rows : List (Bound Mark × Option (Bound Mark)))
    → ((x : Bound Mark) → Contains marks x ↔ IsMarkOf symbols n x) → rows ≡ first_table first symbols n → ((z : List (Bound Mark)) → language.Accepts accepted z ↔ Accepts words z)
    → ((z : List (Bound Mark)) → language.Accepts all z ↔ ((w : List (Bound Mark)) × language.Accepts accepted w × Translates rows z w))
    → ((u w : List Sym) → IsRelated m u w ↔ ((z : List (Bound Mark)) × (IsOver marks z × language.Accepts all z) × (filter_map (symbol_of upper_of) z ≡ u) × (filter_map (symbol_of lower_of) z ≡ w)))
    → (u w : List Sym) → IsRelated m u w ↔ ((z : List (Bound Mark)) × (All (IsMarkOf symbols n) z × Accepts words (map (first_mark first) z)) × (filter_map (symbol_of upper_of) z ≡ u) × (filter_map (symbol_of lower_of) z ≡ w))
firsts_related symbols n first marks words accepted all m rows marks_are rows_are accepted_is all_is is u w = (
  λ h.
      let (z, (over, held), up, low) = (is u w).0 h in
      let r = (all_is z).0 held in
      let t = (translated (λ x. Some (first_mark first x)) (listed symbols n) (language.Accepts accepted) z).0 (r.0, r.1, subst (λ rs. Translates rs z r.0) rows_are r.2) in
      (z, (All-weaker (Contains marks) (IsMarkOf symbols n) (λ x. (marks_are x).0) z over, subst (Accepts words) (filter_given (first_mark first) z) ((accepted_is (filter_map (λ x. Some (first_mark first x)) z)).0 t.1)), up, low),
  λ (z, (of, held), up, low).
      let over : IsOver (listed symbols n) z = All-weaker (IsMarkOf symbols n) (Contains (listed symbols n)) (λ x. (listed_marks symbols n x).1) z of in
      let given : Accepts words (filter_map (λ x. Some (first_mark first x)) z) = subst (Accepts words) (sym (filter_given (first_mark first) z)) held in
      let r = (translated (λ x. Some (first_mark first x)) (listed symbols n) (language.Accepts accepted) z).1 (over, (accepted_is (filter_map (λ x. Some (first_mark first x)) z)).1 given) in
      (is u w).1 (z, (All-weaker (IsMarkOf symbols n) (Contains marks) (λ x. (marks_are x).1) z of, (all_is z).1 (r.0, r.1, subst (λ rs. Translates rs z r.0) (sym rows_are) r.2)), up, low),
)

-- the words of marks that keep the rules, where all marks are those of some symbols
pub marked_language : (symbols : List Sym) (places : List Place) (n : ℕ) → length places ≡ n → (marks : List (Bound Mark)) (optional : Bool) (well : Automaton (Bound Mark)) (words : Complete (Bound Mark)) → ((m : Bound Mark) → Contains marks m ↔ IsMarkOf symbols n m)
    → ((w : List (Bound Mark)) → language.Accepts well w ↔ IsWellMarked rules_by symbols places w)
    → IsLang marks (λ w. (IsOver marks w × language.Accepts well w) × ((k : ℕ) (p : Place) → slice_get places k ≡ Some p → IsKept rules_by optional k p w)) words
    → (w : List (Bound Mark)) → Accepts words w ↔ (All (IsMarkOf symbols (length places)) w × IsMarked rules_by symbols places optional w)
marked_language symbols places n count marks optional well words marks_are well_is words_are w =
    let are : (m : Bound Mark) → Contains marks m ↔ IsMarkOf symbols (length places) m = λ m. subst (λ k. Contains marks m ↔ IsMarkOf symbols k m) (sym count) (marks_are m) in (
      λ h. let r = (words_are.words w).0 h in (All-weaker (Contains marks) (IsMarkOf symbols (length places)) (λ m. (are m).0) w r.0.0, ((well_is w).0 r.0.1, r.1)),
      λ h. (words_are.words w).1 ((All-weaker (IsMarkOf symbols (length places)) (Contains marks) (λ m. (are m).1) w h.0, (well_is w).1 h.1.0), h.1.1),
    )

module _ (symbols : List Sym) (groups : List LangGroup) (over : AreMapsOver symbols groups) (firsts once : List Sym) (is : AreFirsts symbols groups firsts) (once_is : (s : Sym) → Contains once s ↔ Contains firsts s) (first : Sym → Sym) (e : firsts ≡ map first symbols) where
  found : (s : Sym) → Contains symbols s → Contains firsts (first s) × ((g : LangGroup) → Contains groups g → GroupIsLike g s (first s))
  found s among =
      let k = slice_get_from_Contains symbols s among in
      let at : slice_get firsts k.0 ≡ Some (first s) = ap (λ fs. slice_get fs k.0) e ∙ slice_get-map first symbols k.0 ∙ ap (option_map first) k.1 in
      (Contains-from_slice_get firsts k.0 (first s) at, (is.each k.0 s (first s) k.1 at).1)

  are : (s : Sym) → Contains symbols s → Contains once (first s)
  are s among = (once_is (first s)).1 (found s among).0

  abbrev Count : ℕ
  Count = length (places_of groups)

  same_marked : (optional : Bool) (z : List (Bound Mark)) → All (IsMarkOf symbols Count) z → IsMarked rules_by symbols (places_of groups) optional z ↔ IsMarked rules_by once (places_of groups) optional (map (first_mark first) z)
  same_marked optional z of =
      marked_by_firsts Place rules_by (places_of groups) symbols once first optional z (acts symbols first groups (λ s among. (found s among).1)) are (All-weaker (IsMarkOf symbols Count) (HasSymbolIn symbols) (has_symbol symbols Count) z of)

  pub rewritten_by_firsts : (places : List Place) → places ≡ places_of groups → (n : ℕ) → length places ≡ n → (optional : Bool) (words : Complete (Bound Mark)) → ((w : List (Bound Mark)) → Accepts words w ↔ (All (IsMarkOf once (length places)) w × IsMarked rules_by once places optional w))
      → (u w : List Sym) → ((z : List (Bound Mark)) × (All (IsMarkOf symbols n) z × Accepts words (map (first_mark first) z)) × (filter_map (symbol_of upper_of) z ≡ u) × (filter_map (symbol_of lower_of) z ≡ w)) ↔ IsRewritten symbols (ReplacesBy groups) (AppliesBy groups) optional u w
  rewritten_by_firsts places places_are n count optional words words_are u w =
      let n_is : Count ≡ n = ap length (sym places_are) ∙ count in
      let words_is : (v : List (Bound Mark)) → Accepts words v ↔ (All (IsMarkOf once Count) v × IsMarked rules_by once (places_of groups) optional v) =
      λ v. subst (λ (ps : List Place). Accepts words v ↔ (All (IsMarkOf once (length ps)) v × IsMarked rules_by once ps optional v)) places_are (words_are v) in
      let marked = rewritings_are_marked Place rules_by (places_of groups) symbols optional u w (no_empty_centres symbols groups over) in
      let places = rewritten_places symbols groups optional u w in (
        λ (z, (of, h), up, low).
            let of' : All (IsMarkOf symbols Count) z = subst (λ k. All (IsMarkOf symbols k) z) (sym n_is) of in
            let m = ((words_is (map (first_mark first) z)).0 h).1 in
            places.1 (marked.1 (z, (same_marked optional z of').1 m, up, low)),
        λ h.
            let (z, m, up, low) = marked.0 (places.0 h) in
            let of : All (IsMarkOf symbols Count) z = well_over symbols groups over z m.0 in
            let of' : All (IsMarkOf once Count) (map (first_mark first) z) = All-map (IsMarkOf once Count) (first_mark first) z (All-weaker (IsMarkOf symbols Count) (λ x. IsMarkOf once Count (first_mark first x)) (first_of symbols once first are Count) z of) in
            (z, (subst (λ k. All (IsMarkOf symbols k) z) n_is of, (words_is (map (first_mark first) z)).1 (of', (same_marked optional z of).0 m)), up, low),
      )
