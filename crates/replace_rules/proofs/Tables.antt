-- Words read through the table of a function.
use Rattle.std.proofs.Common.{◌≡◌, ◌↔◌, List, [], ◌∷◌, ◌++◌, Option, Some, None, map, refl, sym, ap, subst, ◌∙◌}
use Rattle.std.specs.List.{Contains, filter_map, cons_option}
use Rattle.std.proofs.lemmas.List.Elements.{All-nil, All-cons, All-head, All-tail}
use Rattle.word_relations.specs.Words.{IsOver, Translates, finish, keep, omit}
use Rattle.word_relations.proofs.Members.{Contains-map, Contains-map_cases}
use Rattle.replace_rules.specs.Letters.{table_of}

-- the rows of a table
pub row_cases : {L M : Type 0} (g : L → Option M) (letters : List L) (x : L) (o : Option M) → Contains {X = L × Option M} (table_of g letters) (x, o) → Contains letters x × (g x ≡ o)
row_cases {L} {M} g letters x o held =
    let r = Contains-map_cases (λ (k : L). (k, g k)) letters (x, o) held in
    let same : r.0 ≡ x = ap (λ (p : L × Option M). p.0) r.2 in
    (subst (Contains letters) same r.1, sym (ap g same) ∙ ap (λ (p : L × Option M). p.1) r.2)

module _ {L M : Type 0} (g : L → Option M) (letters : List L) where
  abbrev ListTable : List (L × Option M)
  ListTable = table_of g letters

  pub translated_down : (v : List L) (w : List M) → Translates ListTable v w → IsOver letters v × (filter_map g v ≡ w)
  translated_down _ _ finish = (All-nil (Contains letters), refl)
  translated_down _ _ (keep {x = x} {y = y} {v = v} {w = w} c rest) =
      let r = row_cases g letters x (Some y) c in
      let t = translated_down v w rest in
      (All-cons (Contains letters) x v r.0 t.0, ap (λ o. cons_option o (filter_map g v)) r.1 ∙ ap (λ z. y ∷ z) t.1)
  translated_down _ _ (omit {x = x} {v = v} {w = w} c rest) =
      let r = row_cases g letters x None c in
      let t = translated_down v w rest in
      (All-cons (Contains letters) x v r.0 t.0, ap (λ o. cons_option o (filter_map g v)) r.1 ∙ t.1)

  pub translated_up : (v : List L) → IsOver letters v → Translates ListTable v (filter_map g v)
  translated_up [] over = finish
  translated_up (x ∷ v) over =
      step x v (g x) refl (Contains-map (λ (k : L). (k, g k)) letters x (All-head (Contains letters) x v over)) (translated_up v (All-tail (Contains letters) x v over))
    where
      step : (x : L) (v : List L) (o : Option M) → g x ≡ o → Contains {X = L × Option M} ListTable (x, g x) → Translates ListTable v (filter_map g v) → Translates ListTable (x ∷ v) (cons_option o (filter_map g v))
      step x v None e row rest = omit (subst (λ o. Contains {X = L × Option M} ListTable (x, o)) e row) rest
      step x v (Some y) e row rest = keep (subst (λ o. Contains {X = L × Option M} ListTable (x, o)) e row) rest

  -- the words that translate into a word of the set
  pub translated : (P : List M → Type 0) (v : List L) → ((w : List M) × P w × Translates ListTable v w) ↔ (IsOver letters v × P (filter_map g v))
  translated P v = (
    λ (w, p, h). let t = translated_down v w h in (t.0, subst P (sym t.1) p),
    λ (over, p). (filter_map g v, p, translated_up v over),
  )

-- where what a function gives of a word is split, the word is
pub filter_split : {L M : Type 0} (g : L → Option M) (x : List L) (front back : List M) → filter_map g x ≡ front ++ back → (u : List L) × (v : List L) × (x ≡ u ++ v) × (filter_map g u ≡ front) × (filter_map g v ≡ back)
filter_split g x [] back e = ([], x, refl, refl, e)
filter_split g [] (f ∷ front) back e = let none : [] ≡ f ∷ (front ++ back) = e in absurd (cc)
filter_split {L} {M} g (m ∷ x) (f ∷ front) back e = go (g m) refl e (λ fr h. filter_split g x fr back h)
  where
    go : (o : Option M) → g m ≡ o → cons_option o (filter_map g x) ≡ f ∷ (front ++ back) → ((fr : List M) → filter_map g x ≡ fr ++ back → (u : List L) × (v : List L) × (x ≡ u ++ v) × (filter_map g u ≡ fr) × (filter_map g v ≡ back)) → (u : List L) × (v : List L) × (m ∷ x ≡ u ++ v) × (filter_map g u ≡ f ∷ front) × (filter_map g v ≡ back)
    go None is e later =
        let r = later (f ∷ front) e in
        (m ∷ r.0, r.1, ap (λ z. m ∷ z) r.2, ap (λ o. cons_option o (filter_map g r.0)) is ∙ r.3, r.4)
    go (Some y) is e later =
        let e' : y ∷ filter_map g x ≡ f ∷ (front ++ back) = e in
        let head : y ≡ f = cc in
        let tail : filter_map g x ≡ front ++ back = cc in
        let r = later front tail in
        (m ∷ r.0, r.1, ap (λ z. m ∷ z) r.2, ap (λ o. cons_option o (filter_map g r.0)) is ∙ ap (λ z. z ∷ filter_map g r.0) head ∙ ap (λ z. f ∷ z) r.3, r.4)

-- words of letters that all have names
pub all_named : {X Y : Type 0} (f : X → Y) (w : List X) (v : List Y) → map (λ x. Some (f x)) w ≡ map Some v → v ≡ map f w
all_named f [] [] is = refl
all_named f [] (y ∷ v) is = let e : [] ≡ Some y ∷ map Some v = is in absurd (cc)
all_named f (x ∷ w) [] is = let e : Some (f x) ∷ map (λ x. Some (f x)) w ≡ [] = is in absurd (cc)
all_named f (x ∷ w) (y ∷ v) is =
    let e : Some (f x) ∷ map (λ x. Some (f x)) w ≡ Some y ∷ map Some v = is in
    let head : y ≡ f x = cc in
    let tail : map (λ x. Some (f x)) w ≡ map Some v = cc in
    ap (λ z. z ∷ v) head ∙ ap (λ z. f x ∷ z) (all_named f w v tail)

pub names_all : {X Y : Type 0} (f : X → Y) (w : List X) → map (λ x. Some (f x)) w ≡ map Some (map f w)
names_all f [] = refl
names_all f (x ∷ w) = ap (λ z. Some (f x) ∷ z) (names_all f w)
