-- Readers that read what is written, and nothing else. Nothing here knows what a token is.
use Rattle.std.proofs.Common.{◌≡◌, ℕ, zero, suc, ◌<◌, ◌≤◌, Bool, true, false, not, cond, Option, Some, None, List, [], ◌∷◌, length, map, refl, ap, ◌∙◌, arith}
use Rattle.std.specs.Option.{option_map, option_and_then}
use Rattle.regex_grammar.specs.Rows.{begins, Row, Tailed, Led, put_more, put_option, put_row, put_tailed, put_led, row_value, tailed_value, led_value, Reader, many, option_at, row_at, tailed_at, led_at}
use Rattle.regex_grammar.proofs.Cases.{if_cases, map_some, then_some}

-- `starts` passes the first token of what is written; `goes` passes a token behind it at which the reader might go
-- on
pub record Exact {A T K : Type 0} (read : Reader K T) (put : A → List K → List K) (says : A → T) (starts goes : K → Bool) : Type 0 where
  pub takes : (tokens : List K) (x : T × List K) → read tokens ≡ Some x → (a : A) × (tokens ≡ put a x.1) × (says a ≡ x.0)
  pub again : (a : A) (rest : List K) → begins goes rest ≡ false → read (put a rest) ≡ Some (says a, rest)
  pub begun : (a : A) (rest : List K) → begins starts (put a rest) ≡ true
  pub grows : (a : A) (rest : List K) → length rest < length (put a rest)

-- how the tests of a row's parts fit together: what doesn't go on the row ends both of its parts, and so does
-- what begins the next item
pub record Follow {K : Type 0} (next goes_first goes_next goes : K → Bool) : Type 0 where
  pub end_row : (t : K) → goes t ≡ false → next t ≡ false
  pub end_first : (t : K) → goes t ≡ false → goes_first t ≡ false
  pub end_next : (t : K) → goes t ≡ false → goes_next t ≡ false
  pub next_first : (t : K) → next t ≡ true → goes_first t ≡ false
  pub next_next : (t : K) → next t ≡ true → goes_next t ≡ false

pub front_fails : {K : Type 0} (p q : K → Bool) → ((t : K) → p t ≡ false → q t ≡ false) → (tokens : List K) → begins p tokens ≡ false → begins q tokens ≡ false
front_fails p q h [] e = refl
front_fails p q h (t ∷ ts) e = h t e

pub front_bars : {K : Type 0} (p q : K → Bool) → ((t : K) → p t ≡ true → q t ≡ false) → (tokens : List K) → begins p tokens ≡ true → begins q tokens ≡ false
front_bars p q h [] e = refl
front_bars p q h (t ∷ ts) e = h t e

pub front_passes : {K : Type 0} (p q : K → Bool) → ((t : K) → p t ≡ true → q t ≡ true) → (tokens : List K) → begins p tokens ≡ true → begins q tokens ≡ true
front_passes p q h [] e = e
front_passes p q h (t ∷ ts) e = h t e

-- Items one behind the other.

pub many_step : {K U : Type 0} (next : K → Bool) (read : Reader K U) (n : ℕ) (tokens : List K) (x : U × List K) → begins next tokens ≡ true → read tokens ≡ Some x → many next read (suc n) tokens ≡ option_map (λ y. (x.0 ∷ y.0, y.1)) (many next read n x.1)
many_step {K} {U} next read n tokens x here first =
    ap (λ b. cond b (option_and_then (λ (x : U × List K). option_map (λ (y : List U × List K). (x.0 ∷ y.0, y.1)) (many next read n x.1)) (read tokens)) (Some ([], tokens))) here
    ∙ ap (λ o. option_and_then (λ (x : U × List K). option_map (λ (y : List U × List K). (x.0 ∷ y.0, y.1)) (many next read n x.1)) o) first

pub many_stop : {K U : Type 0} (next : K → Bool) (read : Reader K U) (n : ℕ) (tokens : List K) → begins next tokens ≡ false → many next read n tokens ≡ Some ([], tokens)
many_stop next read zero tokens here = refl
many_stop {K} {U} next read (suc n) tokens here =
    ap (λ b. cond b (option_and_then (λ (x : U × List K). option_map (λ (y : List U × List K). (x.0 ∷ y.0, y.1)) (many next read n x.1)) (read tokens)) (Some ([], tokens))) here

-- the items that the tokens before these are
abbrev Items : {B U K : Type 0} → (B → List K → List K) → (B → U) → List K → List U × List K → Type 0
Items {B} put says tokens y = (bs : List B) × (tokens ≡ put_more put bs y.1) × (map says bs ≡ y.0)

items_none : {B U K : Type 0} (put : B → List K → List K) (says : B → U) (tokens : List K) (y : List U × List K) → Some ([], tokens) ≡ Some y → Items put says tokens y
items_none {B} {U} {K} put says tokens y e =
    let pair : List U × List K = ([], tokens) in
    let same : pair ≡ y = cc in
    ([], ap (λ (z : List U × List K). z.1) same, ap (λ (z : List U × List K). z.0) same)

items_more : {B U K : Type 0} (put : B → List K → List K) (says : B → U) (tokens : List K) (x : U × List K) (z y : List U × List K) → (b : B) × (tokens ≡ put b x.1) × (says b ≡ x.0) → Items put says x.1 z → (x.0 ∷ z.0, z.1) ≡ y → Items put says tokens y
items_more {B} {U} {K} put says tokens x z y (b, first, value) (bs, more, values) same = (
  b ∷ bs,
  first ∙ ap (put b) (more ∙ ap (put_more put bs) (ap (λ (v : List U × List K). v.1) same)),
  ap (λ v. v ∷ map says bs) value ∙ ap (λ vs. x.0 ∷ vs) values ∙ ap (λ (v : List U × List K). v.0) same,
)

many_takes : {B U K : Type 0} {read : Reader K U} {put : B → List K → List K} {says : B → U} {next goes : K → Bool} → Exact read put says next goes → (n : ℕ) (tokens : List K) (y : List U × List K) → many next read n tokens ≡ Some y → Items put says tokens y
many_takes {put = put} {says = says} h zero tokens y e = items_none put says tokens y e
many_takes {read = read} {put = put} {says = says} {next = next} h (suc n) tokens y e = if_cases (begins next tokens) _ _ _ e
    (λ here some. then_some _ (read tokens) y some (λ x first rest. map_some _ (many next read n x.1) y rest
    (λ z found same. items_more put says tokens x z y (h.takes tokens x first) (many_takes h n x.1 z found) same)))
    (λ _ none. items_none put says tokens y none)

more_grows : {B U K : Type 0} {read : Reader K U} {put : B → List K → List K} {says : B → U} {next goes : K → Bool} → Exact read put says next goes → (bs : List B) (rest : List K) → length rest ≤ length (put_more put bs rest)
more_grows h [] rest = omega arith
more_grows {put = put} h (b ∷ bs) rest = omega (arith, more_grows h bs rest, h.grows b (put_more put bs rest))

-- behind a part of the row stand the next items, and then what doesn't go on the row
more_ends : {B U K : Type 0} {read : Reader K U} {put : B → List K → List K} {says : B → U} {next goes_next : K → Bool} (goes_part goes : K → Bool) → Exact read put says next goes_next
    → ((t : K) → goes t ≡ false → goes_part t ≡ false) → ((t : K) → next t ≡ true → goes_part t ≡ false) → (bs : List B) (rest : List K) → begins goes rest ≡ false → begins goes_part (put_more put bs rest) ≡ false
more_ends goes_part goes h end_part next_part [] rest stop = front_fails goes goes_part end_part rest stop
more_ends {put = put} {next = next} goes_part goes h end_part next_part (b ∷ bs) rest stop = front_bars next goes_part next_part (put b (put_more put bs rest)) (h.begun b (put_more put bs rest))

many_again : {B U K : Type 0} {read : Reader K U} {put : B → List K → List K} {says : B → U} {next goes_next : K → Bool} (goes : K → Bool) → Exact read put says next goes_next
    → ((t : K) → goes t ≡ false → next t ≡ false) → ((t : K) → goes t ≡ false → goes_next t ≡ false) → ((t : K) → next t ≡ true → goes_next t ≡ false)
    → (n : ℕ) (bs : List B) (rest : List K) → begins goes rest ≡ false → length (put_more put bs rest) ≤ n → many next read n (put_more put bs rest) ≡ Some (map says bs, rest)
many_again {read = read} {next = next} goes h end_row end_next next_next n [] rest stop enough = many_stop next read n rest (front_fails goes next end_row rest stop)
many_again {put = put} goes h end_row end_next next_next zero (b ∷ bs) rest stop enough = let grown = h.grows b (put_more put bs rest) in absurd (omega (arith, grown))
many_again {B} {U} {K} {read = read} {put = put} {says = says} {next = next} {goes_next = goes_next} goes h end_row end_next next_next (suc n) (b ∷ bs) rest stop enough =
    let grown = h.grows b (put_more put bs rest) in
    let first : read (put b (put_more put bs rest)) ≡ Some (says b, put_more put bs rest) = h.again b (put_more put bs rest) (more_ends goes_next goes h end_next next_next bs rest stop) in
    let more : many next read n (put_more put bs rest) ≡ Some (map says bs, rest) = many_again goes h end_row end_next next_next n bs rest stop (omega (arith, grown)) in
    many_step next read n (put b (put_more put bs rest)) (says b, put_more put bs rest) (h.begun b (put_more put bs rest)) first
    ∙ ap (option_map (λ (y : List U × List K). (says b ∷ y.0, y.1))) more

-- what is read is shorter
pub exact_shorter : {A T K : Type 0} {read : Reader K T} {put : A → List K → List K} {says : A → T} {starts goes : K → Bool} → Exact read put says starts goes → (tokens : List K) (x : T × List K) → read tokens ≡ Some x → length x.1 < length tokens
exact_shorter {A} {put = put} {says = says} h tokens x e = shorter (h.takes tokens x e)
  where
    shorter : (a : A) × (tokens ≡ put a x.1) × (says a ≡ x.0) → length x.1 < length tokens
    shorter (a, spelled, value) = omega (arith, h.grows a x.1, ap length spelled)

-- Rows.

row_found : {A B T U V K : Type 0} (put_first : A → List K → List K) (put_next : B → List K → List K) (says_first : A → T) (says_next : B → U) (join : T → List U → V) (tokens : List K) (x : T × List K) (y : List U × List K) (z : V × List K)
    → (a : A) × (tokens ≡ put_first a x.1) × (says_first a ≡ x.0) → Items put_next says_next x.1 y → (join x.0 y.0, y.1) ≡ z
    → (row : Row A B) × (tokens ≡ put_row put_first put_next row z.1) × (row_value join says_first says_next row ≡ z.0)
row_found {V = V} {K = K} put_first put_next says_first says_next join tokens x y z (a, first, value) (bs, more, values) same = (
  record { first = a; more = bs },
  first ∙ ap (put_first a) (more ∙ ap (put_more put_next bs) (ap (λ (v : V × List K). v.1) same)),
  ap (λ v. join v (map says_next bs)) value ∙ ap (join x.0) values ∙ ap (λ (v : V × List K). v.0) same,
)

-- rows of what is read exactly are read exactly
pub row_exact : {A B T U V K : Type 0} {read_first : Reader K T} {read_next : Reader K U} {put_first : A → List K → List K} {put_next : B → List K → List K} {says_first : A → T} {says_next : B → U} {starts next goes_first goes_next goes : K → Bool}
    (join : T → List U → V) → Exact read_first put_first says_first starts goes_first → Exact read_next put_next says_next next goes_next → Follow next goes_first goes_next goes
    → Exact (row_at next join read_first read_next) (put_row put_first put_next) (row_value join says_first says_next) starts goes
row_exact {A} {B} {T} {U} {V} {K} {read_first = read_first} {read_next = read_next} {put_first = put_first} {put_next = put_next} {says_first = says_first} {says_next = says_next} {next = next} {goes_first = goes_first} {goes = goes} join f g follow = record {
  takes = λ tokens z e. then_some _ (read_first tokens) z e (λ x first rest. map_some _ (many next read_next (length x.1) x.1) z rest
      (λ y found same. row_found put_first put_next says_first says_next join tokens x y z (f.takes tokens x first) (many_takes g (length x.1) x.1 y found) same));
  again = λ row rest stop.
      let behind = put_more put_next row.more rest in
      let first : read_first (put_first row.first behind) ≡ Some (says_first row.first, behind) = f.again row.first behind (more_ends goes_first goes g follow.end_first follow.next_first row.more rest stop) in
      let more : many next read_next (length behind) behind ≡ Some (map says_next row.more, rest) = many_again goes g follow.end_row follow.end_next follow.next_next (length behind) row.more rest stop (omega arith) in
      ap (λ o. option_and_then (λ (x : T × List K). option_map (λ (y : List U × List K). (join x.0 y.0, y.1)) (many next read_next (length x.1) x.1)) o) first
      ∙ ap (option_map (λ (y : List U × List K). (join (says_first row.first) y.0, y.1))) more;
  begun = λ row rest. f.begun row.first (put_more put_next row.more rest);
  grows = λ row rest. omega (arith, f.grows row.first (put_more put_next row.more rest), more_grows g row.more rest);
}

-- An item that may be left out.

-- the item that may stand before the tokens behind it
abbrev pub Held : {B U K : Type 0} → (B → List K → List K) → (B → U) → List K → Option U × List K → Type 0
Held {B} put says tokens y = (o : Option B) × (tokens ≡ put_option put o y.1) × (option_map says o ≡ y.0)

held_none : {B U K : Type 0} (put : B → List K → List K) (says : B → U) (tokens : List K) (y : Option U × List K) → Some (None, tokens) ≡ Some y → Held put says tokens y
held_none {B} {U} {K} put says tokens y e =
    let pair : Option U × List K = (None, tokens) in
    let same : pair ≡ y = cc in
    (None, ap (λ (z : Option U × List K). z.1) same, ap (λ (z : Option U × List K). z.0) same)

held_some : {B U K : Type 0} (put : B → List K → List K) (says : B → U) (tokens : List K) (x : U × List K) (y : Option U × List K) → (b : B) × (tokens ≡ put b x.1) × (says b ≡ x.0) → (Some x.0, x.1) ≡ y → Held put says tokens y
held_some {B} {U} {K} put says tokens x y (b, spelled, value) same = (
  Some b,
  spelled ∙ ap (λ (v : Option U × List K). put b v.1) same,
  ap Some value ∙ ap (λ (v : Option U × List K). v.0) same,
)

pub option_takes : {B U K : Type 0} {read : Reader K U} {put : B → List K → List K} {says : B → U} {starts goes : K → Bool} → Exact read put says starts goes → (tokens : List K) (y : Option U × List K) → option_at starts read tokens ≡ Some y → Held put says tokens y
option_takes {read = read} {put = put} {says = says} {starts = starts} h tokens y e = if_cases (begins starts tokens) _ _ _ e
    (λ _ some. map_some _ (read tokens) y some (λ x found same. held_some put says tokens x y (h.takes tokens x found) same))
    (λ _ none. held_none put says tokens y none)

-- what stops it begins no such item, and nothing that one would go on with
pub option_again : {B U K : Type 0} {read : Reader K U} {put : B → List K → List K} {says : B → U} {starts goes : K → Bool} (stops : K → Bool) → Exact read put says starts goes
    → ((t : K) → stops t ≡ false → starts t ≡ false) → ((t : K) → stops t ≡ false → goes t ≡ false)
    → (o : Option B) (rest : List K) → begins stops rest ≡ false → option_at starts read (put_option put o rest) ≡ Some (option_map says o, rest)
option_again {B} {U} {K} {read = read} {starts = starts} stops h no_start no_more None rest stop =
    ap (λ b. cond b (option_map (λ (x : U × List K). (Some x.0, x.1)) (read rest)) (Some (None, rest))) (front_fails stops starts no_start rest stop)
option_again {B} {U} {K} {read = read} {put = put} {goes = goes} stops h no_start no_more (Some b) rest stop =
    ap (λ c. cond c (option_map (λ (x : U × List K). (Some x.0, x.1)) (read (put b rest))) (Some (None, put b rest))) (h.begun b rest)
    ∙ ap (option_map (λ (x : U × List K). (Some x.0, x.1))) (h.again b rest (front_fails stops goes no_more rest stop))

pub option_grows : {B U K : Type 0} {read : Reader K U} {put : B → List K → List K} {says : B → U} {starts goes : K → Bool} → Exact read put says starts goes → (o : Option B) (rest : List K) → length rest ≤ length (put_option put o rest)
option_grows h None rest = omega arith
option_grows h (Some b) rest = omega (arith, h.grows b rest)

-- before the item, or before what stands behind it where it is left out, stands what this test passes
pub option_begun : {B U K : Type 0} {read : Reader K U} {put : B → List K → List K} {says : B → U} {starts goes : K → Bool} (p : K → Bool) → Exact read put says starts goes → ((t : K) → starts t ≡ true → p t ≡ true)
    → (o : Option B) (rest : List K) → begins p rest ≡ true → begins p (put_option put o rest) ≡ true
option_begun p h passes None rest e = e
option_begun {put = put} {starts = starts} p h passes (Some b) rest e = front_passes starts p passes (put b rest) (h.begun b rest)

option_ends : {B U K : Type 0} {read : Reader K U} {put : B → List K → List K} {says : B → U} {starts goes_it : K → Bool} (goes_first goes : K → Bool) → Exact read put says starts goes_it
    → ((t : K) → goes t ≡ false → goes_first t ≡ false) → ((t : K) → starts t ≡ true → goes_first t ≡ false) → (o : Option B) (rest : List K) → begins goes rest ≡ false → begins goes_first (put_option put o rest) ≡ false
option_ends goes_first goes h end_first next_first None rest stop = front_fails goes goes_first end_first rest stop
option_ends {put = put} {starts = starts} goes_first goes h end_first next_first (Some b) rest stop = front_bars starts goes_first next_first (put b rest) (h.begun b rest)

-- An item with a tail.

tailed_found : {A B T U V K : Type 0} (put_first : A → List K → List K) (put_tail : B → List K → List K) (says_first : A → T) (says_tail : B → U) (join : T → Option U → V) (tokens : List K) (x : T × List K) (y : Option U × List K) (z : V × List K)
    → (a : A) × (tokens ≡ put_first a x.1) × (says_first a ≡ x.0) → Held put_tail says_tail x.1 y → (join x.0 y.0, y.1) ≡ z
    → (t : Tailed A B) × (tokens ≡ put_tailed put_first put_tail t z.1) × (tailed_value join says_first says_tail t ≡ z.0)
tailed_found {V = V} {K = K} put_first put_tail says_first says_tail join tokens x y z (a, first, value) (o, tail, tail_value) same = (
  record { first = a; tail = o },
  first ∙ ap (put_first a) (tail ∙ ap (put_option put_tail o) (ap (λ (v : V × List K). v.1) same)),
  ap (λ v. join v (option_map says_tail o)) value ∙ ap (join x.0) tail_value ∙ ap (λ (v : V × List K). v.0) same,
)

-- an item with a tail is read exactly, where both are
pub tailed_exact : {A B T U V K : Type 0} {read_first : Reader K T} {read_tail : Reader K U} {put_first : A → List K → List K} {put_tail : B → List K → List K} {says_first : A → T} {says_tail : B → U} {starts next goes_first goes_tail goes : K → Bool}
    (join : T → Option U → V) → Exact read_first put_first says_first starts goes_first → Exact read_tail put_tail says_tail next goes_tail → Follow next goes_first goes_tail goes
    → Exact (tailed_at next join read_first read_tail) (put_tailed put_first put_tail) (tailed_value join says_first says_tail) starts goes
tailed_exact {A} {B} {T} {U} {V} {K} {read_first = read_first} {read_tail = read_tail} {put_first = put_first} {put_tail = put_tail} {says_first = says_first} {says_tail = says_tail} {next = next} {goes_first = goes_first} {goes = goes} join f g follow = record {
  takes = λ tokens z e. then_some _ (read_first tokens) z e (λ x first rest. map_some _ (option_at next read_tail x.1) z rest
      (λ y found same. tailed_found put_first put_tail says_first says_tail join tokens x y z (f.takes tokens x first) (option_takes g x.1 y found) same));
  again = λ t rest stop.
      let behind = put_option put_tail t.tail rest in
      let first : read_first (put_first t.first behind) ≡ Some (says_first t.first, behind) = f.again t.first behind (option_ends goes_first goes g follow.end_first follow.next_first t.tail rest stop) in
      let tail : option_at next read_tail behind ≡ Some (option_map says_tail t.tail, rest) = option_again goes g follow.end_row follow.end_next t.tail rest stop in
      ap (λ o. option_and_then (λ (x : T × List K). option_map (λ (y : Option U × List K). (join x.0 y.0, y.1)) (option_at next read_tail x.1)) o) first
      ∙ ap (option_map (λ (y : Option U × List K). (join (says_first t.first) y.0, y.1))) tail;
  begun = λ t rest. f.begun t.first (put_option put_tail t.tail rest);
  grows = λ t rest. omega (arith, f.grows t.first (put_option put_tail t.tail rest), option_grows g t.tail rest);
}

-- Marks and an item behind them.

-- how the tests fit together: what begins the item is no mark and doesn't go on one, and both begin the whole
pub record Lead {K : Type 0} (mark goes_mark begins_item starts : K → Bool) : Type 0 where
  pub item_mark : (t : K) → begins_item t ≡ true → mark t ≡ false
  pub item_ends : (t : K) → begins_item t ≡ true → goes_mark t ≡ false
  pub mark_ends : (t : K) → mark t ≡ true → goes_mark t ≡ false
  pub mark_starts : (t : K) → mark t ≡ true → starts t ≡ true
  pub item_starts : (t : K) → begins_item t ≡ true → starts t ≡ true

not_fails : (b : Bool) → b ≡ true → not b ≡ false
not_fails true e = refl
not_fails false e = cc

fails_not : (b : Bool) → not b ≡ false → b ≡ true
fails_not true e = refl
fails_not false e = cc

led_found : {M A T U V K : Type 0} (put_mark : M → List K → List K) (put : A → List K → List K) (says_mark : M → U) (says : A → T) (join : List U → T → V) (tokens : List K) (y : List U × List K) (x : T × List K) (z : V × List K)
    → Items put_mark says_mark tokens y → (a : A) × (y.1 ≡ put a x.1) × (says a ≡ x.0) → (join y.0 x.0, x.1) ≡ z
    → (l : Led M A) × (tokens ≡ put_led put_mark put l z.1) × (led_value join says_mark says l ≡ z.0)
led_found {V = V} {K = K} put_mark put says_mark says join tokens y x z (marks, first, values) (a, behind, value) same = (
  record { marks = marks; operand = a },
  first ∙ ap (put_more put_mark marks) (behind ∙ ap (put a) (ap (λ (v : V × List K). v.1) same)),
  ap (λ vs. join vs (says a)) values ∙ ap (join y.0) value ∙ ap (λ (v : V × List K). v.0) same,
)

led_begun : {M A U T K : Type 0} {read_mark : Reader K U} {read : Reader K T} {put_mark : M → List K → List K} {put : A → List K → List K} {says_mark : M → U} {says : A → T} {mark goes_mark begins_item goes starts : K → Bool}
    → Exact read_mark put_mark says_mark mark goes_mark → Exact read put says begins_item goes → Lead mark goes_mark begins_item starts
    → (marks : List M) (a : A) (rest : List K) → begins starts (put_more put_mark marks (put a rest)) ≡ true
led_begun {put = put} {begins_item = begins_item} {starts = starts} m f lead [] a rest = front_passes begins_item starts lead.item_starts (put a rest) (f.begun a rest)
led_begun {put_mark = put_mark} {put = put} {mark = mark} {starts = starts} m f lead (b ∷ marks) a rest =
    front_passes mark starts lead.mark_starts (put_mark b (put_more put_mark marks (put a rest))) (m.begun b (put_more put_mark marks (put a rest)))

-- an item behind marks is read exactly, where both are
pub led_exact : {M A T U V K : Type 0} {read_mark : Reader K U} {read : Reader K T} {put_mark : M → List K → List K} {put : A → List K → List K} {says_mark : M → U} {says : A → T} {mark goes_mark begins_item goes starts : K → Bool}
    (join : List U → T → V) → Exact read_mark put_mark says_mark mark goes_mark → Exact read put says begins_item goes → Lead mark goes_mark begins_item starts
    → Exact (led_at mark join read_mark read) (put_led put_mark put) (led_value join says_mark says) starts goes
led_exact {M} {A} {T} {U} {V} {K} {read_mark = read_mark} {read = read} {put_mark = put_mark} {put = put} {says_mark = says_mark} {says = says} {mark = mark} {begins_item = begins_item} join m f lead = record {
  takes = λ tokens z e. then_some _ (many mark read_mark (length tokens) tokens) z e (λ y first rest. map_some _ (read y.1) z rest
      (λ x found same. led_found put_mark put says_mark says join tokens y x z (many_takes m (length tokens) tokens y first) (f.takes y.1 x found) same));
  again = λ l rest stop.
      let behind = put l.operand rest in
      let none : begins (λ t. not (begins_item t)) behind ≡ false = front_bars begins_item (λ t. not (begins_item t)) (λ t e. not_fails (begins_item t) e) behind (f.begun l.operand rest) in
      let marks : many mark read_mark (length (put_more put_mark l.marks behind)) (put_more put_mark l.marks behind) ≡ Some (map says_mark l.marks, behind) =
      many_again (λ t. not (begins_item t)) m (λ t e. lead.item_mark t (fails_not (begins_item t) e)) (λ t e. lead.item_ends t (fails_not (begins_item t) e)) lead.mark_ends _ l.marks behind none (omega arith) in
      ap (λ o. option_and_then (λ (y : List U × List K). option_map (λ (x : T × List K). (join y.0 x.0, x.1)) (read y.1)) o) marks
      ∙ ap (option_map (λ (x : T × List K). (join (map says_mark l.marks) x.0, x.1))) (f.again l.operand rest stop);
  begun = λ l rest. led_begun m f lead l.marks l.operand rest;
  grows = λ l rest. omega (arith, more_grows m l.marks (put l.operand rest), f.grows l.operand rest);
}

-- What an item says, put into a form.

mapped_found : {A T V K : Type 0} (put : A → List K → List K) (says : A → T) (make : T → V) (tokens : List K) (x : T × List K) (z : V × List K) → (a : A) × (tokens ≡ put a x.1) × (says a ≡ x.0) → (make x.0, x.1) ≡ z → (a : A) × (tokens ≡ put a z.1) × (make (says a) ≡ z.0)
mapped_found {V = V} {K = K} put says make tokens x z (a, spelled, value) same = (a, spelled ∙ ap (λ (v : V × List K). put a v.1) same, ap make value ∙ ap (λ (v : V × List K). v.0) same)

pub mapped_exact : {A T V K : Type 0} {read : Reader K T} {put : A → List K → List K} {says : A → T} {starts goes : K → Bool} (make : T → V) → Exact read put says starts goes → Exact (λ tokens. option_map (λ x. (make x.0, x.1)) (read tokens)) put (λ a. make (says a)) starts goes
mapped_exact {A} {T} {V} {K} {read = read} {put = put} {says = says} make h = record {
  takes = λ tokens z e. map_some _ (read tokens) z e (λ x found same. mapped_found put says make tokens x z (h.takes tokens x found) same);
  again = λ a rest stop. ap (option_map (λ (x : T × List K). (make x.0, x.1))) (h.again a rest stop);
  begun = h.begun;
  grows = h.grows;
}
