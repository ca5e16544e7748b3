-- Rows and parts that are read by loops and choices. Nothing here knows what a token is.
use Rattle.std.proofs.Common.{◌≡◌, ◌<◌, Bool, true, false, Option, Some, None, List, [], ◌∷◌, ◌++◌, length, map, refl, sym, ap, subst, ◌∙◌, append_assoc, append-nil}
use Rattle.std.specs.Option.{option_map, option_and_then}
use Rattle.std.proofs.lemmas.List.{map-append}
use Rattle.regex_grammar.specs.Rows.{begins, Reader, many, row_at}
use Rattle.regex_parser.specs.Values.{made}
use Rattle.regex_grammar.proofs.Cases.{map_some}
use Rattle.regex_grammar.proofs.Loops.{ManySoFar, many_begin, many_goes_on, many_ends, many_fails}

-- Loops.

-- one more item
pub item_next : {U K : Type 0} (next : K → Bool) (read : Reader K U) (tokens : List K) (found now_found : List U) (rest : List K) (u : U) (behind : List K)
    → ManySoFar next read tokens found rest → begins next rest ≡ true → read rest ≡ Some (u, behind) → length behind < length rest → now_found ≡ found ++ u ∷ [] → ManySoFar next read tokens now_found behind
item_next next read tokens found now_found rest u behind so_far here item less same =
    subst (λ us. ManySoFar next read tokens us behind) (sym same) (many_goes_on next read tokens found rest u behind so_far here item less)

-- what is read is shorter
abbrev pub Shortens : {U K : Type 0} → Reader K U → Type 0
Shortens {U} {K} read = (tokens : List K) (x : U × List K) → read tokens ≡ Some x → length x.1 < length tokens

-- one more item, which the program pushes as it keeps it
pub item_pushed : {U X K : Type 0} (next : K → Bool) (read : Reader K U) (value : X → U) → Shortens read → (tokens : List K) (found now : List X) (rest : List K) (x : X) (behind : List K)
    → ManySoFar next read tokens (map value found) rest → begins next rest ≡ true → read rest ≡ Some (value x, behind) → now ≡ found ++ x ∷ [] → ManySoFar next read tokens (map value now) behind
item_pushed next read value shorter tokens found now rest x behind so_far here item same =
    item_next next read tokens (map value found) (map value now) rest (value x) behind so_far here item (shorter rest (value x, behind) item) (ap (map value) same ∙ rw map-append)

-- the items so far of a row whose first item stands apart
pub record RowSoFar {X U K : Type 0} (next : K → Bool) (read : Reader K U) (tokens : List K) (first first_now : X) (found : List U) (rest : List K) : Type 0 where
  pub kept : first_now ≡ first
  pub so_far : ManySoFar next read tokens found rest

pub row_begun : {X U Y K : Type 0} (next : K → Bool) (read : Reader K U) (value : Y → U) (tokens : List K) (first : X) (found : List Y) → found ≡ [] → RowSoFar next read tokens first first (map value found) tokens
row_begun next read value tokens first found none = record { kept = refl; so_far = subst (λ ys. ManySoFar next read tokens (map value ys) tokens) (sym none) (many_begin next read tokens) }

-- a row whose items so far were pushed behind others
pub record MoreSoFar {K U : Type 0} (next : K → Bool) (read : Reader K U) (tokens : List K) (before now : List U) (rest : List K) : Type 0 where
  pub more : List U
  pub pushed : now ≡ before ++ more
  pub so_far : ManySoFar next read tokens more rest

pub more_begin : {U K : Type 0} (next : K → Bool) (read : Reader K U) (tokens : List K) (before : List U) → MoreSoFar next read tokens before before tokens
more_begin next read tokens before = record { more = []; pushed = sym (append-nil before); so_far = many_begin next read tokens }

pub more_pushed : {U X K : Type 0} (next : K → Bool) (read : Reader K U) (value : X → U) → Shortens read → (tokens : List K) (before : List U) (found now : List X) (rest : List K) (x : X) (behind : List K)
    → MoreSoFar next read tokens before (map value found) rest → begins next rest ≡ true → read rest ≡ Some (value x, behind) → now ≡ found ++ x ∷ [] → MoreSoFar next read tokens before (map value now) behind
more_pushed next read value shorter tokens before found now rest x behind so_far here item same =
    let values : map value now ≡ map value found ++ value x ∷ [] = ap (map value) same ∙ rw map-append in
    record {
      more = so_far.more ++ value x ∷ [];
      pushed = values ∙ ap (λ us. us ++ value x ∷ []) so_far.pushed ∙ append_assoc before so_far.more (value x ∷ []);
      so_far = many_goes_on next read tokens so_far.more rest (value x) behind so_far.so_far here item (shorter rest (value x, behind) item);
    }

-- Rows.

-- the first item and the others
pub row_read : {K T U V : Type 0} (next : K → Bool) (join : T → List U → V) (first : Reader K T) (read : Reader K U) (tokens : List K) (t : T) (behind : List K) (us : List U) (rest : List K) (v : V)
    → first tokens ≡ Some (t, behind) → ManySoFar next read behind us rest → begins next rest ≡ false → v ≡ join t us → Some (v, rest) ≡ row_at next join first read tokens
row_read {K} {T} {U} {V} next join first read tokens t behind us rest v begun so_far last same =
    ap (λ w. Some (w, rest)) same
    ∙ ap (option_map (λ (y : List U × List K). (join t y.0, y.1))) (many_ends next read behind us rest so_far last)
    ∙ sym (ap (option_and_then (λ (x : T × List K). option_map (λ (y : List U × List K). (join x.0 y.0, y.1)) (many next read (length x.1) x.1))) begun)

pub row_fails : {K T U V : Type 0} (next : K → Bool) (join : T → List U → V) (first : Reader K T) (read : Reader K U) (tokens : List K) (t : T) (behind : List K) (us : List U) (rest : List K)
    → first tokens ≡ Some (t, behind) → ManySoFar next read behind us rest → begins next rest ≡ true → None ≡ read rest → None ≡ row_at next join first read tokens
row_fails {K} {T} {U} {V} next join first read tokens t behind us rest begun so_far here item =
    ap (option_map (λ (y : List U × List K). (join t y.0, y.1))) (many_fails next read behind us rest so_far here item)
    ∙ sym (ap (option_and_then (λ (x : T × List K). option_map (λ (y : List U × List K). (join x.0 y.0, y.1)) (many next read (length x.1) x.1))) begun)

pub row_none : {K T U V : Type 0} (next : K → Bool) (join : T → List U → V) (first : Reader K T) (read : Reader K U) (tokens : List K) → None ≡ first tokens → None ≡ row_at next join first read tokens
row_none {K} {T} {U} {V} next join first read tokens none = ap (option_and_then (λ (x : T × List K). option_map (λ (y : List U × List K). (join x.0 y.0, y.1)) (many next read (length x.1) x.1))) none

-- the same where the first item is known by what is made of it
pub made_row_read : {K T U V S W : Type 0} (next : K → Bool) (join : T → List U → V) (first : Reader K T) (read : Reader K U) (make : V → W) (seen : T → S) (joined : S → List U → W) → ((x : T) (us : List U) → make (join x us) ≡ joined (seen x) us)
    → (tokens : List K) (s : S) (behind : List K) (us : List U) (rest : List K) (w : W)
    → Some (s, behind) ≡ made seen (first tokens) → ManySoFar next read behind us rest → begins next rest ≡ false → w ≡ joined s us → Some (w, rest) ≡ made make (row_at next join first read tokens)
made_row_read {K} {T} {U} {V} {S} {W} next join first read make seen joined agree tokens s behind us rest w begun so_far last same = map_some _ (first tokens) (s, behind) (sym begun) (λ x found pair.
    let so_far_there : ManySoFar next read x.1 us rest = subst (λ b. ManySoFar next read b us rest) (sym (ap (λ (p : S × List K). p.1) pair)) so_far in
    let row : Some (join x.0 us, rest) ≡ row_at next join first read tokens = row_read next join first read tokens x.0 x.1 us rest (join x.0 us) found so_far_there last refl in
    let value : w ≡ make (join x.0 us) = same ∙ ap (λ z. joined z us) (sym (ap (λ (p : S × List K). p.0) pair)) ∙ sym (agree x.0 us) in
    ap (λ v. Some (v, rest)) value ∙ ap (option_map (λ (y : V × List K). (make y.0, y.1))) row)

pub made_row_fails : {K T U V S W : Type 0} (next : K → Bool) (join : T → List U → V) (first : Reader K T) (read : Reader K U) (make : V → W) (seen : T → S)
    → (tokens : List K) (s : S) (behind : List K) (us : List U) (rest : List K)
    → Some (s, behind) ≡ made seen (first tokens) → ManySoFar next read behind us rest → begins next rest ≡ true → None ≡ read rest → None ≡ made make (row_at next join first read tokens)
made_row_fails {K} {T} {U} {V} {S} {W} next join first read make seen tokens s behind us rest begun so_far here item = map_some _ (first tokens) (s, behind) (sym begun) (λ x found pair.
    let so_far_there : ManySoFar next read x.1 us rest = subst (λ b. ManySoFar next read b us rest) (sym (ap (λ (p : S × List K). p.1) pair)) so_far in
    ap (option_map (λ (y : V × List K). (make y.0, y.1))) (row_fails next join first read tokens x.0 x.1 us rest found so_far_there here item))

pub made_row_none : {K T U V S W : Type 0} (next : K → Bool) (join : T → List U → V) (first : Reader K T) (read : Reader K U) (make : V → W) (seen : T → S) (tokens : List K)
    → None ≡ made seen (first tokens) → None ≡ made make (row_at next join first read tokens)
made_row_none {K} {T} {U} {V} {S} {W} next join first read make seen tokens none = by (first tokens) none
  where
    by : (o : Option (T × List K)) → None ≡ made seen o → None ≡ made make (option_and_then (λ (x : T × List K). option_map (λ (y : List U × List K). (join x.0 y.0, y.1)) (many next read (length x.1) x.1)) o)
    by None e = refl
    by (Some x) e = absurd cc

-- a first item that was pushed, and others behind it
pub all_pushed : {X U : Type 0} (value : X → U) (e : X) (none one all : List X) (more : List U) → none ≡ [] → one ≡ none ++ e ∷ [] → map value all ≡ map value one ++ more → map value all ≡ value e ∷ more
all_pushed value e none one all more blank pushed row = row ∙ ap (λ xs. map value xs ++ more) pushed ∙ ap (λ xs. map value (xs ++ e ∷ []) ++ more) blank

-- Steps that are known by what is made of their answers.

pub made_then : {K T S W : Type 0} (seen : T → S) (go_on : S → List K → Option W) (o : Option (T × List K)) (s : S) (behind : List K) → Some (s, behind) ≡ made seen o → go_on s behind ≡ option_and_then (λ x. go_on (seen x.0) x.1) o
made_then seen go_on None s behind e = absurd cc
made_then {K} {T} {S} seen go_on (Some x) s behind e =
    let a : S × List K = (s, behind) in
    let b : S × List K = (seen x.0, x.1) in
    let same : a ≡ b = cc in
    ap (λ (p : S × List K). go_on p.0 p.1) same

pub made_then_none : {K T S W : Type 0} (seen : T → S) (go_on : T → List K → Option W) (o : Option (T × List K)) → None ≡ made seen o → None ≡ option_and_then (λ x. go_on x.0 x.1) o
made_then_none seen go_on None e = refl
made_then_none seen go_on (Some x) e = absurd cc

pub made_map : {K T S W : Type 0} (seen : T → S) (make : S → W) (o : Option (T × List K)) (s : S) (behind : List K) → Some (s, behind) ≡ made seen o → Some (make s, behind) ≡ made (λ x. make (seen x)) o
made_map seen make None s behind e = absurd cc
made_map {K} {T} {S} seen make (Some x) s behind e =
    let a : S × List K = (s, behind) in
    let b : S × List K = (seen x.0, x.1) in
    let same : a ≡ b = cc in
    ap (λ (p : S × List K). Some (make p.0, p.1)) same

pub made_map_none : {K T S W : Type 0} (seen : T → S) (make : T → W) (o : Option (T × List K)) → None ≡ made seen o → None ≡ made make o
made_map_none seen make None e = refl
made_map_none seen make (Some x) e = absurd cc

-- A part and what is read behind it, of what is made of both.

pub tail_found : {K T W R M S V : Type 0} (seen : T → M) (known : W → S) (join : T → W → R) (make : R → V) (whole : M → S → V) → ((x : T) (w : W) → make (join x w) ≡ whole (seen x) (known w))
    → (o : Option (T × List K)) (tail : Reader K W) (m : M) (behind : List K) (s : S) (last : List K) (v : V)
    → Some (m, behind) ≡ made seen o → Some (s, last) ≡ made known (tail behind) → v ≡ whole m s → Some (v, last) ≡ made make (option_and_then (λ x. made (join x.0) (tail x.1)) o)
tail_found {K} {T} {W} {R} {M} {S} {V} seen known join make whole agree o tail m behind s last v row sides same = map_some _ o (m, behind) (sym row) (λ x found pair. map_some _ (tail behind) (s, last) (sym sides) (λ y there ends.
    let value : v ≡ make (join x.0 y.0) = same ∙ sym (ap (λ (p : M × List K). whole p.0 s) pair) ∙ sym (ap (λ (p : S × List K). whole (seen x.0) p.0) ends) ∙ sym (agree x.0 y.0) in
    ap (λ w. Some (w, last)) value
    ∙ sym (ap (λ (p : S × List K). Some (make (join x.0 y.0), p.1)) ends)
    ∙ sym (ap (λ q. made make (made (join x.0) q)) there)
    ∙ sym (ap (λ (p : M × List K). made make (made (join x.0) (tail p.1))) pair)
    ∙ sym (ap (λ p. made make (option_and_then (λ (x : T × List K). made (join x.0) (tail x.1)) p)) found)))

pub tail_fails : {K T W R M S V : Type 0} (seen : T → M) (known : W → S) (join : T → W → R) (make : R → V) (o : Option (T × List K)) (tail : Reader K W) (m : M) (behind : List K)
    → Some (m, behind) ≡ made seen o → None ≡ made known (tail behind) → None ≡ made make (option_and_then (λ x. made (join x.0) (tail x.1)) o)
tail_fails {K} {T} {W} {R} {M} {S} {V} seen known join make o tail m behind row sides = map_some _ o (m, behind) (sym row) (λ x found pair.
    made_map_none known (λ w. make (join x.0 w)) (tail behind) sides
    ∙ sym (made_made make (join x.0) (tail behind))
    ∙ sym (ap (λ (p : M × List K). made make (made (join x.0) (tail p.1))) pair)
    ∙ sym (ap (λ p. made make (option_and_then (λ (x : T × List K). made (join x.0) (tail x.1)) p)) found))
  where
    made_made : {A B C : Type 0} (f : B → C) (g : A → B) (p : Option (A × List K)) → made f (made g p) ≡ made (λ x. f (g x)) p
    made_made f g None = refl
    made_made f g (Some x) = refl

pub tail_unbegun : {K T W R M V : Type 0} (seen : T → M) (join : T → W → R) (make : R → V) (o : Option (T × List K)) (tail : Reader K W) → None ≡ made seen o → None ≡ made make (option_and_then (λ x. made (join x.0) (tail x.1)) o)
tail_unbegun seen join make None tail e = refl
tail_unbegun seen join make (Some x) tail e = absurd cc
