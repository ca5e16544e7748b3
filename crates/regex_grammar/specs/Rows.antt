-- How levels of a grammar are put together, written as tokens and read from them. Nothing here knows what a token is.
use Rattle.std.specs.Prelude.{ℕ, zero, suc, Bool, false, List, [], ◌∷◌, length, map, if◌then◌else◌, Option, None, Some}
use Rattle.std.specs.Option.{option_map, option_and_then}

-- the list has a first element, and it passes
abbrev pub begins : {X : Type 0} → (X → Bool) → List X → Bool
begins p [] = false
begins p (x ∷ xs) = p x

-- an item and those that follow it
pub record Row (A : Type 0) (B : Type 0) : Type 0 where
  pub first : A
  pub more : List B

-- an item, and a part behind it that may be left out
pub record Tailed (A : Type 0) (B : Type 0) : Type 0 where
  pub first : A
  pub tail : Option B

-- any number of marks, and an item behind them
pub record Led (M : Type 0) (A : Type 0) : Type 0 where
  pub marks : List M
  pub operand : A

-- the tokens of the items, and then these
abbrev pub put_more : {B K : Type 0} → (B → List K → List K) → List B → List K → List K
put_more put [] rest = rest
put_more put (b ∷ bs) rest = put b (put_more put bs rest)

abbrev pub put_option : {B K : Type 0} → (B → List K → List K) → Option B → List K → List K
put_option put None rest = rest
put_option put (Some b) rest = put b rest

abbrev pub put_row : {A B K : Type 0} → (A → List K → List K) → (B → List K → List K) → Row A B → List K → List K
put_row put_first put_next row rest = put_first row.first (put_more put_next row.more rest)

abbrev pub put_tailed : {A B K : Type 0} → (A → List K → List K) → (B → List K → List K) → Tailed A B → List K → List K
put_tailed put_first put_tail x rest = put_first x.first (put_option put_tail x.tail rest)

abbrev pub put_led : {M A K : Type 0} → (M → List K → List K) → (A → List K → List K) → Led M A → List K → List K
put_led put_mark put x rest = put_more put_mark x.marks (put x.operand rest)

-- what they say, of what their items say
abbrev pub row_value : {A B T U V : Type 0} → (T → List U → V) → (A → T) → (B → U) → Row A B → V
row_value join first_value next_value row = join (first_value row.first) (map next_value row.more)

abbrev pub tailed_value : {A B T U V : Type 0} → (T → Option U → V) → (A → T) → (B → U) → Tailed A B → V
tailed_value join first_value tail_value x = join (first_value x.first) (option_map tail_value x.tail)

abbrev pub led_value : {M A T U V : Type 0} → (List U → T → V) → (M → U) → (A → T) → Led M A → V
led_value join mark_value value x = join (map mark_value x.marks) (value x.operand)

-- A reader takes tokens from the front, and answers what they say and the tokens behind them.
abbrev pub Reader : Type 0 → Type 0 → Type 0
Reader K T = List K → Option (T × List K)

-- items one behind the other, at most so many, for as long as the next token begins one
abbrev pub many : {K U : Type 0} → (K → Bool) → Reader K U → ℕ → Reader K (List U)
many begins_next read_next zero tokens = Some ([], tokens)
many begins_next read_next (suc n) tokens =
    if begins begins_next tokens then option_and_then (λ x. option_map (λ y. (x.0 ∷ y.0, y.1)) (many begins_next read_next n x.1)) (read_next tokens) else Some ([], tokens)

-- an item, where the next token begins one
abbrev pub option_at : {K U : Type 0} → (K → Bool) → Reader K U → Reader K (Option U)
option_at begins_it read tokens = if begins begins_it tokens then option_map (λ x. (Some x.0, x.1)) (read tokens) else Some (None, tokens)

abbrev pub row_at : {K T U V : Type 0} → (K → Bool) → (T → List U → V) → Reader K T → Reader K U → Reader K V
row_at begins_next join read_first read_next tokens =
    option_and_then (λ x. option_map (λ y. (join x.0 y.0, y.1)) (many begins_next read_next (length x.1) x.1)) (read_first tokens)

abbrev pub tailed_at : {K T U V : Type 0} → (K → Bool) → (T → Option U → V) → Reader K T → Reader K U → Reader K V
tailed_at begins_tail join read_first read_tail tokens =
    option_and_then (λ x. option_map (λ y. (join x.0 y.0, y.1)) (option_at begins_tail read_tail x.1)) (read_first tokens)

abbrev pub led_at : {K T U V : Type 0} → (K → Bool) → (List U → T → V) → Reader K U → Reader K T → Reader K V
led_at begins_mark join read_mark read tokens =
    option_and_then (λ y. option_map (λ x. (join y.0 x.0, x.1)) (read y.1)) (many begins_mark read_mark (length tokens) tokens)
