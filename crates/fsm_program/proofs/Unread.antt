-- What words of a command line ask for.
use Rattle.std.proofs.Common.{◌≡◌, ◌<◌, ◌≤◌, ℕ, Bool, true, false, List, [], ◌∷◌, cond, codes, length, map, slice_index_or, Option, None, Some, Result, Ok, Err, MatchResult, Decides, Global, refl, sym, ap, subst, ◌∙◌, arith, inl, inr}
use Rattle.std.specs.Option.{option_map}
use Rattle.std.specs.Str.{bytes_eq}
use Rattle.std.proofs.lemmas.Bool.{cases_Bool}
use Rattle.std.proofs.lemmas.Slice.Eq.{bytes_eq-Decides}
use Rattle.std.specs.Result.{IsErrAnd}
use Rattle.std.specs.String.{string_bytes}
use Rattle.std.specs.declared.alloc.AllocError.{AllocError}
use Rattle.std.specs.declared.string.String.{String}
use Rattle.fsm_program.specs.Ends.{Asked, IsOfNames, IsWhyUnread, asked_by, asked_of, asked_of_four, asked_of_one, asked_of_three, asked_of_two, for_check, for_gen, for_serve, stems_of}
use Rattle.fsm_program.specs.declared.words.Command.{Command}
use Rattle.fsm_program.specs.declared.words.WordsError.{WordsError}
use Rattle.fsm_program.specs.declared.words.WordsError.TheVariants.{Memory}

-- what words ask for, by how many they are
pub asked_one : (words : List (String Global)) (word : String Global) → 1 ≤ length words → length words < 2 → word ≡ slice_index_or words 0 word → asked_of (map string_bytes words) ≡ asked_of_one (string_bytes word)
asked_one [] word many few first = absurd (omega (arith, many))
asked_one (a ∷ []) word many few first = ap (λ (w : String Global). asked_of_one (string_bytes w)) (sym first)
asked_one (a ∷ b ∷ words) word many few first = absurd (omega (arith, few))

pub asked_two : (words : List (String Global)) (command word : String Global) → 2 ≤ length words → length words < 3 → command ≡ slice_index_or words 0 command → word ≡ slice_index_or words 1 word
    → asked_of (map string_bytes words) ≡ asked_of_two (string_bytes command) (string_bytes word)
asked_two [] command word many few one two = absurd (omega (arith, many))
asked_two (a ∷ []) command word many few one two = absurd (omega (arith, many))
asked_two (a ∷ b ∷ []) command word many few one two =
    ap (λ (w : String Global). asked_of_two (string_bytes w) (string_bytes b)) (sym one) ∙ ap (λ (w : String Global). asked_of_two (string_bytes command) (string_bytes w)) (sym two)
asked_two (a ∷ b ∷ d ∷ words) command word many few one two = absurd (omega (arith, few))

pub asked_three : (words : List (String Global)) (command name : String Global) → 3 ≤ length words → length words < 4 → command ≡ slice_index_or words 0 command → name ≡ slice_index_or words 2 name
    → asked_of (map string_bytes words) ≡ asked_of_three (string_bytes command) (string_bytes name)
asked_three [] command name many few one three = absurd (omega (arith, many))
asked_three (a ∷ []) command name many few one three = absurd (omega (arith, many))
asked_three (a ∷ b ∷ []) command name many few one three = absurd (omega (arith, many))
asked_three (a ∷ b ∷ d ∷ []) command name many few one three =
    ap (λ (w : String Global). asked_of_three (string_bytes w) (string_bytes d)) (sym one) ∙ ap (λ (w : String Global). asked_of_three (string_bytes command) (string_bytes w)) (sym three)
asked_three (a ∷ b ∷ d ∷ e ∷ words) command name many few one three = absurd (omega (arith, few))

pub asked_four : (words : List (String Global)) (command first second : String Global) → 4 ≤ length words → length words < 5 → command ≡ slice_index_or words 0 command → first ≡ slice_index_or words 2 first
    → second ≡ slice_index_or words 3 second → asked_of (map string_bytes words) ≡ asked_of_four (string_bytes command) (string_bytes first) (string_bytes second)
asked_four [] command first second many few one three four = absurd (omega (arith, many))
asked_four (a ∷ []) command first second many few one three four = absurd (omega (arith, many))
asked_four (a ∷ b ∷ []) command first second many few one three four = absurd (omega (arith, many))
asked_four (a ∷ b ∷ d ∷ []) command first second many few one three four = absurd (omega (arith, many))
asked_four (a ∷ b ∷ d ∷ e ∷ []) command first second many few one three four =
    ap (λ (w : String Global). asked_of_four (string_bytes w) (string_bytes d) (string_bytes e)) (sym one)
    ∙ ap (λ (w : String Global). asked_of_four (string_bytes command) (string_bytes w) (string_bytes e)) (sym three)
    ∙ ap (λ (w : String Global). asked_of_four (string_bytes command) (string_bytes first) (string_bytes w)) (sym four)
asked_four (a ∷ b ∷ d ∷ e ∷ f ∷ words) command first second many few one three four = absurd (omega (arith, few))

pub asks_too_few : (words : List (String Global)) → length words < 1 → asked_of (map string_bytes words) ≡ None
asks_too_few [] few = refl
asks_too_few (a ∷ words) few = absurd (omega (arith, few))

pub asks_too_many : (words : List (String Global)) → 5 ≤ length words → asked_of (map string_bytes words) ≡ None
asks_too_many [] many = absurd (omega (arith, many))
asks_too_many (a ∷ []) many = absurd (omega (arith, many))
asks_too_many (a ∷ b ∷ []) many = absurd (omega (arith, many))
asks_too_many (a ∷ b ∷ d ∷ []) many = absurd (omega (arith, many))
asks_too_many (a ∷ b ∷ d ∷ e ∷ []) many = absurd (omega (arith, many))
asks_too_many (a ∷ b ∷ d ∷ e ∷ f ∷ words) many = refl

-- what is read of some is read of those that ask for the same
pub reads_as : (r : Result Command WordsError) (what other : Option Asked) → what ≡ other → MatchResult r (λ command. other ≡ Some (asked_by command)) (IsWhyUnread other) → MatchResult r (λ command. what ≡ Some (asked_by command)) (IsWhyUnread what)
reads_as r what other same reads = subst (λ (w : Option Asked). MatchResult r (λ command. w ≡ Some (asked_by command)) (IsWhyUnread w)) (sym same) reads

-- there was no memory for names
pub unread_named : (r : Result Command WordsError) (what : Option Asked) (P : Command → Type 0) (refused : AllocError) (named : Asked) → IsErrAnd r (λ error. error ≡ Memory refused) → what ≡ Some named → IsOfNames named
    → MatchResult r P (IsWhyUnread what)
unread_named (Ok command) what P refused named is asks of_names = absurd is
unread_named (Err error) what P refused named is asks of_names = subst (IsWhyUnread what) (sym is) (named, asks, of_names)

-- what is made isn't served
not_made : (stems : Option ℕ) → option_map (λ (n : ℕ). for_gen n) stems ≡ Some for_serve → ⊥
not_made None asks = cc
not_made (Some stems) asks = cc

not_gen : (b : Bool) (stems : Option ℕ) → cond b (option_map (λ (n : ℕ). for_gen n) stems) None ≡ Some for_serve → ⊥
not_gen true stems asks = not_made stems asks
not_gen false stems asks = cc

not_check : (b : Bool) (other : Option Asked) → (other ≡ Some for_serve → ⊥) → cond b (Some for_check) other ≡ Some for_serve → ⊥
not_check true other none asks = cc
not_check false other none asks = none asks

-- two words of which the first is `serve`
asked_serve : (command word : List ℕ) → Decides (bytes_eq command (codes "serve")) (asked_of (command ∷ word ∷ []) ≡ Some for_serve)
asked_serve command word = (
  λ same. subst (λ (c : List ℕ). asked_of (c ∷ word ∷ []) ≡ Some for_serve) (sym ((bytes_eq-Decides command (codes "serve")).0 same)) refl,
  λ asks. elim (cases_Bool (bytes_eq command (codes "serve"))) as (λ _. bytes_eq command (codes "serve") ≡ true) [
    | inl same ↦ same
    | inr other ↦
        let rest = cond (bytes_eq command (codes "gen")) (option_map (λ (n : ℕ). for_gen n) (stems_of word)) None in
        let less = subst (λ (b : Bool). cond (bytes_eq command (codes "check")) (Some for_check) (cond b (Some for_serve) rest) ≡ Some for_serve) other asks in
        absurd (not_check (bytes_eq command (codes "check")) rest (not_gen (bytes_eq command (codes "gen")) (stems_of word)) less)
  ],
)

pub is_served : (words : List (String Global)) (command : String Global) → 2 ≤ length words → length words < 3 → command ≡ slice_index_or words 0 command
    → Decides (bytes_eq (string_bytes command) (codes "serve")) (asked_of (map string_bytes words) ≡ Some for_serve)
is_served [] command many few first = absurd (omega (arith, many))
is_served (a ∷ []) command many few first = absurd (omega (arith, many))
is_served (a ∷ b ∷ []) command many few first =
    subst (λ (c : String Global). Decides (bytes_eq (string_bytes c) (codes "serve")) (asked_of (map string_bytes (a ∷ b ∷ [])) ≡ Some for_serve)) (sym first) (asked_serve (string_bytes a) (string_bytes b))
is_served (a ∷ b ∷ d ∷ words) command many few first = absurd (omega (arith, few))
