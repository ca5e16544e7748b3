-- A loop that reads items one behind the other. Nothing here knows what a token is.
use Rattle.std.proofs.Common.{◌≡◌, ℕ, zero, suc, ◌<◌, ◌≤◌, Bool, true, false, cond, Option, Some, None, List, [], ◌∷◌, ◌++◌, length, refl, sym, ap, subst, ◌∙◌, arith, append_assoc, append-nil}
use Rattle.std.specs.Option.{option_map, option_and_then}
use Rattle.regex_grammar.specs.Rows.{begins}
use Rattle.regex_grammar.specs.Rows.{Reader, many}
use Rattle.regex_grammar.proofs.Cases.{map_map}
use Rattle.regex_grammar.proofs.Exact.{Exact, exact_shorter, many_step, many_stop}

-- what was found, and what the rest will give
pub record ManySoFar {K U : Type 0} (next : K → Bool) (read : Reader K U) (tokens : List K) (found : List U) (rest : List K) : Type 0 where
  pub count : ℕ
  pub enough : length rest ≤ count
  pub so_far : many next read (length tokens) tokens ≡ option_map (λ y. (found ++ y.0, y.1)) (many next read count rest)

pub many_begin : {K U : Type 0} (next : K → Bool) (read : Reader K U) (tokens : List K) → ManySoFar next read tokens [] tokens
many_begin {K} {U} next read tokens = record { count = length tokens; enough = omega arith; so_far = same (many next read (length tokens) tokens) }
  where
    same : (o : Option (List U × List K)) → o ≡ option_map (λ y. (y.0, y.1)) o
    same None = refl
    same (Some x) = refl

none_begins : {K : Type 0} (next : K → Bool) (rest : List K) → begins next rest ≡ true → 0 < length rest
none_begins next [] e = absurd cc
none_begins next (t ∷ ts) e = omega arith

step_from : {K U : Type 0} (next : K → Bool) (read : Reader K U) (tokens : List K) (found : List U) (rest : List K) (n : ℕ) (u : U) (behind : List K) → length rest ≤ n → many next read (length tokens) tokens ≡ option_map (λ y. (found ++ y.0, y.1)) (many next read n rest)
    → begins next rest ≡ true → read rest ≡ Some (u, behind) → length behind < length rest → ManySoFar next read tokens (found ++ u ∷ []) behind
step_from next read tokens found rest zero u behind enough so_far here item less = absurd (omega arith)
step_from {K} {U} next read tokens found rest (suc n) u behind enough so_far here item less = record {
  count = n;
  enough = omega arith;
  so_far = so_far ∙ ap (option_map (λ (y : List U × List K). (found ++ y.0, y.1))) (many_step next read n rest (u, behind) here item)
      ∙ map_map _ _ _ (many next read n behind) (λ y. ap (λ us. (us, y.1)) (sym (append_assoc found (u ∷ []) y.0)));
}

pub many_goes_on : {K U : Type 0} (next : K → Bool) (read : Reader K U) (tokens : List K) (found : List U) (rest : List K) (u : U) (behind : List K) → ManySoFar next read tokens found rest → begins next rest ≡ true → read rest ≡ Some (u, behind) → length behind < length rest → ManySoFar next read tokens (found ++ u ∷ []) behind
many_goes_on next read tokens found rest u behind h here item less = step_from next read tokens found rest h.count u behind h.enough h.so_far here item less

pub many_ends : {K U : Type 0} (next : K → Bool) (read : Reader K U) (tokens : List K) (found : List U) (rest : List K) → ManySoFar next read tokens found rest → begins next rest ≡ false → Some (found, rest) ≡ many next read (length tokens) tokens
many_ends {K} {U} next read tokens found rest h here = sym (h.so_far ∙ ap (option_map (λ (y : List U × List K). (found ++ y.0, y.1))) (many_stop next read h.count rest here) ∙ ap (λ us. Some (us, rest)) (append-nil found))

fails_from : {K U : Type 0} (next : K → Bool) (read : Reader K U) (tokens : List K) (found : List U) (rest : List K) (n : ℕ) → length rest ≤ n → many next read (length tokens) tokens ≡ option_map (λ y. (found ++ y.0, y.1)) (many next read n rest)
    → begins next rest ≡ true → read rest ≡ None → None ≡ many next read (length tokens) tokens
fails_from next read tokens found rest zero enough so_far here item = let some = none_begins next rest here in absurd (omega (arith, some))
fails_from {K} {U} next read tokens found rest (suc n) enough so_far here item =
    sym (so_far ∙ ap (λ b. option_map (λ (y : List U × List K). (found ++ y.0, y.1)) (cond b (option_and_then (λ (x : U × List K). option_map (λ (y : List U × List K). (x.0 ∷ y.0, y.1)) (many next read n x.1)) (read rest)) (Some ([], rest)))) here
    ∙ ap (λ o. option_map (λ (y : List U × List K). (found ++ y.0, y.1)) (option_and_then (λ (x : U × List K). option_map (λ (y : List U × List K). (x.0 ∷ y.0, y.1)) (many next read n x.1)) o)) item)

pub many_fails : {K U : Type 0} (next : K → Bool) (read : Reader K U) (tokens : List K) (found : List U) (rest : List K) → ManySoFar next read tokens found rest → begins next rest ≡ true → None ≡ read rest → None ≡ many next read (length tokens) tokens
many_fails next read tokens found rest h here item = fails_from next read tokens found rest h.count h.enough h.so_far here (sym item)

-- one more item of what is read exactly
pub item_found : {B U K : Type 0} {read : Reader K U} {put : B → List K → List K} {says : B → U} {next goes : K → Bool} → Exact read put says next goes
    → (tokens : List K) (found now_found : List U) (rest : List K) (u : U) (behind : List K) → ManySoFar next read tokens found rest → begins next rest ≡ true → read rest ≡ Some (u, behind) → now_found ≡ found ++ u ∷ [] → ManySoFar next read tokens now_found behind
item_found {read = read} {next = next} h tokens found now_found rest u behind so_far here item same =
    subst (λ us. ManySoFar next read tokens us behind) (sym same) (many_goes_on next read tokens found rest u behind so_far here item (exact_shorter h rest (u, behind) item))
