-- Errors that `?` passes on.
use Rattle.std.proofs.Common.{◌≡◌, Result, Ok, Err, sym, subst}
use Rattle.std.specs.Result.{IsErrAnd}

-- what holds of an error holds of the answer that passes it on
pub passed_on : {A E : Type 0} (P : Result A E → Type 0) (r : Result A E) (e : E) → IsErrAnd r (λ x. x ≡ e) → P (Err e) → P r
passed_on P (Ok x) e h p = absurd h
passed_on P (Err x) e h p = subst (λ v. P (Err v)) (sym h) p
