-- A line with its reply, as it was made or where it is taken up.
use Rattle.std.proofs.Common.{◌≡◌, ◌<◌, ℕ, zero, suc, List, [], ◌∷◌, All, Option, None, Some, IfSome, arith, length, slice_index_or}
use Rattle.std.specs.List.{AllZip}
use Rattle.fsm_program.specs.Foreseen.{IsForeseen}
use Rattle.fsm_program.specs.Tasks.{RepliesToLineIn}
use Rattle.fsm_program.specs.declared.ahead.Foreseen.{Foreseen}
use Rattle.fsm_program.specs.declared.look_up.LookUp.{LookUp}

-- what is made of a line and its reply is foreseen
pub made : (look_up : LookUp) (line bytes : List ℕ) (o : Option Foreseen) → RepliesToLineIn look_up.subject look_up.version (Some line) bytes
    → IfSome o (λ one. (one.line.items ≡ line) × (one.reply.items ≡ bytes)) → IfSome o (IsForeseen look_up)
made look_up line bytes None replies is = tt
made look_up line bytes (Some one) replies is = rw (is.0, is.1) replies

pub in_front : {Y : Type 0} (Q : Y → Type 0) (y : Y) (ys : List Y) → Q y → All Q ys → All Q (y ∷ ys)
in_front Q y ys is all zero d below = is
in_front Q y ys is all (suc k) d below = all k d (omega (arith, below))

-- what is so of each item of the second list by an item of the first
pub zipped : {X Y : Type 0} (R : X → Y → Type 0) (Q : Y → Type 0) → ((x : X) (y : Y) → R x y → Q y) → (xs : List X) (ys : List Y) → AllZip R xs ys → All Q ys
zipped R Q so [] [] h = λ k d below. absurd (omega (arith, below))
zipped R Q so [] (y ∷ ys) h = absurd h
zipped R Q so (x ∷ xs) [] h = absurd h
zipped R Q so (x ∷ xs) (y ∷ ys) h = in_front Q y ys (so x y h.0) (zipped R Q so xs ys h.1)

-- what is so of the items of a list is so of those behind its first
pub behind_first : {Y : Type 0} (Q : Y → Type 0) (y : Y) (ys : List Y) → All Q (y ∷ ys) → All Q ys
behind_first Q y ys all = λ k d below. all (suc k) d (omega (arith, below))
