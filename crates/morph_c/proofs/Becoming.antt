-- What a project becomes, from what it is to be and what there was memory for.
use Rattle.std.proofs.Common.{◌≡◌, ◌⊎◌, ℕ, Option, Some, Result, Ok, Err, IfOk, IfErr, sym, subst, inl, inr}
use Rattle.std.specs.Global.{Box}
use Rattle.morph_c.specs.Filling.{Becomes, became, kept, status_in}
use Rattle.morph_c.specs.Statuses.{status_of}
use Rattle.morph_c.specs.declared.held.Held.{Held}
use Rattle.morph_c.specs.declared.trouble.Trouble.{Trouble}
use Rattle.morph_c.specs.declared.trouble.Trouble.TheVariants.{Memory}

whose : (W : Trouble → Type 0) (next : Result Held Trouble) (why : Trouble) → IfErr next W → (next ≡ Err why) ⊎ (why ≡ Memory) → W why ⊎ (why ≡ Memory)
whose W next why w (inl is) = inl (subst (λ (n : Result Held Trouble). IfErr n W) is w)
whose W next why w (inr is) = inr is

becomes_of : (P : Held → Type 0) (W : Trouble → Type 0) (before after : Option Held) (status : ℕ) (next : Result Held Trouble) (made : Result (Box Held) Trouble)
    → IfOk next P → IfErr next W → IfOk made (λ b. next ≡ Ok b.value) → IfErr made (λ why. (next ≡ Err why) ⊎ (why ≡ Memory))
    → IfOk made (λ b. after ≡ Some b.value) → IfOk made (λ b. status ≡ status_in b.value) → IfErr made (λ why. after ≡ before) → IfErr made (λ why. status ≡ status_of why)
    → Becomes P W before after status
becomes_of P W before after status next (Ok b) p w is or a s k t = became b.value (subst (λ (n : Result Held Trouble). IfOk n P) is p) a s
becomes_of P W before after status next (Err why) p w is or a s k t = kept why (whose W next why w or) k t

-- of what the project has, and of what another has that becomes something else, where both were taken out
pub becomes_by : (P : Option Held → Held → Type 0) (W : Option Held → Trouble → Type 0) (held was : Option Held) → was ≡ held → (other before : Option Held) → before ≡ other → (after : Option Held) (status : ℕ)
    → (next : Result Held Trouble) (made : Result (Box Held) Trouble) → IfOk next (P held) → IfErr next (W held) → IfOk made (λ b. next ≡ Ok b.value) → IfErr made (λ why. (next ≡ Err why) ⊎ (why ≡ Memory))
    → IfOk made (λ b. after ≡ Some b.value) → IfOk made (λ b. status ≡ status_in b.value) → IfErr made (λ why. after ≡ other) → IfErr made (λ why. status ≡ status_of why)
    → Becomes (P was) (W was) before after status
becomes_by P W held was is other before was_other after status next made p w o e a s k t =
    subst (λ (h : Option Held). Becomes (P h) (W h) before after status) (sym is)
    (subst (λ (h : Option Held). Becomes (P held) (W held) h after status) (sym was_other) (becomes_of (P held) (W held) other after status next made p w o e a s k t))
