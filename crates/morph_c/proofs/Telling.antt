-- What a caller is told, from an answer and what is written of it.
use Rattle.std.proofs.Common.{◌≡◌, ℕ, List, Option, Result, Ok, Err, IfOk, IfErr, sym, subst}
use Rattle.std.specs.Global.{Vec}
use Rattle.morph_c.specs.Statuses.{status_of}
use Rattle.morph_c.specs.Tells.{IsReply, IsTold, Tells, no_reply, told, trouble}
use Rattle.morph_c.specs.declared.held.Held.{Held}
use Rattle.morph_c.specs.declared.told.MorphReply.{MorphReply}
use Rattle.morph_c.specs.declared.trouble.Trouble.{Trouble}

module _ (before after : List ℕ) (reply : MorphReply) (status : ℕ) where
  tells_of : (P : List ℕ → Type 0) (W : Trouble → Type 0) (answer : Result (Vec ℕ) Trouble) → IfOk answer (λ b. P b.items) → IfErr answer W
      → IfOk answer (λ b. IsTold b.items before after status) → IfOk answer (λ b. IsReply b.items reply) → IfErr answer (λ why. status ≡ status_of why)
      → IfErr answer (λ why. reply ≡ no_reply why) → IfErr answer (λ why. after ≡ before) → Tells P W before after reply status
  tells_of P W (Ok b) p w t r s l k = told b.items p t r
  tells_of P W (Err why) p w t r s l k = trouble why w s l k

  -- of what a project has, where it was taken out for the answer
  pub tells_by : (P : Option Held → List ℕ → Type 0) (W : Option Held → Trouble → Type 0) (held : Option Held) (was : Option Held) → was ≡ held → (answer : Result (Vec ℕ) Trouble)
      → IfOk answer (λ b. P held b.items) → IfErr answer (W held)
      → IfOk answer (λ b. IsTold b.items before after status) → IfOk answer (λ b. IsReply b.items reply) → IfErr answer (λ why. status ≡ status_of why)
      → IfErr answer (λ why. reply ≡ no_reply why) → IfErr answer (λ why. after ≡ before) → Tells (P was) (W was) before after reply status
  tells_by P W held was is answer p w t r s l k = subst (λ (h : Option Held). Tells (P h) (W h) before after reply status) (sym is) (tells_of (P held) (W held) answer p w t r s l k)
