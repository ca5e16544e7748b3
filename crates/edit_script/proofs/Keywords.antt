-- A keyword with nothing of its kind behind it.
use Rattle.std.proofs.Common.{◌≡◌, ℕ, List, codes, sym, ◌∙◌}
use Rattle.edit_script.specs.Commands.{IsPut, IsSplice, Orders}
use Rattle.edit_script.specs.declared.commands.EditCommand.{EditCommand}
use Rattle.edit_script.specs.declared.commands.EditCommand.TheVariants as commands

module _ (keyword rest : List ℕ) where
  pub no_put : keyword ≡ codes "put" → ((file : List ℕ) (lines : ℕ) → IsPut file lines rest → ⊥) → (c : EditCommand) → Orders keyword rest c → ⊥
  no_put is none (commands.Put f n) h = none f n h.1
  no_put is none (commands.Splice f i j n) h = let clash = sym is ∙ h.0 in cc
  no_put is none (commands.Drop f) h = let clash = sym is ∙ h.0 in cc
  no_put is none (commands.Up n w) h = let clash = sym is ∙ h.0 in cc
  no_put is none (commands.Down n w) h = let clash = sym is ∙ h.0 in cc
  no_put is none commands.Begin h = absurd h
  no_put is none commands.Commit h = absurd h
  no_put is none commands.Abandon h = absurd h
  no_put is none commands.End h = absurd h

  pub no_splice : keyword ≡ codes "splice" → ((file : List ℕ) (from count lines : ℕ) → IsSplice file from count lines rest → ⊥) → (c : EditCommand) → Orders keyword rest c → ⊥
  no_splice is none (commands.Put f n) h = let clash = sym is ∙ h.0 in cc
  no_splice is none (commands.Splice f i j n) h = none f i j n h.1
  no_splice is none (commands.Drop f) h = let clash = sym is ∙ h.0 in cc
  no_splice is none (commands.Up n w) h = let clash = sym is ∙ h.0 in cc
  no_splice is none (commands.Down n w) h = let clash = sym is ∙ h.0 in cc
  no_splice is none commands.Begin h = absurd h
  no_splice is none commands.Commit h = absurd h
  no_splice is none commands.Abandon h = absurd h
  no_splice is none commands.End h = absurd h
