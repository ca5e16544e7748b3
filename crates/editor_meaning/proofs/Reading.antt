-- Lines are one list of orders, since a line is one command.
use Rattle.std.proofs.Common.{◌≡◌, ℕ, ◌<◌, ◌≤◌, List, [], ◌∷◌, drop, length, take, refl, sym, ap, subst, arith}
use Rattle.edit_script.specs.Commands.{lines_behind}
use Rattle.edit_script.specs.declared.commands.EditCommand.{EditCommand}
use Rattle.edit_script.specs.declared.commands.EditCommand.TheVariants as commands
use Rattle.edit_script.proofs.Unique.{one_command}
use Rattle.editor_meaning.specs.Orders.{AreOrders, Order, bad, whole, none, stopped, no_command, cut_off, ordered}
use Rattle.editor_meaning.specs.Laws.{OneReading}

-- so many lines are there, or not
apart : (lines : List (List ℕ)) (a b : EditCommand) → a ≡ b → length lines < lines_behind a → lines_behind b ≤ length lines → ⊥
apart lines a b same few many = let behind : lines_behind a ≡ lines_behind b = ap lines_behind same in omega arith

none_behind : (lines : List (List ℕ)) (a : EditCommand) → a ≡ commands.End → length lines < lines_behind a → ⊥
none_behind lines a same few = let behind : lines_behind a ≡ 0 = ap lines_behind same in omega arith

pub one_reading : OneReading
one_reading ended [] _ _ none none = refl
one_reading ended (line ∷ lines) _ _ (stopped e) (stopped f) = refl
one_reading ended (line ∷ lines) _ _ (stopped e) (no_command known rest) = absurd (known commands.End e)
one_reading ended (line ∷ lines) _ _ (stopped e) (cut_off b is few) = absurd (none_behind lines b (one_command line b commands.End is e) few)
one_reading ended (line ∷ lines) _ _ (stopped e) (ordered b is other many rest) = absurd (other (one_command line b commands.End is e))
one_reading ended (line ∷ lines) _ _ (no_command known rest) (stopped f) = absurd (known commands.End f)
one_reading ended (line ∷ lines) _ _ (no_command {orders = os} known rest) (no_command {orders = ps} known2 rest2) = ap (λ (orders : List Order). bad ∷ orders) (one_reading ended lines os ps rest rest2)
one_reading ended (line ∷ lines) _ _ (no_command known rest) (cut_off b is few) = absurd (known b is)
one_reading ended (line ∷ lines) _ _ (no_command known rest) (ordered b is other many rest2) = absurd (known b is)
one_reading ended (line ∷ lines) _ _ (cut_off a is few) (stopped f) = absurd (none_behind lines a (one_command line a commands.End is f) few)
one_reading ended (line ∷ lines) _ _ (cut_off a is few) (no_command known rest) = absurd (known a is)
one_reading ended (line ∷ lines) _ _ (cut_off a is few) (cut_off b is2 few2) = refl
one_reading ended (line ∷ lines) _ _ (cut_off a is few) (ordered b is2 other many rest) = absurd (apart lines a b (one_command line a b is is2) few many)
one_reading ended (line ∷ lines) _ _ (ordered a is other many rest) (stopped f) = absurd (other (one_command line a commands.End is f))
one_reading ended (line ∷ lines) _ _ (ordered a is other many rest) (no_command known rest2) = absurd (known a is)
one_reading ended (line ∷ lines) _ _ (ordered a is other many rest) (cut_off b is2 few) = absurd (apart lines b a (one_command line b a is2 is) few many)
one_reading ended (line ∷ lines) _ _ (ordered {orders = os} a is other many rest) (ordered {orders = ps} b is2 other2 many2 rest2) =
    let same : a ≡ b = one_command line a b is is2 in
    let later : os ≡ ps = one_reading ended (drop (lines_behind a) lines) os ps rest (subst (λ (c : EditCommand). AreOrders ended (drop (lines_behind c) lines) ps) (sym same) rest2) in
    λ i. whole (same i) (take (lines_behind (same i)) lines) ∷ later i
