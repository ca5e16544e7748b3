-- Answers for the items of a list, in order.
use Rattle.std.proofs.Common.{◌≡◌, ℕ, List, [], ◌∷◌, Result, Ok, Err, IfOk, map, subst, sym}
use Rattle.std.specs.List.{AllZip}
use Rattle.std.specs.Prelude.{MatchResult}
use Rattle.fsm_base.specs.declared.letters.Sym.{Sym}
use Rattle.interlinear.specs.Glosses.{Entry}
use Rattle.lookup.specs.Nets.{NetView}
use Rattle.project_meaning.specs.Projects.{Project}
use Rattle.generated_report.specs.Told.{FindsUpper, IsTold}
use Rattle.generated_report.specs.declared.told.Told.{Told}

pub if_matched : {T E : Type 0} (r : Result T E) (P : T → Type 0) (Q : E → Type 0) → MatchResult r P Q → IfOk r P
if_matched (Ok v) P Q h = h
if_matched (Err e) P Q h = tt

-- where all are told, what is so of each that is told is so of all
pub told_by_each : {W T : Type 0} (E : Type 0) (R : W → T → Type 0) (words : List W) (told : List T) → AllZip (λ word (one : Result T E). IfOk one (R word)) words (map Ok told) → AllZip R words told
told_by_each E R [] [] h = tt
told_by_each E R [] (t ∷ told) h = absurd h
told_by_each E R (w ∷ words) [] h = absurd h
told_by_each E R (w ∷ words) (t ∷ told) h = (h.0, told_by_each E R words told h.1)

-- what is told of a word by a closure, where what it captures is what the call was given
pub told_here : {E : Type 0} (project : Project) (name : List ℕ) (alphabet captured_alphabet : List (Sym × List ℕ)) (net captured_net : NetView) (table captured_table : List Entry)
    → captured_alphabet ≡ alphabet → captured_net ≡ net → captured_table ≡ table → FindsUpper alphabet net project name
    → (word : List ℕ) (one : Result Told E)
    → ((project : Project) (name : List ℕ) → FindsUpper captured_alphabet captured_net project name → IfOk one (IsTold project captured_table name word))
    → IfOk one (IsTold project table name word)
told_here project name alphabet captured_alphabet net captured_net table captured_table same_alphabet same_net same_table finds word one shows =
    subst (λ (t : List Entry). IfOk one (IsTold project t name word)) same_table
    (shows project name (subst (λ (n : NetView). FindsUpper captured_alphabet n project name) (sym same_net) (subst (λ (a : List (Sym × List ℕ)). FindsUpper a net project name) (sym same_alphabet) finds)))
