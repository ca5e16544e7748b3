-- An automaton that is given entries one by one.
use Rattle.std.proofs.Common.{◌≡◌, ℕ, ◌+◌, ◌<◌, ◌≤◌, List, [], ◌∷◌, ◌++◌, false, true, replicate, length, subst, sym, inl, inr}
use Rattle.std.proofs.lemmas.List.Elements.{Contains-append_left, Contains-push, Contains-push_cases}
use Rattle.word_relations.proofs.Members.{Contains-nil_cases}
use Rattle.fsa.specs.Automaton.{Automaton}
use Rattle.fsa_rational.specs.Shapes.{epsilon, Extends}
use Rattle.flag_diacritics.specs.declared.tape.Tape.{Tape}
use Rattle.lexc_compile.specs.declared.steps.Step.{Step}
use Rattle.lexc_compile.specs.Paths.{PlacedEntry}
use Rattle.lexc_compile.specs.Blocks.{home_of}
use Rattle.lexc_compile.specs.Built.{AddsEntry, HasEntry, IsBuilt, IsTable}
use Rattle.lexc_compile.specs.Growing.{Gives, Growing, IsBegun, IsGiven, IsPlaced}
use Rattle.lexc_compile.proofs.Growing.{built_none, built_with_more, homes_read}

-- what is begun has its lexicons, and the edges of its steps
pub begun_homes : (growing : Growing) → IsBegun growing → growing.count + 2 ≤ length growing.automaton.finals
begun_homes growing (root, entries, is) = is.built.homes

pub begun_table : (growing : Growing) → IsBegun growing → IsTable growing.steps growing.automaton
begun_table growing (root, entries, is) row h = let edge = is.built.taken row h in (edge, (is.built.formed.within _ edge).1)

-- before any entry
pub given_none : (count root : ℕ) → root < count → (m new : Automaton Tape) (steps : List (Step × ℕ)) → steps ≡ []
    → m ≡ record { edges = []; finals = (replicate count false ++ false ∷ []) ++ true ∷ [] } → Extends m new (λ e. e ≡ epsilon 0 (home_of root))
    → IsGiven root [] (record { count = count; automaton = new; steps = steps })
given_none count root there m new steps none is extends = record {
  inside = homes_read count root;
  built = subst (λ rows. IsBuilt [] count root (homes_read count root) new rows) (sym none) (built_none [] count root there m new is extends);
  placed = λ entry h. absurd (Contains-nil_cases entry h);
  has = λ entry h. absurd (Contains-nil_cases entry h);
}

-- one entry more
module _ (old new : Growing) (entry : PlacedEntry) (count : new.count ≡ old.count) (placed : IsPlaced old.count entry)
    (adds : AddsEntry old.count entry old.automaton old.steps new.automaton new.steps) where
  module _ (root : ℕ) (entries : List PlacedEntry) (is : IsGiven root entries old) where
    given_more : IsGiven root (entries ++ entry ∷ []) (record { count = old.count; automaton = new.automaton; steps = new.steps })
    given_more =
        let more = built_with_more entries (entries ++ entry ∷ []) (λ e h. Contains-append_left entries (entry ∷ []) e h) old.count root is.inside old.automaton old.steps is.built in
        let grown = adds.built (entries ++ entry ∷ []) root is.inside (Contains-push entries entry) more in
        record {
          inside = grown.0;
          built = grown.1;
          placed = λ e h. elim (Contains-push_cases entries entry e h) [ inl before ↦ is.placed e before | inr same ↦ subst (λ d. IsPlaced old.count d) same placed ];
          has = λ e h. elim (Contains-push_cases entries entry e h) [
            | inl before ↦ λ w a beyond f rest goes. is.has e before w a beyond (λ edge held. f edge (adds.kept edge held)) rest goes
            | inr same ↦ subst (λ d. HasEntry old.count new.automaton.edges d) same adds.has
          ];
        }

  pub gives : Gives entry old new
  gives = (count, λ root entries is. subst (λ n. IsGiven root (entries ++ entry ∷ []) (record { count = n; automaton = new.automaton; steps = new.steps })) (sym count) (given_more root entries is))
