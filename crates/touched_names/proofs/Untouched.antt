-- What is so of a definition that a change doesn't touch: the definition was there, the names in it aren't touched, and if it uses the
-- alphabet, that has the same symbols. Each of the three would fail to fail, and can be tested.
use Rattle.std.proofs.Common.{◌≡◌, ℕ, IsTrue, List, map, Some, ap, subst, ◌∙◌}
use Rattle.std.specs.List.{Contains}
use Rattle.std.specs.Prelude.{slice_get, option_map}
use Rattle.std.proofs.lemmas.Option.{slice_get-map}
use Rattle.word_relations.specs.Words.{IsDistinct}
use Rattle.word_relations.proofs.Places.{slice_get_from_Contains, same_at}
use Rattle.project_meaning.specs.Leaves.{names_in, body_uses_alphabet}
use Rattle.project_meaning.specs.Projects.{Definition, Project, Refers, at_once, further}
use Rattle.project_meaning.specs.Touched.{AreSameSymbols, Touched, changed, by_alphabet, by_name}
use Rattle.touched_names.specs.Laws.{TouchSpreads}
use Rattle.touched_names.proofs.DefinitionTest.{definition_test}
use Rattle.touched_names.proofs.Tests.{listed, text_test}

same_symbols : (old new : List (List ℕ)) → ¬ (¬ AreSameSymbols old new) → AreSameSymbols old new
same_symbols old new not_other symbol = (
  λ h. listed text_test new symbol (λ missing. not_other (λ same. missing ((same symbol).0 h))),
  λ h. listed text_test old symbol (λ missing. not_other (λ same. missing ((same symbol).1 h))),
)

module _ (old new : Project) (d : Definition) (there : Contains new.definitions d) (untouched : Touched old new d.name → ⊥) where
  pub was_there : Contains old.definitions d
  was_there = listed definition_test old.definitions d (λ missing. untouched (changed d there missing))

  pub names_untouched : (other : List ℕ) → Contains (names_in d.body) other → Touched old new other → ⊥
  names_untouched other refers touched = untouched (by_name d other there refers touched)

  pub symbols_stay : IsTrue (body_uses_alphabet d.body) → AreSameSymbols old.alphabet new.alphabet
  symbols_stay uses = same_symbols old.alphabet new.alphabet (λ other. untouched (by_alphabet d there uses other))

-- definitions with names of their own: one name, one definition
pub one_definition : (definitions : List Definition) → IsDistinct (map (λ (d : Definition). d.name) definitions) → (c d : Definition) → Contains definitions c → Contains definitions d → c.name ≡ d.name → c ≡ d
one_definition definitions apart c d first second same =
    let (i, c_is) = slice_get_from_Contains definitions c first in
    let (k, d_is) = slice_get_from_Contains definitions d second in
    let c_named = slice_get-map (λ (x : Definition). x.name) definitions i ∙ ap (option_map (λ (x : Definition). x.name)) c_is in
    let d_named = slice_get-map (λ (x : Definition). x.name) definitions k ∙ ap (option_map (λ (x : Definition). x.name)) d_is in
    let place = apart i k d.name (c_named ∙ ap (λ (n : List ℕ). Some n) same) d_named in
    same_at definitions k c d (subst (λ (j : ℕ). slice_get definitions j ≡ Some c) place c_is) d_is

-- a name that refers to a touched name is touched
refers_to_touched : (old new : Project) (name other : List ℕ) → Refers new name other → Touched old new other → Touched old new name
refers_to_touched old new name other (d, there, named, refers) touched = subst (Touched old new) named (by_name d other there refers touched)

pub touch_spreads : TouchSpreads
touch_spreads old new name other (at_once refers) touched = refers_to_touched old new name other refers touched
touch_spreads old new name other (further {next = next} refers more) touched =
    refers_to_touched old new name next refers (touch_spreads old new next other more touched)
