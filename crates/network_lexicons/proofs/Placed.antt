-- The places of names.
use Rattle.std.proofs.Common.{◌≡◌, ℕ, ◌+◌, Bool, true, false, cond, List, [], ◌∷◌, ◌++◌, Some, length, map, take, refl, sym, ap, arith, true≢false, ◌∙◌}
use Rattle.std.specs.List.{Contains, slice_get, list_any}
use Rattle.std.specs.Option.{option_map}
use Rattle.std.specs.Str.{bytes_eq}
use Rattle.std.proofs.lemmas.List.{length-take, length-map}
use Rattle.std.proofs.lemmas.Map.Views.{Contains-from_any}
use Rattle.std.proofs.lemmas.Option.{slice_get-map, slice_get_within}
use Rattle.std.proofs.lemmas.Slice.Eq.{bytes_eq-Decides}
use Rattle.word_relations.specs.Words.{IsDistinct}
use Rattle.word_relations.proofs.Places.{slice_get_from_Contains, take_more-slice_get}
use Rattle.fsm_base.specs.Symbols.{with_text}
use Rattle.fsm_base.proofs.TableLemmas.{slice_get_front}
use Rattle.fsm_base.proofs.TextLemmas.{held}
use Rattle.regex_ast.specs.declared.expr.Atom.{Atom}
use Rattle.regex_ast.specs.declared.lexc.Lexicon.{Lexicon as LexiconOf}
use Rattle.project_meaning.specs.Trees.{Lexicon}
use Rattle.network_lexicons.specs.Plain.{lexicon_of, names_of}

-- the name of a lexicon stands at its place
pub name_at : (lexicons : List (LexiconOf Atom)) (i : ℕ) (l : LexiconOf Atom) → slice_get lexicons i ≡ Some l → slice_get (names_of (map lexicon_of lexicons)) i ≡ Some l.name
name_at lexicons i l at =
    slice_get-map (λ (lexicon : Lexicon Atom). lexicon.name) (map lexicon_of lexicons) i
    ∙ ap (option_map (λ (lexicon : Lexicon Atom). lexicon.name)) (slice_get-map lexicon_of lexicons i ∙ ap (option_map lexicon_of) at)

pub names_counted : (lexicons : List (LexiconOf Atom)) → length (names_of (map lexicon_of lexicons)) ≡ length lexicons
names_counted lexicons = length-map (map lexicon_of lexicons) (λ (lexicon : Lexicon Atom). lexicon.name) ∙ length-map lexicons lexicon_of

-- a text of distinct ones isn't among those before it
not_before : (texts : List (List ℕ)) → IsDistinct texts → (i : ℕ) (text : List ℕ) → slice_get texts i ≡ Some text → list_any (bytes_eq text) (take i texts) ≡ false
not_before texts distinct i text at = by (list_any (bytes_eq text) (take i texts)) refl
  where
    by : (b : Bool) → list_any (bytes_eq text) (take i texts) ≡ b → b ≡ false
    by false e = refl
    by true e =
        let held : Contains (take i texts) text = Contains-from_any {eq = bytes_eq} (λ x y same. (bytes_eq-Decides x y).0 same) text (take i texts) e in
        let place = slice_get_from_Contains (take i texts) text held in
        let below = slice_get_within (take i texts) place.0 text place.1 in
        let same = distinct place.0 i text (slice_get_front i texts place.0 text place.1) at in
        absurd (omega (arith, length-take i texts))

module _ (texts : List (List ℕ)) (distinct : IsDistinct texts) where
  pub names_more : (i : ℕ) (text : List ℕ) (before new : List (List ℕ)) → slice_get texts i ≡ Some text → new ≡ with_text text before → before ≡ take i texts → new ≡ take (i + 1) texts
  names_more i text before new at added front =
      added ∙ ap (with_text text) front
      ∙ ap (λ (b : Bool). cond b (take i texts) (take i texts ++ text ∷ [])) (not_before texts distinct i text at)
      ∙ sym (take_more-slice_get texts i text at)

-- a text that isn't found isn't there
pub place_missing : (text : List ℕ) (texts : List (List ℕ)) → list_any (bytes_eq text) texts ≡ false → Contains texts text → ⊥
place_missing text texts none among =
    let place = slice_get_from_Contains texts text among in
    true≢false (sym (held text texts place.0 place.1) ∙ none)
