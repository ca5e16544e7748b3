-- The features of flags, side by side.
use Rattle.std.proofs.Common.{◌≡◌, ℕ, List, [], ◌∷◌, ◌++◌, map, refl, sym, ap, ◌∙◌}
use Rattle.std.specs.List.{flat_map}
use Rattle.std.proofs.lemmas.Grind.{flat_map-append}
use Rattle.regex_ast.specs.declared.expr.Raw.{Raw}
use Rattle.regex_ast.specs.declared.lexc.Piece.{Piece}
use Rattle.fsm_base.specs.Symbols.{with_text}
use Rattle.project_meaning.specs.Projects.{with_texts}
use Rattle.lexc_grammar.specs.Lexicons.{feature_in, piece_of}

abbrev pub features_of : List (Piece Raw) → List (List ℕ)
features_of side = flat_map feature_in (map piece_of side)

with_both : (table front back : List (List ℕ)) → with_texts table (front ++ back) ≡ with_texts (with_texts table front) back
with_both table [] back = refl
with_both table (text ∷ front) back = with_both (with_text text table) front back

pub both_sides : (table middle new : List (List ℕ)) (upper lower : List (Piece Raw)) → middle ≡ with_texts table (features_of upper) → new ≡ with_texts middle (features_of lower) → new ≡ with_texts table (flat_map feature_in (map piece_of upper ++ map piece_of lower))
both_sides table middle new upper lower first second =
    second ∙ ap (λ (t : List (List ℕ)). with_texts t (features_of lower)) first ∙ sym (with_both table (features_of upper) (features_of lower))
    ∙ ap (with_texts table) (sym (flat_map-append feature_in (map piece_of upper) (map piece_of lower)))
