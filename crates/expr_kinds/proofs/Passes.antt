-- Loops over the items of a node: how many there are, and one taken first.
use Rattle.std.proofs.Common.{◌≡◌, List, [], ◌∷◌, length, map, refl, arith}
use Rattle.regex_ast.specs.Terms.{term, terms_of, links_of, steps_by, mappings_of}
use Rattle.regex_ast.specs.declared.expr.Atom.{Atom}
use Rattle.regex_ast.specs.declared.expr.Expr.{Expr}
use Rattle.regex_ast.specs.declared.expr.Link.{Link, Or, And, Less}
use Rattle.regex_ast.specs.declared.expr.Step.{Step, CrossWith, Then}
use Rattle.regex_ast.specs.declared.expr.Mapping.{Mapping, Plain, Markup, Insert}
use Rattle.expr_kinds.specs.Atoms.{is_known_at, is_symbol, leaves_at, weights_at}
use Rattle.expr_kinds.specs.Forms.{form_in_links, form_in_steps, form_in_mappings}
use Rattle.expr_kinds.specs.Weights.{count_of}
use Rattle.expr_kinds.specs.declared.form.Form.{Form}

pub count_is : {A : Type 0} (xs : List (Expr A)) → count_of (terms_of (map term xs)) ≡ length xs
count_is [] = refl
count_is (x ∷ xs) = omega (arith, count_is xs)

-- one item, and then the others
pub link_first : (names : List Form) (before : Form) (link : Link Atom) (links : List (Link Atom)) → form_in_links (leaves_at names) (weights_at names) (is_known_at names) is_symbol before (links_of (link ∷ links)) ≡ form_in_links (leaves_at names) (weights_at names) (is_known_at names) is_symbol (form_in_links (leaves_at names) (weights_at names) (is_known_at names) is_symbol before (links_of (link ∷ []))) (links_of links)
link_first names before (Or e) links = refl
link_first names before (And e) links = refl
link_first names before (Less e) links = refl

pub step_first : (names : List Form) (before : Form) (step : Step Atom) (steps : List (Step Atom)) → form_in_steps (leaves_at names) (weights_at names) (is_known_at names) is_symbol before (steps_by (step ∷ steps)) ≡ form_in_steps (leaves_at names) (weights_at names) (is_known_at names) is_symbol (form_in_steps (leaves_at names) (weights_at names) (is_known_at names) is_symbol before (steps_by (step ∷ []))) (steps_by steps)
step_first names before (CrossWith e) steps = refl
step_first names before (Then e) steps = refl

pub mapping_first : (names : List Form) (before : Form) (m : Mapping Atom) (maps : List (Mapping Atom)) → form_in_mappings (leaves_at names) (weights_at names) (is_known_at names) is_symbol before (mappings_of (m ∷ maps)) ≡ form_in_mappings (leaves_at names) (weights_at names) (is_known_at names) is_symbol (form_in_mappings (leaves_at names) (weights_at names) (is_known_at names) is_symbol before (mappings_of (m ∷ []))) (mappings_of maps)
mapping_first names before (Plain c r) maps = refl
mapping_first names before (Markup c b a) maps = refl
mapping_first names before (Insert r) maps = refl
