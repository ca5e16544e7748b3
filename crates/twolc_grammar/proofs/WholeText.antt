-- The definitions at work: what the tokens of `Alphabet a ; Rules "r" a:b => _ ;` say.
use Rattle.std.proofs.Common.{◌≡◌, inl, inr, [], ◌∷◌, List, Ok, refl}
use Rattle.std.specs.Prelude.{codes}
use Rattle.regex_ast.specs.Terms.{empty, no_context, between}
use Rattle.regex_ast.specs.declared.expr.Raw.{Raw}
use Rattle.regex_ast.specs.declared.expr.Raw.TheVariants.{Run}
use Rattle.regex_ast.specs.declared.twolc.RuleKind.TheVariants as kinds
use Rattle.regex_tokens.specs.declared.token.Ending.TheVariants.{Whole}
use Rattle.project_meaning.specs.Trees.{Pair, Rule, Grammar, one}
use Rattle.twolc_tokens.specs.declared.token.Operator.TheVariants.{Arrow, Semicolon, Underscore}
use Rattle.twolc_tokens.specs.declared.token.Placed.{Placed}
use Rattle.twolc_tokens.specs.declared.token.Token.{Token}
use Rattle.twolc_tokens.specs.declared.token.Token.TheVariants.{Operator as operator, Quoted as quoted, Atom as atom}
use Rattle.twolc_grammar.specs.Statements.{alphabet, rule, in_alphabet, in_rules, fine}
use Rattle.twolc_grammar.specs.Sections.{beginning, listed, within, Says, ended, head, read, nothing_read}

abbrev at : Token → Placed
at token = record { token = token; line = 1 }

abbrev rules : List Placed
rules = at (quoted (codes "r")) ∷ at (atom (codes "a:b")) ∷ at (operator (Arrow kinds.Only)) ∷ at (operator Underscore) ∷ at (operator Semicolon) ∷ []

abbrev text : List Placed
text = at (atom (codes "Alphabet")) ∷ at (atom (codes "a")) ∷ at (operator Semicolon) ∷ at (atom (codes "Rules")) ∷ rules

abbrev nothing_said : Grammar Raw
nothing_said = record { pairs = []; sets = []; definitions = []; rules = [] }

abbrev a_pair : Pair Raw
a_pair = record { up = one (Run (codes "a")); low = one (Run (codes "a")) }

abbrev the_rule : Rule Raw
the_rule = record { name = codes "r"; centre = record { up = one (Run (codes "a")); low = one (Run (codes "b")) }; kind = kinds.Only; contexts = between empty empty no_context }

abbrev with_pair : Grammar Raw
with_pair = record { pairs = a_pair ∷ []; sets = []; definitions = []; rules = [] }

abbrev all_said : Grammar Raw
all_said = record { pairs = a_pair ∷ []; sets = []; definitions = []; rules = the_rule ∷ [] }

has_context : the_rule.contexts ≡ no_context → ⊥
has_context e = cc

rules_said : Says (record { stage = listed; grammar = with_pair; rest = at (atom (codes "Rules")) ∷ rules; ending = Whole }) (Ok all_said)
rules_said =
    head listed with_pair (at (atom (codes "Rules"))) rules Whole in_rules (Ok all_said) refl
    (read in_rules with_pair (at (quoted (codes "r"))) (at (atom (codes "a:b")) ∷ at (operator (Arrow kinds.Only)) ∷ at (operator Underscore) ∷ at (operator Semicolon) ∷ []) [] Whole (rule the_rule) (Ok all_said) refl refl (refl, refl) (inr (inl refl))
    (fine (rule the_rule) refl (codes "a:b", operator Underscore ∷ operator Semicolon ∷ [], refl, refl, ([], [], [], refl, refl, refl, refl), has_context) refl refl refl) (ended (within in_rules) all_said Whole))

text_said : Says (nothing_read text Whole) (Ok all_said)
text_said =
    head beginning nothing_said (at (atom (codes "Alphabet"))) (at (atom (codes "a")) ∷ at (operator Semicolon) ∷ at (atom (codes "Rules")) ∷ rules) Whole in_alphabet (Ok all_said) refl
    (read in_alphabet nothing_said (at (atom (codes "a"))) (at (operator Semicolon) ∷ []) (at (atom (codes "Rules")) ∷ rules) Whole (alphabet (a_pair ∷ [])) (Ok all_said) refl refl
    (record { front = at (atom (codes "a")) ∷ []; last = at (operator Semicolon); whole = refl; front_is = refl; last_is = refl }) (inr (inl refl))
    (fine (alphabet (a_pair ∷ [])) refl (codes "a" ∷ [], refl, refl) refl refl refl) rules_said)
