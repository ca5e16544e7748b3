use Rattle.std.proofs.Common.{◌≡◌, ◌++◌, ◌∷◌, [], false, ℕ, List, map, sym, ap, subst, ◌∙◌}
use Rattle.std.specs.String.{string_bytes}
use Rattle.fsm_base.proofs.TableLemmas.{with_text-strings}
use Rattle.twolc_grammar.specs.Atoms.{Names, is_one_of}
use Rattle.twolc_expressions.proofs.KnownTexts.{with_text-new}
use Rattle.twolc_expressions.proofs.names.KnownNames.add_set.Goals as goal

pub returns : goal.returns
returns c =
    let texts = map string_bytes c.self.inside.sets.keys in
    let none : is_one_of texts c.args.name.now ≡ false = subst (λ (n : Names). is_one_of n.sets c.args.name.now ≡ false) (sym c.self.view_is) c.requires in
    let now : map string_bytes c.insert_full.new.self.keys ≡ texts ++ c.args.name.now ∷ [] =
    ap (λ ks. map string_bytes ks) c.in_ok-insert_full.ensures.keys ∙ with_text-strings c.args.name.now c.self.inside.sets.keys _ c.in_ok-owned.ensures.ok ∙ with_text-new c.args.name.now texts none in
    rw (← c.self.view_is) (ap (λ (s : List (List ℕ)). record { sets = s; definitions = map string_bytes c.self.inside.definitions.keys }) now)
