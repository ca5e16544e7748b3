use Rattle.std.proofs.Common.{◌≡◌, ◌<◌, ◌≤◌, ◌+◌, ℕ, Some, true, length, subst, sym, ap, ◌∙◌, arith, rules, List}
use Rattle.std.specs.List.{Contains, list_all}
use Rattle.std.proofs.lemmas.Bool.{not-false}
use Rattle.fsm_base.specs.declared.letters.Sym.{Sym}
use Rattle.fsm_base.specs.declared.letters.Pair.{Pair}
use Rattle.word_relations.specs.Relations.{AreSame}
use Rattle.fsa.specs.Automaton.{Automaton, UsesLetter}
use Rattle.fsa.specs.Language.{Accepts}
use Rattle.fsa.specs.declared.automaton.Edge.{Edge}
use Rattle.fst_algebra.proofs.Relabelled.{IsRelabelled, as_relabelled, relabelled_letters}
use Rattle.regex_ast.specs.declared.lexc.FlagOp.{FlagOp}
use Rattle.flag_diacritics.specs.declared.tape.Tape.{Tape}
use Rattle.flag_diacritics.specs.Tapes.{TapesRelate}
use Rattle.fst_flagged.specs.declared.condition.Condition.{Condition}
use Rattle.fst_flagged.specs.Conditions.{first}
use Rattle.fst_flagged.specs.Flagged.{FlaggedRelates, StandApart}
use Rattle.fst_flagged.specs.Images.{is_plain_tape, most, as_pair}
use Rattle.fst_flagged.proofs.Stands.{passes_all}
use Rattle.fst_flagged.proofs.Resolved.{of_stands, of_upper, of_lower, of_relation}
use Rattle.fst_flagged.proofs.flagged.Flagged.of.Goals as goal

count_is : (c : goal.In_ok-net) → c.in-Some.count ≡ length c.args.flags.now
count_is c = c.in-Some.ensures.0

fits : (c : goal.In_ok-net) → first + (length c.args.flags.now + length c.args.flags.now) ≤ most
fits c = let bound = c.in-Some.ensures.1 in let same = count_is c in omega (arith, bound, same)

plain : (c : goal.In_ok-net) → (e : Edge Tape) → Contains c.args.tapes.now.edges e → is_plain_tape e.letter ≡ true
plain c =
    let found : c.tapes_are_plain-plain.result ≡ true = search (rules, not-false, c.if-not-plain.false) in
    passes_all (λ (e : Edge Tape). is_plain_tape e.letter) c.args.tapes.now.edges
    (ap (list_all (λ (e : Edge Tape). is_plain_tape e.letter)) (sym c.edges.ensures.edges) ∙ sym c.tapes_are_plain-plain.ensures ∙ found)

letters : (c : goal.In_ok-net) → (y : Pair) → UsesLetter c.in_ok-net.net y → (x : Tape) × UsesLetter c.args.tapes.now x × (as_pair (length c.args.flags.now) (first + length c.args.flags.now) x ≡ Some y)
letters c =
    subst (λ (n : ℕ). (y : Pair) → UsesLetter c.in_ok-net.net y → (x : Tape) × UsesLetter c.args.tapes.now x × (as_pair n (first + n) x ≡ Some y)) (count_is c)
    (relabelled_letters (as_pair c.in-Some.count (first + c.in-Some.count)) c.args.tapes.now c.in_ok-net.net c.in_ok-net.ensures.letters)

same : (c : goal.In_ok-net) → (w : List Pair) → (Accepts c.in_ok-net.net w → IsRelabelled (as_pair (length c.args.flags.now) (first + length c.args.flags.now)) (Accepts c.args.tapes.now) w) × (IsRelabelled (as_pair (length c.args.flags.now) (first + length c.args.flags.now)) (Accepts c.args.tapes.now) w → Accepts c.in_ok-net.net w)
same c =
    subst
    (λ (n : ℕ). (w : List Pair) → (Accepts c.in_ok-net.net w → IsRelabelled (as_pair n (first + n)) (Accepts c.args.tapes.now) w) × (IsRelabelled (as_pair n (first + n)) (Accepts c.args.tapes.now) w → Accepts c.in_ok-net.net w))
    (count_is c) (as_relabelled (as_pair c.in-Some.count (first + c.in-Some.count)) c.args.tapes.now c.in_ok-net.net c.in_ok-net.ensures.language)

pub invariant_of-result : goal.invariant_of-result
invariant_of-result c =
    subst (λ (cs : List Condition). StandApart (record { net = c.in_ok-net.net; conditions = cs })) (sym c.in_ok-conditions.ensures)
    (of_stands c.args.tapes.now c.args.flags.now (fits c) (plain c) c.in_ok-net.net (letters c))

pub returns-clause-upper : goal.returns-clause-upper
returns-clause-upper c = of_upper c.args.tapes.now c.args.flags.now (fits c) (plain c) c.in_ok-net.net (letters c)

pub returns-clause-lower : goal.returns-clause-lower
returns-clause-lower c = of_lower c.args.tapes.now c.args.flags.now (fits c) (plain c) c.in_ok-net.net (letters c)

pub returns-clause-relation : goal.returns-clause-relation
returns-clause-relation c =
    subst (λ (cs : List Condition). AreSame (FlaggedRelates (record { net = c.in_ok-net.net; conditions = cs })) (TapesRelate c.args.tapes.now c.args.flags.now)) (sym c.in_ok-conditions.ensures)
    (of_relation c.args.tapes.now c.args.flags.now (fits c) (plain c) c.in_ok-net.net (same c))
