-- The sides of a string of pairs that passes are related by the name.
use Rattle.std.proofs.Common.{◌≡◌, ◌++◌, ℕ, zero, suc, List, [], ◌∷◌, Option, Some, None, length, map, refl, sym, ap, subst, ◌∙◌, arith}
use Rattle.std.specs.List.{Contains, flat_map}
use Rattle.std.specs.Option.{option_map, option_to_list}
use Rattle.std.proofs.lemmas.List.Elements.{All-cons, All-head, All-nil, All-tail}
use Rattle.fsm_base.specs.Alphabet.{text_of}
use Rattle.fsm_base.specs.declared.letters.Pair.{Pair}
use Rattle.fsm_base.specs.declared.letters.Sym.{Sym}
use Rattle.word_relations.specs.Words.{IsOver}
use Rattle.word_relations.proofs.Members.{Contains-map_cases}
use Rattle.fst_algebra.specs.Relation.{lowers, uppers}
use Rattle.grammar_pairs.specs.Texts.{letter_in}
use Rattle.pair_test.specs.Rules.{PassingIsRelated}
use Rattle.pair_test.specs.Verdicts.{IsVerdict}
use Rattle.pair_test.specs.declared.verdict.Verdict.TheVariants.{Pass}
use Rattle.project_meaning.specs.Grammars.{GrammarRelates, Letter, feasible}
use Rattle.project_meaning.specs.Leaves.{Leaf}
use Rattle.project_meaning.specs.Meaning.{BodyRelates, Meaning, MeansTo, Word}
use Rattle.project_meaning.specs.Projects.{Project}
use Rattle.project_meaning.specs.Trees.{Body, Grammar}
use Rattle.two_level.specs.Spelled.{GrammarIsSpelled}
use Rattle.pair_lines.specs.Laws.{PassingIsMeant}
use Rattle.pair_lines.specs.Ready.{AreOfGrammar, PairRulesView}
use Rattle.pair_lines.specs.Replies.{HasGrammar, IsRuleBrokenAt}
use Rattle.pair_lines.proofs.Verdicts.{passes_by_numbers}

-- the symbols of a side, by their texts
side_texts : (text : Sym → List ℕ) (side : Option Sym) (rest : List Sym) → map text (option_to_list side ++ rest) ≡ option_to_list (option_map text side) ++ map text rest
side_texts text None rest = refl
side_texts text (Some s) rest = refl

uppers_texts : (text : Sym → List ℕ) (p : List Pair) → map text (uppers p) ≡ flat_map (λ (x : Letter). option_to_list x.up) (map (letter_in text) p)
uppers_texts text [] = refl
uppers_texts text (x ∷ p) = side_texts text x.up (uppers p) ∙ ap (λ z. option_to_list (option_map text x.up) ++ z) (uppers_texts text p)

lowers_texts : (text : Sym → List ℕ) (p : List Pair) → map text (lowers p) ≡ flat_map (λ (x : Letter). option_to_list x.low) (map (letter_in text) p)
lowers_texts text [] = refl
lowers_texts text (x ∷ p) = side_texts text x.low (lowers p) ∙ ap (λ z. option_to_list (option_map text x.low) ++ z) (lowers_texts text p)

-- a name relates what its grammar does
meant : (project : Project) (name : List ℕ) (g : Grammar Leaf) → HasGrammar project name g → (u w : Word) → GrammarRelates g u w → Meaning project name u w
meant project name g (d, among, named, is) u w related = by (length project.definitions) refl
  where
    by : (n : ℕ) → length project.definitions ≡ n → MeansTo (length project.definitions) project name u w
    by zero e = absurd (let below = among.1 in omega (arith, below, e))
    by (suc n) e = subst (λ (k : ℕ). MeansTo k project name u w) (sym e) (d, among, named, subst (λ (b : Body Leaf). BodyRelates (MeansTo n project) project.alphabet b u w) (sym is) related)

module _ (g : Grammar Leaf) (ready : PairRulesView) (o : AreOfGrammar g ready) where
  word_of : (p : List Letter) → IsOver (feasible g) p → (word : List Pair) × (p ≡ map (letter_in (text_of o.alphabet)) word) × IsOver o.pairs word
  word_of [] over = ([], refl, All-nil (Contains o.pairs))
  word_of (x ∷ p) over =
      let (y, there, is) = Contains-map_cases (letter_in (text_of o.alphabet)) o.pairs x ((o.stand.0.pairs_are x).0 (All-head (Contains (feasible g)) x p over)) in
      let (word, same, rest) = word_of p (All-tail (Contains (feasible g)) x p over) in
      (y ∷ word, (λ i. sym is i ∷ same i), All-cons (Contains o.pairs) y word there rest)

  pub passing_related : PassingIsRelated → GrammarIsSpelled → (p : List Letter) → IsOver (feasible g) p → IsVerdict (IsRuleBrokenAt g p) g.rules Pass
      → GrammarRelates g (flat_map (λ (x : Letter). option_to_list x.up) p) (flat_map (λ (x : Letter). option_to_list x.low) p)
  passing_related numbers texts p over kept =
      let (word, same, own) = word_of p over in
      let text = text_of o.alphabet in
      let passed = passes_by_numbers text g o.pairs o.rules o.stand.0 word own o.stand.1 (subst (λ (q : List Letter). IsVerdict (IsRuleBrokenAt g q) g.rules Pass) same kept) in
      let related = numbers o.pairs o.rules word own passed in
      let told = (texts text g o.pairs o.rules o.stand.0 (map text (uppers word)) (map text (lowers word))).1 (uppers word, lowers word, refl, refl, related) in
      subst (λ (q : List Letter). GrammarRelates g (flat_map (λ (x : Letter). option_to_list x.up) q) (flat_map (λ (x : Letter). option_to_list x.low) q)) (sym same)
      (subst (λ (u : Word). GrammarRelates g u (flat_map (λ (x : Letter). option_to_list x.low) (map (letter_in text) word))) (uppers_texts text word)
      (subst (λ (w : Word). GrammarRelates g (map text (uppers word)) w) (lowers_texts text word) told))

pub passing_meant : PassingIsRelated → GrammarIsSpelled → PassingIsMeant
passing_meant numbers texts project ready (g, has, o) p over kept =
    meant project ready.name g has (flat_map (λ (x : Letter). option_to_list x.up) p) (flat_map (λ (x : Letter). option_to_list x.low) p) (passing_related g ready o numbers texts p over kept)
