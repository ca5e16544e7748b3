-- What directed rules relate, by the words of marks of firsts.
use Rattle.std.proofs.Common.{◌≡◌, ◌↔◌, ℕ, List, Some, All, length, map, refl, sym, ap, subst, ◌∙◌}
use Rattle.std.specs.Prelude.{option_map}
use Rattle.std.specs.List.{Contains, slice_get, filter_map}
use Rattle.std.proofs.lemmas.Option.{slice_get-map}
use Rattle.std.proofs.lemmas.List.Elements.{All-map, All-weaker}
use Rattle.fsm_base.specs.declared.letters.Sym.{Sym}
use Rattle.fsm_base.specs.declared.letters.Bound.{Bound}
use Rattle.fsm_base.specs.declared.letters.Bound.TheVariants.{Edge, Inner}
use Rattle.word_relations.specs.Words.{IsOver}
use Rattle.word_relations.proofs.Places.{Contains-from_slice_get, slice_get_from_Contains}
use Rattle.fsa.specs.Complete.{Complete, Accepts}
use Rattle.fsa_explore.specs.Alike.{AreAlike, AreBothAlike}
use Rattle.expr_meaning.specs.Directed.{IsDirectedBy}
use Rattle.replace_words.specs.declared.marks.Mark.{Mark}
use Rattle.replace_words.specs.Places.{ReplacesAt}
use Rattle.replace_words.specs.Marked.{upper_of, lower_of, symbol_of}
use Rattle.replace_words.specs.Firsts.{first_mark, first_bound, HasSymbolIn, IsBoundIn, ActsByFirsts}
use Rattle.replace_rules.specs.declared.rules.LangMap.{LangMap}
use Rattle.replace_rules.specs.declared.rules.LangContext.{LangContext}
use Rattle.replace_rules.specs.Letters.{IsMarkOf}
use Rattle.replace_rules.specs.Alike.{MapIsLike, ContextIsLike, AreFirstsIn, IsDivided}
use Rattle.replace_rules.proofs.Told.{EachOf, inside_divided, firsts_divided}
use Rattle.replace_rules.proofs.ByFirsts.{like_words, like_suffix, like_prefix, has_symbol, first_of}
use Rattle.directed_words.specs.declared.ways.Length.{Length}
use Rattle.directed_words.specs.Laws.{MatchesAt, from_left}
use Rattle.directed_words.specs.Marked.{IsMarkedFromLeft}
use Rattle.directed_words.proofs.Directions.{directed_are_marked}
use Rattle.directed_words.proofs.Firsts.{directed_by_firsts}
use Rattle.replace_directed.specs.Directed.{AreOver}
use Rattle.replace_directed.specs.Marked.{directing}
use Rattle.replace_directed.specs.Alike.{RuleIsLike, AreFirstsOf}
use Rattle.replace_directed.proofs.Relations.{no_empty, well_over, marked_back}

-- numbers that tell apart what mappings and contexts do
pub rule_divided : (symbols : List Sym) (bounds : List (Bound Sym)) (numbers : List ℕ) (maps : List LangMap) (contexts : List LangContext) → bounds ≡ map Inner symbols → IsDivided symbols numbers (EachOf MapIsLike maps) → IsDivided bounds numbers (EachOf ContextIsLike contexts)
    → IsDivided symbols numbers (RuleIsLike maps contexts)
rule_divided symbols bounds numbers maps contexts are by_maps by_contexts =
    let inside = inside_divided symbols bounds numbers (EachOf ContextIsLike contexts) are by_contexts in
    record {
      count = by_maps.count;
      alike = λ j k n s t at_j at_k s_is t_is. record { in_maps = by_maps.alike j k n s t at_j at_k s_is t_is; in_contexts = inside.alike j k n s t at_j at_k s_is t_is };
    }

pub rule_firsts : (symbols : List Sym) (maps : List LangMap) (contexts : List LangContext) (numbers of_places class_firsts : List ℕ) (firsts : List Sym) → IsDivided symbols numbers (RuleIsLike maps contexts) → AreAlike (AreBothAlike numbers numbers) (length numbers) of_places class_firsts
    → AreFirstsIn symbols class_firsts of_places firsts → AreFirstsOf symbols maps contexts firsts
rule_firsts symbols maps contexts numbers of_places class_firsts firsts divided are found =
    let r = firsts_divided symbols (RuleIsLike maps contexts) numbers of_places class_firsts firsts divided are found in
    record { count = r.0; each = r.1 }

module _ (symbols : List Sym) (maps : List LangMap) (contexts : List LangContext) (first : Sym → Sym) (like : (s : Sym) → Contains symbols s → RuleIsLike maps contexts s (first s)) where
  map_like : (m : LangMap) → Contains maps m → (s : Sym) → Contains symbols s → MapIsLike m s (first s)
  map_like m there s held = (like s held).in_maps m there

  centre_same : (m : LangMap) → Contains maps m → (w : List Sym) → IsOver symbols w → Accepts m.centre w ↔ Accepts m.centre (map first w)
  centre_same m there w over = like_words (Accepts m.centre) (Contains symbols) first (λ s held. (map_like m there s held).centre) w over

  result_same : (m : LangMap) → Contains maps m → (w : List Sym) → IsOver symbols w → Accepts m.result w ↔ Accepts m.result (map first w)
  result_same m there w over = like_words (Accepts m.result) (Contains symbols) first (λ s held. (map_like m there s held).result) w over

  after_same : (m : LangMap) → Contains maps m → (d : Complete Sym) → m.after ≡ Some d → (w : List Sym) → IsOver symbols w → Accepts d w ↔ Accepts d (map first w)
  after_same m there d is w over = like_words (Accepts d) (Contains symbols) first (λ s held. (map_like m there s held).after d is) w over

  bound_like : (c : LangContext) → Contains contexts c → (x : Bound Sym) → IsBoundIn symbols x → ContextIsLike c x (first_bound first x)
  bound_like c there Edge held = record { left = λ u v. (λ h. h, λ h. h); right = λ u v. (λ h. h, λ h. h) }
  bound_like c there (Inner s) held = (like s held).in_contexts c there

  -- contexts act by firsts
  acts : (p : LangContext) → Contains contexts p → ActsByFirsts (directing maps) symbols first p
  acts p there = record {
    centre = λ c over. (
      λ (m, held, is). (m, held, (centre_same m held c over).0 is),
      λ (m, held, is). (m, held, (centre_same m held c over).1 is),
    );
    replaces = λ c r over over'. (
      λ (m, held, none, is, put). (m, held, none, (centre_same m held c over).0 is, (result_same m held r over').0 put),
      λ (m, held, none, is, put). (m, held, none, (centre_same m held c over).1 is, (result_same m held r over').1 put),
    );
    surrounds = λ b c a over_b over_c over_a. (
      λ (m, held, d, some, is, before, behind). (m, held, d, some, (centre_same m held c over_c).0 is, (result_same m held b over_b).0 before, (after_same m held d some a over_a).0 behind),
      λ (m, held, d, some, is, before, behind). (m, held, d, some, (centre_same m held c over_c).1 is, (result_same m held b over_b).1 before, (after_same m held d some a over_a).1 behind),
    );
    left = λ x h. like_suffix (Accepts p.left) (IsBoundIn symbols) (first_bound first) (λ b held. (bound_like p there b held).left) x h;
    right = λ x h. like_prefix (Accepts p.right) (IsBoundIn symbols) (first_bound first) (λ b held. (bound_like p there b held).right) x h;
  }

module _ (symbols : List Sym) (maps : List LangMap) (contexts : List LangContext) (over : AreOver symbols maps) (firsts once : List Sym) (is : AreFirstsOf symbols maps contexts firsts) (once_is : (s : Sym) → Contains once s ↔ Contains firsts s) (first : Sym → Sym) (e : firsts ≡ map first symbols) where
  found : (s : Sym) → Contains symbols s → Contains firsts (first s) × RuleIsLike maps contexts s (first s)
  found s among =
      let k = slice_get_from_Contains symbols s among in
      let at : slice_get firsts k.0 ≡ Some (first s) = ap (λ fs. slice_get fs k.0) e ∙ slice_get-map first symbols k.0 ∙ ap (option_map first) k.1 in
      (Contains-from_slice_get firsts k.0 (first s) at, (is.each k.0 s (first s) k.1 at).1)

  are : (s : Sym) → Contains symbols s → Contains once (first s)
  are s among = (once_is (first s)).1 (found s among).0

  abbrev Count : ℕ
  Count = length contexts

  same_marked : (size : Length) (z : List (Bound Mark)) → All (IsMarkOf symbols Count) z → IsMarkedFromLeft (directing maps) symbols contexts size z ↔ IsMarkedFromLeft (directing maps) once contexts size (map (first_mark first) z)
  same_marked size z of =
      directed_by_firsts LangContext (directing maps) contexts symbols once first size z (acts symbols maps contexts first (λ s among. (found s among).1)) are (All-weaker (IsMarkOf symbols Count) (HasSymbolIn symbols) (has_symbol symbols Count) z of)

  -- the words of which the word of the firsts keeps what the rule asks relate what it does
  pub directed_by : (size : Length) (words : Complete (Bound Mark)) → ((w : List (Bound Mark)) → Accepts words w ↔ (All (IsMarkOf once Count) w × IsMarkedFromLeft (directing maps) once contexts size w))
      → (u w : List Sym) → ((z : List (Bound Mark)) × (All (IsMarkOf symbols Count) z × Accepts words (map (first_mark first) z)) × (filter_map (symbol_of upper_of) z ≡ u) × (filter_map (symbol_of lower_of) z ≡ w)) ↔ IsDirectedBy (MatchesAt (directing maps) contexts) symbols (ReplacesAt (directing maps) contexts) (from_left size) u w
  directed_by size words words_are u w =
      let marked = directed_are_marked LangContext (directing maps) contexts symbols size u w (no_empty symbols maps contexts over) in (
        λ (z, (of, h), up, low).
            let m = ((words_are (map (first_mark first) z)).0 h).1 in
            marked.1 (z, (same_marked size z of).1 m, up, low),
        λ h.
            let (z, m, up, low) = marked.0 h in
            let of : All (IsMarkOf symbols Count) z = well_over symbols maps contexts over z (marked_back symbols maps contexts size z m).0 in
            let of' : All (IsMarkOf once Count) (map (first_mark first) z) = All-map (IsMarkOf once Count) (first_mark first) z (All-weaker (IsMarkOf symbols Count) (λ x. IsMarkOf once Count (first_mark first x)) (first_of symbols once first are Count) z of) in
            (z, (of, (words_are (map (first_mark first) z)).1 (of', (same_marked size z of).0 m)), up, low),
      )
