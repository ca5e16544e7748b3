-- The search from the start: what each configuration that is looked at adds.
use Rattle.std.proofs.Common.{◌≡◌, ℕ, ◌+◌, ◌≤◌, List, [], ◌∷◌, ◌++◌, Option, Some, length, refl, subst, sym, ap, inl, inr, arith, ◌∙◌}
use Rattle.std.specs.List.{Contains, slice_get}
use Rattle.std.proofs.lemmas.Bool.{cases_lt}
use Rattle.std.proofs.lemmas.Option.{slice_get_within}
use Rattle.fsm_base.specs.declared.letters.Sym.{Sym}
use Rattle.word_relations.proofs.Members.{Contains-nil_cases}
use Rattle.word_relations.proofs.Places.{slice_get-append_left, same_at}
use Rattle.lookup.specs.declared.explored.Config.{Config}
use Rattle.lookup.specs.Reached.{Reached, AddsSteps, IsExplored}
use Rattle.lookup.proofs.Adding.{IsNode-more}

module _ (P : Config → Option Sym → Option Config → Type 0) where
  pub explored_none : IsExplored P 0 (record { configs = record { place = 0; state = 0 } ∷ []; edges = [] })
  explored_none = record {
    start = refl;
    only = λ e h. absurd (Contains-nil_cases e h);
    all = λ k config l t less at p. absurd (omega arith);
  }

  pub explored_more : (i : ℕ) (now new : Reached) (config : Config) → IsExplored P i now → slice_get now.configs i ≡ Some config → AddsSteps (P config) (i + 1) now new → IsExplored P (i + 1) new
  explored_more i now new config explored at adds =
      let more : List Config = adds.found.0 in
      let is : new.configs ≡ now.configs ++ more = adds.found.1 in
      record {
        start = kept 0 _ explored.start;
        only = λ e h. elim (adds.only e h) [
          | inl was ↦
              let r = explored.only e was in
              (r.0, r.1, r.2, kept r.0 r.1 r.3, r.4, IsNode-more now.configs new.configs more is e.to r.2 r.5, r.6)
          | inr r ↦ (i, config, r.1.0, kept i config at, r.0, r.1.1, r.1.2)
        ];
        all = λ k c l t less there p. elim (cases_lt k i) [
          | inl before ↦
              let stood : slice_get now.configs k ≡ Some c = sym (slice_get-append_left now.configs more k (let w = slice_get_within now.configs i config at in omega arith)) ∙ sym (ap (λ cs. slice_get cs k) is) ∙ there in
              let r = explored.all k c l t before stood p in
              (r.0, IsNode-more now.configs new.configs more is r.0 t r.1, adds.kept _ r.2)
          | inr from ↦
              let here : k ≡ i = omega arith in
              let same : c ≡ config = same_at new.configs i c config (subst (λ n. slice_get new.configs n ≡ Some c) here there) (kept i config at) in
              let r = adds.all l t (subst (λ d. P d l t) same p) in
              (r.0, r.1, subst (λ n. Contains new.edges (record { from = n + 1; letter = l; to = r.0 })) (sym here) r.2)
        ];
      }
    where
      kept : (k : ℕ) (c : Config) → slice_get now.configs k ≡ Some c → slice_get new.configs k ≡ Some c
      kept k c there =
          ap (λ cs. slice_get cs k) adds.found.1 ∙ slice_get-append_left now.configs adds.found.0 k (slice_get_within now.configs k c there) ∙ there

  pub explored_all : (i : ℕ) (reached : Reached) → length reached.configs ≤ i → IsExplored P i reached → IsExplored P (length reached.configs) reached
  explored_all i reached past explored = record {
    start = explored.start;
    only = explored.only;
    all = λ k c l t less at p. explored.all k c l t (omega arith) at p;
  }
