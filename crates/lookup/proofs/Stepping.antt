-- The steps from a configuration: along the moves that read nothing, and along those that read the symbol at its
-- place, or to the end.
use Rattle.std.proofs.Common.{◌≡◌, ℕ, ◌+◌, ◌≤◌, ◌⊎◌, List, Bool, Option, None, Some, length, refl, subst, sym, ap, inl, inr, arith, ◌∙◌}
use Rattle.std.specs.List.{Contains, slice_get}
use Rattle.std.proofs.lemmas.Option.{slice_get_within, same_Some}
use Rattle.fsm_base.specs.declared.letters.Sym.{Sym}
use Rattle.lookup.specs.declared.explored.Config.{Config}
use Rattle.lookup_walk.specs.declared.moves.Move.{Move}
use Rattle.lookup_walk.proofs.Runs.{AreAt}
use Rattle.lookup.specs.Reached.{Reached, AddsSteps}
use Rattle.lookup.specs.Steps.{Reads, Steps, Follows, Ends}
use Rattle.lookup.proofs.Adding.{AddsSteps-then}

module _ (moves : List Move) (finals : List Bool) (word : List Sym) (c : Config) where
  -- along a move at the spot, which leads on as it reads
  follows_step : (out : List Move) (read : Option Sym) (j : ℕ) → AreAt moves (record { state = c.state; read = read }) out → Reads word read c.place j → (l : Option Sym) (t : Option Config) → Follows out j l t → Steps moves finals word c l t
  follows_step out read j are reads l t (m, has, letter, target) =
      let at = (are m).0 has in
      let step : Steps moves finals word c l (Some (record { place = j; state = m.to })) =
      (m, at.0, ap (λ s. s.state) at.1, subst (λ r. Reads word r c.place j) (sym (ap (λ s. s.read) at.1)) reads, sym letter, refl) in
      subst (λ u. Steps moves finals word c l u) (sym target) step

  -- a step along a move is along one at the spot
  step_follows : (out : List Move) (read : Option Sym) (d : Config) (l : Option Sym) → AreAt moves (record { state = c.state; read = read }) out → (m : Move) → Contains moves m → m.at.state ≡ c.state → m.at.read ≡ read → m.write ≡ l → m.to ≡ d.state → (j : ℕ) → d.place ≡ j → Follows out j l (Some d)
  step_follows out read d l are m has state is_read letter to j place =
      (m, (are m).1 (has, λ i. record { state = state i; read = is_read i }), sym letter, λ i. Some (record { place = place i; state = sym to i }))

  abbrev epsilon : List Move → Type 0
  epsilon out = AreAt moves (record { state = c.state; read = None }) out

  abbrev reading : Sym → List Move → Type 0
  reading s out = AreAt moves (record { state = c.state; read = Some s }) out

  split_inside : (s : Sym) (first second : List Move) → slice_get word c.place ≡ Some s → epsilon first → reading s second → (l : Option Sym) (t : Option Config) → Steps moves finals word c l t → Follows first c.place l t ⊎ Follows second (c.place + 1) l t
  split_inside s first second at out1 out2 l None (none, past, final) = let w = slice_get_within word c.place s at in absurd (omega arith)
  split_inside s first second at out1 out2 l (Some d) (m, has, state, reads, letter, to) = by m.at.read refl reads
    where
      by : (r : Option Sym) → m.at.read ≡ r → Reads word r c.place d.place → Follows first c.place l (Some d) ⊎ Follows second (c.place + 1) l (Some d)
      by None is here = inl (step_follows first None d l out1 m has state is letter to c.place here)
      by (Some x) is (here, on) =
          let same : x ≡ s = same_Some x s (sym here ∙ at) in
          inr (step_follows second (Some s) d l out2 m has state (is ∙ ap Some same) letter to (c.place + 1) on)

  split_past : (first : List Move) → length word ≤ c.place → epsilon first → (l : Option Sym) (t : Option Config) → Steps moves finals word c l t → Follows first c.place l t ⊎ Ends finals c.state l t
  split_past first past out l None (none, is_past, final) = inr (none, refl, final)
  split_past first past out l (Some d) (m, has, state, reads, letter, to) = by m.at.read refl reads
    where
      by : (r : Option Sym) → m.at.read ≡ r → Reads word r c.place d.place → Follows first c.place l (Some d) ⊎ Ends finals c.state l (Some d)
      by None is here = inl (step_follows first None d l out m has state is letter to c.place here)
      by (Some x) is (here, on) = let w = slice_get_within word c.place x here in absurd (omega arith)

  pub visits_inside : (s : Sym) (first second : List Move) → slice_get word c.place ≡ Some s → epsilon first → reading s second → (node : ℕ) (old now new : Reached) → AddsSteps (Follows first c.place) node old now → AddsSteps (Follows second (c.place + 1)) node now new → AddsSteps (Steps moves finals word c) node old new
  visits_inside s first second at out1 out2 node old now new =
      AddsSteps-then (Follows first c.place) (Follows second (c.place + 1)) (Steps moves finals word c) node old now new
      (split_inside s first second at out1 out2) (follows_step first None c.place out1 refl) (follows_step second (Some s) (c.place + 1) out2 (at, refl))

  pub visits_past : (first : List Move) → length word ≤ c.place → epsilon first → (node : ℕ) (old now new : Reached) → AddsSteps (Follows first c.place) node old now → AddsSteps (Ends finals c.state) node now new → AddsSteps (Steps moves finals word c) node old new
  visits_past first past out node old now new =
      AddsSteps-then (Follows first c.place) (Ends finals c.state) (Steps moves finals word c) node old now new
      (split_past first past out) (follows_step first None c.place out refl)
      (λ l t (none, target, final). subst (λ u. Steps moves finals word c l u) (sym target) (none, past, final))
