use Rattle.std.proofs.Common.{◌≡◌, ◌+◌, ◌-◌, ◌++◌, List, ℕ, [], ◌∷◌, Some, length, take, subst, sym, ap, arith, ◌∙◌, vec_len}
use Rattle.std.specs.List.{slice_get}
use Rattle.word_relations.proofs.Places.{slice_get-append_left, slice_get-push}
use Rattle.std.proofs.lemmas.Option.{slice_get_within}
use Rattle.lookup.specs.Walks.{IsTrail}
use Rattle.lookup.proofs.Trails.{trail_pop}
use Rattle.lookup.proofs.walk.Walk.leave.Goals as goal

pub returns-clause-left : goal.returns-clause-left
returns-clause-left c =
    let walk = c.args.self.now in
    let byte = c.in-Some.byte in
    let left = c.pop.new.self.items in
    let text : walk.text.items ≡ left ++ byte ∷ [] = c.in-Some.ensures.items in
    let at : slice_get walk.text.items (length left) ≡ Some byte = subst (λ (t : List ℕ). slice_get t (length left) ≡ Some byte) (sym text) (slice_get-push left byte) in
    let small = c.requires.bytes (length left) byte at in
    let from = c.from.ensures in
    let count : vec_len walk.trail ≡ length walk.trail.items = omega (arith, walk.trail.ok) in
    let popped : c.pop-2.new.self.items ≡ take (length walk.trail.items - 1) walk.trail.items = c.pop-2.ensures.rest ∙ ap (λ n. take (n - 1) walk.trail.items) count in (
      byte,
      (
        text,
        ap (λ n. n + 1) from,
        record {
          trail = trail_pop walk.rows walk.sets walk.leaving.items left byte walk.trail.items c.pop-2.new.self.items
              (subst (λ (t : List ℕ). IsTrail walk.rows walk.sets walk.leaving.items t walk.trail.items) text c.requires.trail) popped;
          learnt = c.requires.learnt;
          within = c.requires.within;
          bytes = λ k b h. c.requires.bytes k b (ap (λ (t : List ℕ). slice_get t k) text ∙ slice_get-append_left left (byte ∷ []) k (slice_get_within left k b h) ∙ h);
          floor_within = omega (arith, small, from);
        },
      ),
    )
