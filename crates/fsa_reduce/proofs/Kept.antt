-- Lists that only grow at their end.
use Rattle.std.proofs.Common.{◌≡◌, ℕ, List, [], ◌∷◌, ◌++◌, Some, sym, ap, subst, append_assoc, ◌∙◌}
use Rattle.std.specs.List.{slice_get}
use Rattle.std.proofs.lemmas.List.{append-nil}
use Rattle.std.proofs.lemmas.Option.{slice_get_within}
use Rattle.word_relations.proofs.Places.{slice_get-append_left}
use Rattle.fsa_reduce.specs.Numbering.{Keeps}

module _ {X : Type 0} where
  pub Keeps-none : (xs : List X) → Keeps xs xs
  Keeps-none xs = ([], sym (append-nil xs))

  pub Keeps-same : (xs ys : List X) → ys ≡ xs → Keeps xs ys
  Keeps-same xs ys same = ([], same ∙ sym (append-nil xs))

  pub Keeps-push : (xs ys : List X) (x : X) → ys ≡ xs ++ x ∷ [] → Keeps xs ys
  Keeps-push xs ys x is = (x ∷ [], is)

  pub Keeps-then : (xs ys zs : List X) → Keeps xs ys → Keeps ys zs → Keeps xs zs
  Keeps-then xs ys zs (m, e) (n, f) = (m ++ n, f ∙ ap (λ x. x ++ n) e ∙ append_assoc xs m n)

  pub Keeps-get : (xs ys : List X) (k : ℕ) (x : X) → Keeps xs ys → slice_get xs k ≡ Some x → slice_get ys k ≡ Some x
  Keeps-get xs ys k x (more, is) at =
      subst (λ zs. slice_get zs k ≡ Some x) (sym is) (slice_get-append_left xs more k (slice_get_within xs k x at) ∙ at)
