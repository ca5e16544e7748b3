-- Lawful replies to lines, one after another.
use Rattle.std.proofs.Common.{◌≡◌, ℕ, ◌⊎◌, List, [], ◌∷◌, ◌++◌, Option, sym, ◌∙◌, inl, inr}
use Rattle.std.specs.List.{AllZip}
use Rattle.project_meaning.specs.Projects.{Project}
use Rattle.reply_meaning.specs.Replies.{Replies}
use Rattle.reply_meaning.specs.OneReply.{MayDiffer}
use Rattle.reply_meaning.specs.OneTranscript.{AnyZip, replies_of}
use Rattle.reply_meaning.specs.Transcripts.{IsTranscript, WithoutState}
use Rattle.reply_meaning.proofs.Replies.{replies}
use Rattle.lookup_answers.specs.declared.direction.Direction.{Direction}

module _ (project : Project) (direction : Direction) (version : ℕ) (net : List ℕ) where
  abbrev R : Option (List ℕ) → List ℕ → Type 0
  R = Replies project direction version net

  abbrev Lawful : List (Option (List ℕ)) → List ℕ → Type 0
  Lawful lines bytes = IsTranscript (WithoutState R) tt lines bytes tt

  each : (lines : List (Option (List ℕ))) (a b : List ℕ) (p : Lawful lines a) (q : Lawful lines b) → AllZip (λ x y. (x ≡ y) ⊎ MayDiffer version x y) (replies_of R lines a p) (replies_of R lines b q)
  each [] a b p q = tt
  each (line ∷ lines) a b (reply, rest, after, is, lawful, others) (reply2, rest2, after2, is2, lawful2, others2) =
      (replies project direction version net line reply reply2 lawful lawful2, each lines rest rest2 others others2)

  -- where each two replies are the same, so are the bytes
  all : (lines : List (Option (List ℕ))) (a b : List ℕ) (p : Lawful lines a) (q : Lawful lines b) → (a ≡ b) ⊎ AnyZip (MayDiffer version) (replies_of R lines a p) (replies_of R lines b q)
  all [] a b p q = inl (p.0 ∙ sym q.0)
  all (line ∷ lines) a b (reply, rest, after, is, lawful, others) (reply2, rest2, after2, is2, lawful2, others2) =
      by (replies project direction version net line reply reply2 lawful lawful2) (all lines rest rest2 others others2)
    where
      by : (reply ≡ reply2) ⊎ MayDiffer version reply reply2 → (rest ≡ rest2) ⊎ AnyZip (MayDiffer version) (replies_of R lines rest others) (replies_of R lines rest2 others2)
          → (a ≡ b) ⊎ MayDiffer version reply reply2 ⊎ AnyZip (MayDiffer version) (replies_of R lines rest others) (replies_of R lines rest2 others2)
      by (inl same) (inl later) = inl (is ∙ (λ i. same i ++ later i) ∙ sym is2)
      by (inl same) (inr differ) = inr (inr differ)
      by (inr differ) later = inr (inl differ)

  pub lines_reply : (lines : List (Option (List ℕ))) (a b : List ℕ) (p : Lawful lines a) (q : Lawful lines b)
      → AllZip (λ x y. (x ≡ y) ⊎ MayDiffer version x y) (replies_of R lines a p) (replies_of R lines b q) × ((a ≡ b) ⊎ AnyZip (MayDiffer version) (replies_of R lines a p) (replies_of R lines b q))
  lines_reply lines a b p q = (each lines a b p q, all lines a b p q)
