-- What stands behind a keyword: when it is nothing of the kind, and that it is one thing only.
use Rattle.std.proofs.Common.{◌≡◌, ◌⊎◌, ℕ, List, [], refl, sym, subst, ◌∙◌, inl, inr}
use Rattle.std.specs.Fmt.{decimal}
use Rattle.edit_script.specs.Commands.{HasNoSpace, IsFile, IsNumber, IsPut, IsSplice, IsNetAndWord, spaced}
use Rattle.edit_script.proofs.Splits.{one_split, no_split, file_no_space}
use Rattle.edit_script.proofs.Numbers.{number_no_space, one_number}

-- FILE N

module _ (rest : List ℕ) where
  pub put_needs_words : HasNoSpace rest → (file : List ℕ) (lines : ℕ) → IsPut file lines rest → ⊥
  put_needs_words none file lines put = no_split rest file (decimal lines) none put.words

  module _ (first second : List ℕ) (no_space : HasNoSpace first) (words : rest ≡ spaced first second) where
    put_parts : (file : List ℕ) (lines : ℕ) → (put : IsPut file lines rest) → (first ≡ file) × (second ≡ (decimal lines))
    put_parts file lines put = one_split first file second (decimal lines) no_space (file_no_space file put.file_is) (sym words ∙ put.words)

    pub put_needs_file : (IsFile first → ⊥) → (file : List ℕ) (lines : ℕ) → IsPut file lines rest → ⊥
    put_needs_file none file lines put = none (subst IsFile (sym (put_parts file lines put).0) put.file_is)

    pub put_needs_number : ((n : ℕ) → IsNumber n second → ⊥) → (file : List ℕ) (lines : ℕ) → IsPut file lines rest → ⊥
    put_needs_number none file lines put = none lines (subst (IsNumber lines) (sym (put_parts file lines put).1) (put.few, refl))

  pub one_put : (f g : List ℕ) (m n : ℕ) → IsPut f m rest → IsPut g n rest → (f ≡ g) × (m ≡ n)
  one_put f g m n a b =
      let parts = put_parts f (decimal m) (file_no_space f a.file_is) a.words g n b in
      (parts.0, one_number m n (decimal n) (a.few, sym parts.1) (b.few, refl))

  -- FILE FROM COUNT N

  pub splice_needs_words : HasNoSpace rest → (file : List ℕ) (from count lines : ℕ) → IsSplice file from count lines rest → ⊥
  splice_needs_words none file from count lines s = no_split rest file (spaced (decimal from) (spaced (decimal count) (decimal lines))) none s.words

  module _ (first second : List ℕ) (no_space : HasNoSpace first) (words : rest ≡ spaced first second) where
    file_parts : (file : List ℕ) (from count lines : ℕ) → (s : IsSplice file from count lines rest) → (first ≡ file) × (second ≡ spaced (decimal from) (spaced (decimal count) (decimal lines)))
    file_parts file from count lines s = one_split first file second (spaced (decimal from) (spaced (decimal count) (decimal lines))) no_space (file_no_space file s.file_is) (sym words ∙ s.words)

    pub splice_needs_file : (IsFile first → ⊥) → (file : List ℕ) (from count lines : ℕ) → IsSplice file from count lines rest → ⊥
    splice_needs_file none file from count lines s = none (subst IsFile (sym (file_parts file from count lines s).0) s.file_is)

    pub splice_needs_more : HasNoSpace second → (file : List ℕ) (from count lines : ℕ) → IsSplice file from count lines rest → ⊥
    splice_needs_more none file from count lines s = no_split second (decimal from) (spaced (decimal count) (decimal lines)) none (file_parts file from count lines s).1

    module _ (third fourth : List ℕ) (no_space' : HasNoSpace third) (words' : second ≡ spaced third fourth) where
      from_parts : (file : List ℕ) (from count lines : ℕ) → (s : IsSplice file from count lines rest) → (third ≡ (decimal from)) × (fourth ≡ spaced (decimal count) (decimal lines))
      from_parts file from count lines s = one_split third (decimal from) fourth (spaced (decimal count) (decimal lines)) no_space' (number_no_space from (decimal from) (s.low, refl)) (sym words' ∙ (file_parts file from count lines s).1)

      pub splice_needs_last : HasNoSpace fourth → (file : List ℕ) (from count lines : ℕ) → IsSplice file from count lines rest → ⊥
      splice_needs_last none file from count lines s = no_split fourth (decimal count) (decimal lines) none (from_parts file from count lines s).1

      pub splice_needs_from : ((n : ℕ) → IsNumber n third → ⊥) → (file : List ℕ) (from count lines : ℕ) → IsSplice file from count lines rest → ⊥
      splice_needs_from none file from count lines s = none from (subst (IsNumber from) (sym (from_parts file from count lines s).0) (s.low, refl))

      module _ (fifth sixth : List ℕ) (no_space'' : HasNoSpace fifth) (words'' : fourth ≡ spaced fifth sixth) where
        count_parts : (file : List ℕ) (from count lines : ℕ) → (s : IsSplice file from count lines rest) → (fifth ≡ (decimal count)) × (sixth ≡ (decimal lines))
        count_parts file from count lines s = one_split fifth (decimal count) sixth (decimal lines) no_space'' (number_no_space count (decimal count) (s.little, refl)) (sym words'' ∙ (from_parts file from count lines s).1)

        pub splice_needs_count : ((n : ℕ) → IsNumber n fifth → ⊥) → (file : List ℕ) (from count lines : ℕ) → IsSplice file from count lines rest → ⊥
        splice_needs_count none file from count lines s = none count (subst (IsNumber count) (sym (count_parts file from count lines s).0) (s.little, refl))

        pub splice_needs_lines : ((n : ℕ) → IsNumber n sixth → ⊥) → (file : List ℕ) (from count lines : ℕ) → IsSplice file from count lines rest → ⊥
        splice_needs_lines none file from count lines s = none lines (subst (IsNumber lines) (sym (count_parts file from count lines s).1) (s.few, refl))

  pub one_splice : (f g : List ℕ) (i j k i' j' k' : ℕ) → IsSplice f i j k rest → IsSplice g i' j' k' rest → (f ≡ g) × (i ≡ i') × (j ≡ j') × (k ≡ k')
  one_splice f g i j k i' j' k' a b =
      let file = file_parts f (spaced (decimal i) (spaced (decimal j) (decimal k))) (file_no_space f a.file_is) a.words g i' j' k' b in
      let from = one_split (decimal i) (decimal i') (spaced (decimal j) (decimal k)) (spaced (decimal j') (decimal k')) (number_no_space i (decimal i) (a.low, refl)) (number_no_space i' (decimal i') (b.low, refl)) file.1 in
      let count = one_split (decimal j) (decimal j') (decimal k) (decimal k') (number_no_space j (decimal j) (a.little, refl)) (number_no_space j' (decimal j') (b.little, refl)) from.1 in
      (file.0, one_number i i' (decimal i') (a.low, sym from.0) (b.low, refl), one_number j j' (decimal j') (a.little, sym count.0) (b.little, refl), one_number k k' (decimal k') (a.few, sym count.1) (b.few, refl))

  -- NET WORD

  pub one_net : (m n v w : List ℕ) → IsNetAndWord m v rest → IsNetAndWord n w rest → (m ≡ n) × (v ≡ w)
  one_net m n v w a b = by a.words b.words
    where
      by : ((rest ≡ spaced m v) ⊎ ((v ≡ []) × (rest ≡ m))) → ((rest ≡ spaced n w) ⊎ ((w ≡ []) × (rest ≡ n))) → (m ≡ n) × (v ≡ w)
      by (inl x) (inl y) = one_split m n v w a.no_space b.no_space (sym x ∙ y)
      by (inl x) (inr y) = absurd (no_split n m v b.no_space (sym y.1 ∙ x))
      by (inr x) (inl y) = absurd (no_split m n w a.no_space (sym x.1 ∙ y))
      by (inr x) (inr y) = (sym x.1 ∙ y.1, x.0 ∙ sym y.0)
