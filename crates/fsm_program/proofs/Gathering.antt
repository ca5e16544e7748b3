-- The files of a project are read one after another: which the sources have then, and which were asked for.
use Rattle.std.proofs.Common.{◌≡◌, ◌≢◌, ℕ, ◌<◌, ◌≤◌, ◌+◌, Bool, true, false, cond, List, [], ◌∷◌, ◌++◌, append_assoc, append-nil, length, take, drop, get_or, All, ◌⊎◌, inl, inr, Some, None, Option, Ok, Err, IfOk, IfErr, MatchOption, Result, refl, sym, ap, subst, ◌∙◌, arith}
use Rattle.std.proofs.lemmas.Option.{slice_get_within}
use Rattle.std.proofs.lemmas.Slice.Eq.{bytes_eq-Decides}
use Rattle.std.proofs.lemmas.List.{map-append, take-append-drop, take_all, take_more}
use Rattle.std.proofs.lemmas.List.Elements.{All-contains, All-cons, All-nil, All-head, All-push, All-tail, Contains-append_left, Contains-append_right}
use Rattle.std.specs.List.{Contains}
use Rattle.std.specs.Option.{option_map}
use Rattle.std.specs.Str.{bytes_eq}
use Rattle.fsm_base.specs.Normal.{source_text}
use Rattle.fsm_io.specs.Folders.{Asked, AsksFor, HasAsked, Files, file_of, Told}
use Rattle.word_relations.specs.Words.{IsDistinct}
use Rattle.word_relations.proofs.Behind.{left_behind}
use Rattle.word_relations.proofs.Members.{Contains-head}
use Rattle.word_relations.proofs.Places.{slice_get-append_left, slice_get-append_right, slice_get_from_Contains}
use Rattle.project_manifest.specs.Lines.{Placed, files_in, manifest_of}
use Rattle.project_manifest.specs.Manifests.{project_name}
use Rattle.project_manifest.specs.Reading.{IsManifest}
use Rattle.project_model.specs.Answers.{IsManifestFile}
use Rattle.fsm_program.specs.Files.{AreNamed, AreWanted, AskedForFiles, AsksForFront, IsReadError, as_read, most_read}
use Rattle.fsm_program.specs.Gathered.{HasAdded, IsGathered, IsSeen, SourcesDeclare}
use Rattle.fsm_program.specs.declared.load.LoadError.{LoadError}
use Rattle.fsm_program.specs.declared.load.LoadError.TheVariants.{Failed, Memory, Refused}
use Rattle.fsm_program.proofs.Loading.{seen_some, told_both, told_so}

same_bytes : (text : List ℕ) → bytes_eq text text ≡ true
same_bytes text = (bytes_eq-Decides text text).1 refl

apart : (name other : List ℕ) → (name ≡ other → ⊥) → bytes_eq name other ≡ false
apart name other differ = by (bytes_eq name other) refl
  where
    by : (b : Bool) → bytes_eq name other ≡ b → bytes_eq name other ≡ false
    by true e = absurd (differ ((bytes_eq-Decides name other).0 e))
    by false e = e

-- what was added is seen, and other files are as before
added_seen : (name : List ℕ) (most : ℕ) (old new files : Files) → most ≡ most_read → HasAdded name most old new files → IsSeen new files name
added_seen name most old new files is added =
    added name ∙ ap (λ (b : Bool). cond b (option_map (take most) (file_of name files)) (file_of name old)) (same_bytes name)
    ∙ ap (λ n. option_map (take n) (file_of name files)) is

-- another name than the one that was added is as it was, here where nothing was there
added_alone : (name other : List ℕ) (most : ℕ) (new files : Files) → (name ≡ other → ⊥) → HasAdded name most [] new files → file_of other new ≡ None
added_alone name other most new files differ added =
    added other ∙ ap (λ (b : Bool). cond b (option_map (take most) (file_of name files)) (file_of other [])) (apart name other differ)

-- a request for a file, as far as files are read
abbrev whole : List ℕ → Asked
whole name = record { name = name; most = most_read }

-- what was asked for in two calls
asked_twice : (old between new : Option (List Asked)) (first second : List Asked) → AsksFor old between first → AsksFor between new second → AsksFor old new (first ++ second)
asked_twice None between new first second one two = subst (λ (o : Option (List Asked)). AsksFor o new second) one two
asked_twice (Some asked) between new first second one two =
    subst (λ (o : Option (List Asked)). AsksFor o new second) one two ∙ ap (λ (z : List Asked). Some z) (append_assoc asked first second)

-- nothing was asked for
pub asked_nothing : (old new : Option (List Asked)) → new ≡ old → AsksFor old new []
asked_nothing None new same = same
asked_nothing (Some asked) new same = same ∙ ap (λ (z : List Asked). Some z) (sym (append-nil asked))

-- A list of names, of which the one at this place is read.
module _ (names : List (List ℕ)) (i : ℕ) (name : List ℕ) (below : i < length names) (is : name ≡ get_or names i name) where
  front_more : take (i + 1) names ≡ take i names ++ name ∷ []
  front_more = take_more names i name below ∙ ap (λ (n : List ℕ). take i names ++ n ∷ []) (sym is)

  split : names ≡ take i names ++ name ∷ drop (i + 1) names
  split = sym (take-append-drop i names) ∙ ap (λ (z : List (List ℕ)). take i names ++ z) (left_behind names i name below is)

  -- it wasn't read before
  pub is_new : IsDistinct names → Contains (take i names) name → ⊥
  is_new distinct h =
      let (k, at) = slice_get_from_Contains (take i names) name h in
      let before : k < length (take i names) = slice_get_within (take i names) k name at in
      let whole : IsDistinct (take i names ++ name ∷ drop (i + 1) names) = subst IsDistinct split distinct in
      let first = slice_get-append_left (take i names) (name ∷ drop (i + 1) names) k before ∙ at in
      let here = slice_get-append_right (take i names) (name ∷ drop (i + 1) names) 0 in
      let same = whole k (0 + length (take i names)) name first here in
      omega (arith, same, before)

  pub is_there : Contains names name
  is_there = subst (λ (z : List (List ℕ)). Contains z name) (sym split) (Contains-append_right (take i names) (name ∷ drop (i + 1) names) name (Contains-head name (drop (i + 1) names)))

  -- other files are as they were at first
  pub others_more : (first old new : Files) → ((other : List ℕ) → (Contains (take i names) other → ⊥) → file_of other old ≡ file_of other first)
      → ((other : List ℕ) → (name ≡ other → ⊥) → file_of other new ≡ file_of other old) → (other : List ℕ) → (Contains (take (i + 1) names) other → ⊥) → file_of other new ≡ file_of other first
  others_more first old new so_far step other none = step other (λ same. none (here same)) ∙ so_far other (λ h. none (before h))
    where
      here : name ≡ other → Contains (take (i + 1) names) other
      here same = subst (λ (z : List (List ℕ)). Contains z other) (sym front_more) (Contains-append_right (take i names) (name ∷ []) other (subst (Contains (name ∷ [])) same (Contains-head name [])))

      before : Contains (take i names) other → Contains (take (i + 1) names) other
      before h = subst (λ (z : List (List ℕ)). Contains z other) (sym front_more) (Contains-append_left (take i names) (name ∷ []) other h)

  -- it isn't there yet
  pub none_yet : (first old : Files) → IsDistinct names → All (λ (n : List ℕ). file_of n first ≡ None) names
      → ((other : List ℕ) → (Contains (take i names) other → ⊥) → file_of other old ≡ file_of other first) → file_of name old ≡ None
  none_yet first old distinct none so_far = so_far name (is_new distinct) ∙ All-contains (λ (n : List ℕ). file_of n first ≡ None) names name none is_there

  -- those so far are seen
  seen_now : (most : ℕ) (old new files : Files) → most ≡ most_read → IsDistinct names → ((other : List ℕ) → (name ≡ other → ⊥) → file_of other new ≡ file_of other old)
      → All (IsSeen old files) (take i names) → HasAdded name most old new files → All (IsSeen new files) (take (i + 1) names)
  seen_now most old new files is_most distinct step so_far added =
      subst (All (IsSeen new files)) (sym front_more) (All-push (IsSeen new files) (take i names) name (all_of (IsSeen new files) (take i names) still) (added_seen name most old new files is_most added))
    where
      all_of : (P : List ℕ → Type 0) (xs : List (List ℕ)) → ((x : List ℕ) → Contains xs x → P x) → All P xs
      all_of P [] each = All-nil P
      all_of P (x ∷ xs) each = All-cons P x xs (each x (Contains-head x xs)) (all_of P xs (λ y h. each y (Contains-append_right (x ∷ []) xs y h)))

      still : (other : List ℕ) → Contains (take i names) other → IsSeen new files other
      still other h = step other (λ same. is_new distinct (subst (Contains (take i names)) (sym same) h)) ∙ All-contains (IsSeen old files) (take i names) other so_far h

  pub seen_more : (most : ℕ) (old new : Files) (files : Option Files) → most ≡ most_read → IsDistinct names → ((other : List ℕ) → (name ≡ other → ⊥) → file_of other new ≡ file_of other old)
      → Told files (λ (fs : Files). All (IsSeen old fs) (take i names)) → Told files (HasAdded name most old new) → Told files (λ (fs : Files). All (IsSeen new fs) (take (i + 1) names))
  seen_more most old new files is_most distinct step so_far added =
      told_both (λ (fs : Files). All (IsSeen old fs) (take i names)) (HasAdded name most old new) (λ (fs : Files). All (IsSeen new fs) (take (i + 1) names)) files
      (λ fs. seen_now most old new fs is_most distinct step) so_far added

  -- it was asked for behind them
  pub asked_more : (old between new : Option (List Asked)) (most : ℕ) → most ≡ most_read → AsksFor old between (as_read (take i names)) → AsksFor between new (record { name = name; most = most } ∷ [])
      → AsksFor old new (as_read (take (i + 1) names))
  asked_more old between new most is_most so_far asked =
      subst (AsksFor old new) (sym (ap as_read front_more ∙ map-append whole (take i names) (name ∷ [])))
      (asked_twice old between new (as_read (take i names)) (whole name ∷ []) so_far (subst (λ (n : ℕ). AsksFor between new (record { name = name; most = n } ∷ [])) is_most asked))

  pub asked_front : {T E : Type 0} (old between new : Option (List Asked)) (most : ℕ) (r : Result T E) → most ≡ most_read → AsksFor old between (as_read (take i names)) → HasAsked between new name most r
      → AsksForFront old new names
  asked_front old between new most r is_most so_far (inl asked) = (take (i + 1) names, drop (i + 1) names, sym (take-append-drop (i + 1) names), asked_more old between new most is_most so_far asked)
  asked_front old between new most r is_most so_far (inr none) = (take i names, drop i names, sym (take-append-drop i names), subst (λ (o : Option (List Asked)). AsksFor old o (as_read (take i names))) (sym none.1) so_far)

-- none is seen yet
pub none_seen : (sources : Files) (files : Option Files) → Told files (λ (fs : Files). All (IsSeen sources fs) [])
none_seen sources None = tt
none_seen sources (Some fs) = All-nil (IsSeen sources fs)

-- all were asked for
pub asked_all : (names : List (List ℕ)) (i : ℕ) (old new : Option (List Asked)) → length names ≤ i → AsksFor old new (as_read (take i names)) → AsksForFront old new names
asked_all names i old new end asked = (take i names, [], sym (take_all i names end) ∙ sym (append-nil (take i names)), asked)

-- what failed failed since the first
pub later_error : (error : LoadError) (first before now : ℕ) → first ≤ before → IsReadError error before now → IsReadError error first now
later_error Failed first before now later rose = omega (arith, rose)
later_error (Memory refused) first before now later rose = tt
later_error (Refused fault) first before now later never = never

pub later_errors : {T : Type 0} (r : Result T LoadError) (first before now : ℕ) → first ≤ before → IfErr r (λ error. IsReadError error before now) → IfErr r (λ error. IsReadError error first now)
later_errors (Ok x) first before now later h = tt
later_errors (Err error) first before now later h = later_error error first before now later h

-- the manifest of the sources, by their content
pub manifest_from : {E : Type 0} (sources : Files) (content : List ℕ) (r : Result (Option (List Placed)) E) → file_of project_name sources ≡ Some content
    → IfOk r (λ manifest. MatchOption manifest ((lines : List Placed) → IsManifestFile content lines → ⊥) (IsManifestFile content))
    → IfOk r (λ manifest. MatchOption manifest ((lines : List Placed) → SourcesDeclare sources lines → ⊥) (SourcesDeclare sources))
manifest_from sources content (Err error) at is = tt
manifest_from sources content (Ok (Some lines)) at is = (content, at, is)
manifest_from sources content (Ok None) at none = λ lines (whole, whole_at, is).
    let same : Some whole ≡ Some content = sym whole_at ∙ at in
    let contents : whole ≡ content = cc in
    none lines (subst (λ (z : List ℕ). IsManifestFile z lines) contents is)

pub manifest_gone : (sources : Files) → file_of project_name sources ≡ None → (lines : List Placed) → SourcesDeclare sources lines → ⊥
manifest_gone sources gone lines (content, at, is) = let clash : Some content ≡ None = sym at ∙ gone in cc

-- The manifest was read.
module _ (most : ℕ) (is_most : most ≡ most_read) (files : Option Files) (between : Files) (told : Told files (HasAdded project_name most [] between)) where
  -- sources declare these lines alone
  same_lines : (sources : Files) (lines others : List Placed) → SourcesDeclare sources lines → SourcesDeclare sources others → lines ≡ others
  same_lines sources lines others (content, at, is) (also, also_at, also_is) =
      let somes : Some content ≡ Some also = sym at ∙ also_at in
      let same : content ≡ also = cc in
      let oks : Ok is.text ≡ Ok also_is.text = sym is.has_text.text_is ∙ ap source_text same ∙ also_is.has_text.text_is in
      let texts : is.text ≡ also_is.text = cc in
      is.says ∙ ap manifest_of texts ∙ sym also_is.says

  -- it has a fault, or is missing
  pub gathered_alone : ((lines : List Placed) → SourcesDeclare between lines → ⊥) → Told files (IsGathered between)
  gathered_alone none =
      told_so (HasAdded project_name most [] between) (IsGathered between) files
      (λ fs added. record {
        manifest = added_seen project_name most [] between fs is_most added;
        named = λ lines declared. absurd (none lines declared);
        only = λ other differ free. added_alone project_name other most between fs differ added;
      }) told

  -- the files that it names were read
  module _ (lines : List Placed) (declared : SourcesDeclare between lines) (formed : IsManifest lines) where
    not_named : Contains (files_in lines) project_name → ⊥
    not_named among = All-contains (λ (file : List ℕ). file ≢ project_name) (files_in lines) project_name formed.others among refl

    gathered_all : (sources : Files) → ((other : List ℕ) → (Contains (files_in lines) other → ⊥) → file_of other sources ≡ file_of other between) → Told files (λ (fs : Files). All (IsSeen sources fs) (files_in lines))
        → Told files (IsGathered sources)
    gathered_all sources others seen =
        told_both (HasAdded project_name most [] between) (λ (fs : Files). All (IsSeen sources fs) (files_in lines)) (IsGathered sources) files
        (λ fs added all. record {
          manifest = stays ∙ added_seen project_name most [] between fs is_most added;
          named = λ more also. subst (λ (z : List Placed). All (IsSeen sources fs) (files_in z)) (same_lines sources lines more still also) all;
          only = λ other differ free. others other (free lines still) ∙ added_alone project_name other most between fs differ added;
        }) told seen
      where
        stays : file_of project_name sources ≡ file_of project_name between
        stays = others project_name not_named

        still : SourcesDeclare sources lines
        still = (declared.0, stays ∙ declared.1, declared.2)

    pub gathers_all : {E : Type 0} (r : Result Files E) → IfOk r (λ new. (other : List ℕ) → (Contains (files_in lines) other → ⊥) → file_of other new ≡ file_of other between)
        → IfOk r (λ new. Told files (λ (fs : Files). All (IsSeen new fs) (files_in lines))) → IfOk r (λ new. Told files (IsGathered new))
    gathers_all (Ok new) others seen = gathered_all new others seen
    gathers_all (Err error) others seen = tt

    -- none of them is there yet
    pub none_there : ((other : List ℕ) → (project_name ≡ other → ⊥) → file_of other between ≡ file_of other []) → All (λ (file : List ℕ). file_of file between ≡ None) (files_in lines)
    none_there others = each (files_in lines) formed.others
      where
        each : (names : List (List ℕ)) → All (λ (file : List ℕ). file ≢ project_name) names → All (λ (file : List ℕ). file_of file between ≡ None) names
        each [] all = All-nil (λ (file : List ℕ). file_of file between ≡ None)
        each (name ∷ names) all =
            All-cons (λ (file : List ℕ). file_of file between ≡ None) name names (others name (λ same. All-head (λ (file : List ℕ). file ≢ project_name) name names all (sym same)))
            (each names (All-tail (λ (file : List ℕ). file ≢ project_name) name names all))

    named_front : (front rest : List (List ℕ)) → files_in lines ≡ front ++ rest → Told files (AreWanted (project_name ∷ front))
    named_front front rest is = told_so (HasAdded project_name most [] between) (AreWanted (project_name ∷ front)) files (λ fs added. (refl, by fs added front is)) told
      where
        by : (fs : Files) → HasAdded project_name most [] between fs → (names : List (List ℕ)) → files_in lines ≡ names ++ rest → AreNamed names fs
        by fs added [] e = tt
        by fs added (name ∷ names) e =
            let (content, at, is_file) = declared in
            let (whole_content, held, cut) = seen_some between fs project_name content (added_seen project_name most [] between fs is_most added) at in
            (whole_content, lines, rest, held, subst (λ (z : List ℕ). IsManifestFile z lines) cut is_file, e)

    -- the manifest and a front of them were asked for
    pub asks_all : (old middle new : Option (List Asked)) → AsksFor old middle (record { name = project_name; most = most } ∷ []) → AsksForFront middle new (files_in lines) → AskedForFiles files old new
    asks_all old middle new one (front, rest, is, others) = (
      project_name ∷ front,
      asked_twice old middle new (whole project_name ∷ []) (as_read front) (subst (λ (n : ℕ). AsksFor old middle (record { name = project_name; most = n } ∷ [])) is_most one) others,
      named_front front rest is,
    )

-- the manifest was asked for
pub asks_manifest : {T E : Type 0} (files : Option Files) (old new : Option (List Asked)) (most : ℕ) (r : Result T E) → most ≡ most_read → HasAsked old new project_name most r → AskedForFiles files old new
asks_manifest files old new most r is (inl asked) =
    (project_name ∷ [], subst (λ (n : ℕ). AsksFor old new (record { name = project_name; most = n } ∷ [])) is asked, told_manifest files)
  where
    told_manifest : (files : Option Files) → Told files (AreWanted (project_name ∷ []))
    told_manifest None = tt
    told_manifest (Some fs) = (refl, tt)
asks_manifest files old new most r is (inr none) = ([], asked_nothing old new none.1, told_none files)
  where
    told_none : (files : Option Files) → Told files (AreWanted [])
    told_none None = tt
    told_none (Some fs) = tt

-- what was answered without error was asked for
pub asked_sure : (old new : Option (List Asked)) (requests : List Asked) → AsksFor old new requests ⊎ ((false ≡ true) × (new ≡ old)) → AsksFor old new requests
asked_sure old new requests (inl asked) = asked
asked_sure old new requests (inr none) = let clash : false ≡ true = none.0 in cc
