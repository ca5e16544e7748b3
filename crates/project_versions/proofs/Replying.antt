-- What a version replies is what the version that is meant does.
use Rattle.std.proofs.Common.{◌≡◌, ◌<◌, ℕ, List, Contains, Option, Some, None, arith, get_or, length, map, refl, Result, IfOk, Vec, Global, slice_get, sym, ap, subst, ◌∙◌}
use Rattle.std.proofs.lemmas.List.{length-map}
use Rattle.std.proofs.lemmas.Option.{slice_get-map, slice_get_read}
use Rattle.std.specs.Option.{option_map}
use Rattle.std.specs.declared.alloc.AllocError.{AllocError}
use Rattle.lookup.specs.Nets.{NetView}
use Rattle.fsm_base.specs.declared.letters.Sym.{Sym}
use Rattle.interlinear.specs.Glosses.{Entry}
use Rattle.project_meaning.specs.Projects.{Project}
use Rattle.project_definitions.specs.declared.definition.Definition.{Definition}
use Rattle.project_sources.specs.Edits.{Version}
use Rattle.project_sources.specs.Laws.{all_readers}
use Rattle.project_sources.proofs.Glossing.{one_table}
use Rattle.project_sources.proofs.Once.{all_exact}
use Rattle.project_store.specs.Networks.{Shows, ShowsName, ShowsNet}
use Rattle.project_store.specs.Projects.{HasTable, IsOfSources}
use Rattle.project_store.proofs.Shown.{name_here, same_name, shows_none}
use Rattle.project_versions.specs.Networks.{AreNetworks, net_in}
use Rattle.project_versions.specs.declared.networks.Built.{Built}
use Rattle.project_versions.specs.Versions.{Stands, VersionView}

-- the automaton at a place, as it is reached through the networks
pub net_there : (items : List Built) (place count : ℕ) (built : Built) (net : NetView) → place < count → length (map net_in items) ≡ count → built ≡ get_or items place built → net ≡ net_in built
    → slice_get (map net_in items) place ≡ Some net
net_there items place count built net within size is is_net =
    let same = length-map items net_in in
    let here : slice_get items place ≡ Some built = slice_get_read items (length items) place built refl (omega (arith, within, size, same)) is in
    slice_get-map net_in items place ∙ ap (option_map net_in) here ∙ ap (λ (n : NetView). Some n) (sym is_net)

module _ (view : VersionView) (meant : Version) (stands : Stands view meant) where
  -- a network shows the project where the name means there what it does
  shows : (name : List ℕ) (net : Option NetView) → ShowsNet view.loaded.alphabet name net meant.project → Shows (record { alphabet = view.loaded.alphabet; name = name; net = net; glosses = view.loaded.glosses }) meant.project
  shows name net is = record {
    formed = stands.loaded.formed;
    alphabet = ap (λ (p : Project). p.alphabet) stands.project ∙ sym stands.loaded.texts;
    net = is;
  }

  -- the network at the place of the name
  pub shows_here : AreNetworks view.loaded view.nets → (name : List ℕ) (place : ℕ) (d : Definition) → slice_get view.loaded.definitions place ≡ Some d → d.name ≡ name → (net : NetView) → slice_get view.nets place ≡ Some net
      → Shows (record { alphabet = view.loaded.alphabet; name = name; net = Some net; glosses = view.loaded.glosses }) meant.project
  shows_here networks name place d at named net there =
      let from = stands.loaded in
      let here = name_here stands.said view.loaded from place d at ∙ ap (λ (n : List ℕ). Some n) (same_name stands.said view.loaded from place d at ∙ named) in
      shows name (Some net) (subst (ShowsName view.loaded.alphabet name net) (sym stands.project) (networks.shows stands.said from place name net here there))

  -- none, where no definition has the name
  pub shows_nowhere : (name : List ℕ) → ((d : Definition) → Contains view.loaded.definitions d → d.name ≡ name → ⊥)
      → Shows (record { alphabet = view.loaded.alphabet; name = name; net = None; glosses = view.loaded.glosses }) meant.project
  shows_nowhere name none = shows name None (subst (λ (p : Project). ShowsNet view.loaded.alphabet name None p) (sym stands.project) (shows_none stands.said view.loaded stands.loaded name none))

  -- the same over an alphabet that is equal
  pub shows_over : (letters : List (Sym × List ℕ)) → letters ≡ view.loaded.alphabet → (name : List ℕ) (net : Option NetView) → Shows (record { alphabet = view.loaded.alphabet; name = name; net = net; glosses = view.loaded.glosses }) meant.project
      → Shows (record { alphabet = letters; name = name; net = net; glosses = view.loaded.glosses }) meant.project
  shows_over letters same name net shown = subst (λ (alphabet : List (Sym × List ℕ)). Shows (record { alphabet = alphabet; name = name; net = net; glosses = view.loaded.glosses }) meant.project) (sym same) shown

  -- a reply is at the number of the version
  pub numbered : (R : ℕ → List ℕ → Type 0) (r : Result (Vec ℕ Global) AllocError) → IfOk r (λ bytes. R view.number bytes.items) → IfOk r (λ bytes. R meant.number bytes.items)
  numbered R r told = subst (λ (number : ℕ). IfOk r (λ bytes. R number bytes.items)) stands.number told

  -- the glosses are those of its files
  pub glosses_are : IsOfSources view.files view.loaded → (table : List Entry) → HasTable meant.files table → view.loaded.glosses ≡ table
  glosses_are (said, from, reads, own) table has = one_table all_readers all_exact meant.files view.loaded.glosses table (subst (λ files. HasTable files view.loaded.glosses) stands.files own) has
