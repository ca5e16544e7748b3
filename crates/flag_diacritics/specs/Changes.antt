-- What the features are behind a flag, where it may leave them as they are.
use Rattle.std.specs.Prelude.{List, Option, None, Some}
use Rattle.flag_diacritics.specs.declared.changes.Change.{Change}
use Rattle.flag_diacritics.specs.declared.changes.Change.TheVariants.{Refused, Stay, To}
use Rattle.flag_diacritics.specs.declared.setting.Setting.{Setting}

-- the features behind the flag, if it passes
abbrev pub list_behind : List Setting → Change → Option (List Setting)
list_behind now Refused = None
list_behind now Stay = Some now
list_behind now (To list) = Some list.items
