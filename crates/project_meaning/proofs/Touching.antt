-- Between equal projects nothing is touched.
use Rattle.project_meaning.specs.Touched.{changed, by_alphabet, by_name}
use Rattle.project_meaning.specs.Laws.{NothingTouched}

pub nothing_touched : NothingTouched
nothing_touched project _ (changed d there new) = new there
nothing_touched project _ (by_alphabet d there uses other) = other (λ symbol. (λ h. h, λ h. h))
nothing_touched project _ (by_name d other there refers touched) = nothing_touched project other touched
