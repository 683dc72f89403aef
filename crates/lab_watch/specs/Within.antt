-- The machine that is watched.
use Rattle.lab_watch.specs.declared.watched.Watched.{Watched}

abbrev pub within : {M W : Type 0} → Watched M W → M
within t = t.machine
