use Rattle.std.proofs.Common.{◌≡◌, ◌++◌, replicate}
use Rattle.mx_tasks.proofs.sharing.push_times.Given as goal

-- so many words are appended
abbrev pub invariant-loop-done : goal.invariant-loop-done
invariant-loop-done l = l.words.items ≡ l.fn.words.items ++ replicate l._done l.word
