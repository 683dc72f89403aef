use Rattle.std.proofs.Common.{◌≤◌, length}
use Rattle.lab_profile.specs.Calls.{NoneReturns}
use Rattle.lab_profile.proofs.calling.innermost.Given as goal

-- none of those that were looked at returns there
abbrev pub invariant-loop-end : goal.invariant-loop-end
invariant-loop-end l = record {
  within : l.end ≤ length l.frames;
  none : NoneReturns l.address l.frames l.end;
}

abbrev pub decreases-loop-end : goal.decreases-loop-end
decreases-loop-end l = l.end
