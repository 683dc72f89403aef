use Rattle.std.proofs.Common.{◌≡◌, [], true, false, refl, ◌∙◌}
use Rattle.mx_turn.specs.Program.{Program}
use Rattle.mx_tasks.specs.Sharing.{task_console}
use Rattle.mx_tasks.proofs.Driven.{sent_end}
use Rattle.mx_tasks.proofs.driving.drive_shared.Goals as goal

-- the bytes are those of the whole budget
whole : (g : _) (c : goal.After-counts g) (p : Program) → g.M.Machine.stands c.args.machine.now p []
    → (c.observe.new.notes.first.items ≡ task_console p c.args.requests.now true c.args.budget)
    × (c.observe.new.notes.second.items ≡ task_console p c.args.requests.now false c.args.budget)
whole g c p s =
    let reqs = c.args.requests.now in
    let r = c.in-Ok.reached in
    let e = c.in-Ok.ensures in
    let start = c.nothing_shared-shares.ensures in
    let saw = e.saw p s refl (start.first, start.second, start.current) in
    let end = sent_end p reqs r.cycles c.args.budget r.halted (e.halted p s refl) e.within (λ h. e.whole h refl) in
    (saw.0 ∙ end true, saw.1 ∙ end false)

pub returns-clause-first : goal.returns-clause-first
returns-clause-first g c = λ p s. (whole g c p s).0

pub returns-clause-second : goal.returns-clause-second
returns-clause-second g c = λ p s. (whole g c p s).1
