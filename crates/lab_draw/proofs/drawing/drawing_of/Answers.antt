use Rattle.std.proofs.Common.{◌≡◌, ◌<◌, ◌+◌, ◌-◌, ℕ, true, false, inr, length, refl, sym, ap, ◌∙◌, subst, arith}
use Rattle.mx_turn.specs.Cycle.{MachineState}
use Rattle.mx_turn.specs.Run.{bits}
use Rattle.mx_report.proofs.Runs.{state_at, console_end}
use Rattle.lab_draw.specs.Frames.{AreFrames, IsEnd}
use Rattle.lab_draw.proofs.Recorded.{end_is, whole_is}
use Rattle.lab_draw.proofs.drawing.drawing_of.Goals as goal

pub returns-then-passed : goal.returns-then-passed
returns-then-passed g c = λ p s.
    let reqs = c.args.requests.now in
    let from = c.args.from in
    let r = c.in_ok-passed.passed in
    let e = c.in_ok-passed.ensures in
    let is = e.halted p s refl in
    let halted : (state_at p reqs r.cycles).halted ≡ true = sym is ∙ c.if-passed.true in
    let last = e.last refl p s refl in
    let none = c.no_frames-frames.ensures in
    let empty = ap length none in
    let room = c.requires.cycles in
    let within = e.within in
    let here : from + length c.no_frames-frames.result.items ≡ from = omega (arith, empty) in
    let going = e.going p s refl in
    record {
      console = e.saw p s refl c.no_bytes-console.ensures ∙ console_end p reqs r.cycles from r.halted is within (λ h. e.whole h refl);
      words = λ k lt. c.in_ok-words.ensures p (bits reqs r.cycles) (e.stands p s refl) k lt ∙ ap (λ (m : MachineState). m.core.mem k) last;
      frames = subst (AreFrames p reqs from) (sym none) tt;
      within = omega (arith, empty);
      whole = inr (ap (λ (k : ℕ). (state_at p reqs k).halted) here ∙ sym (ap (λ (m : MachineState). m.halted) last) ∙ halted);
      end = (
        omega (arith, room, within),
        record { before = λ k next. going k (let less : k < r.cycles = omega (arith, next) in less); halted = halted },
      );
    }

pub observe-requires-2-clause-fits : goal.observe-requires-2-clause-fits
observe-requires-2-clause-fits g c =
    let empty = ap length c.no_frames-frames.ensures in (omega arith, omega arith, omega (arith, empty))

pub returns : goal.returns
returns g c = λ p s.
    let reqs = c.args.requests.now in
    let from = c.args.from in
    let count = c.args.count in
    let budget = c.args.budget in
    let first = c.in_ok-passed.passed in
    let before = c.in_ok-passed.ensures in
    let same : first.cycles ≡ from = before.whole c.if-passed.false refl in
    let going : (state_at p reqs from).halted ≡ false =
    subst (λ k. (state_at p reqs k).halted ≡ false) same (sym (before.halted p s refl) ∙ c.if-passed.false) in
    let stands = subst (λ k. g.M.Machine.stands c.observe.new.machine p (bits reqs k)) same (before.stands p s refl) in
    let r = c.in_ok-drawn.drawn in
    let e = c.in_ok-drawn.ensures in
    let is = e.halted p stands going in
    let many = e.fits.2 in
    record {
      console = before.saw p s refl c.no_bytes-console.ensures
          ∙ console_end p reqs first.cycles from first.halted (before.halted p s refl) before.within (λ h. before.whole h refl);
      words = λ k lt. c.in_ok-words.ensures p (bits reqs first.cycles) (before.stands p s refl) k lt
          ∙ ap (λ (m : MachineState). m.core.mem k) (before.last refl p s refl);
      frames = e.saw p stands going (subst (AreFrames p reqs from) (sym c.no_frames-frames.ensures) tt);
      within = omega (arith, many);
      whole = whole_is p reqs from count budget r.cycles (length c.observe-2.new.notes.items) r.halted c.requires.cycles e.onward many is
          (λ h. e.whole h refl);
      end = subst (IsEnd p reqs budget) (sym c.end_of.ensures)
          (end_is p reqs r.cycles budget r.halted is e.within (e.going p stands going) (λ h. e.whole h refl));
    }
