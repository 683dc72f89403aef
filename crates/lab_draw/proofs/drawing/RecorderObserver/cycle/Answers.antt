use Rattle.std.proofs.Common.{◌≡◌, ◌-◌, Bool, length, sym, subst, arith}
use Rattle.mx_turn.specs.Run.{bits}
use Rattle.lab_draw.specs.Frames.{IsFrameOf, AreFrames}
use Rattle.lab_draw.proofs.Recorded.{next_frame, length_after, past, within}
use Rattle.lab_draw.proofs.drawing.RecorderObserver.cycle.Goals as goal

pub returns-then-is_past-clause-fits : goal.returns-then-is_past-clause-fits
returns-then-is_past-clause-fits g c =
    let fits = c.requires.fits in
    let over = past c.args.self.now.to c.args.cycle _ c.is_past.ensures c.if-is_past.true in
    let begun = fits.1 in
    let many = fits.2 in
    (fits.0, omega (arith, begun), omega (arith, many, over))

pub returns-clause-answer : goal.returns-clause-answer
returns-clause-answer g c = λ p h s. let f = c.next_frame-frame.ensures.frame p h s in f.cycled

pub returns-clause-fits : goal.returns-clause-fits
returns-clause-fits g c =
    let fits = c.requires.fits in
    let i = c.args.cycle in
    let from = c.args.self.now.from in
    let left = within c.args.self.now.to i _ c.is_past.ensures c.if-is_past.false in
    let begun = fits.1 in
    let many = fits.2 in
    let so_far : length c.args.notes.now.items ≡ i - from = omega (arith, many, left) in
    let now = length_after from i c.args.notes.now.items c.push.new.self.items c.next_frame-frame.result begun so_far c.in_ok-push.ensures.items in
    (fits.0, omega (arith, begun), omega (arith, now, left))

pub returns-clause-saw : goal.returns-clause-saw
returns-clause-saw g c = λ p reqs comes s going saw.
    let fits = c.requires.fits in
    let i = c.args.cycle in
    let from = c.args.self.now.from in
    let left = within c.args.self.now.to i _ c.is_past.ensures c.if-is_past.false in
    let many = fits.2 in
    let so_far : length c.args.notes.now.items ≡ i - from = omega (arith, many, left) in
    let is = subst (λ (r : Bool). IsFrameOf p (bits reqs i) r c.next_frame-frame.result) comes (c.next_frame-frame.ensures.frame p (bits reqs i) s) in
    subst (AreFrames p reqs from) (sym c.in_ok-push.ensures.items)
    (next_frame p reqs from i c.args.notes.now.items c.next_frame-frame.result fits.1 so_far saw going is)
