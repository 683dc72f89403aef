use Rattle.std.proofs.Common.{◌≡◌, length, None, refl, sym, subst}
use Rattle.mx_asm.specs.Effects.{effect, IsFaultOf}
use Rattle.mx_asm.specs.Listings.{IsRefusal}
use Rattle.mx_asm.specs.Faults.{words_fault}
use Rattle.mx_asm.specs.Readings.{next_fault}
use Rattle.mx_lines.specs.Words.{words_of}
use Rattle.mx_asm.proofs.Listed.{refusal_is}
use Rattle.mx_asm.proofs.assembler.Reading.read.Goals as goal

pub returns-in-Err-clause-refused : goal.returns-in-Err-clause-refused
returns-in-Err-clause-refused c =
    let r = c.args.self.now in
    let line = c.args.line.now in
    let here = next_fault c.args.labels.now c.args.end c.args.repeated line r in
    λ found first. subst (IsRefusal found) (sym c.refusal.ensures)
    (refusal_is found here r.number c.in-Err.error first
    (subst (λ b. IsFaultOf (words_fault c.args.labels.now c.args.end r.position b (length line) (words_of line)) c.in-Err.error)
    c.is_line-again.ensures c.in-Err.ensures.fault))

pub returns-clause-reads : goal.returns-clause-reads
returns-clause-reads c =
    let line = c.args.line.now in
    let read = c.in-Ok.read in
    record {
      does = effect read.effect;
      faultless = subst (λ b. words_fault c.args.labels.now c.args.end c.args.self.now.position b (length line) (words_of line) ≡ None)
          c.is_line-again.ensures c.in-Ok.ensures.faultless;
      effect = c.in-Ok.ensures.effect;
      fits = c.in-Ok.ensures.fits;
      adds = c.in_ok-add.ensures;
      position = c.in-Ok.ensures.next;
      few = c.in-Ok.ensures.few;
      within = c.in-Ok.ensures.within;
      number = refl;
    }
