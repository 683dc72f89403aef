-- Words that are no transfers: they lead to the next word.
use Rattle.std.proofs.Common.{◌≡◌, ℕ, Bool, false, cond, not, ◌&&◌, Option, Some, None, refl, sym, ap, ◌∙◌, true≢false}
use Rattle.mx_isa.specs.declared.inst.Inst.{Inst}
use Rattle.mx_isa.specs.declared.inst.Inst.TheVariants.{Branch, Jspci, Jpc, Jpcrs}
use Rattle.mx_isa.specs.Words.{Words}
use Rattle.mx_isa.specs.Effect.{Decision, decides, falls_through}
use Rattle.mx_isa.specs.Views.{is_transfer}
use Rattle.mx_delay.specs.Delay.{Code, next_of}
use Rattle.mx_pcchain.specs.Fetch.{Fetch}
use Rattle.mx_pcchain.specs.Chain.{pop}
use Rattle.mx_pcchain.specs.Modes.{psw_restored}
use Rattle.mx_turn.specs.Stages.{live, fetch_of, squash, address_of}
use Rattle.mx_turn.specs.System.{pops, restores, seen}
use Rattle.mx_turn.specs.Cycle.{MachineState, decision, decided_by, decided, led}
use Rattle.mx_turn.specs.declared.alu_stage.Decided.{Decided}
use Rattle.mx_turn.specs.Kept.{aside}

pub goes_on_is : (i : Inst) (at : ℕ) (r : Words) → is_transfer i ≡ false → decides i at r ≡ falls_through
goes_on_is (Branch a b condition s by) at r e = absurd (true≢false e)
goes_on_is (Jspci a d imm) at r e = absurd (true≢false e)
goes_on_is Jpc at r e = absurd (true≢false e)
goes_on_is Jpcrs at r e = absurd (true≢false e)
goes_on_is _ at r e = refl

pub pops_not : (i : Inst) → is_transfer i ≡ false → pops i ≡ false
pops_not Jpc e = absurd (true≢false e)
pops_not Jpcrs e = absurd (true≢false e)
pops_not _ e = refl

pub restores_not : (i : Inst) → is_transfer i ≡ false → restores i ≡ false
restores_not Jpcrs e = absurd (true≢false e)
restores_not _ e = refl

unsquashed : (f : Option Fetch) → squash false f ≡ f
unsquashed None = refl
unsquashed (Some f) = refl

-- the machine after such a word in ALU
pub decided_goes_on : (code : Code) (m : MachineState) → is_transfer (live code m.alu) ≡ false
    → (let n : MachineState = record m { next = fetch_of (next_of None m.next.address) } in n ≡ decided code m)
decided_goes_on code m e =
    let i = live code m.alu in
    let d = goes_on_is i (address_of m.alu) (seen m.slot m.core.regs) e in
    sym ((λ k. by_parts (pops i) (restores i) (d k))
    ∙ (λ k. by_parts (pops_not i e k) (restores i) falls_through)
    ∙ (λ k. by_parts false (restores_not i e k) falls_through)
    ∙ (λ k. record m { next = fetch_of (next_of None m.next.address); fetch = unsquashed m.fetch k; rf = unsquashed m.rf k }))
  where
    by_parts : Bool → Bool → Decision → MachineState
    by_parts popping restoring d =
        let back = popping && not m.psw.current.user in
        record m {
          next = led back m.chain d m.next;
          fetch = squash d.cancels m.fetch;
          rf = squash d.cancels m.rf;
          chain = cond back (pop m.chain) m.chain;
          psw = cond (restoring && back) (psw_restored m.psw) m.psw;
        }

pub cancels_not : (code : Code) (m : MachineState) → is_transfer (live code m.alu) ≡ false → false ≡ (decision code m).cancels
cancels_not code m e = λ k. (sym (goes_on_is (live code m.alu) (address_of m.alu) (seen m.slot m.core.regs) e) k).cancels

-- a test that failed
pub tested : (r : Bool) (i j : Inst) → i ≡ j → r ≡ is_transfer i → r ≡ false → is_transfer j ≡ false
tested r i j e f n = ap is_transfer (sym e) ∙ sym f ∙ n

-- what the parts of a decision do is what the word in ALU decides
pub aside_is : (code : Code) (m : MachineState) (i : Inst) (at : ℕ) (d : Decided) (back : Bool) → i ≡ live code m.alu → at ≡ address_of m.alu
    → d.target ≡ (decides i at (seen m.slot m.core.regs)).target → d.cancels ≡ (decides i at (seen m.slot m.core.regs)).cancels
    → d.pops ≡ pops i → d.restores ≡ restores i → back ≡ (d.pops && not m.psw.current.user) → aside d back m ≡ decided code m
aside_is code m i at d back is here target cancels pop restore leads =
    (λ k. aside d (leads k) m)
    ∙ (λ k. let x : Decided = record { target = target k; cancels = cancels k; pops = pop k; restores = restore k } in
    aside x (pop k && not m.psw.current.user) m)
    ∙ (λ k. decided_by (is k) (decides (is k) (here k) (seen m.slot m.core.regs)) m)
