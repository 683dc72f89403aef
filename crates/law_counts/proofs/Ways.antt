-- One block by how it ends: what its words count (`counted`), whichever way it goes.
use Rattle.std.proofs.Common.{◌≡◌, ℕ, pos, suc, ◌+◌, ◌%◌, ◌^◌, Bool, true, false, cond, not, ◌⊎◌, length, Some, None, refl, sym, ap, ◌∙◌, subst, arith, inl, inr}
use Rattle.std.proofs.lemmas.Bool.{false≢true}
use Rattle.mx_isa.specs.declared.inst.Inst.TheVariants.{Jspci}
use Rattle.mx_isa.specs.declared.inst.Inst.TheVariants.{Branch as BranchInst}
use Rattle.mx_isa.specs.Words.{reg}
use Rattle.mx_isa.specs.Effect.{Decision, decides, offset_by}
use Rattle.mx_delay.specs.Delay.{next_of}
use Rattle.mx_source.specs.declared.statement.Statement.TheVariants.{Call}
use Rattle.mx_source.specs.declared.statement.Value.{Value}
use Rattle.mx_source.specs.declared.statement.Value.TheVariants.{Int, Code as CodeValue}
use Rattle.mx_source.specs.Values.{value_in}
use Rattle.mx_source.specs.Meaning.{Run, jumps, run_for, is_stuck}
use Rattle.mx_validate.specs.Padded.{items_of}
use Rattle.mx_squash.specs.Copies.{site_of, is_target, may_stay}
use Rattle.mx_link.specs.Origins.{goal_of}
use Rattle.law_link.proofs.Going.{IsPlain, idle_plain, did_all}
use Rattle.law_link.proofs.Matching.{linked, linked_value, core_of}
use Rattle.law_link.proofs.Placing.{HasCopies}
use Rattle.law_link.proofs.OneBlock.{Slots, Entered, GoesOn, Filled, Own, InSecond, InFirst, InBoth, Leads, MovesOn, Transfers, did_of, falls_on, stops, decision, behind_it, behind_slots, plain_f, plain_g}
use Rattle.law_link.proofs.Transfers.{Lay, EndOf, Falls, Stops, Moves, Jumps, Branches, Calls, IsBranch, IsCall, IsJump, CodesLead, inner_of, front_of, ender_of, at_of, end_statement, front_stands, StandBehind, moves_on, few_copies, branch_meant, branches, calls, jumps_by, run_is, stepped_to, holds, branch_decides}
use Rattle.law_link.proofs.Layouts.{setting}
use Rattle.law_link.proofs.Setting.{Setting, machine_of}
use Rattle.law_order.proofs.Words.{item_inst}
use Rattle.law_counts.proofs.Copies.{Counting, no_copies_there}
use Rattle.law_counts.proofs.Block.{Block, Coming, CountedOn, CountedStop, falls_count, stops_count, slotted, taken_count, jumps_count, left_count}
use Rattle.law_counts.proofs.Block.{here as setting_of, first as first_of, w as lay_of, n as size_of, entered as entered_at}

module _ (counting : Counting) (block : Block counting) (coming : Coming counting block) where
  open counting use {known, known.{linking.{filling, sites as all}}}
  open block use {site as s, standing as st, next}
  open coming use {r, safe}
  open setting known use {program as p, link, small, low}

  abbrev here : Setting
  here = setting_of counting

  abbrev first : ℕ
  first = first_of counting block

  abbrev w : Lay here first
  w = lay_of counting block

  abbrev n : ℕ
  n = size_of counting block

  abbrev entered : Entered here
  entered = entered_at counting block coming

  abbrev On : Type 0
  On = CountedOn counting block coming

  abbrev r1 : Run
  r1 = run_for p (length (inner_of here first w)) r

  abbrev at : ℕ
  at = at_of here first w

  -- the slots of a transfer are those of the site
  abbrev HasSlots : Slots here → Type 0
  HasSlots slots =
      (slots.target ≡ goal_of s.block.end) × (slots.count ≡ (filling all s).count) × (slots.squash ≡ (filling all s).squash)
      × (slots.sure ≡ not (may_stay s.block))

  -- a block that ends with a transfer
  module _ (b : Transfers here first w) (kind : MovesOn here entered) where
    plain_slots : (slots : Slots here) → Filled here w.insts b.f b.g slots → IsPlain slots.first × IsPlain slots.second
    plain_slots slots (Own none clear one two) = (
      subst IsPlain (sym one) (plain_f here entered b kind),
      subst IsPlain (sym two) (plain_g here entered b kind),
    )
    plain_slots slots (InSecond one surely ng other head free leads) = (subst IsPlain (sym other) (plain_f here entered b kind), head.plain)
    plain_slots slots (InFirst one set nf ng head other leads) = (head.plain, subst IsPlain (sym other) idle_plain)
    plain_slots slots (InBoth two set nf ng head other leads) = (head.plain, other.plain)

    -- what the terminator decides
    abbrev decided : Decision
    decided = decides (ender_of here first w) at (did_all (machine_of here) (link first) (front_of here first w) (did_of here r)).core.regs

    branch_counts :
        (slots : Slots here) (k : IsBranch here first w slots) → Filled here w.insts b.f b.g slots → Leads here slots.target
        → StandBehind here first w slots.first slots.second → HasSlots slots → On
    branch_counts slots k filled lead stands copies = by_test (holds here entered b kind k.condition k.a k.c) refl
      where
        goes : GoesOn here first n (length (items_of s.plan)) (length w.parts.front) r
        goes = branches here entered b kind slots k filled lead stands

        plain : IsPlain slots.first × IsPlain slots.second
        plain = plain_slots slots filled

        decides_so : (v : Bool) → holds here entered b kind k.condition k.a k.c ≡ v → decided ≡ branch_decides here entered b kind slots k v
        decides_so v e =
            decision here entered b kind
            ∙ ap (λ j. decides j at (core_of link r1.state).regs) k.is
            ∙ ap (branch_decides here entered b kind slots k) e

        lands : (v : Bool) → holds here entered b kind k.condition k.a k.c ≡ v
            → (run_for p n r).state.index ≡ cond v slots.target (suc r1.state.index)
        lands v e =
            ap (λ (u : Run). u.state.index) (branch_meant here entered b kind slots k)
            ∙ ap (λ v. cond v slots.target (suc r1.state.index)) e

        by_test : (v : Bool) → holds here entered b kind k.condition k.a k.c ≡ v → On
        by_test true e =
            let few = few_copies here entered slots b.f b.g filled in
            let count_is = copies.1 in
            taken_count counting block coming b kind slots.first slots.second stands plain.0 plain.1 goes slots.target copies.0 (lands true e)
            (ap (λ (d : Decision). d.cancels) (decides_so true e))
            (ap (λ (d : Decision). next_of d.target (at + 2)) (decides_so true e) ∙ k.reach ∙ ap (λ m. link slots.target + m) copies.1)
            (omega arith)
        by_test false e =
            let behind = behind_slots here entered b kind in
            let on = behind_it here entered b kind in
            let sm = small (first + n) in
            let l = ap link on in
            let there : next_of None (at + 2) ≡ link (first + n) + 0 = omega arith in
            left_count counting block coming b kind slots.first slots.second stands plain.0 plain.1 goes (may (may_stay s.block) refl) (lands false e ∙ on)
            (ap (λ (d : Decision). d.cancels) (decides_so false e) ∙ copies.2)
            (ap (λ (d : Decision). next_of d.target (at + 2)) (decides_so false e) ∙ there)
          where
            may : (m : Bool) → may_stay s.block ≡ m → may_stay s.block ≡ true
            may true q = q
            may false q = absurd (false≢true (sym e ∙ k.surely (copies.3 ∙ ap not q) (core_of link r1.state).regs))

    call_counts :
        (slots : Slots here) (k : IsCall here first w slots) → Filled here w.insts b.f b.g slots → Leads here slots.target
        → StandBehind here first w slots.first slots.second → HasSlots slots → On
    call_counts slots k filled lead stands copies =
        let few = few_copies here entered slots b.f b.g filled in
        let plain = plain_slots slots filled in
        let to = link slots.target + slots.count in
        let sm = small slots.target in
        let count_is = copies.1 in
        let there : offset_by (core_of link r1.state).regs 0 (pos to) % 2 ^ 31 ≡ to = omega arith in
        let decides_so = decision here entered b kind ∙ ap (λ j. decides j at (core_of link r1.state).regs) k.is in
        taken_count counting block coming b kind slots.first slots.second stands plain.0 plain.1
        (calls here entered b kind slots few k filled lead stands) slots.target copies.0
        (ap (λ (u : Run). u.state.index) (run_is here entered b kind (Some (Call k.d slots.target)) k.statement))
        (ap (λ (d : Decision). d.cancels) decides_so)
        (ap (λ (d : Decision). next_of d.target (at + 2)) decides_so ∙ there ∙ ap (λ m. link slots.target + m) copies.1)
        (omega arith)

    jump_counts :
        (k : IsJump here first w) → StandBehind here first w (item_inst w.insts b.f) (item_inst w.insts b.g) → CodesLead here r1
        → site_of (is_target s.block.end) all ≡ None → On
    jump_counts k stands codes none = by_value (value_in r1.state.regs k.a) refl
      where
        runs_to : (v : Value) → value_in r1.state.regs k.a ≡ v → run_for p n r ≡ stepped_to here entered b kind (jumps v k.d r1.state)
        runs_to v e =
            run_is here entered b kind (end_statement here first w) refl
            ∙ ap (stepped_to here entered b kind) (k.means r1.state)
            ∙ ap (λ u. stepped_to here entered b kind (jumps u k.d r1.state)) e

        by_value : (v : Value) → value_in r1.state.regs k.a ≡ v → On
        by_value (Int word) e = absurd (false≢true (sym safe ∙ ap (λ (u : Run). is_stuck u.state.mark) (runs_to (Int word) e)))
        by_value (CodeValue t) e =
            let sm = small t in
            let to : reg (core_of link r1.state).regs k.a ≡ link t = sym (linked_value link r1.state.regs k.a) ∙ ap (linked link) e in
            let there : offset_by (core_of link r1.state).regs k.a (pos 0) % 2 ^ 31 ≡ link t + 0 = omega arith in
            let decides_so = decision here entered b kind ∙ ap (λ j. decides j at (core_of link r1.state).regs) k.is in
            jumps_count counting block coming b kind (item_inst w.insts b.f) (item_inst w.insts b.g) stands (plain_f here entered b kind)
            (plain_g here entered b kind) (jumps_by here entered b kind k stands codes) t
            (no_copies_there counting (slotted counting block coming b kind (item_inst w.insts b.f) (item_inst w.insts b.g) stands
            (plain_f here entered b kind) (plain_g here entered b kind)) none)
            (ap (λ (u : Run). u.state.index) (runs_to (CodeValue t) e))
            (ap (λ (d : Decision). d.cancels) decides_so)
            (ap (λ (d : Decision). next_of d.target (at + 2)) decides_so ∙ there)

  -- whichever way it ends
  pub counts_by : (end : EndOf here first w) → HasCopies known s st next end → CodesLead here r1 → On ⊎ CountedStop counting block coming
  counts_by (Falls f none stands) copies codes =
      inl (falls_count counting block coming f none (front_stands here first w (Falls f none stands)) (falls_on here entered f none stands))
  counts_by (Stops f one stop is stands) copies codes =
      inr (stops_count counting block coming one (front_stands here first w (Stops f one stop is stands)) (stops here entered f one stop is stands))
  counts_by (Moves b slots (Branches k) filled lead stands) copies codes =
      inl (branch_counts b (moves_on here entered (BranchInst k.a k.c k.condition slots.squash k.by) k.is refl refl refl) slots k filled lead stands copies)
  counts_by (Moves b slots (Calls k) filled lead stands) copies codes =
      inl (call_counts b (moves_on here entered (Jspci 0 k.d (pos (link slots.target + slots.count))) k.is refl refl refl) slots k filled lead stands copies)
  counts_by (Jumps b k stands) copies codes =
      inl (jump_counts b (moves_on here entered (Jspci k.a k.d (pos 0)) k.is refl refl refl) k stands codes copies)
