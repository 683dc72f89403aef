-- The words of a block before its terminator's place, from its first word on (`leads_word`), and that each of them counts where its
-- address passes (`leads_tally`).
use Rattle.std.proofs.Common.{◌≡◌, ℕ, zero, suc, ◌+◌, ◌^◌, ◌<◌, ◌≤◌, Bool, true, false, cond, eqb, List, length, length-append, Option, Some, None, refl, ap, ◌∙◌, arith, ⊎_elim}
use Rattle.std.proofs.lemmas.Bool.{eqb-true}
use Rattle.mx_isa.specs.declared.inst.Inst.{Inst}
use Rattle.mx_squash.specs.Copies.{Site, site_of}
use Rattle.mx_layout.proofs.Links.{site_found}
use Rattle.law_link.proofs.Going.{Did, ArePlain, Stands, starts, for}
use Rattle.law_link.proofs.Saying.{all_plain}
use Rattle.law_link.proofs.Planned.{plain_pre, pre_length}
use Rattle.law_link.proofs.OneBlock.{LeadsAt}
use Rattle.law_link.proofs.Transfers.{inner_of, front_of, front_stands}
use Rattle.law_link.proofs.Layouts.{place_in, Facts, facts, setting}
use Rattle.law_link.proofs.Placing.{placed}
use Rattle.law_link.proofs.Setting.{Known, StepSetting, machine_of}
use Rattle.law_counts.proofs.Tally.{span, tally, first_there, stretch}

module _ (known : Known) (T : ℕ → Bool) where
  open known use {linking.{source, place, sites as all}, bare}
  open setting known use {program as p, link, code as cd, inside as ins, leader, place_of, small, low}

  abbrev machine : StepSetting
  machine = machine_of (setting known)

  -- where words stand before a terminator, a block begins
  begins_within : (j : ℕ) → 1 ≤ place_of j → j < length source.statements
  begins_within j some = by_site (site_of (λ b. eqb b.first j) all) refl
    where
      no_place : (b : Bool) (m : ℕ) → 1 ≤ cond b 0 m → 1 ≤ m
      no_place true m h = absurd (omega arith)
      no_place false m h = h

      by_site : (o : Option Site) → site_of (λ b. eqb b.first j) all ≡ o → j < length source.statements
      by_site None e =
          let none = ap place_in e in
          let more = no_place bare (place_in (site_of (λ b. eqb b.first j) all)) some in
          absurd (omega arith)
      by_site (Some s) e =
          let f = site_found (Facts known) (λ b. eqb b.first j) all s (facts known) e in
          let first = eqb-true s.block.first j f.1 in
          let some = f.0.block.some in
          let within = f.0.block.within in
          omega arith

  -- words of the block of a leader before its terminator
  record HeadWords (j k : ℕ) : Type 0 where
    insts : List Inst
    stands : Stands cd ins (link j) insts
    plain : ArePlain insts
    short : k ≤ length insts
    high : link j + length insts + 2 < 2 ^ 31

  head_words : (j k : ℕ) → LeadsAt (setting known) k j → 1 ≤ k → HeadWords j k
  head_words j k lead some =
      let room = lead.1 in
      let within = begins_within j (omega arith) in
      let is_leading : leader j ≡ true = ⊎_elim (λ l. l) (λ e. absurd (omega arith)) lead.0 in
      let w = placed known j is_leading within in
      let lay = w.lay in
      let long = pre_length p.input lay.planned in
      let places = w.place in
      let next = lay.next in
      let sm = small (j + length lay.block.insts.items) in
      let whole : length lay.plan.items.items ≡ length lay.parts.front + length lay.parts.back = ap length lay.parts.whole
      ∙ length-append lay.parts.front lay.parts.back in
      record {
        insts = front_of (setting known) j lay;
        stands = front_stands (setting known) j lay w.end;
        plain = plain_pre p.input lay.planned (all_plain link p.statements j (inner_of (setting known) j lay) lay.body);
        short = omega arith;
        high = omega arith;
      }

  -- word k of the block is first after k steps
  pub leads_word : (k j : ℕ) (d : Did) → LeadsAt (setting known) k j → (for machine k (starts machine (link j) d)).at.first.address ≡ link j + k
  leads_word zero j d lead = let e : link j ≡ link j + 0 = omega arith in e
  leads_word (suc k) j d lead =
      let h = head_words j (suc k) lead (omega arith) in
      first_there T machine h.insts (link j) d h.stands h.plain (low j) h.high (suc k) h.short

  pub leads_tally : (k j : ℕ) (d : Did) → LeadsAt (setting known) k j → tally T machine k (starts machine (link j) d) ≡ span T k (link j)
  leads_tally zero j d lead = refl
  leads_tally (suc k) j d lead =
      let h = head_words j (suc k) lead (omega arith) in
      stretch T machine h.insts (link j) d h.stands h.plain (low j) h.high (suc k) h.short
