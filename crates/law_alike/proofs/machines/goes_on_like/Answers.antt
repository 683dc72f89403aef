use Rattle.std.proofs.Common.{◌≡◌, true, false, sym, ◌∙◌}
use Rattle.std.proofs.lemmas.Slice.Eq.{slice_eq-Decides}
use Rattle.std.proofs.lemmas.Bool.Decides.{Decides-eqb}
use Rattle.law_alike.proofs.Parts.{SameParts, parts_alike}
use Rattle.law_alike.proofs.machines.goes_on_like.Goals as goal
use Rattle.law_alike.proofs.machines.goes_on_like.Goals.{then-is_same_window, else-is_same_window, then-is_same_wait, else-is_same_wait}
use Rattle.law_alike.proofs.machines.goes_on_like.Goals.{then-is_same_mode, else-is_same_mode, then-write_alike, else-write_alike, then-eq, else-eq}

pub returns-then-is_same_cache : goal.returns-then-is_same_cache
returns-then-is_same_cache c = λ data_is p h k s r.
    let five = c.if-is_same_cache.true in
    let alike : SameParts c.args.machine.now c.args.other.now = elim c.if-eq.branch [
      | then-eq w5 ↦
          let cache = sym w5.value-is ∙ five in
          let four = w5.if-eq.true in
          elim c.if-write_alike.branch [
            | then-write_alike w4 ↦
                let file = sym w4.value-is ∙ four in
                let three = w4.if-write_alike.true in
                elim c.if-is_same_mode.branch [
                  | then-is_same_mode w3 ↦
                      let write = sym w3.value-is ∙ three in
                      let two = w3.if-is_same_mode.true in
                      elim c.if-is_same_wait.branch [
                        | then-is_same_wait w2 ↦
                            let mode = sym w2.value-is ∙ two in
                            let one = w2.if-is_same_wait.true in
                            elim c.if-is_same_window.branch [
                              | then-is_same_window w1 ↦
                                  let wait = sym w1.value-is ∙ one in
                                  let window = w1.if-is_same_window.true in
                                  record {
                                    next = c.is_same_window.ensures.next window;
                                    fetch = c.is_same_window.ensures.fetch window;
                                    rf = c.is_same_window.ensures.rf window;
                                    alu = c.is_same_window.ensures.alu window;
                                    mem = c.is_same_window.ensures.mem window;
                                    wb = c.is_same_window.ensures.wb window;
                                    wait = w1.is_same_wait.ensures.wait wait;
                                    asked = w1.is_same_wait.ensures.asked wait;
                                    halted = w1.is_same_wait.ensures.halted wait;
                                    psw = w2.is_same_mode.ensures.psw mode;
                                    chain = w2.is_same_mode.ensures.chain mode;
                                    md = w1.is_same_wait.ensures.md wait;
                                    register = w3.write_alike.ensures.register write;
                                    load = w3.write_alike.ensures.load write;
                                    written = w3.write_alike.ensures.write write;
                                    file = (slice_eq-Decides Decides-eqb _ _ w4.eq.result w4.eq.ensures).0 file;
                                    caches = w5.is_same_cache.ensures cache;
                                    words = c.is_same_data.ensures.words data_is;
                                    taken = c.is_same_data.ensures.taken data_is;
                                    user = w2.is_same_mode.ensures.user mode;
                                    quiet = w1.is_same_wait.ensures.quiet wait;
                                  }
                              | else-is_same_window w1 ↦
                                  let bad : false ≡ true = sym w1.if-is_same_window.false ∙ sym w1.value-is ∙ one in absurd (cc)
                            ]
                        | else-is_same_wait w2 ↦
                            let bad : false ≡ true = sym w2.if-is_same_wait.false ∙ sym w2.value-is ∙ two in absurd (cc)
                      ]
                  | else-is_same_mode w3 ↦ let bad : false ≡ true = sym w3.if-is_same_mode.false ∙ sym w3.value-is ∙ three in absurd (cc)
                ]
            | else-write_alike w4 ↦ let bad : false ≡ true = sym w4.if-write_alike.false ∙ sym w4.value-is ∙ four in absurd (cc)
          ]
      | else-eq w5 ↦ let bad : false ≡ true = sym w5.if-eq.false ∙ sym w5.value-is ∙ five in absurd (cc)
    ] in
    parts_alike c.args.machine.now c.args.other.now alike p h k s r
