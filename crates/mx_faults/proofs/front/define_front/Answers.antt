use Rattle.std.proofs.Common.{◌+◌, false, map, take, drop, length, ◌-◌, refl, ap, sym, ◌∙◌, arith}
use Rattle.std.specs.Option.{option_or}
use Rattle.std.proofs.lemmas.List.{take_rest, length-drop}
use Rattle.mx_lines.specs.Shapes.{word}
use Rattle.mx_asm.proofs.Labelled.{front_step}
use Rattle.mx_faults.specs.Walking.{repeat_place}
use Rattle.mx_faults.proofs.Tokens.{place_step}
use Rattle.mx_faults.proofs.front.define_front.Goals as goal

pub loop-rest-preserved : goal.loop-rest-preserved
loop-rest-preserved c =
    let labels = c.loop-rest.labels in
    let ws = c.loop-rest.rest.now in
    let l = c.args.label in
    let place = c.loop-rest.place in
    let begins = sym c.begins_label.ensures.front ∙ c.loop-rest-test.true in
    let front = front_step labels c.define_own.new.labels _ l ws c.first_name.result.now false c.in_ok-again.again _
    begins c.first_name.ensures c.in_ok-again.ensures.labels c.in_ok-again.ensures.repeated c.loop-rest.invariant.defined refl in
    record {
      defined = front.0;
      repeated =
          ap (λ o. option_or o (repeat_place c.define_own.new.labels l (place + 2) (map word (take (length ws - 2) (drop 2 ws)))))
          c.earlier_place-repeated.ensures
          ∙ place_step labels c.define_own.new.labels l ws c.first_name.result.now place c.loop-rest.repeated c.in_ok-again.again _
          begins c.first_name.ensures c.in_ok-again.ensures.labels c.in_ok-again.ensures.repeated c.loop-rest.invariant.repeated;
      few = omega (arith, ap length (take_rest ws 2), length-drop 2 ws, c.loop-rest.invariant.few, c.begins_label.ensures.two c.loop-rest-test.true);
    }
