use Rattle.std.proofs.Common.{◌≡◌, ◌+◌, ◌++◌, ◌∷◌, drop, sym, ap, ◌∙◌, arith}
use Rattle.mx_asm.specs.Effects.{first_input}
use Rattle.mx_asm.specs.Listings.{IsListingOf}
use Rattle.mx_asm.specs.Texts.{effects_from, statements_in, lines_in, values_in, input_in}
use Rattle.mx_module.specs.LinkFaults.{refusal_or}
use Rattle.mx_module.specs.Joined.{seen_in, effects_in, fault_in_lines, line_of}
use Rattle.mx_module.proofs.Appended.{statements_both, lines_both, values_both, input_both, first_of_three, items_more}
use Rattle.mx_module.proofs.Chained.{first_room, first_near, next, many, left_modules, left_chained}
use Rattle.mx_module.proofs.program.read_program.Goals as goal

pub read_module-requires-clause-few : goal.read_module-requires-clause-few
read_module-requires-clause-few c = let few = many c.args.modules.now c.requires.program in omega (arith, few)

pub read_module-requires-clause-room : goal.read_module-requires-clause-room
read_module-requires-clause-room c =
    let i = c.loop-module.module-index in
    let m = c.module-item.result in
    first_room m (drop (i + 1) c.args.modules.now) (left_chained c.args.modules.now i m (omega arith) c.module-item.is c.loop-module.invariant.chained)

pub read_module-requires-clause-order : goal.read_module-requires-clause-order
read_module-requires-clause-order c =
    let i = c.loop-module.module-index in
    let m = c.module-item.result in
    first_near m (drop (i + 1) c.args.modules.now) (left_chained c.args.modules.now i m (omega arith) c.module-item.is c.loop-module.invariant.chained)

pub loop-module-preserved : goal.loop-module-preserved
loop-module-preserved c =
    let ms = c.args.modules.now in
    let i = c.loop-module.module-index in
    let place = c.loop-module.place in
    let m = c.module-item.result in
    let rest = drop (i + 1) ms in
    let here = left_chained ms i m (omega arith) c.module-item.is c.loop-module.invariant.chained in
    let e : drop i ms ≡ m ∷ rest = left_modules ms i m (omega arith) c.module-item.is in
    let seen = seen_in ms place m in
    let h : IsListingOf seen 65536 m.start m.lines c.in_ok-more.more = c.in_ok-more.ensures.read in
    let own = effects_from seen m.start 1 m.lines in
    let later = effects_in ms (place + 1) rest in
    let left = effects_in ms place (drop i ms) in
    let parts : left ≡ own ++ later = ap (effects_in ms place) e in
    let was = c.loop-module.listing in
    let more = c.in_ok-more.more in
    let new = c.append.new.listing in
    let added = c.in_ok-append.ensures in
    record {
      place = omega arith;
      chained = next m rest here h.few h.within;
      fault =
          sym (ap (λ f. refusal_or (line_of place f) (fault_in_lines ms (place + 1) rest)) h.faultless)
          ∙ ap (fault_in_lines ms place) (sym e) ∙ c.loop-module.invariant.fault;
      statements = items_more statements_in statements_both was.statements.items more.statements.items new.statements.items _ own later left
          parts added.statements h.statements c.loop-module.invariant.statements;
      lines = items_more lines_in lines_both was.lines.items more.lines.items new.lines.items _ own later left
          parts added.lines h.lines c.loop-module.invariant.lines;
      values = items_more values_in values_both was.user_data.items more.user_data.items new.user_data.items _ own later left
          parts added.user_data h.user_data c.loop-module.invariant.values;
      input =
          ap (λ x. first_input x (input_in later)) added.input
          ∙ ap (λ x. first_input (first_input was.input x) (input_in later)) h.input
          ∙ first_of_three was.input (input_in own) (input_in later)
          ∙ ap (first_input was.input) (sym (input_both own later))
          ∙ ap (λ x. first_input was.input (input_in x)) (sym parts) ∙ c.loop-module.invariant.input;
    }
