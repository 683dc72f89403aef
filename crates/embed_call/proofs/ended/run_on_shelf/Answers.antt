use Rattle.std.proofs.Common.{◌≡◌, ◌≢◌, ℕ, ◌++◌, List, [], Option, map, string_bytes, refl, sym, ap, ◌∙◌, subst, ⊎_elim, inl}
use Rattle.mx_io.specs.Counts.{Rose}
use Rattle.cmd_answer.specs.declared.Status.{Status}
use Rattle.cmd_answer.specs.declared.Status.TheVariants.{Memory}
use Rattle.cmd_answer.specs.Protocol.{resolved}
use Rattle.cmd_table.specs.Asked.{command_of}
use Rattle.cmd_table.specs.Commands.{Command}
use Rattle.mx_command.specs.Headline.{AreQuiet, Headline}
use Rattle.mx_command.specs.Pairs.{PairHeadline}
use Rattle.mx_command.specs.Stops.{StopsHeadline}
use Rattle.mx_command.specs.Joins.{JoinHeadline}
use Rattle.mx_command.specs.Measures.{BestHeadline}
use Rattle.mx_command.specs.Promised.{Promised}
use Rattle.mx_command.specs.Layouts.{command_protocol}
use Rattle.embed_call.specs.Targets.{target_bytes}
use Rattle.embed_call.specs.QuietShelf.{held_in, told_of, counts_of}
use Rattle.embed_call.specs.TextSink.{written_in, faults_of}
use Rattle.embed_call.proofs.Finds.{no_rise, finds_no_fault}
use Rattle.embed_call.proofs.Writes.{command_writes, file_comes, no_target}
use Rattle.embed_call.proofs.ended.run_on_shelf.Goals as goal

-- what is told of an empty sink that took a text
from_told : (P : List ℕ → List ℕ → Type 0) (w w' text : List ℕ) → w ≡ [] → text ≡ w' → P w w' → P [] text
from_told P w w' text empty is told = subst (λ x. P x text) empty (subst (P w) (sym is) told)

pub returns : goal.returns
returns c =
    let asked : Option Command = command_of (map string_bytes c.args.words.now) in
    let before = c.args.shelf in
    let after = c.command-status.new.shelf in
    let out = c.new-out.result in
    let out' = c.command-status.new.out in
    let status : Status = c.command-status.result in
    let text : List ℕ = c.in-Some.output.items in
    let written : List ℕ = c.in_ok-file.file.items in
    let told = c.command-status.ensures in
    let calm : ¬ Rose 0 0 = no_rise 0 0 refl in
    let putting : ¬ Rose (faults_of out) (faults_of out') = no_rise (faults_of out) (faults_of out') c.in-Some.ensures.1 in
    let quiet : AreQuiet (counts_of before) (counts_of after) 0 0 (faults_of out) (faults_of out') =
    record { reading = calm; writing = calm; putting = putting } in
    let not_memory : status ≢ Memory = c.is_memory.ensures.answer c.if-is_memory.false in
    let promised : Promised asked (held_in before) status (told_of before) (told_of after) (written_in out) (written_in out') =
    ⊎_elim (λ m. absurd (not_memory m)) (λ p. p) (told.promised_held refl (inl quiet)) in
    let delivered = promised.delivered in
    let got = c.in_ok-file.ensures ∙ ap (λ t. target_bytes (held_in after) t status) c.in_ok-target.ensures in
    record {
      status = delivered.status;
      output =
          c.in-Some.ensures.0 ∙ delivered.output
          ∙ ap (λ w. w ++ (resolved (command_protocol asked) (held_in before)).output) c.new-out.ensures.written;
      file = λ writes.
          let target = command_writes asked (held_in before) writes in
          file_comes target.0 (resolved (command_protocol asked) (held_in before)) status (held_in before) (held_in after) written target.2
          delivered.status (delivered.file refl) (got ∙ ap (λ t. target_bytes (held_in after) t status) target.1);
      no_file = λ only. got ∙ ap (λ t. target_bytes (held_in after) t status) (no_target asked only);
      headline = λ accepted. from_told
          (λ w w'. Headline asked (held_in before) accepted status w w') _ _ text c.new-out.ensures.written c.in-Some.ensures.0
          (promised.headline accepted);
      pair = λ accepted. from_told
          (λ w w'. PairHeadline asked (held_in before) accepted status w w') _ _ text c.new-out.ensures.written c.in-Some.ensures.0
          (promised.pair accepted);
      stops = λ accepted. from_told
          (λ w w'. StopsHeadline asked (held_in before) accepted status w w') _ _ text c.new-out.ensures.written c.in-Some.ensures.0
          (promised.stops accepted);
      modules = λ accepted. from_told
          (λ w w'. JoinHeadline asked (held_in before) accepted status w w') _ _ text c.new-out.ensures.written c.in-Some.ensures.0
          (promised.modules accepted);
      best = λ accepted. from_told
          (λ w w'. BestHeadline asked (held_in before) accepted status w w') _ _ text c.new-out.ensures.written c.in-Some.ensures.0
          (promised.best accepted);
      no_write_fault = λ e. ⊎_elim putting (λ f. calm f.1) (told.write_fault e);
      no_memory = not_memory;
      no_read_fault = λ finds e.
          let fault = told.read_fault e in
          finds_no_fault (held_in before) (command_protocol asked) (counts_of before) (counts_of after) fault.0 refl finds _ fault.1;
    }
