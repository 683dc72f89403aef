use Rattle.std.proofs.Common.{◌≡◌, ◌≢◌, Bool, true, false, Option, map, string_bytes, refl, sym, ap, ◌∙◌, subst, ⊎_elim, inl, inr}
use Rattle.std.specs.Prelude.{is_some}
use Rattle.cmd_answer.specs.declared.Status.{Status}
use Rattle.cmd_answer.specs.declared.Status.TheVariants.{Usage, WriteFault, Memory}
use Rattle.cmd_answer.specs.Answer.{Answer}
use Rattle.cmd_answer.specs.Delivery.{Delivered, HasStatus}
use Rattle.mx_io.specs.Shelves.{Told, Counts}
use Rattle.cmd_answer.specs.Protocol.{Performed, resolved}
use Rattle.cmd_answer.specs.Replies.{reply_answer}
use Rattle.cmd_table.specs.Commands.{Command}
use Rattle.cmd_table.specs.Asked.{command_of}
use Rattle.cmd_source.specs.Protocols.{Layouts}
use Rattle.mx_command.specs.Protocols.{protocol_of}
use Rattle.cmd_answer.proofs.Commands.{status_cases}
use Rattle.mx_command.proofs.Own.{own_answers, replied_status, replied_asks, nothing_to_write}
use Rattle.cmd_answer.specs.Commands.{Outside, Commanded}
use Rattle.mx_command.proofs.Ended.{ended, promised}
use Rattle.mx_command.proofs.Headline.{delivered_is_headline}
use Rattle.mx_command.proofs.PairHeadline.{delivered_is_pair}
use Rattle.mx_command.proofs.StopsHeadline.{delivered_is_stops}
use Rattle.mx_command.proofs.JoinHeadline.{delivered_is_joined}
use Rattle.mx_command.proofs.BestHeadline.{delivered_is_best}
use Rattle.mx_command.specs.Accepted.{Held}
use Rattle.mx_command.specs.Promised.{Promised}
use Rattle.mx_command.specs.Writing.{writes_a_file}
use Rattle.mx_command.specs.Layouts.{greedy_layout, command_protocol}
use Rattle.mx_command.proofs.GreedyLayouts.{greedy_is}
use Rattle.law_schedule.specs.Schedule.{IsScheduler}
use Rattle.mx_io.specs.Counts.{Rose}
use Rattle.mx_command.proofs.top.command.Goals as goal

usage_is_no_write_fault : (s : Status) → s ≡ Usage → s ≢ WriteFault
usage_is_no_write_fault s is e = let bad : WriteFault ≡ Usage = sym e ∙ is in absurd (cc)

usage_is_no_memory : (s : Status) → s ≡ Usage → s ≢ Memory
usage_is_no_memory s is e = let bad : Memory ≡ Usage = sym e ∙ is in absurd (cc)

pub finish-requires : goal.finish-requires
finish-requires g c =
    let answer : Answer = reply_answer c.in-Ok.reply in
    ⊎_elim
    (replied_status answer)
    (λ nothing. subst (λ (a : Answer). HasStatus a) (sym (c.in-Ok.ensures.asks_nothing nothing)) (inl refl))
    c.in-Ok.ensures.replied

-- what the words ask for
abbrev asked_by : (g : _) → goal.After-finish g → Option Command
asked_by g c = command_of (map string_bytes c.args.words.now)

-- the shelf and the sink, before `command` and after it
abbrev before : (g : _) (c : goal.After-finish g) → Outside
before g c = record {
  told = g.S.Shelf.told c.args.shelf.now;
  counts = g.S.Shelf.counts c.args.shelf.now;
  write_faults = g.S.Shelf.write_faults c.args.shelf.now;
  sink_faults = g.W.Sink.faults c.args.out.now;
  written = g.W.Sink.written c.args.out.now;
}

-- once the reply is made, which puts nothing out
abbrev between : (g : _) (c : goal.After-finish g) → Outside
between g c = record (before g c) {
  told = g.S.Shelf.told c.reply_to.new.shelf;
  counts = g.S.Shelf.counts c.reply_to.new.shelf;
  write_faults = g.S.Shelf.write_faults c.reply_to.new.shelf;
}

abbrev after : (g : _) (c : goal.After-finish g) → Outside
after g c = record {
  told = g.S.Shelf.told c.finish.new.shelf;
  counts = g.S.Shelf.counts c.finish.new.shelf;
  write_faults = g.S.Shelf.write_faults c.finish.new.shelf;
  sink_faults = g.W.Sink.faults c.finish.new.out;
  written = g.W.Sink.written c.finish.new.out;
}

whole : (g : _) (c : goal.After-finish g) → Commanded (command_protocol (asked_by g c)) (before g c) (after g c) c.finish.result
whole g c =
    ended (command_protocol (asked_by g c)) (reply_answer c.in-Ok.reply) c.finish.result (before g c) (between g c) (after g c)
    (own_answers greedy_layout (asked_by g c)) (c.in-Ok.ensures.performed greedy_layout greedy_is)
    c.in-Ok.ensures.told_stays c.in-Ok.ensures.writes_stay c.finish.ensures.unread
    c.finish.ensures.delivered c.finish.ensures.write_fault c.finish.ensures.prefix c.finish.ensures.memory c.finish.ensures.unwrote c.finish.ensures.kept

-- all is promised where the answer by what is held came out
all_promised : (g : _) (c : goal.After-finish g) (held : Held)
    → Delivered (resolved (command_protocol (asked_by g c)) held) c.finish.result (before g c).told (after g c).told (before g c).written (after g c).written
    → Promised (asked_by g c) held c.finish.result (before g c).told (after g c).told (before g c).written (after g c).written
all_promised g c held d = record {
  delivered = d;
  headline = λ a. delivered_is_headline _ _ a greedy_layout greedy_is _ _ _ _ _ d;
  pair = λ a. delivered_is_pair _ _ a greedy_layout greedy_is _ _ _ _ _ d;
  stops = λ a. delivered_is_stops _ _ a c.in-Ok.ensures.within greedy_layout greedy_is _ _ _ _ _ d;
  modules = λ a. delivered_is_joined _ _ a c.in-Ok.ensures.within greedy_layout _ _ _ _ _ d;
  best = λ a. delivered_is_best _ _ a greedy_layout greedy_is _ _ _ _ _ d;
}

pub returns-clause-complete : goal.returns-clause-complete
returns-clause-complete g c = (whole g c).complete

pub returns-clause-sound : goal.returns-clause-sound
returns-clause-sound g c = (whole g c).sound

pub returns-clause-headline : goal.returns-clause-headline
returns-clause-headline g c = λ tells undisturbed accepted.
    promised _ _ _ _ _ (whole g c) (delivered_is_headline _ _ accepted greedy_layout greedy_is _ _ _ _ _) tells undisturbed

pub returns-clause-promised_held : goal.returns-clause-promised_held
returns-clause-promised_held g c = λ tells undisturbed. promised _ _ _ _ _ (whole g c) (all_promised g c (before g c).told.held) tells undisturbed

pub returns-clause-performed : goal.returns-clause-performed
returns-clause-performed g c = λ w m.
    let answer : Answer = reply_answer c.in-Ok.reply in
    let d = c.finish.ensures.delivered w m in (
      answer,
      subst (λ (counts : Counts). Performed (before g c).told (command_protocol (asked_by g c)) (before g c).counts counts answer)
          (sym c.finish.ensures.unread) (c.in-Ok.ensures.performed greedy_layout greedy_is),
      d.status,
      d.output,
    )

pub returns-clause-read_fault : goal.returns-clause-read_fault
returns-clause-read_fault g c = (whole g c).read_fault

pub returns-clause-prefix : goal.returns-clause-prefix
returns-clause-prefix g c = (whole g c).put_out

pub returns-clause-exact : goal.returns-clause-exact
returns-clause-exact g c = (whole g c).exact

pub returns-clause-exact_prefix : goal.returns-clause-exact_prefix
returns-clause-exact_prefix g c = (whole g c).exact_prefix

pub returns-clause-unwrote : goal.returns-clause-unwrote
returns-clause-unwrote g c = (whole g c).unwrote

pub returns-clause-promised : goal.returns-clause-promised
returns-clause-promised g c = λ w m.
    let is = (whole g c).exact_held w m in (is.0, is.1, λ held agree. all_promised g c held (is.2 held agree))

pub returns-clause-usage : goal.returns-clause-usage
returns-clause-usage g c = λ is.
    let delivered = c.finish.ensures.delivered (usage_is_no_write_fault c.finish.result is) (usage_is_no_memory c.finish.result is) in
    ⊎_elim
    (λ replied. absurd (replied_asks (reply_answer c.in-Ok.reply) replied (sym delivered.status ∙ is)))
    (λ nothing. nothing)
    c.in-Ok.ensures.replied

pub returns-clause-asks_nothing : goal.returns-clause-asks_nothing
returns-clause-asks_nothing g c = λ nothing.
    ⊎_elim
    (λ fault. inr fault)
    (λ other. inl ((c.finish.ensures.delivered other.0 other.1).status ∙ ap (λ a. a.status) (c.in-Ok.ensures.asks_nothing nothing)))
    (status_cases c.finish.result)

-- only `build` and `migrate` have a file to write
unfiled : (asked : Option Command) (shelf : Told) (before after : Counts) (answer : Answer)
    → ((layout_of : Layouts) → IsScheduler layout_of → Performed shelf (protocol_of layout_of asked) before after answer)
    → is_some answer.file ≡ true → writes_a_file asked ≡ true
unfiled asked shelf before after answer performed filed = by (writes_a_file asked) refl
  where
    by : (b : Bool) → writes_a_file asked ≡ b → writes_a_file asked ≡ true
    by true e = e
    by false e = absurd (
        let none = nothing_to_write asked shelf before after answer e performed in
        let bad : false ≡ true = sym (ap is_some none) ∙ filed in cc)

pub returns-clause-unwritten : goal.returns-clause-unwritten
returns-clause-unwritten g c = λ only.
    c.finish.ensures.unwritten (nothing_to_write (asked_by g c) _ _ _ (reply_answer c.in-Ok.reply) only c.in-Ok.ensures.performed)
    ∙ c.in-Ok.ensures.writes_stay

pub returns-clause-write_fault : goal.returns-clause-write_fault
returns-clause-write_fault g c = λ is.
    ⊎_elim
    (λ sink. inl sink)
    (λ shelf. inr (
      unfiled (asked_by g c) _ _ _ (reply_answer c.in-Ok.reply) c.in-Ok.ensures.performed shelf.0,
      subst (λ n. Rose n (g.S.Shelf.write_faults c.finish.new.shelf)) c.in-Ok.ensures.writes_stay shelf.1,
    ))
    (c.finish.ensures.write_fault is)
