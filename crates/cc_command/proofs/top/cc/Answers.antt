use Rattle.std.proofs.Common.{◌≡◌, ◌∙◌, ap, sym, subst}
use Rattle.cmd_answer.specs.declared.status.Status.TheVariants.{Done, WriteFault, Memory}
use Rattle.cmd_answer.specs.Delivery.{Delivered}
use Rattle.cmd_answer.specs.Replies.{reply_answer}
use Rattle.mx_io.specs.Shelves.{Told}
use Rattle.cc_command.proofs.Replies.{unwritten}
use Rattle.cc_command.proofs.top.cc.Goals as goal

done_is_no_fault : Done ≡ WriteFault → ⊥
done_is_no_fault e = absurd (cc)

done_is_no_memory : Done ≡ Memory → ⊥
done_is_no_memory e = absurd (cc)

pub returns : goal.returns
returns g c = record {
  unwritten = λ other.
      unwritten c.in-Ok.reply c.finish.result (g.S.Shelf.told c.reply_to.new.shelf) (g.S.Shelf.told c.finish.new.shelf)
      (g.W.Sink.written c.args.out.now) (g.W.Sink.written c.finish.new.out) c.finish.ensures.delivered c.finish.ensures.unwrote other
      ∙ ap (λ (t : Told). t.wrote) c.in-Ok.ensures.told_stays;
  translated = λ done.
      let out = c.finish.ensures.delivered (λ e. absurd (done_is_no_fault (sym done ∙ e))) (λ e. absurd (done_is_no_memory (sym done ∙ e))) in
      let made = c.in-Ok.ensures.translated (sym out.status ∙ done) in (
        made.0,
        made.1,
        reply_answer c.in-Ok.reply,
        made.2,
        subst (λ told. Delivered (reply_answer c.in-Ok.reply) c.finish.result told (g.S.Shelf.told c.finish.new.shelf) (g.W.Sink.written c.args.out.now)
            (g.W.Sink.written c.finish.new.out)) c.in-Ok.ensures.told_stays out,
      );
}
