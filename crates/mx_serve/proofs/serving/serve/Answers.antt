use Rattle.std.proofs.Common.{◌∙◌, [], ◌∷◌, ◌++◌, Ok, ap, sym}
use Rattle.mx_io.specs.Reads.{read_of}
use Rattle.mx_serve.specs.Serving.{standard_input, most_body}
use Rattle.mx_serve.proofs.Outcome.{served_so}
use Rattle.mx_serve.proofs.serving.serve.Goals as goal

pub returns-in-Ok-answer_body : goal.returns-in-Ok-answer_body
returns-in-Ok-answer_body g c =
    let log = (g.S.Shelf.counts c.args.shelf.now).log in
    served_so c.args.command log (g.S.Shelf.counts c.read.new.self).log (g.W.Sink.written c.args.out.now) (g.W.Sink.written c.print.new.out)
    (g.W.Sink.faults c.args.out.now) (g.W.Sink.faults c.print.new.out)
    c.as_slice.result.now c.in-Ok-answer_body.answer
    (c.in-Ok.ensures.logged ∙ ap (λ b. log ++ read_of standard_input most_body (Ok b) ∷ []) (sym c.as_slice.ensures.value))
    c.in-Ok-answer_body.ensures.not_json c.in-Ok-answer_body.ensures.comes c.print.result c.print.ensures
