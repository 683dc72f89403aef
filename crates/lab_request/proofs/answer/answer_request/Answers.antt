use Rattle.std.proofs.Common.{◌≡◌, ◌∙◌, List, ℕ, ap, map, string_bytes, refl, subst}
use Rattle.mx_io.specs.MemoryShelf.{held_in}
use Rattle.serde_json.specs.View.{view}
use Rattle.lab_request.specs.Requests.{Held, words_of, held_of}
use Rattle.lab_request.proofs.answer.answer_request.Goals as goal

pub returns-in-Ok-document : goal.returns-in-Ok-document
returns-in-Ok-document g c =
    let d = view c.args.asked.value.now in
    let ended = c.in_ok-ended.ended in
    let words : map string_bytes c.as_slice.result.now ≡ words_of c.args.asked.command d = ap (map string_bytes) c.as_slice.ensures.value ∙ c.in-Ok.ensures in
    let files : held_in c.in_ok-files.files ≡ held_of d = λ i n. c.in_ok-files.ensures.held n i in
    record {
      answered = refl;
      status = ended.status;
      output = ended.output.items;
      errors = ended.errors.items;
      ended =
          subst (λ (h : Held). g.C.Commands.ends c.args.asked.command (words_of c.args.asked.command d) h
          ended.status ended.output.items ended.errors.items) files
          (subst (λ (w : List (List ℕ)). g.C.Commands.ends c.args.asked.command w (held_in c.in_ok-files.files)
          ended.status ended.output.items ended.errors.items)
          words c.in_ok-ended.ensures);
      printed = c.in-Ok-document.ensures;
    }
