use Rattle.std.proofs.Common.{map, string_bytes, subst}
use Rattle.cmd_table.specs.Asked.{command_of}
use Rattle.embed_call.specs.Answered.{Answered}
use Rattle.lab_request.specs.Requests.{Held}
use Rattle.mx_serve.proofs.programs.toolchain_ends.Goals as goal

pub returns : goal.returns
returns c =
    let ended = c.in_ok-status.field-0 in
    record {
      how = ended.status;
      written = ended.file.items;
      answered = subst
          (λ (h : Held). Answered (command_of (map string_bytes c.args.words.now)) h ended.status ended.output.items ended.file.items)
          (λ i n. c.of.ensures n i) c.in_ok-status.ensures;
      number = cc;
      quiet = c.new.ensures.items;
    }
