use Rattle.std.proofs.Common.{◌++◌, ◌-◌, ◌/◌, ap, ◌∙◌}
use Rattle.cc_rules.specs.declared.numbers.TheConstants.{FIRST_BYTE}
use Rattle.cc_emit.specs.Sources.{code_text, data_text, size_text}
use Rattle.cc_emit.proofs.More.{whole_text}
use Rattle.cc_emit.proofs.source.source_text.Goals as goal

pub returns : goal.returns
returns c =
    let p = c.args.program.now in
    let out = c.args.out.now in
    let size_of = size_text out.statements out.instructions in
    let code =
    c.in_ok-put_code.ensures ∙ (ap (λ t. t ++ code_text p c.deref.result.now) c.new-text.ensures ∙ ap (λ lines. code_text p lines) c.deref.ensures.value) in
    let size = c.in_ok-put_size.ensures ∙ ap (λ n. c.put_data.new.text ++ size_of n) c.words_before.ensures in
    whole_text (code_text p out.lines.items) (data_text p out c.args.behind c.args.end) (size_of ((c.args.end - FIRST_BYTE) / 4))
    c.put_code.new.text c.put_data.new.text c.put_size.new.text _ code c.in_ok-put_data.ensures size c.into_bytes.ensures
