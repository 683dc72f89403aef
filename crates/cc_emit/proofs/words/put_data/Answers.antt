use Rattle.std.proofs.Common.{ap, ◌∙◌}
use Rattle.std.proofs.lemmas.Result.{on_ok_weaker}
use Rattle.cc_emit.specs.declared.words.Writing.TheVariants.{Nothing}
use Rattle.cc_emit.specs.Data.{front_text, added_text}
use Rattle.cc_emit.specs.Images.{image_of, image_text}
use Rattle.cc_emit.specs.Sources.{words_text}
use Rattle.cc_emit.proofs.More.{whole_data}
use Rattle.cc_emit.proofs.words.put_data.Goals as goal

pub returns : goal.returns
returns c =
    let p = c.args.program.now in
    let out = c.args.out.now in
    let same =
    ap (λ bytes. image_text p bytes Nothing c.deref-2.result.now) c.deref.ensures.value
    ∙ ap (image_text p c.in_ok-image.image.bytes.items Nothing) c.deref-2.ensures.value
    ∙ ap (words_text p) c.in_ok-image.ensures in
    on_ok_weaker c.put_added.result (λ h. whole_data (front_text out.input) (image_text p c.deref.result.now Nothing c.deref-2.result.now)
    (words_text p (image_of p c.args.behind c.args.end)) (added_text out c.args.end) c.args.text.now c.put_front.new.text c.put_image.new.text
    c.put_added.new.text c.in_ok-put_front.ensures c.in_ok-put_image.ensures same h) c.put_added.ensures
