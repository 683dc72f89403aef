use Rattle.std.proofs.Common.{◌≡◌, ◌*◌, drop, arith, sym, ap, ◌∙◌}
use Rattle.std.proofs.lemmas.List.{drop-drop}
use Rattle.mx_image.specs.Bytes.{number_in}
use Rattle.mx_image.proofs.Numbers.{numbers-more}
use Rattle.mx_image.proofs.words.words_at.Goals as goal

pub loop-k-preserved : goal.loop-k-preserved
loop-k-preserved c =
    let k = c.loop-k.k in
    let bs = c.args.bytes.now in
    let last : c.number_at.result ≡ number_in (drop (4 * k) (drop c.args.at bs)) = c.number_at.ensures ∙ ap number_in (sym (drop-drop (4 * k) c.args.at bs)) in
    record {
      words = cc (c.in_ok-push.ensures.items, c.loop-k.invariant.words, last, numbers-more k (drop c.args.at bs));
      len = omega (arith, c.in_ok-push.ensures.len);
    }
