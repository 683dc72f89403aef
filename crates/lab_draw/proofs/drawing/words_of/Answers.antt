use Rattle.std.proofs.Common.{◌≡◌, ◌<◌, ◌+◌, ◌∙◌, ◌∷◌, [], get_or, length, arith, ap, below_more}
use Rattle.std.proofs.lemmas.List.{length-append, get_or_append_left, get_or_push}
use Rattle.lab_draw.proofs.drawing.words_of.Goals as goal

pub loop-address-preserved : goal.loop-address-preserved
loop-address-preserved g c = record {
  many =
      let longer : length c.push.new.self.items ≡ length c.loop-address.words.items + 1 =
      ap length c.in_ok-push.ensures.items ∙ length-append c.loop-address.words.items (c.user_data.result ∷ []) in
      omega (arith, longer, c.loop-address.invariant.many);
  read = λ p h s.
      let old = c.loop-address.words.items in
      below_more _ _
      (λ k lt.
      let within : k < length old = omega (arith, lt, c.loop-address.invariant.many) in
      ap (λ l. get_or l k 0) c.in_ok-push.ensures.items
      ∙ get_or_append_left old (c.user_data.result ∷ []) 0 k within
      ∙ c.loop-address.invariant.read p h s k lt)
      (ap (λ l. get_or l c.loop-address.address 0) c.in_ok-push.ensures.items
      ∙ get_or_push old c.user_data.result 0 c.loop-address.address c.loop-address.invariant.many
      ∙ c.user_data.ensures p h s);
}
