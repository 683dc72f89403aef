use Rattle.std.proofs.Common.{◌≡◌, List, ℕ, Option, Some, ap, ◌∙◌, codes}
use Rattle.std.specs.Prelude.{if◌then◌else◌}
use Rattle.std.specs.Str.{bytes_eq}
use Rattle.embed_call.proofs.quiet_shelf.QuietShelf.new.Goals as goal

pub invariant_of-result : goal.invariant_of-result
invariant_of-result c = record {
  never_fails = λ n. c.add-5.ensures.failing n ∙ c.add-4.ensures.failing n ∙ c.add-3.ensures.failing n ∙ c.add-2.ensures.failing n ∙ c.add.ensures.failing n
      ∙ c.new-files.ensures.failing n;
}

-- one more file before those that were added
over : (name bytes n : List ℕ) (x y : Option (List ℕ)) → x ≡ y → (if bytes_eq name n then Some bytes else x) ≡ (if bytes_eq name n then Some bytes else y)
over name bytes n x y e = ap (λ h. if bytes_eq name n then Some bytes else h) e

pub returns : goal.returns
returns c = λ n.
    c.in_ok-add-5.ensures.ok n ∙ over (codes "source") c.args.call.now.source.now n _ _
    (c.in_ok-add-4.ensures.ok n ∙ over (codes "second") c.args.call.now.second.now n _ _
    (c.in_ok-add-3.ensures.ok n ∙ over (codes "input") c.args.call.now.input.now n _ _
    (c.in_ok-add-2.ensures.ok n ∙ over (codes "interrupts") c.args.call.now.interrupts.now n _ _
    (c.in_ok-add.ensures.ok n ∙ over (codes "image") c.args.call.now.image.now n _ _ (c.new-files.ensures.empty n)))))
