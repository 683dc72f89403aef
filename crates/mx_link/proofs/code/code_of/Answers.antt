use Rattle.std.proofs.Common.{ℕ, ◌≡◌, ◌<◌, ◌++◌, length, Some, refl, ap, ◌∙◌, subst, slice_index, arith, rules}
use Rattle.std.specs.Prelude.{slice_get}
use Rattle.std.proofs.lemmas.Option.{slice_get_read, slice_get_within}
use Rattle.mx_blocks.specs.declared.Block.{Block}
use Rattle.std.specs.Prelude.{List}
use Rattle.mx_blocks.specs.Leaders.{AreBlocks}
use Rattle.mx_squash.proofs.Targets.{site, sites_get}
use Rattle.mx_link.specs.Origins.{origins_at}
use Rattle.mx_link.specs.Words.{code_of}
use Rattle.mx_link.specs.Parts.{filling_of, sites_of, link_in, site_words, EachInst}
use Rattle.mx_layout.proofs.Sited.{blocks_in-sites}
use Rattle.mx_layout.proofs.Sizes.{blocks_few}
use Rattle.mx_link.proofs.Places.{length-sites}
use Rattle.mx_link.proofs.Pushes.{flat_pushed, flat_end, all_words}
use Rattle.mx_link.proofs.Linkable.{linkable}
use Rattle.mx_link.proofs.Registers.{next_site, have_registers}
use Rattle.mx_code.specs.Codes.{HasRegisters}
use Rattle.mx_source.specs.declared.Statement.{Statement}
use Rattle.mx_squash.specs.declared.Copied.{Copied}
use Rattle.mx_squash.specs.Copies.{Site}
use Rattle.mx_link.proofs.code.code_of.Goals as goal

pub copied_at-copied-requires-clause-blocks : goal.copied_at-copied-requires-clause-blocks
copied_at-copied-requires-clause-blocks c =
    let l = c.args.layout.now in record {
      source = c.args.source.now;
      all = subst (λ (bs : List Block). AreBlocks c.args.source.now bs)
          (blocks_in-sites l.blocks.items l.plans.items l.starts.items c.requires.plans c.requires.starts) c.requires.layout.blocks;
    }

pub copied_at-copied-requires-clause-few : goal.copied_at-copied-requires-clause-few
copied_at-copied-requires-clause-few c =
    let l = c.args.layout.now in
    let source = c.args.source.now in
    let blocks = subst (λ (bs : List Block). AreBlocks source bs)
    (blocks_in-sites l.blocks.items l.plans.items l.starts.items c.requires.plans c.requires.starts) c.requires.layout.blocks in
    let few = blocks_few source 0 (length source.statements) l.blocks.items blocks in
    let statements = c.statements-statements.ensures.source.few_statements in
    omega arith

pub push_block-requires : goal.push_block-requires
push_block-requires c =
    let l = c.args.layout.now in
    let k = c.loop-k.k in
    let plans_same = c.requires.plans in
    let starts_same = c.requires.starts in
    let within : k < length l.blocks.items = omega (arith, c.loop-k-test.true, c.len-k-end.ensures) in
    let at = sites_get l.blocks.items l.plans.items l.starts.items k _ _ _
    (slice_get_read l.blocks.items _ k c.index.result.now refl within c.index.ensures)
    (slice_get_read l.plans.items _ k c.index-in-loop-k.result.now refl (omega arith) c.index-in-loop-k.ensures)
    (slice_get_read l.starts.items _ k c.index-in-loop-k-2.result.now refl (omega arith) c.index-in-loop-k-2.ensures) in
    let ready = linkable c.args.source.now l c.args.slots k
    (site c.index.result.now c.index-in-loop-k.result.now c.index-in-loop-k-2.result.now) c.as_slice.result.now
    c.statements-statements.result.now c.copied_at-copied.result c.statements-statements.ensures.source c.requires at c.as_slice.ensures.value
    c.statements-statements.ensures.value (c.copied_at-copied.ensures _ at) in
    record {
      fit = search rules;
      short = ready.short;
      within = ready.within;
      first = ready.first;
      goal = ready.goal;
      fits = ready.fits;
    }

pub loop-k-preserved : goal.loop-k-preserved
loop-k-preserved c =
    let l = c.args.layout.now in
    let all = sites_of l in
    let filling = filling_of c.args.slots in
    let k = c.loop-k.k in
    let s = site c.index.result.now c.index-in-loop-k.result.now c.index-in-loop-k-2.result.now in
    let statements = c.statements-statements.result.now in
    let plans_same = c.requires.plans in
    let starts_same = c.requires.starts in
    let within : k < length l.blocks.items = omega (arith, c.loop-k-test.true, c.len-k-end.ensures) in
    let at : slice_get all k ≡ Some s = sites_get l.blocks.items l.plans.items l.starts.items k _ _ _
    (slice_get_read l.blocks.items _ k c.index.result.now refl within c.index.ensures)
    (slice_get_read l.plans.items _ k c.index-in-loop-k.result.now refl (omega arith) c.index-in-loop-k.ensures)
    (slice_get_read l.starts.items _ k c.index-in-loop-k-2.result.now refl (omega arith) c.index-in-loop-k-2.ensures) in
    let copied = c.copied_at-copied.ensures s at in record {
      words = flat_pushed (λ x. site_words (link_in l) statements x (filling all x)) all k s c.loop-k.code.words.items _ _ at
          (c.in_ok-push_block.ensures.words
          ∙ ap (λ links. c.loop-k.code.words.items ++ site_words (slice_index links) statements s c.copied_at-copied.result) c.as_slice.ensures.value
          ∙ ap (λ x. c.loop-k.code.words.items ++ site_words (link_in l) statements s x) copied)
          c.loop-k.invariant.words;
      registers = next_site (λ (x : Site). EachInst HasRegisters (link_in l) statements x (filling all x)) all k s at
          (subst (λ (x : Copied). EachInst HasRegisters (link_in l) statements s x) copied
          (subst (λ (links : List ℕ). EachInst HasRegisters
          (slice_index links) statements s c.copied_at-copied.result) c.as_slice.ensures.value c.in_ok-push_block.ensures.registers))
          c.loop-k.invariant.registers;
      origin = flat_pushed (λ x. origins_at x (filling all x)) all k s c.loop-k.code.origin.items _ _ at
          (c.in_ok-push_block.ensures.origin ∙ ap (λ x. c.loop-k.code.origin.items ++ origins_at s x) copied)
          c.loop-k.invariant.origin;
    }

pub returns-clause-words : goal.returns-clause-words
returns-clause-words c =
    let l = c.args.layout.now in
    let all = sites_of l in
    let filling = filling_of c.args.slots in
    let statements = c.statements-statements.result.now in
    let count = length-sites l.blocks.items l.plans.items l.starts.items c.requires.plans c.requires.starts in
    flat_end (λ x. site_words (link_in l) statements x (filling all x)) all c.loop-k.k c.loop-k.code.words.items _
    (omega (arith, c.loop-k-test.false, c.loop-k.auto.k-end, c.len-k-end.ensures)) c.loop-k.invariant.words
    ∙ all_words filling (link_in l) statements all
    ∙ ap (λ xs. code_of filling (link_in l) xs all) c.statements-statements.ensures.value

pub returns-clause-origin : goal.returns-clause-origin
returns-clause-origin c =
    let l = c.args.layout.now in
    let all = sites_of l in
    let filling = filling_of c.args.slots in
    let count = length-sites l.blocks.items l.plans.items l.starts.items c.requires.plans c.requires.starts in
    flat_end (λ x. origins_at x (filling all x)) all c.loop-k.k c.loop-k.code.origin.items _
    (omega (arith, c.loop-k-test.false, c.loop-k.auto.k-end, c.len-k-end.ensures)) c.loop-k.invariant.origin

pub returns-clause-registers : goal.returns-clause-registers
returns-clause-registers c =
    let l = c.args.layout.now in
    let all = sites_of l in
    let source = c.args.source.now in
    let filling = filling_of c.args.slots in
    let count = length-sites l.blocks.items l.plans.items l.starts.items c.requires.plans c.requires.starts in
    have_registers source c.requires.place (link_in l) c.args.slots all c.requires.layout
    (λ k s e.
    let low = slice_get_within all k s e in
    subst (λ (xs : List Statement). EachInst HasRegisters (link_in l) xs s (filling all s)) c.statements-statements.ensures.value
    (c.loop-k.invariant.registers k s (omega (arith, c.loop-k-test.false, c.len-k-end.ensures)) e))
