use Rattle.std.proofs.Common.{map, ap, ◌∙◌}
use Rattle.mx_module.specs.Modules.{modules_of}
use Rattle.mx_module.specs.ModuleView.{text_bytes}
use Rattle.mx_module.proofs.Joining.{is_program, joins_texts, refused_texts}
use Rattle.mx_module.proofs.joiner.Joiner.join.Goals as goal

pub joined_source-requires : goal.joined_source-requires
joined_source-requires c =
    is_program c.self.inside.texts.items c.deref-3.result.now
    (c.deref-3.ensures.value ∙ c.in_ok-modules.ensures ∙ ap (λ ts. modules_of (map text_bytes ts)) c.deref.ensures.value) c.self.invariant

pub returns-clause-source : goal.returns-clause-source
returns-clause-source c =
    joins_texts c.args.self.now c.deref-3.result.now
    (c.deref-3.ensures.value ∙ c.in_ok-modules.ensures ∙ ap (λ ts. modules_of (map text_bytes ts)) c.deref.ensures.value ∙ ap modules_of c.self.view_is)
    c.joined_source.result c.joined_source.ensures.source

pub returns-clause-refused : goal.returns-clause-refused
returns-clause-refused c =
    refused_texts c.args.self.now c.deref-3.result.now
    (c.deref-3.ensures.value ∙ c.in_ok-modules.ensures ∙ ap (λ ts. modules_of (map text_bytes ts)) c.deref.ensures.value ∙ ap modules_of c.self.view_is)
    c.joined_source.result c.joined_source.ensures.refused
