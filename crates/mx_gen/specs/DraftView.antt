-- What contracts see of a source that is being generated.
use Rattle.mx_source.specs.Names.{named_labels}
use Rattle.mx_gen.specs.Drafts.{Draft}
use Rattle.mx_gen.specs.declared.draft.Draft.TheInside.{Inside}

-- what contracts see of a draft
abbrev pub draft_value : Inside → Draft
draft_value d = record { statements = d.statements.items; lines = d.lines.items; labels = named_labels d.labels.entries; line = d.line }
