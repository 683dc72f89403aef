-- What contracts see of a source.
use Rattle.mx_source.specs.Names.{named_labels}
use Rattle.mx_source.specs.SourceValue.{SourceValue}
use Rattle.mx_source.specs.declared.source.Source.TheInside.{Inside}

-- what contracts see of a source
abbrev pub source_value : Inside → SourceValue
source_value s = record {
  statements = s.statements.items;
  lines = s.lines.items;
  user_data = s.user_data.items;
  labels = named_labels s.labels.entries;
  input = s.input;
}
