-- Image files of sources that are linked by the plans of a file.
use Rattle.std.specs.Prelude.{◌≡◌, ◌++◌, ℕ, List, is_some}
use Rattle.mx_io.specs.Shelves.{Told, Counts}
use Rattle.mx_source.specs.SourceValue.{SourceValue}
use Rattle.mx_link.specs.declared.linked.Linked.{Linked}
use Rattle.mx_image.specs.Contents.{Contents}
use Rattle.mx_image.specs.Files.{file_bytes}
use Rattle.mx_plans.specs.Files.{LineSaid}
use Rattle.cmd_answer.specs.Answer.{Answer, writes}
use Rattle.lab_plans.specs.declared.linking.LinkedTold.{LinkedTold}
use Rattle.lab_plans.specs.Linking.{IsLinkedTold}
use Rattle.lab_options.specs.declared.options.BuildOptions.{BuildOptions}
use Rattle.lab_sources.specs.PlanFiles.{ArePlansOf}
use Rattle.lab_sources.specs.Sources.{IsSourceOf}

-- what an image file keeps of a linked source
abbrev pub contents_linked : SourceValue → Linked → Contents
contents_linked source linked = record {
  code = linked.image.code.items;
  user_data = linked.image.user_data.items;
  input = is_some source.input;
  links = linked.links.items;
}

-- the answer writes the image file of the source, linked by what the lines say, and what is told of them is added
pub record IsBuilt (source : SourceValue) (lines : List LineSaid) (name before after : List ℕ) (answer : Answer) : Type 0 where
  pub told : LinkedTold
  pub linked : IsLinkedTold source lines told
  pub writes : answer ≡ writes name (file_bytes (contents_linked source told.linked))
  pub noted : after ≡ before ++ told.rejections.items

-- the named source and plan file were read, and the answer writes the image file of the name
pub record IsBuildOf (told : Told) (options : BuildOptions) (before after : Counts) (noted_before noted : List ℕ) (answer : Answer) : Type 0 where
  pub text : List ℕ
  pub source : SourceValue
  pub lines : List LineSaid
  pub between : Counts
  pub read : IsSourceOf told options.source.now before between text source
  pub planned : ArePlansOf told options.plans.now source between after lines
  pub built : IsBuilt source lines options.image.now noted_before noted answer
