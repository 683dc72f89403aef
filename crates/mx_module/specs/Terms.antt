-- The words of lower crates with which the contracts of this one speak.
pub use Rattle.mx_asm.specs.Faults.{first_fault}
pub use Rattle.mx_asm.specs.Listings.{IsListingOf, IsRefusal}
pub use Rattle.mx_lines.specs.LabelTable.{IsNear}
pub use Rattle.mx_lines.specs.Operands.{label_named}
pub use Rattle.mx_source.specs.Names.{named_labels}
