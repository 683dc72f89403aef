-- The words of lower crates with which the contracts of this one speak.
pub use Rattle.mx_isa.specs.Board.{board}
pub use Rattle.mx_isa.specs.declared.Place.{Place}
pub use Rattle.mx_layout.specs.Layout.{IsLayout}
pub use Rattle.mx_layout.specs.Overlong.{Overlong, IsOverlong}
pub use Rattle.mx_link.specs.Linked.{IsLinked}
pub use Rattle.mx_link.specs.Origins.{Filling}
pub use Rattle.mx_link.specs.declared.linked.Linked.{Linked}
pub use Rattle.mx_reorg.specs.Greedy.{IsGreedy}
pub use Rattle.mx_source.specs.SourceValue.{SourceValue, IsSource}
pub use Rattle.mx_squash.specs.Copies.{Site}
