-- The types whose names are here those of modules of definitions.
pub use Rattle.rh_pace.specs.declared.pace.Pace.{Pace}
pub use Rattle.rh_pace.specs.declared.sizes.Sizes.{Sizes}
pub use Rattle.rh_growing.specs.declared.growth.Growth.{Growth}
