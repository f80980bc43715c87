-- Devices over another one.
use Rattle.std.specs.Prelude.{Bool}

-- a device over this one, and whether it has failed
pub record Driven (D : Type 0) : Type 0 where
  pub inner : D
  pub failed : Bool
