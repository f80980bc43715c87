-- Devices and links for tests, which pass on little at a time and fail on demand.
use Rattle.std.specs.Prelude.{ℕ, Bool, List}

-- a device over this one that passes on at most step bytes a call, and so many more calls
pub record Stuttering (D : Type 0) : Type 0 where
  pub inner : D
  pub step : ℕ
  pub left : ℕ
  pub failed : Bool

-- a link over memory: the bytes that are still to come and those that were sent, at most step of them a call, and so many more calls
pub record Linked : Type 0 where
  pub incoming : List ℕ
  pub outgoing : List ℕ
  pub step : ℕ
  pub left : ℕ
  pub failed : Bool
