-- Where a reading of bytes stands.
use Rattle.std.specs.Prelude.{ℕ, List}

-- how many bytes were read, and the bytes to come
pub record Reading : Type 0 where
  pub place : ℕ
  pub rest : List ℕ
