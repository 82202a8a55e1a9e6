-- What the stages of a round depend on.
use Rattle.std.specs.Prelude.{◌≡◌, ℕ, ◌≤◌}

-- the version of a round's rules, and how many members the group has
pub record Shape : Type 0 where
  pub version : ℕ
  pub members : ℕ

-- a shape that a round can have: version 1 with 2 to 8 members
pub record IsShape (version members : ℕ) : Type 0 where
  pub first : version ≡ 1
  pub least : 2 ≤ members
  pub most : members ≤ 8
