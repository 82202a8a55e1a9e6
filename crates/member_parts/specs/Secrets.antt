-- The secrets that a member holds.
use Rattle.std.specs.Prelude.{ℕ, ◌==◌, IsSome, IfSome, Option, None, if◌then◌else◌}
use Rattle.honest_say.specs.declared.secrets.ShuffleSecrets.{ShuffleSecrets}
use Rattle.honest_say.specs.Own.{AreBulkSecrets, AreShuffleSecrets}
use Rattle.round_spec.specs.Say.{Configuration}
use Rattle.member_parts.specs.declared.secrets.Secrets.{Secrets}

-- all of them are held
pub record AreAll (secrets : Secrets) : Type 0 where
  pub first : IsSome secrets.first
  pub bulk : IsSome secrets.bulk
  pub second : IsSome secrets.second

-- those that are held are those of the fresh bytes that a member entered with
pub record AreSecretsOf (c : Configuration) (secrets : Secrets) : Type 0 where
  pub first : IfSome secrets.first (AreShuffleSecrets c 1)
  pub bulk : IfSome secrets.bulk (AreBulkSecrets c)
  pub second : IfSome secrets.second (AreShuffleSecrets c 2)

-- those of a shuffle
abbrev pub shuffle_secrets : Secrets → ℕ → Option ShuffleSecrets
shuffle_secrets secrets shuffle = if shuffle == 1 then secrets.first else secrets.second

-- all but those of a shuffle
abbrev pub without_shuffle : Secrets → ℕ → Secrets
without_shuffle secrets shuffle = if shuffle == 1 then record secrets { first = None } else record secrets { second = None }

-- all but those of the messages
abbrev pub without_bulk : Secrets → Secrets
without_bulk secrets = record secrets { bulk = None }

-- none
abbrev pub no_secrets : Secrets
no_secrets = record { first = None; bulk = None; second = None }
