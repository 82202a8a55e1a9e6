-- What a read of a file leads to.
use Rattle.std.proofs.Common.{◌≡◌, ◌⊎◌, inl, inr, refl, sym, ℕ, ◌+◌, ◌<◌, List, [], length, replicate, Option, Some, None, Err, IfSome, IsSomeAnd, arith}
use Rattle.std.proofs.lemmas.List.{length-replicate}
use Rattle.offline_commands.specs.declared.status.Status.TheVariants.{ReadFault, TooLong, OutOfMemory}
use Rattle.offline_commands.specs.Outside.{Held, Shows, IsMissing}
use Rattle.offline_commands.specs.Outcome.{Yields, within}

-- some file that may have stood at a name
pub some_file : (told : Option Held) (name : List ℕ) → (file : Option (List ℕ)) × Shows told name file
some_file None name = (Some [], refl)
some_file (Some held) name = (held name, refl)

within-long : (limit : ℕ) (bytes : List ℕ) → limit < length bytes → within limit (Some bytes) ≡ Err (TooLong limit)
within-long limit bytes long = grind arith

long-file : (limit : ℕ) (held : Option (List ℕ)) → IsSomeAnd held (λ bytes. limit < length bytes) → within limit held ≡ Err (TooLong limit)
long-file limit (Some bytes) long = within-long limit bytes long
long-file limit None long = absurd long

pub too_long : (told : Option Held) (name : List ℕ) (limit : ℕ) (fault : Type 0)
    → IfSome told (λ held. IsSomeAnd (held name) (λ bytes. limit < length bytes))
    → (file : Option (List ℕ)) × Shows told name file × Yields fault (within limit file) (Err (TooLong limit))
too_long None name limit fault h =
    let long : limit < length (replicate (limit + 1) 0) = simp length-replicate (omega arith) in
    (Some (replicate (limit + 1) 0), refl, inl (sym (within-long limit _ long)))
too_long (Some held) name limit fault h = (held name, refl, inl (sym (long-file limit (held name) h)))

pub no_memory : (told : Option Held) (name : List ℕ) (limit : ℕ) (fault : Type 0)
    → (file : Option (List ℕ)) × Shows told name file × Yields fault (within limit file) (Err OutOfMemory)
no_memory told name limit fault = let file = some_file told name in (file.0, file.1, inr (inl refl))

pub failed : (told : Option Held) (name : List ℕ) (limit : ℕ) (fault : Type 0) → fault ⊎ IsMissing told name
    → (file : Option (List ℕ)) × Shows told name file × Yields fault (within limit file) (Err ReadFault)
failed told name limit fault (inl rose) = let file = some_file told name in (file.0, file.1, inr (inr (refl, rose)))
failed (Some held) name limit fault (inr missing) = (None, missing, inl refl)
failed None name limit fault (inr missing) = absurd missing
