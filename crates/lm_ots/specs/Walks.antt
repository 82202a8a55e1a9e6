-- Chains on their way to their ends.
use Rattle.std.specs.Prelude.{◌≡◌, ℕ, zero, suc, ◌+◌, ◌-◌, ◌%◌, ◌^◌, ◌<◌, List, [], ◌∷◌, ◌++◌, take, slice_index, slice_index_or}
use Rattle.sha2.specs.Sha256.{sha256}
use Rattle.lm_ots.specs.declared.types.OtsType.{OtsType}
use Rattle.lm_ots.specs.declared.walks.Walk.{Walk}
use Rattle.lm_ots.specs.OneTime.{chain, coef, digit_bits, signature_value, step_string}
use Rattle.lm_ots.specs.Signing.{KeyParts, chain_start}

-- the string of a step with the next place, as a byte, and a digest in it
abbrev pub with_digest : (string digest : List ℕ) → List ℕ
with_digest string digest = take 22 string ++ (((slice_index string 22 + 1) % 256) ∷ digest)

-- the string of the step behind that of a string
abbrev pub next_string : List ℕ → List ℕ
next_string string = with_digest string (sha256 string)

-- the walk along chain i
abbrev pub walk_at : List Walk → ℕ → Walk
walk_at walks i = slice_index_or walks i (record { place = 0; end = 0; value = [] })

-- the steps that a walk has left
abbrev pub steps_left : Walk → ℕ
steps_left walk = walk.end - walk.place

-- the string of the next step of chain i
abbrev pub next_step_of : List ℕ → ℕ → List Walk → ℕ → List ℕ
next_step_of identifier q walks i = step_string identifier q i (walk_at walks i).place (walk_at walks i).value

-- the value at the end of a walk along chain i
abbrev pub end_of : List ℕ → ℕ → ℕ → Walk → List ℕ
end_of identifier q i walk = chain identifier q i walk.place walk.end walk.value

-- each chain ends as it did
abbrev pub SameEnds : List ℕ → ℕ → (before after : List Walk) → Type 0
SameEnds identifier q before after = (i : ℕ) → i < 268
    → end_of identifier q i (walk_at after i) ≡ end_of identifier q i (walk_at before i)

-- the value i of a signature at its digit in `signed`, on its way to the end of its chain
abbrev pub signature_walk : OtsType → (signed sig : List ℕ) → ℕ → Walk
signature_walk width signed sig i = record {
  place = coef signed i (digit_bits width);
  end = 2 ^ digit_bits width - 1;
  value = signature_value sig i;
}

-- chain i of a key at its start
abbrev pub own_walk : KeyParts → (end i : ℕ) → Walk
own_walk key end i = record { place = 0; end = end; value = chain_start key i }

-- the values of the first n chains, one after the other
unfoldable pub values : List Walk → ℕ → List ℕ
values walks zero = []
values walks (suc n) = values walks n ++ (walk_at walks n).value
