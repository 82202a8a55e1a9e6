-- One-time keys and their signatures, as a signer makes them (RFC 8554, sections 4.3 and 4.5, and appendix A).
-- Nothing here reads a signature; specs/OneTime.antt has what a verifier computes.
use Rattle.std.specs.Prelude.{◌≡◌, ℕ, zero, suc, ◌-◌, ◌^◌, List, [], ◌∷◌, ◌++◌, Ok}
use Rattle.sha2.specs.Sha256.{sha256}
use Rattle.lm_ots.specs.declared.types.OtsType.{OtsType}
use Rattle.lm_ots.specs.declared.one_time_keys.OtsKey.{OtsKey}
use Rattle.lm_ots.specs.OneTime.{candidate, chain, chain_count, coef, digit_bits, key_string, message_hash, signed_string, type_number, u16str, u32str}

-- what a key is made of: its type, the tree's identifier I, the leaf q, and the tree's SEED
pub record KeyParts : Type 0 where
  pub width : OtsType
  pub identifier : List ℕ
  pub q : ℕ
  pub seed : List ℕ

abbrev pub parts_of : OtsKey → KeyParts
parts_of key = record { width = key.width; identifier = key.identifier; q = key.q; seed = key.seed }

-- the string from which a secret of leaf q is hashed: I || u32str(q) || u16str(i) || u8str(0xff) || SEED
abbrev pub seed_string : List ℕ → ℕ → ℕ → List ℕ → List ℕ
seed_string identifier q i seed = identifier ++ u32str q ++ u16str i ++ (0xff ∷ seed)

-- the start of chain i (appendix A)
abbrev pub chain_start : KeyParts → ℕ → List ℕ
chain_start key i = sha256 (seed_string key.identifier key.q i key.seed)

-- the place of the randomizer among the secrets of a leaf, above all chains
abbrev pub randomizer_place : ℕ
randomizer_place = 0xfffd

-- the key's own C
abbrev pub own_randomizer : KeyParts → List ℕ
own_randomizer key = sha256 (seed_string key.identifier key.q randomizer_place key.seed)

-- the first n chains, each from its start to the place that `to` names, one after the other
unfoldable pub chains_to : KeyParts → (ℕ → ℕ) → ℕ → List ℕ
chains_to key to zero = []
chains_to key to (suc n) = chains_to key to n ++ chain key.identifier key.q n 0 (to n) (chain_start key n)

-- the ends of the first n chains
unfoldable pub own_ends : KeyParts → ℕ → List ℕ
own_ends key n = chains_to key (λ i. 2 ^ digit_bits key.width - 1) n

-- the first n chains, each as far as its digit of the string that is signed
unfoldable pub own_values : KeyParts → List ℕ → ℕ → List ℕ
own_values key signed n = chains_to key (λ i. coef signed i (digit_bits key.width)) n

-- K: the hash over the ends of all chains (4.3)
abbrev pub ots_public : KeyParts → List ℕ
ots_public key =
    sha256 (key_string key.identifier key.q (own_ends key (chain_count key.width)))

-- Q || Cksm(Q) of a message under the key's own C
abbrev pub own_signed_string : KeyParts → List ℕ → List ℕ
own_signed_string key message =
    signed_string key.width (message_hash key.identifier key.q (own_randomizer key) message)

-- the signature of a message: the type's word, C, and each chain as far as its digit (4.5)
abbrev pub ots_signature : KeyParts → List ℕ → List ℕ
ots_signature key message =
    u32str (type_number key.width) ++ own_randomizer key
    ++ own_values key (own_signed_string key message) (chain_count key.width)

-- the candidate of a key's own signature is the key's K
abbrev pub LeadsToKey : Type 0
LeadsToKey = (key : KeyParts) (message : List ℕ)
    → candidate key.width key.identifier key.q message (ots_signature key message) ≡ Ok (ots_public key)
