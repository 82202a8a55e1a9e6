-- Secrets of a tree, their public keys and their signatures, as a signer makes them (RFC 8554, sections 5.2 to 5.4, and
-- appendix A). Nothing here reads a signature; specs/Tree.antt says which are valid.
use Rattle.std.specs.Prelude.{◌==◌, ℕ, zero, suc, ◌+◌, ◌-◌, ◌*◌, ◌/◌, ◌%◌, ◌^◌, ◌<◌, List, [], ◌∷◌, ◌++◌, take, if◌then◌else◌}
use Rattle.sha2.specs.Sha256.{sha256}
use Rattle.wire_core.specs.declared.tag.Tag.TheVariants.{LmsIdentifier, LmsSeed}
use Rattle.wire_core.specs.Hash.{hash_of}
use Rattle.lm_ots.specs.declared.types.OtsType.{OtsType}
use Rattle.lm_ots.specs.OneTime.{u32str}
use Rattle.lm_ots.specs.Signing.{KeyParts, ots_public, ots_signature}
use Rattle.lms_tree.specs.declared.keys.LmsType.{LmsType}
use Rattle.lms_tree.specs.declared.keys.LmsPublic.{LmsPublic}
use Rattle.lms_tree.specs.Tree.{LmsValid, height, leaf_string, node_string, tree_number}

-- what a secret is made of: the types, the identifier I and the SEED
pub record SecretParts : Type 0 where
  pub lms_type : LmsType
  pub ots_type : OtsType
  pub identifier : List ℕ
  pub seed : List ℕ

-- the parts that come of a master: I is 16 bytes of one hash, and SEED another hash
abbrev pub parts_of_master : LmsType → OtsType → List ℕ → SecretParts
parts_of_master lms_type ots_type master = record {
  lms_type = lms_type;
  ots_type = ots_type;
  identifier = take 16 (hash_of LmsIdentifier (master ∷ []));
  seed = hash_of LmsSeed (master ∷ []);
}

-- the number of leaves
abbrev pub leaves : SecretParts → ℕ
leaves s = 2 ^ height s.lms_type

-- the one-time key of leaf q
abbrev pub leaf_key : SecretParts → ℕ → KeyParts
leaf_key s q = record { width = s.ots_type; identifier = s.identifier; q = q; seed = s.seed }

-- node r of the secret's own tree, which has so many levels below it (5.3)
unfoldable pub own_node : SecretParts → (levels r : ℕ) → List ℕ
own_node s zero r = sha256 (leaf_string s.identifier r (ots_public (leaf_key s (r - leaves s))))
own_node s (suc levels) r =
    sha256 (node_string s.identifier r (own_node s levels (2 * r)) (own_node s levels (2 * r + 1)))

-- the public key (5.3)
abbrev pub own_public : SecretParts → LmsPublic
own_public s = record {
  lms_type = s.lms_type;
  ots_type = s.ots_type;
  identifier = s.identifier;
  root = own_node s (height s.lms_type) 1;
}

-- the other child of a node's parent
abbrev pub sibling : ℕ → ℕ
sibling r = if r % 2 == 0 then r + 1 else r - 1

-- the nodes beside the way from leaf q to the root, on the lowest `levels` levels, from the leaf up (5.4.1)
unfoldable pub own_path : SecretParts → ℕ → (levels : ℕ) → List ℕ
own_path s q zero = []
own_path s q (suc levels) = own_path s q levels ++ own_node s levels (sibling ((leaves s + q) / 2 ^ levels))

-- the signature of a message with leaf q (5.4.1)
abbrev pub lms_signature : SecretParts → ℕ → List ℕ → List ℕ
lms_signature s q message =
    u32str q ++ ots_signature (leaf_key s q) message ++ u32str (tree_number s.lms_type)
    ++ own_path s q (height s.lms_type)

-- a secret's own signatures are valid under its public key
abbrev pub OwnSignaturesAreValid : Type 0
OwnSignaturesAreValid = (s : SecretParts) (q : ℕ) (message : List ℕ) → q < leaves s
    → LmsValid (own_public s) message (lms_signature s q message)
